use Rattle.faults_at.proofs.ListLaws.{RelationSetsFilling}
use Rattle.faults_at.proofs.fill_relation_sets.Given as goal

abbrev pub invariant-loop-r : goal.invariant-loop-r
invariant-loop-r l = RelationSetsFilling l.tables.expression_rows.now l.tables.relation_entries.now l.tables.relations.now l.c l.initial.relation_sets l.relation_sets l.r l.start
