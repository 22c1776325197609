use Rattle.attribute_rows.proofs.ListedLaws.{RelationsFilling}
use Rattle.attribute_rows.proofs.fill_relation_rows.Given as goal

abbrev pub invariant-loop-r : goal.invariant-loop-r
invariant-loop-r l = RelationsFilling l.tables.expression_rows.now l.tables.relation_entries.now l.tables.relations.now l.a l.initial.relation_rows l.relation_rows l.r l.start
