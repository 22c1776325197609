use Rattle.expression_rows.proofs.CheckLaws.{RelationsChecked}
use Rattle.expression_rows.proofs.check_schema.Given as goal

abbrev pub invariant-loop-r : goal.invariant-loop-r
invariant-loop-r l = RelationsChecked l.tables.expression_rows.now l.permitted.words l.tables.relation_entries.now l.tables.relations.now l.start l.r
