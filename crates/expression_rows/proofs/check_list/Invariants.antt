use Rattle.expression_rows.proofs.CheckLaws.{Listed}
use Rattle.expression_rows.proofs.check_list.Given as goal

abbrev pub invariant-loop-i : goal.invariant-loop-i
invariant-loop-i l = Listed l.tables.expression_rows.now l.present.words l.tables.relation_entries.now l.start l.count l.i
