use Rattle.column_rows.proofs.ColumnLaws.{Joining}
use Rattle.column_rows.proofs.shown_anywhere.Given as goal

abbrev pub invariant-loop-set_at : goal.invariant-loop-set_at
invariant-loop-set_at l = Joining l.gathered l.shown.bits l.set_at-index
