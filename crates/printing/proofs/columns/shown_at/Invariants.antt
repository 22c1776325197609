-- Attribute by attribute: of those passed the set has the ones that the rows show.
use Rattle.printing.proofs.ColumnLaws.{Showing}
use Rattle.printing.proofs.columns.shown_at.Given as goal

abbrev pub invariant-loop-a : goal.invariant-loop-a
invariant-loop-a l = Showing l.rows l.c l.found.bits l.a
