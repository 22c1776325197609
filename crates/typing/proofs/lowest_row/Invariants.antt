use Rattle.typing.proofs.RowSearch.{RowsPassed}
use Rattle.typing.proofs.lowest_row.Given as goal

abbrev pub invariant-loop-q : goal.invariant-loop-q
invariant-loop-q l = RowsPassed l.rows l.q
