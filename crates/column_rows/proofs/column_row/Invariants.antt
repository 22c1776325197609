-- Configuration by configuration: the row has those numbered below the next at which the report's set has a.
use Rattle.column_rows.proofs.ColumnLaws.{RowMaking}
use Rattle.column_rows.proofs.column_row.Given as goal

abbrev pub invariant-loop-set_at : goal.invariant-loop-set_at
invariant-loop-set_at l = RowMaking l.a l.gathered l.words l.set_at-index
