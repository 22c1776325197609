-- Attribute by attribute: the rows of those below a are stored.
use Rattle.report.specs.ColumnRows.{column_row}
use Rattle.expression_rows.proofs.RowsFilling.{RowsFilling}
use Rattle.column_rows.specs.GatheredSets.{SetsGathered}
use Rattle.column_rows.proofs.store_columns.Given as goal

abbrev pub invariant-loop-a : goal.invariant-loop-a
invariant-loop-a l = RowsFilling (λ T. SetsGathered T l.gathered) (λ T x k. column_row T k) 0 l.items l.initial.columns l.columns l.a
