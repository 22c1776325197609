-- What the typing check works with, and what it reads.
use Rattle.std.specs.Prelude.{ℕ, ◌≡◌, Bool, not, List}
use Rattle.sets.specs.Lists.{NumbersAre}
use Rattle.sets.specs.Rows.{row_in, row_is_empty, RowsAre}
use Rattle.report.specs.Tables.{Tables, query_count}
use Rattle.report.specs.Readings.{spared}
use Rattle.report.specs.declared.Reading.{Reading}
use Rattle.expression_rows.specs.ExpressionRows.{ReachFilled}
use Rattle.expression_rows.specs.TypingReads.{ReportReads}
use Rattle.attribute_rows.specs.AttributeRows.{GatheredReads}
use Rattle.fault_rows.specs.FaultRows.{fails_row, failing_row}

-- row q is not empty
abbrev pub rowed : List ℕ → ℕ → Bool
rowed rows q = not (row_is_empty 16 (row_in 16 rows q))

-- ---- what each function reads of tables T; `..Readable`: there are such tables

-- a row for each form, of the configurations at which it fails in a reading, and what the answer at one of them is worked out from
pub record RowsReads (T : Tables) (R : Reading)
    (expression_rows relation_entries project_entries relations comparisons queries kinds reach spared_sets fault_rows : List ℕ) : Type 0 where
  pub report : ReportReads T expression_rows relation_entries project_entries relations comparisons queries kinds reach
  pub sparing : NumbersAre (query_count T) (spared T R) spared_sets
  pub failing : RowsAre 16 (query_count T) (failing_row T R) fault_rows

pub record RowsReadable (expression_rows relation_entries project_entries relations comparisons queries kinds reach spared_sets fault_rows : List ℕ)
    : Type 0 where
  pub tables : Tables
  pub reading : Reading
  pub reads : RowsReads tables reading expression_rows relation_entries project_entries relations comparisons queries kinds reach spared_sets fault_rows

-- what the rows of clashes are worked out from, and the rows of the first phase
pub record SecondReads (T : Tables) (R : Reading) (full expression_rows comparisons queries kinds reach fault_rows : List ℕ) : Type 0 where
  pub gathers : GatheredReads T expression_rows comparisons kinds full
  pub queries_are : queries ≡ T.queries
  pub reaching : ReachFilled T reach
  pub failing : RowsAre 16 (query_count T) (fails_row T R 0) fault_rows

pub record SecondReadable (full expression_rows comparisons queries kinds reach fault_rows : List ℕ) : Type 0 where
  pub tables : Tables
  pub reading : Reading
  pub reads : SecondReads tables reading full expression_rows comparisons queries kinds reach fault_rows
