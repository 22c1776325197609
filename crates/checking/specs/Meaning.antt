-- The part of the call that follows the form checks and 11.
use Rattle.std.specs.Prelude.{ℕ, ◌≡◌, List, length}
use Rattle.report.specs.Tables.{Tables}
use Rattle.report.specs.ColumnRows.{column_rows}
use Rattle.report.specs.Verdicts.{Verdict, after}
use Rattle.report.specs.Formed.{Formed}
use Rattle.report.specs.declared.Reading.{Reading}
use Rattle.judging.specs.Judging.{meaning_check}

-- tables that have passed the form checks, and 1,024 words
pub record MeaningReads (T : Tables) (rows : List ℕ) : Type 0 where
  pub formed : Formed T
  pub full : length rows ≡ 1024

-- the answer of 12 to 19 and 25, and the rows lent: the column rows where it accepts
pub record Meant (T : Tables) (R : Reading) (answer : Verdict) (lent rows : List ℕ) : Type 0 where
  pub answers : answer ≡ meaning_check T R
  pub shows : rows ≡ after answer (column_rows T) lent
