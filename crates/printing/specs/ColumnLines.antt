-- What is printed of an accepted report, as it is read from rows, and what the functions read that write it.
use Rattle.std.specs.Prelude.{ℕ, ◌<◌, ◌≤◌, ◌≡◌, List, [], ◌++◌, cond, length}
use Rattle.sets.specs.Lists.{kept}
use Rattle.sets.specs.Rows.{row_bit}
use Rattle.sets.specs.Writing.{Room}
use Rattle.report.specs.Text.{bytes, line}
use Rattle.report.specs.ColumnRows.{shown}
use Rattle.writing.specs.Lines.{configuration_line}

-- the line of configuration c with what the rows show there, where c is permitted
unfoldable pub configuration_text : List ℕ → List ℕ → ℕ → List ℕ
configuration_text permits rows c = cond (row_bit permits c) (configuration_line c (shown rows c)) []

-- what is printed of an accepted report: the line of each permitted configuration below `count` (proofs/PrintLaws: accepted_print)
unfoldable pub accepted_text : List ℕ → ℕ → List ℕ → List ℕ
accepted_text permits count rows = line (bytes "accepted") [] ++ kept (row_bit permits) (λ c. configuration_line c (shown rows c)) count

-- the rows are 1,024 words, and c is below 1,024
pub record RowsRead (rows : List ℕ) (c : ℕ) : Type 0 where
  pub long : length rows ≡ 1024
  pub small : c < 1024

-- the same, and there is room for what is printed of c
pub record ConfigurationRead (permits rows : List ℕ) (c : ℕ) (out : List ℕ) (at : ℕ) : Type 0 where
  pub reads : RowsRead rows c
  pub room : Room (configuration_text permits rows c) out at

-- the rows are 1,024 words, there are at most 1,024 configurations, and there is room for the print
pub record AcceptedRead (permits : List ℕ) (count : ℕ) (rows out : List ℕ) (at : ℕ) : Type 0 where
  pub long : length rows ≡ 1024
  pub few : count ≤ 1024
  pub room : Room (accepted_text permits count rows) out at
