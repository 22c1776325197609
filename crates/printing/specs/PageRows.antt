-- The page as it is read from rows, and what the functions read that write it.
use Rattle.std.specs.Prelude.{ℕ, ◌<◌, ◌≤◌, ◌≡◌, List, length}
use Rattle.sets.specs.Lists.{kept}
use Rattle.sets.specs.Search.{count_below}
use Rattle.sets.specs.Rows.{row_bit}
use Rattle.sets.specs.Writing.{Room}
use Rattle.report.specs.Text.{decimal}
use Rattle.report.specs.ColumnRows.{shown}
use Rattle.printing.specs.Page.{aligned, page_line}

-- the line of each configuration below `count` that a row has, with what the rows show there (proofs/PageLaws: rows_page)
unfoldable pub page_text : List ℕ → ℕ → List ℕ → List ℕ
page_text permits count rows = kept (row_bit permits) (λ c. page_line c (shown rows c)) count

-- how many lines these are: those of the configurations below `count` that a row has
unfoldable pub permitted_count : List ℕ → ℕ → ℕ
permitted_count permits count = count_below (row_bit permits) count

-- the number has no more digits than characters, and there is room for these
pub record AlignedRead (n width : ℕ) (out : List ℕ) (at : ℕ) : Type 0 where
  pub digits : length (decimal n) ≤ width
  pub room : Room (aligned width n) out at

-- a configuration has at most 4 digits, and there is room for its line
pub record LineRead (c s : ℕ) (out : List ℕ) (at : ℕ) : Type 0 where
  pub small : c < 1024
  pub room : Room (page_line c s) out at

-- the rows are 1,024 words, there are at most 1,024 configurations, and there is room for the page
pub record PageRead (permits : List ℕ) (count : ℕ) (rows out : List ℕ) (at : ℕ) : Type 0 where
  pub long : length rows ≡ 1024
  pub few : count ≤ 1024
  pub room : Room (page_text permits count rows) out at
