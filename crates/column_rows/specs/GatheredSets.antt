-- The report's sets at the permitted configurations, gathered in words, and what the functions that make column rows of them read; `Some..`: there are such
-- tables; `..Fillable`: and rows are lent.
use Rattle.std.specs.Prelude.{ℕ, ◌+◌, ◌*◌, ◌<◌, ◌≤◌, ◌≡◌, true, List, [], ◌∷◌, length, get_or, replicate}
use Rattle.sets.specs.Search.{count_below}
use Rattle.sets.specs.Lists.{kept}
use Rattle.sets.specs.Bits.{bit}
use Rattle.sets.specs.Rows.{row_in}
use Rattle.report.specs.Tables.{Tables, report}
use Rattle.report.specs.Expressions.{permitted}
use Rattle.report.specs.Typing.{set_of}
use Rattle.column_rows.specs.declared.SetAt.{SetAt}

-- permitted configuration k: they are numbered from 0, ascending
unfoldable pub permitted_at : Tables → ℕ → ℕ
permitted_at T k = get_or (kept (permitted T) (λ c. c ∷ []) 1024) k 0

-- the report's set there
abbrev pub report_set : Tables → ℕ → ℕ
report_set T k = set_of T (permitted_at T k) (report T)

-- how many there are
unfoldable pub permitted_in_all : Tables → ℕ
permitted_in_all T = count_below (permitted T) 1024

-- `here` is permitted configuration k, and the report's set there
pub record IsSetAt (T : Tables) (k : ℕ) (here : SetAt) : Type 0 where
  pub permits : here.configuration ≡ permitted_at T k
  pub shown : here.set.bits ≡ report_set T k

-- `gathered` has all permitted configurations, and the report's set at each
pub record SetsGathered (T : Tables) (gathered : List SetAt) : Type 0 where
  pub all : length gathered ≡ permitted_in_all T
  pub each : (k : ℕ) (d : SetAt) → k < length gathered → IsSetAt T k (get_or gathered k d)

-- there are such tables
pub record SomeGathered (gathered : List SetAt) : Type 0 where
  pub tables : Tables
  pub gathers : SetsGathered tables gathered

-- `shown` has every attribute that one of the sets has
pub record ShownAnywhere (gathered : List SetAt) (shown : ℕ) : Type 0 where
  pub has : (k a : ℕ) (d : SetAt) → k < length gathered → bit (get_or gathered k d).set.bits a ≡ true → bit shown a ≡ true

-- and row a is there, and is empty
pub record ColumnFillable (a shown : ℕ) (gathered : List SetAt) (columns : List ℕ) : Type 0 where
  pub some : SomeGathered gathered
  pub shows : ShownAnywhere gathered shown
  pub most : a < 64
  pub room : a * 16 + 16 ≤ length columns
  pub clear : row_in 16 columns a ≡ replicate 16 0

-- and the rows of the attributes below `items` are
pub record ColumnsFillable (items : ℕ) (gathered : List SetAt) (columns : List ℕ) : Type 0 where
  pub some : SomeGathered gathered
  pub most : items ≤ 64
  pub room : items * 16 ≤ length columns
  pub clear : (a : ℕ) → a < items → row_in 16 columns a ≡ replicate 16 0
