-- The search in column rows.
use Rattle.std.specs.Prelude.{ℕ, Bool, ◌&&◌, List, Option}
use Rattle.sets.specs.Search.{lowest}
use Rattle.sets.specs.Bits.{subset}
use Rattle.sets.specs.Rows.{row_bit}
use Rattle.report.specs.ColumnRows.{shown}

-- a row has c, and column rows show all wanted attributes there
abbrev pub shows_wanted : List ℕ → List ℕ → ℕ → ℕ → Bool
shows_wanted row columns wanted c = row_bit row c && subset wanted (shown columns c)

-- the lowest such configuration
unfoldable pub lowest_shown : List ℕ → List ℕ → ℕ → Option ℕ
lowest_shown row columns wanted = lowest (shows_wanted row columns wanted) 1024
