-- docs/FORMAT.md, "Column rows".
use Rattle.std.specs.Prelude.{ℕ, Bool, ◌&&◌, List}
use Rattle.sets.specs.Lists.{concat}
use Rattle.sets.specs.Bits.{bit, bits_of}
use Rattle.sets.specs.Rows.{row_of, row_bit, row_in}
use Rattle.report.specs.Tables.{Tables, report}
use Rattle.report.specs.Expressions.{permitted}
use Rattle.report.specs.Typing.{set_of}

-- c is permitted, and the report's set at c has attribute a
abbrev pub has_column : Tables → ℕ → ℕ → Bool
has_column T a c = permitted T c && bit (set_of T c (report T)) a

-- the column row of attribute a, of sixteen words
abbrev pub column_row : Tables → ℕ → List ℕ
column_row T a = row_of 16 (has_column T a)

-- the column rows: 64 rows, one an attribute
unfoldable pub column_rows : Tables → List ℕ
column_rows T = concat 64 (column_row T)

-- what rows "show" at c: the attributes whose bit for c is 1
abbrev pub shown : List ℕ → ℕ → ℕ
shown rows c = bits_of 64 (λ a. row_bit (row_in 16 rows a) c)
