-- What is found on the lines of a page, byte by byte.
use Rattle.std.specs.Prelude.{ℕ, ◌+◌, ◌*◌, ◌<◌, ◌≡◌, true, false, List, ◌↔◌, eqb, length, get_or, take, drop}
use Rattle.sets.specs.Search.{count_below}
use Rattle.sets.specs.Bits.{bit}
use Rattle.sets.specs.Rows.{row_in}
use Rattle.report.specs.Tables.{Tables}
use Rattle.report.specs.Expressions.{permitted}
use Rattle.printing.specs.Page.{aligned}

-- the number of the line of c: how many permitted configurations are lower
abbrev pub line_of : Tables → ℕ → ℕ
line_of T c = count_below (permitted T) c

-- line k: the 73 bytes from place 73 × k on
abbrev pub line_at : List ℕ → ℕ → List ℕ
line_at = row_in 73

-- how many marks of a line are `o`
abbrev pub mark_count : List ℕ → ℕ
mark_count line = count_below (λ a. eqb (get_or line (5 + a) 0) 111) 64

-- a line says that configuration c has the attributes of a set: 72 characters and a line feed
pub record LineShows (c set : ℕ) (line : List ℕ) : Type 0 where
  -- the configuration right-aligned in 4, a space
  pub configuration : take 4 line ≡ aligned 4 c
  pub space : get_or line 4 0 ≡ 32
  -- 64 marks from attribute 0, `o` present, `.` absent
  pub present : (a : ℕ) → a < 64 → (get_or line (5 + a) 0 ≡ 111) ↔ (bit set a ≡ true)
  pub absent : (a : ℕ) → a < 64 → (get_or line (5 + a) 0 ≡ 46) ↔ (bit set a ≡ false)
  -- a space, the number of marks `o` right-aligned in 2, a line feed
  pub space2 : get_or line 69 0 ≡ 32
  pub number : take 2 (drop 70 line) ≡ aligned 2 (mark_count line)
  pub feed : get_or line 72 0 ≡ 10
  pub long : length line ≡ 73

-- the bytes lent after a call that wrote `lines` lines, where each configuration has a set
pub record PageShows (T : Tables) (set : ℕ → ℕ) (lent : List ℕ) (lines : ℕ) (bytes : List ℕ) : Type 0 where
  -- "one line stands for each permitted configuration": that of c shows its set
  pub line : (c : ℕ) → permitted T c ≡ true → (line_of T c < lines) × LineShows c (set c) (line_at bytes (line_of T c))
  -- and there is no other line
  pub all : (k : ℕ) → k < lines → (c : ℕ) × (permitted T c ≡ true) × (line_of T c ≡ k)
  -- "ascending"
  pub ascending : (c d : ℕ) → permitted T c ≡ true → c < d → line_of T c < line_of T d
  -- "bytes after them are unchanged"
  pub after : drop (lines * 73) bytes ≡ drop (lines * 73) lent
  pub long : length bytes ≡ length lent
