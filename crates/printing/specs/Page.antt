-- docs/FORMAT.md, "The wall page": a line for each permitted configuration, with a mark for each attribute. A text is a list of bytes.
use Rattle.std.specs.Prelude.{ℕ, ◌-◌, Bool, true, false, List, [], ◌∷◌, ◌++◌, length}
use Rattle.sets.specs.Lists.{table, kept}
use Rattle.sets.specs.Bits.{bit, member_count}
use Rattle.report.specs.Tables.{Tables, report}
use Rattle.report.specs.Expressions.{configurations, permitted}
use Rattle.report.specs.Typing.{set_of}
use Rattle.report.specs.Text.{decimal}

-- a number right-aligned in so many characters: spaces, and then its digits
unfoldable pub aligned : ℕ → ℕ → List ℕ
aligned width n = table (width - length (decimal n)) (λ i. 32) ++ decimal n

-- the mark of an attribute that is present, `o`, and of one that is absent, `.`
abbrev pub mark : Bool → ℕ
mark true = 111
mark false = 46

-- the 64 marks of a set, from attribute 0 on
unfoldable pub marks : ℕ → List ℕ
marks s = table 64 (λ a. mark (bit s a))

-- the line of configuration c, which has the attributes of s: 72 characters and a line feed
unfoldable pub page_line : ℕ → ℕ → List ℕ
page_line c s = aligned 4 c ++ (32 ∷ marks s) ++ (32 ∷ aligned 2 (member_count s)) ++ (10 ∷ [])

-- the page: the line of each permitted configuration, ascending
unfoldable pub page : Tables → List ℕ
page T = kept (permitted T) (λ c. page_line c (set_of T c (report T))) (configurations T)
