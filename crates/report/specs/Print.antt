-- docs/FORMAT.md, "Print": what the program prints.
use Rattle.std.specs.Prelude.{ℕ, ◌+◌, List, [], ◌∷◌, ◌++◌, Ok, Err}
use Rattle.sets.specs.Lists.{kept}
use Rattle.sets.specs.Bits.{bit}
use Rattle.report.specs.Tables.{Tables, report}
use Rattle.report.specs.Expressions.{configurations, permitted}
use Rattle.report.specs.Typing.{set_of}
use Rattle.report.specs.Calls.{answer, checking}
use Rattle.report.specs.Text.{bytes, spaced, bracket, line}
use Rattle.report.specs.HarbourFile.{File, file_of}
use Rattle.report.specs.Verdicts.{Verdict}
use Rattle.report.specs.declared.Reading.{Reading}

-- the members of a set of attributes, ascending
abbrev pub members : ℕ → List ℕ
members s = kept (bit s) (λ a. a ∷ []) 64

-- (at c (has a b ..))
abbrev pub at_line : ℕ → ℕ → List ℕ
at_line c s = 40 ∷ bytes "at" ++ spaced (c ∷ []) ++ (32 ∷ bracket (bytes "has") (members s)) ++ (41 ∷ 10 ∷ [])

-- the print of an answer: a refusal, or the columns of each permitted configuration, ascending
abbrev pub print_answer : Tables → Verdict → List ℕ
print_answer T (Ok tt) =
    line (bytes "accepted") [] ++ kept (permitted T) (λ c. at_line c (set_of T c (report T))) (configurations T)
print_answer T (Err r) = line (bytes "refused") (r.number ∷ r.place ∷ r.item ∷ r.configuration ∷ [])

abbrev pub print_file : File → List ℕ
print_file (File.unread n) = line (bytes "unread") (n ∷ [])
print_file (File.holds T) = print_answer T (answer T Reading.Strict (checking 1024))

-- what the program prints for a text
unfoldable pub print : List ℕ → List ℕ
print text = print_file (file_of text)
