-- docs/FORMAT.md, "Print" and "The wall page": what the programs print. `columns` prints in the first layout, `page` in the second.
use Rattle.std.specs.Prelude.{ℕ, ◌≡◌, List, [], ◌∷◌, ◌++◌, Ok, Err}
use Rattle.sets.specs.Lists.{kept}
use Rattle.report.specs.Tables.{Tables, report}
use Rattle.report.specs.Expressions.{configurations, permitted}
use Rattle.report.specs.Typing.{set_of}
use Rattle.report.specs.Calls.{answer, checking}
use Rattle.report.specs.HarbourFile.{File, file_of}
use Rattle.report.specs.Text.{bytes, line}
use Rattle.report.specs.Print.{at_line, print_answer, print_file}
use Rattle.report.specs.Verdicts.{Verdict}
use Rattle.report.specs.declared.Reading.{Reading}
use Rattle.printing.specs.Page.{page_line, page}
use Rattle.harbour_print.specs.declared.Layout.{Layout}

-- the print of an accepted report: the line that says so and the columns as lists, or the page alone
abbrev pub accepted_as : Layout → Tables → List ℕ
accepted_as Layout.Columns T = print_answer T (Ok tt)
accepted_as Layout.Page T = page T

-- a refused report, and a file that cannot be read, have one print in both layouts
abbrev pub answer_as : Layout → Tables → Verdict → List ℕ
answer_as layout T (Ok tt) = accepted_as layout T
answer_as layout T (Err r) = print_answer T (Err r)

abbrev pub file_as : Layout → File → List ℕ
file_as layout (File.unread n) = print_file (File.unread n)
file_as layout (File.holds T) = answer_as layout T (answer T Reading.Strict (checking 1024))

-- what is printed for a text (proofs/LayoutLaws: in the first layout, its print)
unfoldable pub text_as : Layout → List ℕ → List ℕ
text_as layout text = file_as layout (file_of text)

-- ---- line by line

-- a permitted configuration, and the report's set there
pub record ShownAt : Type 0 where
  pub configuration : ℕ
  pub set : ℕ

-- all of them, ascending
abbrev pub shown_sets : Tables → List ShownAt
shown_sets T = kept (permitted T) (λ c. record { configuration = c; set = set_of T c (report T) } ∷ []) (configurations T)

-- a text for each, one after another
abbrev pub texts_of : (ℕ → ℕ → List ℕ) → List ShownAt → List ℕ
texts_of text [] = []
texts_of text (x ∷ xs) = text x.configuration x.set ++ texts_of text xs

-- What both layouts print of an answer: refused, its line; accepted, lines of the same configurations with the same attributes, in the same order
abbrev pub AnswersAgree : Tables → Verdict → List ℕ → List ℕ → Type 0
AnswersAgree T (Ok tt) columns page =
    (columns ≡ line (bytes "accepted") [] ++ texts_of at_line (shown_sets T)) × (page ≡ texts_of page_line (shown_sets T))
AnswersAgree T (Err r) columns page =
    (columns ≡ line (bytes "refused") (r.number ∷ r.place ∷ r.item ∷ r.configuration ∷ [])) × (page ≡ columns)

-- and of a file: unread, its line
abbrev pub Agree : File → List ℕ → List ℕ → Type 0
Agree (File.unread n) columns page = (columns ≡ line (bytes "unread") (n ∷ [])) × (page ≡ columns)
Agree (File.holds T) columns page = AnswersAgree T (answer T Reading.Strict (checking 1024)) columns page
