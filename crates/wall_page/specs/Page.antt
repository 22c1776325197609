-- docs/FORMAT.md, "The wall page": the call that writes it. The page itself, and its lines, are in crate printing, specs/Page.
use Rattle.std.specs.Prelude.{ℕ, ◌*◌, ◌≡◌, Bool, false, List, [], length, ltb, Result, Ok, Err}
use Rattle.sets.specs.Search.{count_below}
use Rattle.report.specs.Tables.{Tables}
use Rattle.report.specs.Expressions.{configurations, permitted}
use Rattle.report.specs.Configuring.{written}
use Rattle.report.specs.Verdicts.{Verdict, refusal, after, Condition, ◌gives◌}
use Rattle.report.specs.Checks.{is_typing_fault}
use Rattle.report.specs.Calls.{Call, answer}
use Rattle.report.specs.declared.Reading.{Reading}
use Rattle.report.specs.declared.Refusal.{Refusal}
use Rattle.printing.specs.Page.{page}

-- the number of lines of the page
unfoldable pub line_count : Tables → ℕ
line_count T = count_below (permitted T) (configurations T)

-- 23: the page lent is shorter than 73 times the number of lines
abbrev pub page_condition : ℕ → Tables → List Condition
page_condition room T = ltb room (73 * line_count T) gives refusal 23 0 0 0

-- the call, with so many bytes lent: 1 to 10, 24, 12 to 19, 25, 23
abbrev pub writing_page : ℕ → Call
writing_page room = record { before_model = λ T. []; after_typing = page_condition room }

-- what writing a page answers: the number of its lines, or the refusal
abbrev pub PageAnswer : Type 0
PageAnswer = Result ℕ Refusal

-- the answer: the number of lines, or the refusal
abbrev pub page_answer : Verdict → ℕ → PageAnswer
page_answer (Ok tt) lines = Ok lines
page_answer (Err r) lines = Err r

module _ (T : Tables) (R : Reading) (lent : List ℕ) where
  -- what the call answers, with these bytes lent
  abbrev pub page_gives : PageAnswer
  page_gives = page_answer (answer T R (writing_page (length lent))) (line_count T)

  -- the bytes afterwards: the page and what stood after it, or unchanged
  abbrev pub page_after : List ℕ
  page_after = after (answer T R (writing_page (length lent))) (written (page T) lent) lent

-- the promise of `write_page`
pub record PageWritten (T : Tables) (R : Reading) (lent : List ℕ) (r : PageAnswer) (bytes : List ℕ) : Type 0 where
  pub answers : r ≡ page_gives T R lent
  pub stored : bytes ≡ page_after T R lent

-- an answer that is a typing fault
abbrev pub is_page_fault : PageAnswer → Bool
is_page_fault (Ok lines) = false
is_page_fault (Err r) = is_typing_fault (Err r)
