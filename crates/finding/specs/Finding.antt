-- docs/FORMAT.md, "Finding a configuration": the lowest permitted configuration at which a report has wanted columns. Wanted attributes are a set of 64 bits.
use Rattle.std.specs.Prelude.{ℕ, ◌≡◌, Bool, ◌&&◌, false, List, [], Option, Result, Ok, Err}
use Rattle.sets.specs.Search.{lowest}
use Rattle.sets.specs.Bits.{subset, has_from}
use Rattle.report.specs.Tables.{Tables, report}
use Rattle.report.specs.Expressions.{configurations, permitted}
use Rattle.report.specs.Typing.{set_of}
use Rattle.report.specs.Verdicts.{Verdict, refusal, Condition, ◌gives◌}
use Rattle.report.specs.Checks.{is_typing_fault}
use Rattle.report.specs.Calls.{Call, answer}
use Rattle.report.specs.declared.Reading.{Reading}
use Rattle.report.specs.declared.Refusal.{Refusal}

-- 22: the wanted set has a bit at or above m
abbrev pub wanted_condition : ℕ → Tables → List Condition
wanted_condition wanted T = has_from wanted T.attributes gives refusal 22 0 0 0

-- the call: 1 to 10, 24, 12 to 19, 25, 22
abbrev pub finding : ℕ → Call
finding wanted = record { before_model = λ T. []; after_typing = wanted_condition wanted }

-- c is permitted, and the report's set at c holds all wanted attributes
abbrev pub has_wanted : Tables → ℕ → ℕ → Bool
has_wanted T wanted c = permitted T c && subset wanted (set_of T c (report T))

-- the lowest such configuration, or none
unfoldable pub lowest_wanted : Tables → ℕ → Option ℕ
lowest_wanted T wanted = lowest (has_wanted T wanted) (configurations T)

-- what finding answers: a configuration, or none, or the refusal
abbrev pub FindAnswer : Type 0
FindAnswer = Result (Option ℕ) Refusal

-- the answer: the configuration, none, or the refusal
abbrev pub found_answer : Verdict → Option ℕ → FindAnswer
found_answer (Ok tt) found = Ok found
found_answer (Err r) found = Err r

-- the promise of `find`
abbrev pub Finds : Tables → Reading → ℕ → FindAnswer → Type 0
Finds T R wanted r = r ≡ found_answer (answer T R (finding wanted)) (lowest_wanted T wanted)

-- an answer of finding that is a typing fault
abbrev pub is_find_fault : FindAnswer → Bool
is_find_fault (Ok found) = false
is_find_fault (Err r) = is_typing_fault (Err r)
