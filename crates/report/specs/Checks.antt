-- docs/FORMAT.md, "Refusals": checks 12 to 19 and 25, which every call runs, and the numbers of refusals.
use Rattle.std.specs.Prelude.{ℕ, zero, suc, Bool, true, false, ◌&&◌, ◌||◌, not, List, [], ◌∷◌, eqb, Ok, Err}
use Rattle.sets.specs.Search.{seek, lowest, some_below}
use Rattle.sets.specs.Bits.{lowest_member}
use Rattle.report.specs.Tables.{Tables, entry_attribute, relation_expression, relation_length, query}
use Rattle.report.specs.Tables.{relation_count, query_count, relation_start}
use Rattle.report.specs.Expressions.{configurations, permitted}
use Rattle.report.specs.Typing.{phases, at, entry_holds}
use Rattle.report.specs.Readings.{faults_by, fails_by}
use Rattle.report.specs.Verdicts.{Verdict, refusal, refuse_if, refuse_at, or_else, first_from}
use Rattle.report.specs.declared.Refusal.{Refusal}
use Rattle.report.specs.declared.Query.{Query}
use Rattle.report.specs.declared.Reading.{Reading}

-- the number of a query form's rule among the typing faults; an empty or a choice breaks none
abbrev pub rule_number : Query → ℕ
rule_number Query.Malformed = 0
rule_number Query.Empty = 0
rule_number (Query.Relation a) = 15
rule_number (Query.Select a b) = 16
rule_number (Query.Project a b) = 17
rule_number (Query.Choice a b d) = 0
rule_number (Query.Product a b) = 18
rule_number (Query.Union a b) = 19
rule_number (Query.Intersection a b) = 19

-- the number of what is found in a phase: 25 is that of kinds
abbrev pub fault_number : ℕ → Query → ℕ
fault_number zero y = rule_number y
fault_number (suc phase) y = 25

module _ (T : Tables) where
  -- the test holds at some permitted configuration
  abbrev pub somewhere : (ℕ → Bool) → Bool
  somewhere test = some_below (λ c. permitted T c && test c) (configurations T)

  -- 12: no configuration is permitted
  abbrev pub model_check : Verdict
  model_check = refuse_if (not (somewhere (λ c. true))) (refusal 12 0 0 0)

  -- 13: relation r is present at no permitted configuration
  abbrev pub absent_everywhere : ℕ → Bool
  absent_everywhere r = not (somewhere (λ c. at T c (relation_expression T.relations r)))

  -- 14: relation r and entry i, looked at by itself, hold together at no permitted configuration
  abbrev pub apart_everywhere : ℕ → ℕ → Bool
  apart_everywhere r i = not (somewhere (λ c. at T c (relation_expression T.relations r) && entry_holds T c i))

  -- 13, then 14 in the order of its list, of one relation
  abbrev pub relation_check : ℕ → Verdict
  relation_check r =
      or_else (refuse_if (absent_everywhere r) (refusal 13 r 0 0))
      (refuse_at (λ i. refusal 14 r (entry_attribute T.entries i) 0)
      (seek (apart_everywhere r) (relation_length T.relations r) (relation_start T.relations r)))

  -- 13 and 14, relation by relation
  abbrev pub schema_check : Verdict
  schema_check = first_from relation_check (relation_count T) 0

  -- 12 to 14
  abbrev pub model_and_schema_check : Verdict
  model_and_schema_check = or_else model_check schema_check

module _ (T : Tables) (R : Reading) where
  -- the refusal of form q in a phase, at c: the lowest item at fault there
  abbrev pub fault_refusal : ℕ → ℕ → ℕ → Refusal
  fault_refusal q phase c = refusal (fault_number phase (query T.queries q)) q (lowest_member (faults_by T R c phase q)) c

  -- one phase of form q: its lowest failing configuration
  abbrev pub phase_at : ℕ → ℕ → Verdict
  phase_at q phase = refuse_at (fault_refusal q phase) (lowest (λ c. fails_by T R c phase q) (configurations T))

  -- 15 to 19 of form q, and 25 only if they find nothing at any configuration
  abbrev pub typing_at : ℕ → Verdict
  typing_at q = first_from (phase_at q) phases 0

  -- 15 to 19 and 25, in the reading told: the lowest form that fails
  unfoldable pub typing_check : Verdict
  typing_check = first_from typing_at (query_count T) 0

-- ---- the numbers of refusals

-- of the checks before typing, and of typing
abbrev pub early_numbers : List ℕ
early_numbers = 1 ∷ 2 ∷ 3 ∷ 4 ∷ 5 ∷ 6 ∷ 7 ∷ 8 ∷ 9 ∷ 10 ∷ 24 ∷ 11 ∷ 12 ∷ 13 ∷ 14 ∷ []

abbrev pub typing_numbers : List ℕ
typing_numbers = 15 ∷ 16 ∷ 17 ∷ 18 ∷ 19 ∷ 25 ∷ []

abbrev pub is_one_of : List ℕ → ℕ → Bool
is_one_of [] k = false
is_one_of (n ∷ ns) k = eqb k n || is_one_of ns k

abbrev pub is_early : ℕ → Bool
is_early = is_one_of early_numbers

abbrev pub is_of_typing : ℕ → Bool
is_of_typing = is_one_of typing_numbers

-- a number of the checks after typing: all others
abbrev pub is_late : ℕ → Bool
is_late k = not (is_early k || is_of_typing k)

-- "typing fault": a refusal by a number of typing
abbrev pub is_typing_fault : Verdict → Bool
is_typing_fault (Ok tt) = false
is_typing_fault (Err r) = is_of_typing r.number
