-- Answers of checks, how checks follow one another, and conditions with the refusals that they give.
use Rattle.std.specs.Prelude.{ℕ, zero, suc, ◌<◌, ◌≡◌, Bool, true, false, List, [], ◌∷◌, length, get_or, Option, Some, None, Result, Ok, Err, ⊤}
use Rattle.sets.specs.Lists.{concat}
use Rattle.report.specs.declared.Refusal.{Refusal}

-- accepted, or refused: what a check answers
abbrev pub Verdict : Type 0
Verdict = Result ⊤ Refusal

-- number, place, item, configuration
abbrev pub refusal : ℕ → ℕ → ℕ → ℕ → Refusal
refusal number place item configuration = record { number = number; place = place; item = item; configuration = configuration }

abbrev pub refuse_if : Bool → Refusal → Verdict
refuse_if true r = Err r
refuse_if false r = Ok tt

-- refused at what a search found
abbrev pub refuse_at : (ℕ → Refusal) → Option ℕ → Verdict
refuse_at r None = Ok tt
refuse_at r (Some k) = Err (r k)

-- one check, and then another: the first refusal
abbrev pub or_else : Verdict → Verdict → Verdict
or_else (Ok tt) next = next
or_else (Err r) next = Err r

-- n checks, those of number `from`, from + 1, ..: the first refusal
abbrev pub first_from : (ℕ → Verdict) → ℕ → ℕ → Verdict
first_from check zero from = Ok tt
first_from check (suc n) from = let rest = first_from check n (suc from) in or_else (check from) rest

-- what stands after a call that lent x to write to: `new` where it accepts; a refused call changes no lent word
abbrev pub after : {A : Type 0} → Verdict → A → A → A
after (Ok tt) new x = new
after (Err r) new x = x

-- ---- conditions

-- a condition, and its refusal where it holds
pub record Condition : Type 0 where
  pub holds : Bool
  pub gives : Refusal

infix 5 ◌gives◌
unfoldable pub ◌gives◌ : Bool → Refusal → List Condition
b gives r = record { holds = b; gives = r } ∷ []

-- one condition for each number below n: forms ascending
unfoldable pub each : ℕ → (ℕ → Bool) → (ℕ → Refusal) → List Condition
each n test r = concat n (λ k. test k gives r k)

-- the first of the conditions that holds
unfoldable pub first_of : List Condition → Verdict
first_of [] = Ok tt
first_of (x ∷ xs) = or_else (refuse_if x.holds x.gives) (first_of xs)

-- the condition at a place of the list
abbrev pub condition : List Condition → ℕ → Condition
condition xs k = get_or xs k (record { holds = false; gives = refusal 0 0 0 0 })

-- none of the conditions holds
abbrev pub NoneHolds : List Condition → Type 0
NoneHolds xs = (k : ℕ) → (condition xs k).holds ≡ false

-- "first fault first": the refusal is that of a condition that holds, and no condition before it holds
pub record Foremost (xs : List Condition) (r : Refusal) : Type 0 where
  pub at : ℕ
  pub below : at < length xs
  pub holds : (condition xs at).holds ≡ true
  pub refuses : (condition xs at).gives ≡ r
  pub before : (j : ℕ) → j < at → (condition xs j).holds ≡ false
