-- A loop over n forms that stops at the first that does not fit: what it has found, and that it answers as the check of the definitions does.
use Rattle.std.specs.Prelude.{Ok, Err}
use Prim.Native.Nat.{ℕ, ◌+◌, ◌≤◌, ◌<◌}
use mathlib.Core.Path.{◌≡◌, sym, ap, ◌∙◌}
use mathlib.Core.Logic.{⊎_elim}
use mathlib.Core.Bool.{Bool, true, false, not}
use native.Mathlib.Nat.{eq-or-lt_of_le}
use native.Mathlib.Omega.{arith}
use borrow.Author.Tests.{not-false}
use Rattle.sets.specs.Search.{lowest}
use Rattle.sets.proofs.SearchLaws.{at_lowest, nothing_lowest}
use Rattle.report.specs.Verdicts.{refuse_if, refuse_at}
use Rattle.report.proofs.VerdictLaws.{if_refused}
use Rattle.report.specs.declared.Refusal.{Refusal}

-- of n forms the first i have been seen, and each of them fits
pub record FormsPassed (fits : ℕ → Bool) (n i : ℕ) : Type 0 where
  pub within : i ≤ n
  pub each : (k : ℕ) → k < i → fits k ≡ true

module _ (fits : ℕ → Bool) (n : ℕ) where
  pub passed_none : FormsPassed fits n 0
  passed_none = record { within = omega arith; each = λ k h. absurd (omega arith) }

  -- form i, of which the code has found that it fits: t is what its test gave
  pub passed_more : {i : ℕ} {t : Bool} → FormsPassed fits n i → i < n → t ≡ fits i → not t ≡ false → FormsPassed fits n (i + 1)
  passed_more {i} {t} p h e f =
      record {
        within = omega arith;
        each = λ k l. ⊎_elim (λ (s : k ≡ i). ap fits s ∙ sym e ∙ not-false t f) (λ (m : k < i). p.each k m) (eq-or-lt_of_le (omega arith));
      }

  -- form i, at which the code refuses, since what its test gave is false
  pub passed_first : {i : ℕ} {t : Bool} {x : Refusal} → FormsPassed fits n i → i < n → t ≡ fits i → (r : ℕ → Refusal) → Err x ≡ refuse_if (not t) (r i)
      → Err x ≡ refuse_at r (lowest (λ k. not (fits k)) n)
  passed_first {i} {t} {x} p h e r f =
      f ∙ ap (λ (b : Bool). refuse_if b (r i)) unfit ∙ sym (ap (refuse_at r) (at_lowest (λ k. not (fits k)) n i (record { below = h; holds = ap not (sym e) ∙ unfit; before = λ k l. ap not (p.each k l) })))
    where
      unfit : not t ≡ true
      unfit = if_refused (not t) (r i) (sym f)

  pub passed_all : {i : ℕ} → FormsPassed fits n i → n ≤ i → (r : ℕ → Refusal) → Ok tt ≡ refuse_at r (lowest (λ k. not (fits k)) n)
  passed_all p h r = sym (ap (refuse_at r) (nothing_lowest (λ k. not (fits k)) n (λ k l. ap not (p.each k (omega arith)))))
