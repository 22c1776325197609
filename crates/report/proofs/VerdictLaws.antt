-- Laws of answers and of checks that follow one another (specs/Verdicts).
use Rattle.std.specs.Prelude.{Option, Some, None, Ok, Err}
use Prim.Native.Nat.{ℕ, zero, suc, ◌+◌, ◌≤◌, ◌<◌}
use mathlib.Core.Path.{◌≡◌, refl, sym, ap, ◌∙◌}
use mathlib.Core.Bool.{Bool, true, false}
use mathlib.Core.Logic.{⊎_elim}
use native.Mathlib.Nat.{eq-or-lt_of_le, le_refl}
use native.Mathlib.Omega.{arith}
use Rattle.report.specs.Verdicts.{Verdict, refuse_if, refuse_at, or_else, first_from}
use Rattle.report.specs.declared.Refusal.{Refusal}

-- an answer is not both
pub accepted_not_refused : {A : Type 0} {v : Verdict} {r : Refusal} → v ≡ Err r → v ≡ Ok tt → A
accepted_not_refused e f = absurd (let z : ◌≡◌ {A = ℕ} 0 1 = cc in omega arith)

-- ---- one check, and then another

pub or_else_assoc : (a b c : Verdict) → or_else (or_else a b) c ≡ or_else a (or_else b c)
or_else_assoc (Ok tt) b c = refl
or_else_assoc (Err r) b c = refl

pub or_else_accepted : (a : Verdict) → or_else a (Ok tt) ≡ a
or_else_accepted (Ok tt) = refl
or_else_accepted (Err r) = refl

pub both_accepted : (a b : Verdict) → or_else a b ≡ Ok tt → (a ≡ Ok tt) × (b ≡ Ok tt)
both_accepted (Ok tt) b e = (refl, e)
both_accepted (Err r) b e = accepted_not_refused refl e

pub accepted_both : {a b : Verdict} → a ≡ Ok tt → b ≡ Ok tt → or_else a b ≡ Ok tt
accepted_both {b} p q = ap (λ (x : Verdict). or_else x b) p ∙ q

-- after a check that accepts, the answer is the next one's; a refusal stands
pub then_next : {a b : Verdict} → a ≡ Ok tt → or_else a b ≡ b
then_next {b} e = ap (λ (x : Verdict). or_else x b) e

pub then_refused : {a : Verdict} {r : Refusal} (b : Verdict) → a ≡ Err r → or_else a b ≡ Err r
then_refused b e = ap (λ (x : Verdict). or_else x b) e

-- ---- a condition, and what a search found

pub if_accepted : (t : Bool) (r : Refusal) → refuse_if t r ≡ Ok tt → t ≡ false
if_accepted true r e = accepted_not_refused refl e
if_accepted false r e = refl

pub if_refused : (t : Bool) (r : Refusal) {x : Refusal} → refuse_if t r ≡ Err x → t ≡ true
if_refused true r e = refl
if_refused false r e = accepted_not_refused e refl

pub accepted_if : {t : Bool} (r : Refusal) → t ≡ false → refuse_if t r ≡ Ok tt
accepted_if r e = ap (λ (t : Bool). refuse_if t r) e

pub at_accepted : (r : ℕ → Refusal) (f : Option ℕ) → refuse_at r f ≡ Ok tt → f ≡ None
at_accepted r None e = refl
at_accepted r (Some k) e = accepted_not_refused refl e

-- ---- checks of ascending numbers

pub first_accepted : (check : ℕ → Verdict) (n from : ℕ) → first_from check n from ≡ Ok tt
    → (k : ℕ) → from ≤ k → k < from + n → check k ≡ Ok tt
first_accepted check zero from e k l h = absurd (omega arith)
first_accepted check (suc n) from e k l h =
    let p = both_accepted (check from) (first_from check n (suc from)) e in
    ⊎_elim (λ (s : from ≡ k). ap check (sym s) ∙ p.0) (λ (m : from < k). first_accepted check n (suc from) p.1 k m (omega arith)) (eq-or-lt_of_le l)

pub accepted_first : (check : ℕ → Verdict) (n from : ℕ) → ((k : ℕ) → from ≤ k → k < from + n → check k ≡ Ok tt)
    → first_from check n from ≡ Ok tt
accepted_first check zero from h = refl
accepted_first check (suc n) from h =
    accepted_both (h from (le_refl from) (omega arith)) (accepted_first check n (suc from) (λ k l m. h k (omega arith) (omega arith)))

-- the first check that refuses, where those before it accept
pub refused_first : (check : ℕ → Verdict) (n from k : ℕ) (r : Refusal) → from ≤ k → k < from + n
    → ((j : ℕ) → from ≤ j → j < k → check j ≡ Ok tt) → check k ≡ Err r → first_from check n from ≡ Err r
refused_first check zero from k r l h before e = absurd (omega arith)
refused_first check (suc n) from k r l h before e =
    ⊎_elim
    (λ (s : from ≡ k). then_refused (first_from check n (suc from)) (ap check s ∙ e))
    (λ (m : from < k). then_next (before from (le_refl from) m) ∙ refused_first check n (suc from) k r m (omega arith) (λ j a b. before j (omega arith) b) e)
    (eq-or-lt_of_le l)

-- what a refusal tells: the check that gave it, and that those before it accept
pub record FirstRefusal (check : ℕ → Verdict) (from n : ℕ) (r : Refusal) : Type 0 where
  pub at : ℕ
  pub least : from ≤ at
  pub below : at < from + n
  pub gave : check at ≡ Err r
  pub before : (j : ℕ) → from ≤ j → j < at → check j ≡ Ok tt

pub first_refused : (check : ℕ → Verdict) (n from : ℕ) (r : Refusal) → first_from check n from ≡ Err r → FirstRefusal check from n r
first_refused check zero from r e = accepted_not_refused e refl
first_refused check (suc n) from r e = go (check from) refl (first_refused check n (suc from) r)
  where
    go : (v : Verdict) → check from ≡ v → (first_from check n (suc from) ≡ Err r → FirstRefusal check (suc from) n r) → FirstRefusal check from (suc n) r
    go (Ok tt) p ih =
        let f = ih (sym (then_next p) ∙ e) in
        record {
          at = f.at;
          least = let l = f.least in omega arith;
          below = let l = f.below in omega arith;
          gave = f.gave;
          before = λ j l h. ⊎_elim (λ (s : from ≡ j). ap check (sym s) ∙ p) (λ (m : from < j). f.before j m h) (eq-or-lt_of_le l);
        }
    go (Err x) p ih =
        record {
          at = from;
          least = le_refl from;
          below = omega arith;
          gave = p ∙ sym (then_refused (first_from check n (suc from)) p) ∙ e;
          before = λ j l h. absurd (let a = l in omega arith);
        }
