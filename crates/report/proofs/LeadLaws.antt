-- To which query forms of accepted tables a form leads at a configuration c, and where a reference to a form leads.
use Prim.Native.Nat.{ℕ, ◌<◌, ◌≤◌}
use mathlib.Core.Path.{◌≡◌, refl, sym, ap, ◌∙◌}
use mathlib.Core.Logic.{⊎_elim, ◌⊎◌, inl, inr}
use mathlib.Core.Bool.{true, false}
use native.Mathlib.Nat.{le_refl}
use native.Mathlib.Decide.{dec_le, ℕ_discrete}
use native.Mathlib.Omega.{arith}
use borrow.Author.Tests.{eqb-true}
use lib.Dec.{eqb}
use Rattle.report.specs.Tables.{Tables, query, query_count}
use Rattle.report.specs.Operands.{query_operands, is_choice}
use Rattle.report.specs.Typing.{taken, onward, passes_on, leads}
use Rattle.report.specs.FormChecks.{is_operand}
use Rattle.report.specs.Configuring.{target_of, query_target}
use Rattle.report.specs.Formed.{Formed}
use Rattle.report.specs.declared.Query.{Query}
use Rattle.report.specs.declared.Operands.{Operands}
use Rattle.report.proofs.ValueLaws.{strong}
use Rattle.report.proofs.FormedFacts.{operand_lower, operand_once}
use Rattle.report.proofs.StepLaws.{leads_in, query_target_in}
use Rattle.report.proofs.PassingOn.{or_either, or_first, or_second, same_number, passes_to, PassedTo, passed_to, to_passed, passed_operand}
use Rattle.report.proofs.OperandLaws.{View, choice, plain, view, plain_target}

-- query form q, and its operands
abbrev pub form_at : Tables → ℕ → Query
form_at T q = query T.queries q

abbrev pub operands_at : Tables → ℕ → Operands
operands_at T q = query_operands (form_at T q)

module _ (T : Tables) (c : ℕ) where
  -- of the forms to which p leads, one passes c on to x
  pub record Passer (x p : ℕ) : Type 0 where
    pub by : ℕ
    pub led : leads T c by p ≡ true
    pub passed : passes_to T c x (form_at T by) ≡ true

  -- t is what a reference to q leads to: a plain form, no higher
  pub record Lead (q t : ℕ) : Type 0 where
    pub low : t ≤ q
    pub led : leads T c t q ≡ true
    pub is_plain : is_choice (operands_at T t) ≡ false

module _ {T : Tables} (F : Formed T) (c : ℕ) where
  -- what p passes c on to is lower, and no other form passes c on to it
  pub passed_lower : (x p : ℕ) → p < query_count T → passes_to T c x (form_at T p) ≡ true → x < p
  passed_lower x p h e = operand_lower F p x h (passed_operand T c x (form_at T p) e)

  pub passed_once : (x p q : ℕ) → p < query_count T → q < query_count T → passes_to T c x (form_at T p) ≡ true → is_operand x (form_at T q) ≡ true → p ≡ q
  passed_once x p q h k e o = operand_once F p q x h k (passed_operand T c x (form_at T p) e) o

  -- p leads to itself, and to whatever the forms lead to that it passes c on to
  pub leads_self : (x : ℕ) → x < query_count T → leads T c x x ≡ true
  leads_self x h = leads_in F c x h x ∙ or_first _ _ (same_number x)

  pub leads_next : (x z p : ℕ) → p < query_count T → passes_to T c z (form_at T p) ≡ true → leads T c x z ≡ true → leads T c x p ≡ true
  leads_next x z p h e l = leads_in F c p h x ∙ or_second (eqb x p) _ (to_passed T c (leads T c x) z l (form_at T p) e)

  -- and to nothing else
  pub leads_cases : (x p : ℕ) → p < query_count T → leads T c x p ≡ true → (x ≡ p) ⊎ PassedTo T c (leads T c x) (form_at T p)
  leads_cases x p h l =
      ⊎_elim (λ e. inl (eqb-true x p e)) (λ e. inr (passed_to T c (leads T c x) (form_at T p) e))
      (or_either (eqb x p) (passes_on T c (leads T c x) (form_at T p)) (sym (leads_in F c p h x) ∙ l))

  -- induction along the forms to which p leads x
  module _ (x : ℕ) (P : ℕ → Type 0) (here : x < query_count T → P x)
      (next : (z p : ℕ) → p < query_count T → z < p → passes_to T c z (form_at T p) ≡ true → leads T c x z ≡ true → P z → P p)
    where
      pub along : (p : ℕ) → p < query_count T → leads T c x p ≡ true → P p
      along =
          strong (λ p. p < query_count T → leads T c x p ≡ true → P p)
          (λ p ih h l.
          ⊎_elim (λ (e : x ≡ p). rw (← e) (here (rw e h)))
          (λ (r : PassedTo T c (leads T c x) (form_at T p)).
          let k = passed_lower r.form p h r.passed in
          next r.form p h k r.passed r.is_marked (ih r.form k (omega arith) r.is_marked))
          (leads_cases x p h l))

  pub leads_lower : (x p : ℕ) → p < query_count T → leads T c x p ≡ true → x ≤ p
  leads_lower x = along x (λ p. x ≤ p) (λ h. le_refl x) (λ z p h k e l m. omega arith)

  pub leads_trans : (x y p : ℕ) → p < query_count T → leads T c x y ≡ true → leads T c y p ≡ true → leads T c x p ≡ true
  leads_trans x y p h l = along y (λ p. leads T c x p ≡ true) (λ h. l) (λ z p h k e m ih. leads_next x z p h e ih) p h

  -- the last step of the way from p to x
  pub leads_last : (x p : ℕ) → p < query_count T → leads T c x p ≡ true → (x ≡ p) ⊎ Passer T c x p
  leads_last x = along x (λ p. (x ≡ p) ⊎ Passer T c x p) (λ h. inl refl) step
    where
      step : (z p : ℕ) → p < query_count T → z < p → passes_to T c z (form_at T p) ≡ true → leads T c x z ≡ true → (x ≡ z) ⊎ Passer T c x z
          → (x ≡ p) ⊎ Passer T c x p
      step z p h k e l (inl s) = inr (record { by = p; led = leads_self p h; passed = rw s e })
      step z p h k e l (inr u) = inr (record { by = u.by; led = leads_next u.by z p h e u.led; passed = u.passed })

  -- of two forms that lead to t the higher leads to the lower: the forms are a tree
  pub leads_meet : (t y : ℕ) → y < query_count T → leads T c t y ≡ true → (x : ℕ) → x ≤ y → leads T c t x ≡ true → leads T c x y ≡ true
  leads_meet t =
      strong (λ y. y < query_count T → leads T c t y ≡ true → (x : ℕ) → x ≤ y → leads T c t x ≡ true → leads T c x y ≡ true)
      (λ y ih h l x m k. go y ih h x m k (ℕ_discrete x y) (leads_cases t y h l))
    where
      go : (y : ℕ) → ((w : ℕ) → w < y → w < query_count T → leads T c t w ≡ true → (x : ℕ) → x ≤ w → leads T c t x ≡ true → leads T c x w ≡ true)
          → y < query_count T → (x : ℕ) → x ≤ y → leads T c t x ≡ true → Dec (x ≡ y) → (t ≡ y) ⊎ PassedTo T c (leads T c t) (form_at T y)
          → leads T c x y ≡ true
      go y ih h x m k (yes e) r = rw e (leads_self y h)
      go y ih h x m k (no e) (inl s) = absurd (let l = leads_lower t x (omega arith) k in omega arith)
      go y ih h x m k (no e) (inr r) = below (dec_le x r.form)
        where
          low : r.form < y
          low = passed_lower r.form y h r.passed

          below : Dec (x ≤ r.form) → leads T c x y ≡ true
          below (yes l) = leads_next x r.form y h r.passed (ih r.form low (omega (arith, low)) r.is_marked x l k)
          below (no l) =
              ⊎_elim (λ (s : r.form ≡ x). absurd (omega arith))
              (λ (u : Passer T c r.form x).
              let b = leads_lower u.by x (omega arith) u.led in
              let s = passed_once r.form u.by y (omega arith) h u.passed (passed_operand T c r.form (form_at T y) r.passed) in
              absurd (omega arith))
              (leads_last r.form x (omega arith) (ih x (omega arith) (omega arith) k r.form (omega arith) r.is_marked))

  -- ---- where a reference leads

  pub target_plain : (q : ℕ) → q < query_count T → is_choice (operands_at T q) ≡ false → query_target T c q ≡ q
  target_plain q h p = query_target_in F c q h ∙ plain_target T c (query_target T c) q (operands_at T q) p

  module _ (q a b d : ℕ) (h : q < query_count T) (e : operands_at T q ≡ Operands.Choice a b d) where
    pub target_choice : query_target T c q ≡ query_target T c (taken T c a b d)
    target_choice = query_target_in F c q h ∙ ap (target_of T c (query_target T c) q) e

    -- a choice passes c on to the alternative that it takes, and to no other form
    pub alternative_passed : passes_to T c (taken T c a b d) (form_at T q) ≡ true
    alternative_passed = ap (onward T c (eqb (taken T c a b d))) e ∙ same_number (taken T c a b d)

    pub alternative_only : (z : ℕ) → passes_to T c z (form_at T q) ≡ true → z ≡ taken T c a b d
    alternative_only z p = eqb-true z (taken T c a b d) (ap (onward T c (eqb z)) (sym e) ∙ p)

  pub lead : (q : ℕ) → q < query_count T → Lead T c q (query_target T c q)
  lead = strong (λ q. q < query_count T → Lead T c q (query_target T c q)) (λ q ih h. go q ih h (view (operands_at T q)))
    where
      go : (q : ℕ) → ((k : ℕ) → k < q → k < query_count T → Lead T c k (query_target T c k)) → q < query_count T → View (operands_at T q)
          → Lead T c q (query_target T c q)
      go q ih h (plain p) = rw (target_plain q h p) (record { low = le_refl q; led = leads_self q h; is_plain = p })
      go q ih h (choice a b d e) =
          let z = taken T c a b d in
          let p = alternative_passed q a b d h e in
          let k = passed_lower z q h p in
          let l = ih z k (omega arith) in
          rw (target_choice q a b d h e)
          (record { low = let m = l.low in omega arith; led = leads_next (query_target T c z) z q h p l.led; is_plain = l.is_plain })

  -- a plain form to which p leads is at most what a reference to p leads to
  pub plain_below : (x : ℕ) → is_choice (operands_at T x) ≡ false → (p : ℕ) → p < query_count T → leads T c x p ≡ true → x ≤ query_target T c p
  plain_below x v =
      along x (λ p. x ≤ query_target T c p) (λ h. let t = target_plain x h v in omega arith)
      (λ z p h k e l m. step z p h k e l m (view (operands_at T p)))
    where
      step : (z p : ℕ) → p < query_count T → z < p → passes_to T c z (form_at T p) ≡ true → leads T c x z ≡ true → x ≤ query_target T c z
          → View (operands_at T p)
          → x ≤ query_target T c p
      step z p h k e l m (plain w) = let t = target_plain p h w in let n = leads_lower x z (omega arith) l in omega arith
      step z p h k e l m (choice a b d f) =
          let t = target_choice p a b d h f in
          let s = ap (query_target T c) (alternative_only p a b d h f z e) in
          omega arith

  -- two operands of plain forms, of which references lead to one form, are one
  apart : (p x y : ℕ) → p < query_count T → is_choice (operands_at T p) ≡ false → is_operand x (form_at T p) ≡ true → y < query_count T
      → query_target T c x ≡ query_target T c y → x < y → ⊥
  apart p x y h v o i same l =
      ⊎_elim (λ (e : x ≡ y). omega arith)
      (λ (u : Passer T c x y).
      let b = leads_lower u.by y i u.led in
      let e = passed_once x u.by p (omega arith) h u.passed o in
      let m = plain_below p v y i (rw e at u.led) in
      let n = (lead x (omega arith)).low in
      let g = operand_lower F p x h o in
      omega arith)
      (leads_last x y i (leads_meet (query_target T c y) y i (lead y i).led x (omega arith) (rw same at (lead x (omega arith)).led)))

  pub leads_apart : (p q x y : ℕ) → p < query_count T → q < query_count T → is_choice (operands_at T p) ≡ false
      → is_choice (operands_at T q) ≡ false → is_operand x (form_at T p) ≡ true
      → is_operand y (form_at T q) ≡ true → query_target T c x ≡ query_target T c y → x ≡ y
  leads_apart p q x y h k v w o r same =
      let i = operand_lower F p x h o in
      let j = operand_lower F q y k r in
      let a = apart p x y h v o (omega arith) same in
      let b = apart q y x k w r (omega arith) (sym same) in
      omega (arith, a, b)
