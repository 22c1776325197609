-- What a permitted configuration reaches (docs/FORMAT.md, "Typing rules"), and what of that configuring keeps.
use Prim.Native.Nat.{ℕ, suc, ◌<◌, ◌≤◌}
use mathlib.Core.Path.{◌≡◌, refl, sym, ap, ◌∙◌}
use mathlib.Core.Logic.{⊎_elim, ◌⊎◌, inl, inr}
use mathlib.Core.Bool.{Bool, true, false, ◌&&◌, not, and-eq-true_iff}
use native.Mathlib.Omega.{arith}
use borrow.Author.Tests.{not-true}
use Rattle.sets.specs.Search.{count_below}
use Rattle.sets.proofs.SearchLaws.{count_none, count_yes}
use Rattle.report.specs.Tables.{Tables, query_count, report}
use Rattle.report.specs.Operands.{is_choice}
use Rattle.report.specs.Expressions.{permitted}
use Rattle.report.specs.Typing.{leads, reached}
use Rattle.report.specs.FormChecks.{is_operand}
use Rattle.report.specs.Configuring.{query_target, query_kept, new_query}
use Rattle.report.specs.Formed.{Formed}
use Rattle.report.proofs.FormedFacts.{report_in}
use Rattle.report.proofs.OperandLaws.{View, choice, plain, view}
use Rattle.report.proofs.PassingOn.{passes_to, passed_operand, operand_passed}
use Rattle.report.proofs.LeadLaws.{form_at, operands_at, Passer, passed_lower, passed_once, leads_self, leads_next, leads_lower, leads_trans, leads_last}
use Rattle.report.proofs.LeadLaws.{along, target_plain, target_choice, alternative_only, lead, plain_below}

module _ (T : Tables) (c : ℕ) where
  -- form x is passed on to by one reached form alone
  pub record Reacher (x : ℕ) : Type 0 where
    pub by : ℕ
    pub is_reached : reached T c by ≡ true
    pub passed : passes_to T c x (form_at T by) ≡ true
    pub only : (p : ℕ) → p < query_count T → passes_to T c x (form_at T p) ≡ true → p ≡ by

  -- form x is what an operand of a kept form leads to
  pub record Taker (x : ℕ) : Type 0 where
    pub by : ℕ
    pub inside : by < query_count T
    pub is_kept : query_kept T c by ≡ true
    pub operand : ℕ
    pub is_operand_of : is_operand operand (form_at T by) ≡ true
    pub leads_to : query_target T c operand ≡ x

  -- a kept form is reached and plain
  pub kept_both : (q : ℕ) → query_kept T c q ≡ true → (reached T c q ≡ true) × (is_choice (operands_at T q) ≡ false)
  kept_both q k = let p = (and-eq-true_iff (reached T c q) (not (is_choice (operands_at T q)))).0 k in (p.0, not-true _ p.1)

  pub both_kept : (q : ℕ) → reached T c q ≡ true → is_choice (operands_at T q) ≡ false → query_kept T c q ≡ true
  both_kept q r p = (and-eq-true_iff (reached T c q) (not (is_choice (operands_at T q)))).1 (r, ap not p)

module _ {T : Tables} (F : Formed T) (c : ℕ) (ok : permitted T c ≡ true) where
  pub reached-leads : (x : ℕ) → reached T c x ≡ leads T c x (report T)
  unfolding reached
  reached-leads x = ap (λ (t : Bool). t && leads T c x (report T)) ok

  -- a reached form is a form
  pub reached_in : (x : ℕ) → reached T c x ≡ true → x < query_count T
  reached_in x r = let i = report_in F in let l = leads_lower F c x (report T) i (sym (reached-leads x) ∙ r) in omega arith

  -- the report is reached
  pub reached-report : reached T c (report T) ≡ true
  reached-report = reached-leads (report T) ∙ leads_self F c (report T) (report_in F)

  -- what a reached form leads to is reached; so what it passes c on to is
  pub reached_led : (x q : ℕ) → reached T c q ≡ true → leads T c x q ≡ true → reached T c x ≡ true
  reached_led x q r l = reached-leads x ∙ leads_trans F c x q (report T) (report_in F) l (sym (reached-leads q) ∙ r)

  pub reached_next : (x q : ℕ) → reached T c q ≡ true → passes_to T c x (form_at T q) ≡ true → reached T c x ≡ true
  reached_next x q r e =
      let h = reached_in q r in
      let l = passed_lower F c x q h e in
      reached_led x q r (leads_next F c x x q h e (leads_self F c x (omega arith)))

  -- a reached form other than the report is passed on to by exactly one form, which is reached
  pub reached_by : (x : ℕ) → reached T c x ≡ true → (x ≡ report T) ⊎ Reacher T c x
  reached_by x r = ⊎_elim inl (λ (u : Passer T c x (report T)). inr (from u)) (leads_last F c x (report T) (report_in F) (sym (reached-leads x) ∙ r))
    where
      from : Passer T c x (report T) → Reacher T c x
      from u =
          let k = reached-leads u.by ∙ u.led in
          record {
            by = u.by;
            is_reached = k;
            passed = u.passed;
            only = λ p h e. passed_once F c x p u.by h (reached_in u.by k) e (passed_operand T c x (form_at T u.by) u.passed);
          }

  -- ---- what is kept: the reached plain forms

  pub operand_reached : (q x : ℕ) → query_kept T c q ≡ true → is_operand x (form_at T q) ≡ true → reached T c x ≡ true
  operand_reached q x k o =
      let p = kept_both T c q k in
      reached_next x q p.0 (operand_passed T c x (form_at T q) p.1 ∙ o)

  -- a reached reference leads to a kept form
  pub target_kept : (q : ℕ) → reached T c q ≡ true → query_kept T c (query_target T c q) ≡ true
  target_kept q r =
      let l = lead F c q (reached_in q r) in
      both_kept T c (query_target T c q) (reached_led (query_target T c q) q r l.led) l.is_plain

  -- the form that the report leads to is the highest kept, so the last
  pub kept_highest : (x : ℕ) → query_kept T c x ≡ true → x ≤ query_target T c (report T)
  kept_highest x k = let p = kept_both T c x k in plain_below F c x p.1 (report T) (report_in F) (sym (reached-leads x) ∙ p.0)

  pub kept_count : count_below (query_kept T c) (query_count T) ≡ suc (new_query T c (report T))
  kept_count =
      let top = query_target T c (report T) in
      count_none (query_kept T c) (suc top) (query_count T) (let l = (lead F c (report T) (report_in F)).low in let i = report_in F in omega arith)
      (λ x l h. above x l (query_kept T c x) refl)
      ∙ count_yes (query_kept T c) top (target_kept (report T) reached-report)
    where
      above : (x : ℕ) → suc (query_target T c (report T)) ≤ x → (t : Bool) → query_kept T c x ≡ t → t ≡ false
      above x l true e = absurd (let m = kept_highest x e in omega arith)
      above x l false e = refl

  -- every other kept form is what an operand of a kept form leads to
  taken_from : (q : ℕ) → is_choice (operands_at T q) ≡ false → (p : ℕ) → p < query_count T → leads T c q p ≡ true → reached T c p ≡ true
      → (query_target T c p ≡ q) ⊎ Taker T c q
  taken_from q v =
      along F c q (λ p. reached T c p ≡ true → (query_target T c p ≡ q) ⊎ Taker T c q) (λ h r. inl (target_plain F c q h v))
      (λ z p h k e l ih r. step z p h e r (ih (reached_next z p r e)) (view (operands_at T p)))
    where
      step : (z p : ℕ) → p < query_count T → passes_to T c z (form_at T p) ≡ true → reached T c p ≡ true → (query_target T c z ≡ q) ⊎ Taker T c q
          → View (operands_at T p) → (query_target T c p ≡ q) ⊎ Taker T c q
      step z p h e r (inr t) w = inr t
      step z p h e r (inl s) (plain w) =
          let o = passed_operand T c z (form_at T p) e in
          inr (record { by = p; inside = h; is_kept = both_kept T c p r w; operand = z; is_operand_of = o; leads_to = s })
      step z p h e r (inl s) (choice a b d f) =
          inl (target_choice F c p a b d h f ∙ ap (query_target T c) (sym (alternative_only F c p a b d h f z e)) ∙ s)

  pub kept_taken : (q : ℕ) → query_kept T c q ≡ true → (query_target T c (report T) ≡ q) ⊎ Taker T c q
  kept_taken q k = let p = kept_both T c q k in taken_from q p.1 (report T) (report_in F) (sym (reached-leads q) ∙ p.0) reached-report
