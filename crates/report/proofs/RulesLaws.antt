-- The typing rules (specs/Rules) hold exactly where the configured report passes the plain rules; checking accepts exactly where they do, and the column
-- rows are those of the rules.
use Rattle.std.specs.Prelude.{Ok}
use Prim.Native.Nat.{ℕ, ◌^◌, ◌<◌}
use mathlib.Core.Path.{◌≡◌, refl, sym, ap, ap₂, ◌∙◌, fun_ext}
use mathlib.Core.Bool.{Bool, true, false, cond, ◌&&◌, ◌||◌}
use mathlib.Core.Logic.{◌↔◌}
use borrow.Author.Tests.{eqb-true, eq-eqb}
use lib.Dec.{eqb}
use lib.Bits.{bit_and, bit_or, bit_xor}
use Rattle.sets.specs.Bits.{bit, difference}
use Rattle.sets.specs.Lists.{concat}
use Rattle.sets.specs.Rows.{row_of}
use Rattle.sets.proofs.BitLaws.{xor_zero, subset-and}
use Rattle.report.specs.Tables.{Tables, kind_of, query_count, report}
use Rattle.report.specs.Expressions.{permitted}
use Rattle.report.specs.Typing.{taken, reached, relation_set, project_set, names, set_rule, set_of, faults_of, clashes_in, faults, fails, keeps}
use Rattle.report.specs.ColumnRows.{has_column, column_rows, shown}
use Rattle.report.specs.Rules.{Rule, Rules, ruled_rows}
use Rattle.report.specs.PlainAlgebra.{passes}
use Rattle.report.specs.ConfiguredReport.{configured_report, configured_schema}
use Rattle.report.specs.Formed.{Formed}
use Rattle.report.specs.Calls.{answer, Sound, checking}
use Rattle.report.specs.GivenDemands.{RulesThroughout, PassesThroughout}
use Rattle.report.specs.declared.Query.{Query}
use Rattle.report.specs.declared.Reading.{Reading}
use Rattle.report.proofs.ValueLaws.{strong}
use Rattle.report.proofs.StepLaws.{set_in}
use Rattle.report.proofs.SetLaws.{kept_sets}
use Rattle.report.proofs.KindMembers.{no_clash}
use Rattle.report.proofs.PassingOn.{passes_to, same_number, or_first, or_second}
use Rattle.report.proofs.LeadLaws.{form_at, passed_lower}
use Rattle.report.proofs.ReachLaws.{reached_in, reached_next, reached-report}
use Rattle.report.proofs.TreeLaws.{keeps_where, report-passes}
use Rattle.report.proofs.TypingLaws.{permitted_within, typing_passes, shown_columns}
use Rattle.report.proofs.CallLaws.{sound_formed}
use Rattle.report.proofs.Refusing.{check_typing, accepted_exactly}

-- ---- one form

module _ (T : Tables) (c : ℕ) where
  module _ (S : ℕ → ℕ) where
    -- of two operands
    both : (a b : ℕ) → ((x : ℕ) → (eqb x a || eqb x b) ≡ true → S x ≡ set_of T c x) → (S a ≡ set_of T c a) × (S b ≡ set_of T c b)
    both a b ih = (ih a (or_first _ _ (same_number a)), ih b (or_second (eqb b a) _ (same_number b)))

    -- a union or an intersection
    equal : (q a b : ℕ) → ((x : ℕ) → (eqb x a || eqb x b) ≡ true → S x ≡ set_of T c x) → set_of T c q ≡ set_of T c a → (S a ≡ S b) × (S q ≡ S a)
        → (S q ≡ set_of T c q) × (bit_xor (set_of T c a) (set_of T c b) ≡ 0) × (◌≡◌ {A = ℕ} 0 0)
    equal q a b ih s k =
        let e = both a b ih in
        let same = sym e.0 ∙ k.0 ∙ e.1 in
        (k.1 ∙ e.0 ∙ sym s, eqb-true _ 0 (xor_zero (set_of T c a) (set_of T c b) ∙ eq-eqb (set_of T c a) (set_of T c b) same), refl)

  -- where the rules' sets of the forms to which y passes c on are the definition's, so is that of y, in which nothing is at fault
  by_rule : (S : ℕ → ℕ) (q : ℕ) (y : Query) → ((x : ℕ) → passes_to T c x y ≡ true → S x ≡ set_of T c x)
      → set_of T c q ≡ set_rule T c (set_of T c) q y → Rule T c S q y
      → (S q ≡ set_of T c q) × (faults_of T c q y ≡ 0) × (clashes_in T c y ≡ 0)
  by_rule S q Query.Malformed ih s k = absurd k
  by_rule S q Query.Empty ih s k = (k ∙ sym s, refl, refl)
  by_rule S q (Query.Relation a) ih s k = (
    k.1 ∙ sym (s ∙ ap (λ (t : Bool). cond t (relation_set T c a) 0) k.0),
    ap (λ (t : Bool). cond t 0 (2 ^ a)) k.0,
    refl,
  )
  by_rule S q (Query.Select a b) ih s k =
      let e = ih b (same_number b) in
      (k.2 ∙ e ∙ sym s, ap (difference (names T c a)) (sym e) ∙ eqb-true (difference (names T c a) (S b)) 0 k.0, (no_clash T c a).1 k.1)
  by_rule S q (Query.Project a b) ih s k =
      let e = ih b (same_number b) in
      let f = ap (difference (project_set T c q a)) (sym e) ∙ eqb-true (difference (project_set T c q a) (S b)) 0 k.0 in
      (k.1 ∙ sym (s ∙ subset-and (project_set T c q a) (set_of T c b) f), f, refl)
  by_rule S q (Query.Choice a b d) ih s k = (k ∙ ih (taken T c a b d) (same_number (taken T c a b d)) ∙ sym s, refl, refl)
  by_rule S q (Query.Product a b) ih s k =
      let e = both S a b ih in
      (k.1 ∙ ap₂ bit_or e.0 e.1 ∙ sym s, sym (ap₂ bit_and e.0 e.1) ∙ k.0, refl)
  by_rule S q (Query.Union a b) ih s k = equal S q a b ih s k
  by_rule S q (Query.Intersection a b) ih s k = equal S q a b ih s k

-- ---- all forms that c reaches

module _ {T : Tables} (F : Formed T) (c : ℕ) (ok : permitted T c ≡ true) where
  -- sets that keep the rules are, at each form that c reaches, the definition's, and nothing is at fault in the form
  pub rules_sets : (S : ℕ → ℕ) → Rules T c S → (q : ℕ) → reached T c q ≡ true → (S q ≡ set_of T c q) × (keeps T c q ≡ true)
  unfolding faults
  rules_sets S k =
      strong (λ q. reached T c q ≡ true → (S q ≡ set_of T c q) × (keeps T c q ≡ true))
      (λ q ih r.
      let h = reached_in F c ok q r in
      let b = by_rule T c S q (form_at T q) (λ x e. (ih x (passed_lower F c x q h e) (reached_next F c ok x q r e)).0) (set_in F c q h) (k q r) in
      (b.0, ap₂ ◌&&◌ (eq-eqb _ 0 b.1) (eq-eqb _ 0 b.2)))

  -- where no form fails the definition's sets keep the rules
  pub sets_rules : ((q phase : ℕ) → q < query_count T → phase < 2 → fails T c phase q ≡ false) → Rules T c (set_of T c)
  sets_rules f q r = let h = reached_in F c ok q r in kept_sets F c q h ((keeps_where T c q).0 (λ phase. f q phase h) r)

  -- there are sets that keep the rules exactly where no form fails
  pub rules_exactly : ((S : ℕ → ℕ) × Rules T c S) ↔ ((q phase : ℕ) → q < query_count T → phase < 2 → fails T c phase q ≡ false)
  rules_exactly = (λ p q phase h. (keeps_where T c q).1 (λ r. (rules_sets p.0 p.1 q r).1) phase, λ f. (set_of T c, sets_rules f))

  -- then the forms that c reaches have one set each
  pub rules_one : (S S' : ℕ → ℕ) → Rules T c S → Rules T c S' → (q : ℕ) → reached T c q ≡ true → S q ≡ S' q
  rules_one S S' k k' q r = (rules_sets S k q r).0 ∙ sym (rules_sets S' k' q r).0

  -- and the column rows show the report's
  pub rules_shown : (S : ℕ → ℕ) → Rules T c S → S (report T) ≡ shown (column_rows T) c
  rules_shown S k = (rules_sets S k (report T) (reached-report F c ok)).0 ∙ sym (shown_columns F c ok)

-- ---- typing rules and plain rules

module _ {T : Tables} (F : Formed T) where
  -- at a permitted configuration there are sets that keep the typing rules exactly where the configured report passes the plain rules
  pub rules_plain : (c : ℕ) → permitted T c ≡ true
      → ((S : ℕ → ℕ) × Rules T c S) ↔ (passes (kind_of T) (configured_schema T c) (configured_report T c Reading.Strict) ≡ true)
  rules_plain c ok =
      let sets = rules_exactly F c ok in
      let plain = report-passes F c ok in
      (λ s. plain.1 (sets.0 s), λ e. sets.1 (plain.0 e))

  -- so at all of them
  pub rules_throughout : RulesThroughout T ↔ PassesThroughout T
  rules_throughout = (λ k c ok. (rules_plain c ok).0 (k c ok), λ p c ok. (rules_plain c ok).1 (p c ok))

-- ---- the column rows

module _ {T : Tables} (F : Formed T) (S : ℕ → ℕ → ℕ) (keep : (c : ℕ) → permitted T c ≡ true → Rules T c (S c)) where
  -- of sets that keep the rules at each permitted configuration: bit by bit
  pub rules_column : (a c : ℕ) → has_column T a c ≡ (permitted T c && bit (S c (report T)) a)
  rules_column a c = go (permitted T c) refl
    where
      go : (t : Bool) → permitted T c ≡ t → (t && bit (set_of T c (report T)) a) ≡ (t && bit (S c (report T)) a)
      go true e = ap (λ (x : ℕ). bit x a) (sym (rules_sets F c e (S c) (keep c e) (report T) (reached-report F c e)).0)
      go false e = refl

  -- so all 1,024 words
  pub rules_rows : column_rows T ≡ ruled_rows T S
  unfolding column_rows
  rules_rows = ap (concat 64) (fun_ext (λ a. ap (row_of 16) (fun_ext (rules_column a))))

-- ---- checking

module _ (T : Tables) (sound : Sound T) where
  -- where a check accepts the definition's sets keep the rules
  pub accepted_sets : answer T Reading.Strict (checking 1024) ≡ Ok tt → (c : ℕ) → permitted T c ≡ true → Rules T c (set_of T c)
  accepted_sets e c p = sets_rules (sound_formed T sound) c p (λ q phase. (accepted_exactly T Reading.Strict sound).0 e c q phase (permitted_within T c p))

  -- of sound tables a check with 1,024 words of rows accepts exactly where at each permitted configuration there are sets that keep the rules
  pub accepted_rules : (answer T Reading.Strict (checking 1024) ≡ Ok tt) ↔ RulesThroughout T
  accepted_rules =
      let same = check_typing T Reading.Strict sound in
      let typed = typing_passes (sound_formed T sound) in
      let ruled = rules_throughout (sound_formed T sound) in
      (λ e. ruled.1 (typed.0 (sym same ∙ e)), λ k. same ∙ typed.1 (ruled.0 k))

  -- there the report has one set, and the column rows show it
  pub accepted_shown : (c : ℕ) → permitted T c ≡ true → (S : ℕ → ℕ) → Rules T c S → S (report T) ≡ shown (column_rows T) c
  accepted_shown = rules_shown (sound_formed T sound)

  -- and are, word by word, the rows of the rules
  pub accepted_rows : (S : ℕ → ℕ → ℕ) → ((c : ℕ) → permitted T c ≡ true → Rules T c (S c)) → column_rows T ≡ ruled_rows T S
  accepted_rows = rules_rows (sound_formed T sound)
