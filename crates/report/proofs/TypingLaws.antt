-- What the typing check accepts and what it names when it refuses; and what the column rows show.
use Rattle.std.specs.Prelude.{Option, Some, None, Ok, Err}
use Prim.Native.Nat.{ℕ, zero, suc, ◌<◌}
use mathlib.Core.Path.{◌≡◌, refl, sym, ap, ap₂, ◌∙◌, subst}
use mathlib.Core.Bool.{Bool, true, false, cond, ◌&&◌, not, and-eq-true_iff, false≢true}
use mathlib.Core.Logic.{◌↔◌, ◌≢◌}
use mathlib.Core.List.{List, [], append-nil}
use native.Mathlib.Nat.{lt_of_lt_of_le}
use native.Mathlib.Omega.{arith}
use borrow.Author.Tests.{ltb-true, eqb-true, eq-eqb, not-false}
use lib.ListN.{length}
use lib.Dec.{eqb}
use lib.Pow.{pow_mono}
use Rattle.sets.specs.Search.{lowest, First}
use Rattle.sets.specs.Bits.{bit}
use Rattle.sets.specs.Rows.{row_bit, row_in}
use Rattle.sets.proofs.SearchLaws.{lowest_nothing, nothing_lowest, lowest_at, at_lowest}
use Rattle.sets.proofs.BitLaws.{bit_none, bit_pow, bits_of_is, bits_of_none, trailing_first, trailing_member}
use Rattle.sets.proofs.ListLaws.{concat-length}
use Rattle.sets.proofs.RowLaws.{row_in-concat, row_bit-row_of, row_of_row}
use Rattle.report.specs.Tables.{Tables, kind_of, query_count, report}
use Rattle.report.specs.Expressions.{configurations, permitted}
use Rattle.report.specs.Typing.{reached, present, set_of, faults_of, faults_in, faults}
use Rattle.report.specs.Readings.{faults_by, fails_by}
use Rattle.report.specs.ColumnRows.{has_column, column_row, column_rows, shown}
use Rattle.report.specs.PlainAlgebra.{passes}
use Rattle.report.specs.ConfiguredReport.{configured_report, configured_schema}
use Rattle.report.specs.Verdicts.{Verdict, refusal, refuse_at}
use Rattle.report.specs.Checks.{rule_number, fault_number, fault_refusal, phase_at, typing_at, typing_check, is_of_typing, is_typing_fault}
use Rattle.report.specs.Formed.{Formed}
use Rattle.report.specs.TypingFaults.{TypingFault}
use Rattle.report.specs.declared.Query.{Query}
use Rattle.report.specs.declared.Refusal.{Refusal}
use Rattle.report.specs.declared.Reading.{Reading}
use Rattle.report.proofs.VerdictLaws.{accepted_not_refused, at_accepted, first_accepted, accepted_first, refused_first, first_refused}
use Rattle.report.proofs.FormedFacts.{report_in}
use Rattle.report.proofs.SetLaws.{set_narrow, narrow_word, narrow_by}
use Rattle.report.proofs.LeadLaws.{form_at}
use Rattle.report.proofs.TreeLaws.{reached-permitted, keeps_where, report-passes}
use Rattle.report.proofs.ReadingLaws.{asks, fails_by_lem, faults_fewer, faults_other}
use Rattle.report.proofs.FilledTrees.{node_keeps, filled_clean}
use Rattle.report.proofs.ReachLaws.{reached_in, reached-report}

-- ---- a permitted configuration is one

pub permitted_within : (T : Tables) (c : ℕ) → permitted T c ≡ true → c < configurations T
unfolding permitted
permitted_within T c e = ltb-true c (configurations T) ((and-eq-true_iff _ _).0 e).0

-- with up to 10 features it is one of 1,024
pub permitted_1024 : {T : Tables} → Formed T → (c : ℕ) → permitted T c ≡ true → c < 1024
permitted_1024 {T} F c e = lt_of_lt_of_le (permitted_within T c e) (pow_mono {j = 10} F.few)

-- a form fails at permitted configurations only
pub fails_permitted : (T : Tables) (R : Reading) (c phase q : ℕ) → fails_by T R c phase q ≡ true → permitted T c ≡ true
fails_permitted T R c phase q e = reached-permitted T c q ((fails_by_lem T R c phase q).0 e).0

-- ---- what the typing check accepts

module _ (T : Tables) (R : Reading) where
  phase_accepted : (q phase : ℕ) → (phase_at T R q phase ≡ Ok tt) ↔ ((c : ℕ) → c < configurations T → fails_by T R c phase q ≡ false)
  phase_accepted q phase = (
    λ e. lowest_nothing (λ c. fails_by T R c phase q) (configurations T) (at_accepted _ _ e),
    λ f. ap (refuse_at _) (nothing_lowest (λ c. fails_by T R c phase q) (configurations T) f),
  )

  form_accepted : (q : ℕ) → (typing_at T R q ≡ Ok tt) ↔ ((phase c : ℕ) → phase < 2 → c < configurations T → fails_by T R c phase q ≡ false)
  form_accepted q = (
    λ e phase c h. (phase_accepted q phase).0 (first_accepted (phase_at T R q) 2 0 e phase (omega arith) (omega arith)) c,
    λ f. accepted_first (phase_at T R q) 2 0 (λ phase l h. (phase_accepted q phase).1 (λ c. f phase c (omega arith))),
  )

  -- that no form fails at any configuration, in either phase
  pub typing_accepted : (typing_check T R ≡ Ok tt)
      ↔ ((c q phase : ℕ) → c < configurations T → q < query_count T → phase < 2 → fails_by T R c phase q ≡ false)
  unfolding typing_check
  typing_accepted = (
    λ e c q phase h l n. (form_accepted q).0 (first_accepted (typing_at T R) (query_count T) 0 e q (omega arith) (omega arith)) phase c n h,
    λ f. accepted_first (typing_at T R) (query_count T) 0 (λ q l h. (form_accepted q).1 (λ phase c n k. f c q phase k (omega arith) n)),
  )

module _ {T : Tables} (F : Formed T) where
  -- strictly, so that the configured report passes at every permitted configuration
  pub typing_passes : (typing_check T Reading.Strict ≡ Ok tt) ↔ ((c : ℕ) → permitted T c ≡ true → passes (kind_of T) (configured_schema T c) (configured_report T c Reading.Strict) ≡ true)
  typing_passes = (
    λ e c p. (report-passes F c p).1 (λ q phase. (typing_accepted T Reading.Strict).0 e c q phase (permitted_within T c p)),
    λ f. (typing_accepted T Reading.Strict).1
        (λ c q phase h l.
        (keeps_where T c q).1
        (λ r. let p = reached-permitted T c q r in (keeps_where T c q).0 (λ phase. (report-passes F c p).0 (f c p) q phase l) r) phase),
  )

  -- ---- what a reading accepts, configured in it anywhere permitted, passes the plain rules

  -- where a form does not fail in the filled reading its own node keeps its rule
  own_keeps : (c q : ℕ) → reached T c q ≡ true → ((phase : ℕ) → phase < 2 → fails_by T Reading.Filled c phase q ≡ false) → node_keeps F c q (form_at T q) ≡ true
  unfolding faults
  own_keeps c q r f = ap₂ ◌&&◌ (go (asks (form_at T q)) refl) (eq-eqb _ 0 (none 1 (omega arith)))
    where
      none : (phase : ℕ) → phase < 2 → faults_by T Reading.Filled c phase q ≡ 0
      none phase h = eqb-true _ 0 (not-false _ (sym (ap (λ (t : Bool). t && not (eqb (faults_by T Reading.Filled c phase q) 0)) r) ∙ f phase h))

      go : (t : Bool) → asks (form_at T q) ≡ t → eqb (cond t 0 (faults_of T c q (form_at T q))) 0 ≡ true
      go true e = refl
      go false e = eq-eqb _ 0 (sym (faults_other T Reading.Filled c 0 q e) ∙ none 0 (omega arith))

  pub typed_passes : (R : Reading) → typing_check T R ≡ Ok tt → (c : ℕ) → permitted T c ≡ true
      → passes (kind_of T) (configured_schema T c) (configured_report T c R) ≡ true
  typed_passes Reading.Strict e c ok = typing_passes.0 e c ok
  typed_passes Reading.Filled e c ok =
      filled_clean F c ok
      (λ x r. own_keeps c x r (λ phase. (typing_accepted T Reading.Filled).0 e c x phase (permitted_within T c ok) (reached_in F c ok x r)))
      (report T) (reached-report F c ok)

-- ---- what it names where it refuses

module _ (T : Tables) (R : Reading) where
  told_fault : (q phase c : ℕ) → q < query_count T → phase < 2 → First (λ d. fails_by T R d phase q) (configurations T) c
      → ((p : ℕ) → p < phase → phase_at T R q p ≡ Ok tt) → ((p : ℕ) → p < q → typing_at T R p ≡ Ok tt)
      → TypingFault T R (fault_refusal T R q phase c)
  told_fault q phase c h n f earlier before = record {
    inside = h;
    permits = fails_permitted T R c phase q f.holds;
    phase = phase;
    is_phase = n;
    failing = f.holds;
    numbered = refl;
    item_of = refl;
    lower_forms = λ p i d l. (form_accepted T R p).0 (before p l) i d;
    lower_phases = λ p d l. (phase_accepted T R q p).0 (earlier p l) d;
    lower_configurations = f.before;
  }

  phase_refused : (q phase : ℕ) (r : Refusal) → phase_at T R q phase ≡ Err r
      → (c : ℕ) × (First (λ d. fails_by T R d phase q) (configurations T) c) × (fault_refusal T R q phase c ≡ r)
  phase_refused q phase r e = go (lowest (λ c. fails_by T R c phase q) (configurations T)) refl e
    where
      go : (x : Option ℕ) → lowest (λ c. fails_by T R c phase q) (configurations T) ≡ x → refuse_at (fault_refusal T R q phase) x ≡ Err r
          → (c : ℕ) × (First (λ d. fails_by T R d phase q) (configurations T) c) × (fault_refusal T R q phase c ≡ r)
      go None p u = accepted_not_refused u refl
      go (Some c) p u = (c, lowest_at (λ d. fails_by T R d phase q) (configurations T) c p, cc)

  fault_of : (r : Refusal) → typing_check T R ≡ Err r → TypingFault T R r
  unfolding typing_check
  fault_of r e =
      let f = first_refused (typing_at T R) (query_count T) 0 r e in
      let g = first_refused (phase_at T R f.at) 2 0 r f.gave in
      let a = phase_refused f.at g.at r g.gave in
      let h = f.below in
      let n = g.below in
      subst (TypingFault T R) a.2
      (told_fault f.at g.at a.0 (omega arith) (omega arith) a.1 (λ p l. g.before p (omega arith) l) (λ p l. f.before p (omega arith) l))

  of_fault : (r : Refusal) → TypingFault T R r → typing_check T R ≡ Err r
  unfolding typing_check
  of_fault r f =
      let h = f.inside in
      let n = f.is_phase in
      refused_first (typing_at T R) (query_count T) 0 r.place r (omega arith) (omega arith)
      (λ q l k. (form_accepted T R q).1 (λ phase c. f.lower_forms q phase c k))
      (refused_first (phase_at T R r.place) 2 0 f.phase r (omega arith) (omega arith)
      (λ p l k. (phase_accepted T R r.place p).1 (λ c. f.lower_phases p c k))
      (ap (refuse_at (fault_refusal T R r.place f.phase))
      (at_lowest (λ c. fails_by T R c f.phase r.place) (configurations T) r.configuration
      (record { below = permitted_within T r.configuration f.permits; holds = f.failing; before = f.lower_configurations }))
      ∙ ap₂ (λ (n i : ℕ). Err (refusal n r.place i r.configuration)) (sym f.numbered) (sym f.item_of)))

  -- the typing check refuses by r exactly where r is that refusal, so there is one
  pub typing_refused : (r : Refusal) → (typing_check T R ≡ Err r) ↔ TypingFault T R r
  typing_refused r = (fault_of r, of_fault r)

  pub typing_one : (r s : Refusal) → TypingFault T R r → TypingFault T R s → r ≡ s
  typing_one r s f g = let p = of_fault r f in let q = of_fault s g in cc

  -- ---- its number, and its item

  rule_number_lem : (c q : ℕ) (x : Query) → faults_of T c q x ≢ 0 → is_of_typing (rule_number x) ≡ true
  rule_number_lem c q Query.Malformed f = absurd (f refl)
  rule_number_lem c q Query.Empty f = absurd (f refl)
  rule_number_lem c q (Query.Relation a) f = refl
  rule_number_lem c q (Query.Select a b) f = refl
  rule_number_lem c q (Query.Project a b) f = refl
  rule_number_lem c q (Query.Choice a b d) f = absurd (f refl)
  rule_number_lem c q (Query.Product a b) f = refl
  rule_number_lem c q (Query.Union a b) f = refl
  rule_number_lem c q (Query.Intersection a b) f = refl

  phase_number : (c phase q : ℕ) → faults T c phase q ≢ 0 → is_of_typing (fault_number phase (form_at T q)) ≡ true
  unfolding faults
  phase_number c zero q f = rule_number_lem c q (form_at T q) f
  phase_number c (suc phase) q f = refl

  -- the number is one of 15 to 19, or 25
  pub fault_number_lem : (r : Refusal) → TypingFault T R r → is_typing_fault (Err r) ≡ true
  fault_number_lem r f =
      ap is_of_typing f.numbered
      ∙ phase_number r.configuration f.phase r.place
      (λ z. ((fails_by_lem T R r.configuration f.phase r.place).0 f.failing).1 (faults_fewer T R r.configuration f.phase r.place z))

  -- so it accepts, or refuses for a typing fault
  pub fault_accepted : (is_typing_fault (typing_check T R) ≡ false) ↔ (typing_check T R ≡ Ok tt)
  fault_accepted = (forth (typing_check T R) refl, λ e. ap is_typing_fault e)
    where
      forth : (v : Verdict) → typing_check T R ≡ v → is_typing_fault v ≡ false → v ≡ Ok tt
      forth (Ok tt) e t = refl
      forth (Err r) e t = absurd (false≢true (sym t ∙ fault_number_lem r (fault_of r e)))

-- a form that fails anywhere is refused, or a lower one is
pub fails_refused : {T : Tables} → Formed T → (R : Reading) (c phase q : ℕ) → phase < 2 → fails_by T R c phase q ≡ true
    → is_typing_fault (typing_check T R) ≡ true
fails_refused {T} F R c phase q n f = go (typing_check T R) refl
  where
    go : (v : Verdict) → typing_check T R ≡ v → is_typing_fault v ≡ true
    go (Ok tt) e =
        let r = ((fails_by_lem T R c phase q).0 f).0 in
        let ok = reached-permitted T c q r in
        absurd (false≢true (sym ((typing_accepted T R).0 e c q phase (permitted_within T c ok) (reached_in F c ok q r) n) ∙ f))
    go (Err r) e = fault_number_lem T R r ((typing_refused T R r).0 e)

-- the item is the lowest of those at fault
module _ {T : Tables} (F : Formed T) {R : Reading} (r : Refusal) (f : TypingFault T R r) where
  pub fault_item : First (bit (faults_by T R r.configuration f.phase r.place)) 64 r.item
  fault_item =
      let s = narrow_by F R r.configuration f.phase r.place f.inside in
      let e = ((fails_by_lem T R r.configuration f.phase r.place).0 f.failing).1 in
      rw (f.item_of, trailing_member (faults_by T R r.configuration f.phase r.place) s e)
      (trailing_first 64 (faults_by T R r.configuration f.phase r.place) s e)

module _ {T : Tables} (F : Formed T) (r : Refusal) (f : TypingFault T Reading.Strict r) where
  -- strictly, of a relation form that is the relation, which is absent
  pub fault_relation : (a : ℕ) → form_at T r.place ≡ Query.Relation a → (r.item ≡ a) × (present T r.configuration a ≡ false)
  unfolding faults
  fault_relation a e =
      go f.phase (present T r.configuration a) refl
      (ap (λ (y : Query). bit (faults_in T r.configuration f.phase r.place y) r.item) (sym e) ∙ (fault_item F r f).holds)
    where
      none : bit 0 r.item ≡ true → ⊥
      none u = false≢true (sym (bit_none r.item) ∙ u)

      -- the second phase finds nothing in a relation form
      go : (phase : ℕ) (t : Bool) → present T r.configuration a ≡ t
          → bit (faults_in T r.configuration phase r.place (Query.Relation a)) r.item ≡ true
          → (r.item ≡ a) × (present T r.configuration a ≡ false)
      go zero true p u = absurd (none (rw p at u))
      go zero false p u = (eqb-true r.item a (sym (bit_pow a r.item) ∙ (rw p at u)), p)
      go (suc zero) t p u = absurd (none u)
      go (suc (suc phase)) t p u = absurd (none u)

-- ---- the column rows

module _ (T : Tables) where
  pub column_wide : (a : ℕ) → length (column_row T a) ≡ 16
  column_wide a = (row_of_row 16 (has_column T a)).size

  -- they are 1,024 words
  pub rows_length : length (column_rows T) ≡ 1024
  unfolding column_rows
  rows_length = concat-length (column_row T) 16 64 (λ a h. column_wide a)

  -- bit c of row a says whether c is permitted and the report's set at c has attribute a
  pub row_shows : (a c : ℕ) → a < 64 → c < 1024 → row_bit (row_in 16 (column_rows T) a) c ≡ has_column T a c
  unfolding column_rows
  row_shows a c h l =
      ap (λ (x : List ℕ). row_bit x c)
      (ap (λ (x : List ℕ). row_in 16 x a) (sym (append-nil (column_rows T))) ∙ row_in-concat 16 64 (column_row T) [] (λ i l. column_wide i) a h)
      ∙ row_bit-row_of 16 (has_column T a) c l

  -- they show nothing where c is not permitted
  pub shown_nothing : (c : ℕ) → c < 1024 → permitted T c ≡ false → shown (column_rows T) c ≡ 0
  shown_nothing c h e =
      bits_of_none 64 (λ a. row_bit (row_in 16 (column_rows T) a) c)
      (λ a l. row_shows a c l h ∙ ap (λ (t : Bool). t && bit (set_of T c (report T)) a) e)

-- and the report's set where it is
pub shown_columns : {T : Tables} → Formed T → (c : ℕ) → permitted T c ≡ true → shown (column_rows T) c ≡ set_of T c (report T)
shown_columns {T} F c e =
    bits_of_is 64 (set_of T c (report T)) (λ a. row_bit (row_in 16 (column_rows T) a) c) (narrow_word F (set_narrow F c (report T) (report_in F)))
    (λ a l. sym (row_shows T a c l (permitted_1024 F c e) ∙ ap (λ (t : Bool). t && bit (set_of T c (report T)) a) e))
