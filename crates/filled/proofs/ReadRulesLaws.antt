-- Document 02, Wish 7, "Demand 2 holds by the reading's rules": the typing check accepts in a reading exactly where there are sets that keep its rules
-- (specs/ReadRules), and the column rows are those of any such sets.
use Rattle.std.specs.Prelude.{Ok}
use Prim.Native.Nat.{ℕ, zero, suc, ◌^◌, ◌<◌}
use mathlib.Core.Path.{◌≡◌, refl, sym, ap, ap₂, ◌∙◌, fun_ext}
use mathlib.Core.Bool.{Bool, true, false, cond, ◌&&◌, ◌||◌, not, and-eq-true_iff, false≢true}
use mathlib.Core.Logic.{◌↔◌, ◌≢◌}
use native.Mathlib.Omega.{arith}
use borrow.Author.Tests.{eqb-true, eq-eqb, not-false}
use lib.Dec.{eqb}
use lib.Bits.{bit_and, bit_or}
use Rattle.sets.specs.Lists.{concat}
use Rattle.sets.specs.Rows.{row_of}
use Rattle.sets.specs.Search.{some_below}
use Rattle.sets.specs.Bits.{bit, difference}
use Rattle.sets.proofs.BitLaws.{bit_none, bits_equal, bit-and, bit_pow, bit-difference, xor_zero}
use Rattle.sets.proofs.SearchLaws.{some_at}
use Rattle.report.specs.Tables.{Tables, query_count, report}
use Rattle.report.specs.Expressions.{configurations, permitted}
use Rattle.report.specs.Typing.{taken, reached, present, project_set, names, set_rule, set_of, faults_of, clashes_in, faults, fails}
use Rattle.report.specs.ColumnRows.{has_column, column_rows}
use Rattle.report.specs.Rules.{Rule, ruled_rows}
use Rattle.report.specs.Formed.{Formed}
use Rattle.report.specs.declared.Query.{Query}
use Rattle.report.proofs.ValueLaws.{strong}
use Rattle.report.proofs.StepLaws.{set_in}
use Rattle.report.proofs.SetLaws.{kept_sets}
use Rattle.report.proofs.KindMembers.{no_clash}
use Rattle.report.proofs.PassingOn.{passes_to, same_number, or_first, or_second}
use Rattle.report.proofs.LeadLaws.{form_at, passed_lower}
use Rattle.report.proofs.ReachLaws.{reached_in, reached_next, reached-report}
use Rattle.report.proofs.TreeLaws.{reached-permitted}
use Rattle.report.proofs.TypingLaws.{permitted_within, typing_accepted}
use Rattle.report.proofs.ReadingLaws.{asks, faults_other, fails_by_lem}
use Rattle.report.proofs.RulesLaws.{rules_sets, sets_rules, rules_exactly}
use Rattle.report.specs.declared.Reading.{Reading}
use Rattle.report.specs.Readings.{found_in, faults_by, fails_by}
use Rattle.report.specs.Checks.{typing_check}
use Rattle.filled.specs.ReadRules.{Present, Held, FilledRule, RulesBy}
use Rattle.filled.proofs.FilledLaws.{filled_bit, relation_fails, entry_fails}

-- ---- where nothing fails the definition's sets keep the rules

module _ (T : Tables) (c q : ℕ) (r : reached T c q ≡ true) where
  -- what is at fault strictly and not in this reading is found somewhere
  found : faults_by T Reading.Filled c 0 q ≡ 0 → (x : ℕ) → bit (faults T c 0 q) x ≡ true
      → (d : ℕ) × (reached T d q ≡ true) × (bit (found_in T d q (form_at T q)) x ≡ true)
  found z x e = go (some_below (λ d. reached T d q && bit (found_in T d q (form_at T q)) x) (configurations T)) refl
    where
      go : (t : Bool) → some_below (λ d. reached T d q && bit (found_in T d q (form_at T q)) x) (configurations T) ≡ t
          → (d : ℕ) × (reached T d q ≡ true) × (bit (found_in T d q (form_at T q)) x ≡ true)
      go true i =
          let s = some_at (λ d. reached T d q && bit (found_in T d q (form_at T q)) x) (configurations T) i in
          let p = (and-eq-true_iff (reached T s.0 q) _).0 s.2 in
          (s.0, p.0, p.1)
      go false i =
          absurd (false≢true (sym (bit_none x) ∙ ap (λ (y : ℕ). bit y x) (sym z) ∙ filled_bit T q c x ∙ ap₂ (λ (s t : Bool). s && not t) e i))

  module _ (z : faults_by T Reading.Filled c 0 q ≡ 0) where
    relation_present : (a : ℕ) → form_at T q ≡ Query.Relation a → Present T (set_of T) q a
    unfolding faults
    relation_present a e = go (present T c a) refl
      where
        is : (t : Bool) → bit (cond t (2 ^ a) 0) a ≡ true → t ≡ true
        is true u = refl
        is false u = absurd (false≢true (sym (bit_none a) ∙ u))

        go : (t : Bool) → present T c a ≡ t → Present T (set_of T) q a
        go true i = record { place = c; reaches = r; is_present = i }
        go false i =
            let f = found z a (ap (λ (y : Query). bit (faults_of T c q y) a) e ∙ ap (λ (t : Bool). bit (cond t 0 (2 ^ a)) a) i ∙ bit_pow a a ∙ eq-eqb a a refl) in
            record {
              place = f.0;
              reaches = f.1;
              is_present = is (present T f.0 a) (ap (λ (y : Query). bit (found_in T f.0 q y) a) (sym e) ∙ f.2);
            }

    entry_held : (a b : ℕ) → form_at T q ≡ Query.Project a b → (x : ℕ) → bit (project_set T c q a) x ≡ true → Held T (set_of T) q a b x
    unfolding faults
    entry_held a b e x l = go (bit (set_of T c b) x) refl
      where
        go : (t : Bool) → bit (set_of T c b) x ≡ t → Held T (set_of T) q a b x
        go true i = record { place = c; reaches = r; listed = l; has = i }
        go false i =
            let f = found z x
            (ap (λ (y : Query). bit (faults_of T c q y) x) e ∙ bit-difference (project_set T c q a) (set_of T c b) x
            ∙ ap₂ (λ (s t : Bool). s && not t) l i) in
            let p = (and-eq-true_iff (bit (project_set T f.0 q a) x) (bit (set_of T f.0 b) x)).0
            (sym (bit-and (project_set T f.0 q a) (set_of T f.0 b) x) ∙ ap (λ (y : Query). bit (found_in T f.0 q y) x) (sym e) ∙ f.2) in
            record { place = f.0; reaches = f.1; listed = p.0; has = p.1 }

-- a rule that the readings share
same_rule : (T : Tables) (S : ℕ → ℕ → ℕ) (c q : ℕ) (y : Query) → asks y ≡ false → Rule T c (S c) q y → FilledRule T S c q y
same_rule T S c q Query.Malformed e k = k
same_rule T S c q Query.Empty e k = k
same_rule T S c q (Query.Relation a) e k = absurd (false≢true (sym e))
same_rule T S c q (Query.Select a b) e k = k
same_rule T S c q (Query.Project a b) e k = absurd (false≢true (sym e))
same_rule T S c q (Query.Choice a b d) e k = k
same_rule T S c q (Query.Product a b) e k = k
same_rule T S c q (Query.Union a b) e k = k
same_rule T S c q (Query.Intersection a b) e k = k

module _ {T : Tables} (F : Formed T) where
  no_faults : (R : Reading) → typing_check T R ≡ Ok tt → (c q phase : ℕ) → reached T c q ≡ true → phase < 2 → faults_by T R c phase q ≡ 0
  no_faults R e c q phase r n =
      let ok = reached-permitted T c q r in
      let f = (typing_accepted T R).0 e c q phase (permitted_within T c ok) (reached_in F c ok q r) n in
      eqb-true _ 0 (not-false _ (sym (ap (λ (t : Bool). t && not (eqb (faults_by T R c phase q) 0)) r) ∙ f))

  filled_kept : typing_check T Reading.Filled ≡ Ok tt → (c q : ℕ) → reached T c q ≡ true → FilledRule T (set_of T) c q (form_at T q)
  filled_kept e c q r = go (form_at T q) refl
    where
      ok : permitted T c ≡ true
      ok = reached-permitted T c q r

      h : q < query_count T
      h = reached_in F c ok q r

      z : (phase : ℕ) → phase < 2 → faults_by T Reading.Filled c phase q ≡ 0
      z phase = no_faults Reading.Filled e c q phase r

      other : (y : Query) → form_at T q ≡ y → asks y ≡ false → FilledRule T (set_of T) c q y
      other y i o =
          let same : (phase : ℕ) → phase < 2 → faults T c phase q ≡ 0
          = λ phase n. sym (faults_other T Reading.Filled c phase q (ap asks i ∙ o)) ∙ z phase n in
          same_rule T (set_of T) c q y o
          (rw (← i) (kept_sets F c q h (ap₂ ◌&&◌ (eq-eqb _ 0 (same 0 (omega arith))) (eq-eqb _ 0 (same 1 (omega arith))))))

      go : (y : Query) → form_at T q ≡ y → FilledRule T (set_of T) c q y
      go (Query.Relation a) i = (relation_present T c q r (z 0 (omega arith)) a i, set_in F c q h ∙ ap (set_rule T c (set_of T c) q) i)
      go (Query.Project a b) i = (entry_held T c q r (z 0 (omega arith)) a b i, set_in F c q h ∙ ap (set_rule T c (set_of T c) q) i)
      go Query.Malformed i = other Query.Malformed i refl
      go Query.Empty i = other Query.Empty i refl
      go (Query.Select a b) i = other (Query.Select a b) i refl
      go (Query.Choice a b d) i = other (Query.Choice a b d) i refl
      go (Query.Product a b) i = other (Query.Product a b) i refl
      go (Query.Union a b) i = other (Query.Union a b) i refl
      go (Query.Intersection a b) i = other (Query.Intersection a b) i refl

  -- ---- sets that keep the rules are the definition's, and nothing fails

  module _ (S : ℕ → ℕ → ℕ) (keep : RulesBy T S Reading.Filled) where
    abbrev Same : ℕ → ℕ → Type 0
    Same c q = S c q ≡ set_of T c q

    both : (c a b : ℕ) → ((x : ℕ) → (eqb x a || eqb x b) ≡ true → Same c x) → Same c a × Same c b
    both c a b ih = (ih a (or_first _ _ (same_number a)), ih b (or_second (eqb b a) _ (same_number b)))

    set_same : (c q : ℕ) (y : Query) → ((x : ℕ) → passes_to T c x y ≡ true → Same c x) → set_of T c q ≡ set_rule T c (set_of T c) q y
        → FilledRule T S c q y → Same c q
    set_same c q Query.Malformed ih s k = absurd k
    set_same c q Query.Empty ih s k = k ∙ sym s
    set_same c q (Query.Relation a) ih s k = k.1 ∙ sym s
    set_same c q (Query.Select a b) ih s k = k.2 ∙ ih b (same_number b) ∙ sym s
    set_same c q (Query.Project a b) ih s k = k.1 ∙ ap (bit_and (project_set T c q a)) (ih b (same_number b)) ∙ sym s
    set_same c q (Query.Choice a b d) ih s k = k ∙ ih _ (same_number (taken T c a b d)) ∙ sym s
    set_same c q (Query.Product a b) ih s k = let e = both c a b ih in k.1 ∙ ap₂ bit_or e.0 e.1 ∙ sym s
    set_same c q (Query.Union a b) ih s k = k.1 ∙ (both c a b ih).0 ∙ sym s
    set_same c q (Query.Intersection a b) ih s k = k.1 ∙ (both c a b ih).0 ∙ sym s

    pub filled_sets : (c q : ℕ) → reached T c q ≡ true → S c q ≡ set_of T c q
    filled_sets c =
        strong (λ q. reached T c q ≡ true → S c q ≡ set_of T c q)
        (λ q ih r.
        let ok = reached-permitted T c q r in
        let h = reached_in F c ok q r in
        set_same c q (form_at T q) (λ x p. ih x (passed_lower F c x q h p) (reached_next F c ok x q r p)) (set_in F c q h) (keep c q r))

    -- the other rules: nothing is at fault strictly
    strictly : (c q : ℕ) (y : Query) → ((x : ℕ) → passes_to T c x y ≡ true → Same c x) → asks y ≡ false → FilledRule T S c q y
        → (faults_of T c q y ≡ 0) × (clashes_in T c y ≡ 0)
    strictly c q Query.Malformed ih o k = absurd k
    strictly c q Query.Empty ih o k = (refl, refl)
    strictly c q (Query.Relation a) ih o k = absurd (false≢true (sym o))
    strictly c q (Query.Select a b) ih o k = (
      ap (difference (names T c a)) (sym (ih b (same_number b))) ∙ eqb-true (difference (names T c a) (S c b)) 0 k.0,
      (no_clash T c a).1 k.1,
    )
    strictly c q (Query.Project a b) ih o k = absurd (false≢true (sym o))
    strictly c q (Query.Choice a b d) ih o k = (refl, refl)
    strictly c q (Query.Product a b) ih o k = let e = both c a b ih in (sym (ap₂ bit_and e.0 e.1) ∙ k.0, refl)
    strictly c q (Query.Union a b) ih o k =
        let e = both c a b ih in
        (eqb-true _ 0 (xor_zero (set_of T c a) (set_of T c b) ∙ eq-eqb (set_of T c a) (set_of T c b) (sym e.0 ∙ k.0 ∙ e.1)), refl)
    strictly c q (Query.Intersection a b) ih o k =
        let e = both c a b ih in
        (eqb-true _ 0 (xor_zero (set_of T c a) (set_of T c b) ∙ eq-eqb (set_of T c a) (set_of T c b) (sym e.0 ∙ k.0 ∙ e.1)), refl)

    no_fault : (c q phase : ℕ) → phase < 2 → reached T c q ≡ true → fails_by T Reading.Filled c phase q ≡ true → ⊥
    unfolding faults
    no_fault c q phase n r f = go phase n (form_at T q) refl (keep c q r) f
      where
        ok : permitted T c ≡ true
        ok = reached-permitted T c q r

        lower : (x : ℕ) → passes_to T c x (form_at T q) ≡ true → Same c x
        lower x p = filled_sets c x (reached_next F c ok x q r p)

        other : (phase : ℕ) → phase < 2 → (y : Query) → form_at T q ≡ y → asks y ≡ false → FilledRule T S c q y
            → fails_by T Reading.Filled c phase q ≡ true → ⊥
        other phase n y i o k f = fin phase n ((fails_by_lem T Reading.Filled c phase q).0 f).1
          where
            none : (faults_of T c q y ≡ 0) × (clashes_in T c y ≡ 0)
            none = strictly c q y (λ x p. lower x (ap (passes_to T c x) i ∙ p)) o k

            fin : (phase : ℕ) → phase < 2 → faults_by T Reading.Filled c phase q ≢ 0 → ⊥
            fin zero n u = u (faults_other T Reading.Filled c 0 q (ap asks i ∙ o) ∙ ap (faults_of T c q) i ∙ none.0)
            fin (suc zero) n u = u (ap (clashes_in T c) i ∙ none.1)
            fin (suc (suc phase)) n u = omega arith

        -- a relation and a project have no second phase
        second : (y : Query) → form_at T q ≡ y → clashes_in T c y ≡ 0 → fails_by T Reading.Filled c 1 q ≡ true → ⊥
        second y i e f = ((fails_by_lem T Reading.Filled c 1 q).0 f).1 (ap (clashes_in T c) i ∙ e)

        go : (phase : ℕ) → phase < 2 → (y : Query) → form_at T q ≡ y → FilledRule T S c q y → fails_by T Reading.Filled c phase q ≡ true → ⊥
        go zero n (Query.Relation a) i k f =
            let p = (relation_fails T q a i c).0 f in
            false≢true (sym (p.1 k.0.place k.0.reaches) ∙ k.0.is_present)
        go zero n (Query.Project a b) i k f = ((fails_by_lem T Reading.Filled c 0 q).0 f).1 (bits_equal _ 0 (λ x. bitless x (bit (faults_by T Reading.Filled c 0 q) x) refl ∙ sym (bit_none x)))
          where
            bitless : (x : ℕ) (t : Bool) → bit (faults_by T Reading.Filled c 0 q) x ≡ t → t ≡ false
            bitless x false u = refl
            bitless x true u =
                let p = (entry_fails T q a b i c x r).0 u in
                let w = k.0 x p.0 in
                let okd = reached-permitted T w.place q w.reaches in
                let same = filled_sets w.place b (reached_next F w.place okd b q w.reaches (ap (passes_to T w.place b) i ∙ same_number b)) in
                absurd (false≢true (sym (p.1 w.place w.reaches w.listed) ∙ ap (λ (y : ℕ). bit y x) (sym same) ∙ w.has))
        go (suc zero) n (Query.Relation a) i k f = second (Query.Relation a) i refl f
        go (suc zero) n (Query.Project a b) i k f = second (Query.Project a b) i refl f
        go (suc (suc phase)) n (Query.Relation a) i k f = omega arith
        go (suc (suc phase)) n (Query.Project a b) i k f = omega arith
        go phase n Query.Malformed i k f = other phase n Query.Malformed i refl k f
        go phase n Query.Empty i k f = other phase n Query.Empty i refl k f
        go phase n (Query.Select a b) i k f = other phase n (Query.Select a b) i refl k f
        go phase n (Query.Choice a b d) i k f = other phase n (Query.Choice a b d) i refl k f
        go phase n (Query.Product a b) i k f = other phase n (Query.Product a b) i refl k f
        go phase n (Query.Union a b) i k f = other phase n (Query.Union a b) i refl k f
        go phase n (Query.Intersection a b) i k f = other phase n (Query.Intersection a b) i refl k f

    filled_accepts : typing_check T Reading.Filled ≡ Ok tt
    filled_accepts = (typing_accepted T Reading.Filled).1 (λ c q phase h l n. go c q phase n (fails_by T Reading.Filled c phase q) refl)
      where
        go : (c q phase : ℕ) → phase < 2 → (t : Bool) → fails_by T Reading.Filled c phase q ≡ t → t ≡ false
        go c q phase n false f = refl
        go c q phase n true f = absurd (no_fault c q phase n ((fails_by_lem T Reading.Filled c phase q).0 f).0 f)

  -- ---- acceptance

  pub accepts_by : (R : Reading) → (typing_check T R ≡ Ok tt) ↔ ((S : ℕ → ℕ → ℕ) × RulesBy T S R)
  accepts_by Reading.Filled = (λ e. (set_of T, filled_kept e), λ p. filled_accepts p.0 p.1)
  accepts_by Reading.Strict = (
    λ e. (set_of T, λ c q r. let ok = reached-permitted T c q r in sets_rules F c ok (λ q phase. (typing_accepted T Reading.Strict).0 e c q phase (permitted_within T c ok)) q r),
    λ p. (typing_accepted T Reading.Strict).1
        (λ c q phase h l n. go p c q phase l n (fails T c phase q) refl),
  )
    where
      go : (p : (S : ℕ → ℕ → ℕ) × RulesBy T S Reading.Strict) (c q phase : ℕ) → q < query_count T → phase < 2
          → (t : Bool) → fails T c phase q ≡ t → t ≡ false
      go p c q phase l n false f = refl
      go p c q phase l n true f =
          let r = ((and-eq-true_iff (reached T c q) _).0 f).0 in
          let ok = reached-permitted T c q r in
          sym f ∙ (rules_exactly F c ok).0 (p.0 c, p.1 c) q phase l n

  -- ---- rows

  same_sets : (R : Reading) (S : ℕ → ℕ → ℕ) → RulesBy T S R → (c q : ℕ) → reached T c q ≡ true → S c q ≡ set_of T c q
  same_sets Reading.Filled S keep c q r = filled_sets S keep c q r
  same_sets Reading.Strict S keep c q r = (rules_sets F c (reached-permitted T c q r) (S c) (keep c) q r).0

  pub rows_by : (R : Reading) (S : ℕ → ℕ → ℕ) → RulesBy T S R → column_rows T ≡ ruled_rows T S
  unfolding column_rows
  rows_by R S keep = ap (concat 64) (fun_ext (λ a. ap (row_of 16) (fun_ext (column a))))
    where
      column : (a c : ℕ) → has_column T a c ≡ (permitted T c && bit (S c (report T)) a)
      column a c = go (permitted T c) refl
        where
          go : (t : Bool) → permitted T c ≡ t → (t && bit (set_of T c (report T)) a) ≡ (t && bit (S c (report T)) a)
          go true e = ap (λ (x : ℕ). bit x a) (sym (same_sets R S keep c (report T) (reached-report F c e)))
          go false e = refl
