-- 15 and 17 in the filled reading, of a form, in the words of docs/FORMAT.md, "Readings": where each fails, and by which items.
use Prim.Native.Nat.{ℕ, ◌^◌}
use mathlib.Core.Path.{◌≡◌, refl, sym, ap, ap₂, ◌∙◌}
use mathlib.Core.Bool.{Bool, true, false, cond, ◌&&◌, not, and-eq-true_iff, false≢true}
use mathlib.Core.Logic.{◌↔◌, ◌≢◌}
use borrow.Author.Tests.{eqb-true, eq-eqb, not-true}
use lib.Bits.{bit_and}
use Rattle.sets.specs.Search.{some_below}
use Rattle.sets.specs.Bits.{bit, difference}
use Rattle.sets.proofs.SearchLaws.{some_none, none_some}
use Rattle.sets.proofs.BitLaws.{bit_none, bit-and, bit_pow, bit-difference, bits_equal}
use Rattle.report.specs.Tables.{Tables}
use Rattle.report.specs.Expressions.{configurations}
use Rattle.report.specs.Typing.{reached, present, project_set, set_of, faults_of, faults}
use Rattle.report.specs.Readings.{found_in, found_below, spared, faults_by, fails_by}
use Rattle.report.specs.declared.Query.{Query}
use Rattle.report.specs.declared.Reading.{Reading}
use Rattle.report.proofs.LeadLaws.{form_at}
use Rattle.report.proofs.TreeLaws.{reached-permitted}
use Rattle.report.proofs.TypingLaws.{permitted_within}
use Rattle.report.proofs.ReadingLaws.{found_bit, fails_by_lem}

-- a set that is not empty has a member
pub some_bit : (x : ℕ) → x ≢ 0 → ((i : ℕ) → bit x i ≡ false) → ⊥
some_bit x n f = n (bits_equal x 0 (λ i. f i ∙ sym (bit_none i)))

-- ---- "A relation form is refused (15) if, and only if, it is reached somewhere and absent everywhere it is reached"

module _ (T : Tables) (q : ℕ) where
  -- item x is at fault at c: strictly, and it is found nowhere that reaches the form
  pub filled_bit : (c x : ℕ) → bit (faults_by T Reading.Filled c 0 q) x
      ≡ (bit (faults T c 0 q) x && not (some_below (λ d. reached T d q && bit (found_in T d q (form_at T q)) x) (configurations T)))
  unfolding spared
  filled_bit c x =
      bit-difference (faults T c 0 q) (found_below T (configurations T) q) x
      ∙ ap (λ (t : Bool). bit (faults T c 0 q) x && not t) (found_bit T (configurations T) q x)

  -- not found below the bound: not found anywhere that reaches the form
  nowhere : (x : ℕ) → (some_below (λ d. reached T d q && bit (found_in T d q (form_at T q)) x) (configurations T) ≡ false)
      ↔ ((d : ℕ) → reached T d q ≡ true → bit (found_in T d q (form_at T q)) x ≡ false)
  nowhere x = (
    λ e d r. sym (ap (λ (t : Bool). t && bit (found_in T d q (form_at T q)) x) r)
        ∙ some_none (λ d. reached T d q && bit (found_in T d q (form_at T q)) x) (configurations T) e d (permitted_within T d (reached-permitted T d q r)),
    λ f. none_some (λ d. reached T d q && bit (found_in T d q (form_at T q)) x) (configurations T) (λ d h. go d (reached T d q) refl f),
  )
    where
      go : (d : ℕ) (t : Bool) → reached T d q ≡ t → ((d : ℕ) → reached T d q ≡ true → bit (found_in T d q (form_at T q)) x ≡ false)
          → (t && bit (found_in T d q (form_at T q)) x) ≡ false
      go d true r f = f d r
      go d false r f = refl

  pub filled_fault : (c x : ℕ) → (bit (faults_by T Reading.Filled c 0 q) x ≡ true)
      ↔ ((bit (faults T c 0 q) x ≡ true) × ((d : ℕ) → reached T d q ≡ true → bit (found_in T d q (form_at T q)) x ≡ false))
  filled_fault c x = (
    λ e. let p = (and-eq-true_iff (bit (faults T c 0 q) x) _).0 (sym (filled_bit c x) ∙ e) in (p.0, (nowhere x).0 (not-true _ p.1)),
    λ p. filled_bit c x ∙ (and-eq-true_iff (bit (faults T c 0 q) x) _).1 (p.0, ap not ((nowhere x).1 p.1)),
  )

  module _ (a : ℕ) (e : form_at T q ≡ Query.Relation a) where
    pub relation_faults : (c : ℕ) → faults T c 0 q ≡ cond (present T c a) 0 (2 ^ a)
    unfolding faults
    relation_faults c = ap (faults_of T c q) e

    relation_found : (c : ℕ) → found_in T c q (form_at T q) ≡ cond (present T c a) (2 ^ a) 0
    relation_found c = ap (found_in T c q) e

    -- it fails at c exactly where c reaches it and it is absent everywhere that it is reached
    pub relation_fails : (c : ℕ) → (fails_by T Reading.Filled c 0 q ≡ true)
        ↔ ((reached T c q ≡ true) × ((d : ℕ) → reached T d q ≡ true → present T d a ≡ false))
    relation_fails c = (
      λ u.
          let p = (fails_by_lem T Reading.Filled c 0 q).0 u in
          (p.0, λ d r. absent d r (present T d a) refl p.1),
      λ p. (fails_by_lem T Reading.Filled c 0 q).1 (
        p.0,
        λ z. false≢true (sym (bit_none a) ∙ ap (λ (x : ℕ). bit x a) (sym z)
            ∙ (filled_fault c a).1 (
              ap (λ (x : ℕ). bit x a) (relation_faults c ∙ ap (λ (t : Bool). cond t 0 (2 ^ a)) (p.1 c p.0)) ∙ bit_pow a a ∙ eq-eqb a a refl,
              λ d r. ap (λ (x : ℕ). bit x a) (relation_found d ∙ ap (λ (t : Bool). cond t (2 ^ a) 0) (p.1 d r)) ∙ bit_none a,
            )),
      ),
    )
      where
        -- if it were present at d nothing would be at fault
        absent : (d : ℕ) → reached T d q ≡ true → (t : Bool) → present T d a ≡ t → faults_by T Reading.Filled c 0 q ≢ 0 → t ≡ false
        absent d r false i n = refl
        absent d r true i n =
            absurd (some_bit (faults_by T Reading.Filled c 0 q) n (λ x. none x (bit (faults_by T Reading.Filled c 0 q) x) refl))
          where
            only : (x : ℕ) → (t : Bool) → bit (cond t 0 (2 ^ a)) x ≡ true → x ≡ a
            only x true u = absurd (false≢true (sym (bit_none x) ∙ u))
            only x false u = eqb-true x a (sym (bit_pow a x) ∙ u)

            none : (x : ℕ) (t : Bool) → bit (faults_by T Reading.Filled c 0 q) x ≡ t → t ≡ false
            none x false u = refl
            none x true u =
                let p = (filled_fault c x).0 u in
                let s = only x (present T c a) (ap (λ (y : ℕ). bit y x) (sym (relation_faults c)) ∙ p.0) in
                absurd (false≢true
                (sym (p.1 d r) ∙ ap (λ (y : ℕ). bit y x) (relation_found d ∙ ap (λ (t : Bool). cond t (2 ^ a) 0) i) ∙ bit_pow a x ∙ eq-eqb x a s))

  -- ---- "An entry of the joined list is refused (17) if, and only if, it holds somewhere reached and its attribute is missing at all such places"

  module _ (a b : ℕ) (e : form_at T q ≡ Query.Project a b) where
    project_faults : (c : ℕ) → faults T c 0 q ≡ difference (project_set T c q a) (set_of T c b)
    unfolding faults
    project_faults c = ap (faults_of T c q) e

    project_found : (c : ℕ) → found_in T c q (form_at T q) ≡ bit_and (project_set T c q a) (set_of T c b)
    project_found c = ap (found_in T c q) e

    -- attribute x is at fault at c, which reaches the form, exactly where the joined list has it and at every place that reaches the form and where the
    -- list has it the operand lacks it
    pub entry_fails : (c x : ℕ) → reached T c q ≡ true → (bit (faults_by T Reading.Filled c 0 q) x ≡ true)
        ↔ ((bit (project_set T c q a) x ≡ true)
        × ((d : ℕ) → reached T d q ≡ true → bit (project_set T d q a) x ≡ true → bit (set_of T d b) x ≡ false))
    entry_fails c x r = (
      λ u.
          let p = (filled_fault c x).0 u in
          let l = sym (bit-difference (project_set T c q a) (set_of T c b) x) ∙ ap (λ (y : ℕ). bit y x) (sym (project_faults c)) ∙ p.0 in (
            ((and-eq-true_iff (bit (project_set T c q a) x) _).0 l).0,
            λ d s i. sym (ap (λ (t : Bool). t && bit (set_of T d b) x) i) ∙ sym (bit-and (project_set T d q a) (set_of T d b) x)
                ∙ ap (λ (y : ℕ). bit y x) (sym (project_found d)) ∙ p.1 d s,
          ),
      λ p. (filled_fault c x).1 (
        ap (λ (y : ℕ). bit y x) (project_faults c) ∙ bit-difference (project_set T c q a) (set_of T c b) x
            ∙ ap₂ (λ (s t : Bool). s && not t) p.0 (p.1 c r p.0),
        λ d s. ap (λ (y : ℕ). bit y x) (project_found d) ∙ bit-and (project_set T d q a) (set_of T d b) x
            ∙ apart d s (bit (project_set T d q a) x) refl p.1,
      ),
    )
      where
        apart : (d : ℕ) → reached T d q ≡ true → (s : Bool) → bit (project_set T d q a) x ≡ s
            → ((d : ℕ) → reached T d q ≡ true → bit (project_set T d q a) x ≡ true → bit (set_of T d b) x ≡ false)
            → (s && bit (set_of T d b) x) ≡ false
        apart d r true i f = f d r i
        apart d r false i f = refl
