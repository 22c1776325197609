-- What each reading finds at fault (specs/Readings): the filled one what the strict one finds, less what the form finds somewhere.
use Prim.Native.Nat.{ℕ, zero, suc}
use mathlib.Core.Path.{◌≡◌, refl, sym, ap, ap₂, ◌∙◌}
use mathlib.Core.Bool.{Bool, true, false, cond, ◌&&◌, ◌||◌, not, and-eq-true_iff, false≢true}
use mathlib.Core.Logic.{◌↔◌, ◌≢◌}
use borrow.Author.Tests.{eqb-false, ne_eqb, not-true}
use lib.Dec.{eqb}
use lib.Bits.{bit_or}
use Rattle.sets.specs.Search.{some_below}
use Rattle.sets.specs.Bits.{bit, difference}
use Rattle.sets.proofs.SearchLaws.{some_below_suc}
use Rattle.sets.proofs.BitLaws.{bit_none, bit-or, difference_none, none_difference}
use Rattle.report.specs.Tables.{Tables}
use Rattle.report.specs.Expressions.{configurations}
use Rattle.report.specs.Typing.{reached, faults, fails}
use Rattle.report.specs.Readings.{found_in, found_below, spared, faults_by, fails_by}
use Rattle.report.specs.declared.Query.{Query}
use Rattle.report.specs.declared.Reading.{Reading}
use Rattle.report.proofs.LeadLaws.{form_at}

-- ---- what is found somewhere

-- a form of these kinds asks for what may be found elsewhere: 15 and 17
abbrev pub asks : Query → Bool
asks Query.Malformed = false
asks Query.Empty = false
asks (Query.Relation a) = true
asks (Query.Select a b) = false
asks (Query.Project a b) = true
asks (Query.Choice a b d) = false
asks (Query.Product a b) = false
asks (Query.Union a b) = false
asks (Query.Intersection a b) = false

module _ (T : Tables) where
  pub found_bit : (n q x : ℕ) → bit (found_below T n q) x ≡ some_below (λ c. reached T c q && bit (found_in T c q (form_at T q)) x) n
  unfolding found_below
  found_bit zero q x = bit_none x
  found_bit (suc n) q x =
      bit-or (found_below T n q) _ x
      ∙ ap₂ ◌||◌ (found_bit n q x) (go (reached T n q))
      ∙ sym (some_below_suc (λ c. reached T c q && bit (found_in T c q (form_at T q)) x) n)
    where
      go : (t : Bool) → bit (cond t (found_in T n q (form_at T q)) 0) x ≡ (t && bit (found_in T n q (form_at T q)) x)
      go true = refl
      go false = bit_none x

  found_other : (c q : ℕ) (y : Query) → asks y ≡ false → found_in T c q y ≡ 0
  found_other c q Query.Malformed e = refl
  found_other c q Query.Empty e = refl
  found_other c q (Query.Relation a) e = absurd (false≢true (sym e))
  found_other c q (Query.Select a b) e = refl
  found_other c q (Query.Project a b) e = absurd (false≢true (sym e))
  found_other c q (Query.Choice a b d) e = refl
  found_other c q (Query.Product a b) e = refl
  found_other c q (Query.Union a b) e = refl
  found_other c q (Query.Intersection a b) e = refl

  found_none : (n q : ℕ) → asks (form_at T q) ≡ false → found_below T n q ≡ 0
  unfolding found_below
  found_none zero q e = refl
  found_none (suc n) q e =
      ap₂ bit_or (found_none n q e) (go (reached T n q))
    where
      go : (t : Bool) → cond t (found_in T n q (form_at T q)) 0 ≡ 0
      go true = found_other n q (form_at T q) e
      go false = refl

  -- ---- faults

  module _ (R : Reading) where
    -- in the first phase: those of the strict reading, less what is spared
    pub faults-spared : (c q : ℕ) → faults_by T R c 0 q ≡ difference (faults T c 0 q) (spared T R q)
    unfolding spared
    faults-spared c q = go R
      where
        go : (R : Reading) → faults_by T R c 0 q ≡ difference (faults T c 0 q) (spared T R q)
        go Reading.Strict = sym (difference_none (faults T c 0 q))
        go Reading.Filled = refl

    -- in the others they are the same
    pub faults_later : (c phase q : ℕ) → faults_by T R c (suc phase) q ≡ faults T c (suc phase) q
    faults_later c phase q = go R
      where
        go : (R : Reading) → faults_by T R c (suc phase) q ≡ faults T c (suc phase) q
        go Reading.Strict = refl
        go Reading.Filled = refl

    -- of forms that ask for nothing of the kind the readings find the same
    pub faults_other : (c phase q : ℕ) → asks (form_at T q) ≡ false → faults_by T R c phase q ≡ faults T c phase q
    unfolding spared
    faults_other c zero q e = faults-spared c q ∙ ap (difference (faults T c 0 q)) (go R) ∙ difference_none (faults T c 0 q)
      where
        go : (R : Reading) → spared T R q ≡ 0
        go Reading.Strict = refl
        go Reading.Filled = found_none (configurations T) q e
    faults_other c (suc phase) q e = faults_later c phase q

    -- no reading finds what the strict one does not
    pub faults_fewer : (c phase q : ℕ) → faults T c phase q ≡ 0 → faults_by T R c phase q ≡ 0
    faults_fewer c zero q e = faults-spared c q ∙ ap (λ (x : ℕ). difference x (spared T R q)) e ∙ none_difference (spared T R q)
    faults_fewer c (suc phase) q e = faults_later c phase q ∙ e

    pub fails_later : (c phase q : ℕ) → fails_by T R c (suc phase) q ≡ fails T c (suc phase) q
    fails_later c phase q = ap (λ (x : ℕ). reached T c q && not (eqb x 0)) (faults_later c phase q)

    -- a form fails where it is reached and has a fault
    pub fails_by_lem : (c phase q : ℕ) → (fails_by T R c phase q ≡ true) ↔ ((reached T c q ≡ true) × (faults_by T R c phase q ≢ 0))
    fails_by_lem c phase q = (
      λ e. let p = (and-eq-true_iff (reached T c q) _).0 e in (p.0, eqb-false (faults_by T R c phase q) 0 (not-true _ p.1)),
      λ p. (and-eq-true_iff (reached T c q) _).1 (p.0, ap not (ne_eqb (faults_by T R c phase q) 0 p.1)),
    )

-- a form that fails in a reading fails in the strict one, at the same configuration and in the same phase
module _ (T : Tables) (R : Reading) (c phase q : ℕ) where
  pub fails_strictly : fails_by T R c phase q ≡ true → fails T c phase q ≡ true
  fails_strictly e =
      let p = (fails_by_lem T R c phase q).0 e in (fails_by_lem T Reading.Strict c phase q).1 (p.0, λ z. p.1 (faults_fewer T R c phase q z))

  pub fails_none : fails T c phase q ≡ false → fails_by T R c phase q ≡ false
  fails_none e = go (fails_by T R c phase q) refl
    where
      go : (t : Bool) → fails_by T R c phase q ≡ t → t ≡ false
      go true u = absurd (false≢true (sym e ∙ fails_strictly u))
      go false u = refl
