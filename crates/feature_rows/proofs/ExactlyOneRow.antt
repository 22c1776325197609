-- The row of expression kind 6 in one pass over its features, for any number of words and of features.
use Prim.Native.Nat.{ℕ, zero, suc, ◌+◌}
use mathlib.Core.Path.{◌≡◌, refl, sym, ap, ap₂, ◌∙◌}
use mathlib.Core.Bool.{Bool, true, false, cond, ◌&&◌, ◌||◌, not, and-true, and-false, or-false}
use mathlib.Core.List.{List}
use native.Mathlib.Nat.{add-zero}
use native.Mathlib.Numerals.{add-one}
use native.Mathlib.Omega.{arith}
use borrow.Author.Tests.{leb-true, le-leb, ne_eqb}
use lib.Dec.{leb, eqb}
use Rattle.sets.specs.Bits.{bit}
use Rattle.sets.specs.Rows.{row_of, row_join, row_intersect, row_minus}
use Rattle.sets.proofs.SearchLaws.{same_truth}
use Rattle.sets.proofs.RowLaws.{row_of_same, join_row_of, intersect_row_of, minus_row_of}
use Rattle.report.specs.Expressions.{features_on, exactly_one_on}

-- ---- of k features on, and perhaps one more

-- more than l are on: more than l were, or at least l and one more is
one_more : (l k : ℕ) (t : Bool) → (leb (suc l) k || (leb l k && t)) ≡ leb (suc l) (k + cond t 1 0)
one_more l k true = go (leb (suc l) k) refl
  where
    go : (b : Bool) → leb (suc l) k ≡ b → (b || (leb l k && true)) ≡ leb (suc l) (k + 1)
    go true e = let h = leb-true (suc l) k e in sym (le-leb (suc l) (k + 1) (omega arith))
    go false e =
        and-true (leb l k)
        ∙ same_truth (leb l k) (leb (suc l) (k + 1))
        (λ p. let h = leb-true l k p in le-leb (suc l) (k + 1) (omega arith))
        (λ p. let h = leb-true (suc l) (k + 1) p in le-leb l k (omega arith))
one_more l k false =
    ap (λ (b : Bool). leb (suc l) k || b) (and-false (leb l k)) ∙ or-false (leb (suc l) k) ∙ ap (leb (suc l)) (sym (add-zero k))

-- the first that is on
first_on : (k : ℕ) (t : Bool) → (leb 1 k || t) ≡ leb 1 (k + cond t 1 0)
first_on k t = ap (λ (b : Bool). leb 1 k || (b && t)) (sym (le-leb 0 k (omega arith))) ∙ one_more 0 k t

one_alone : (k : ℕ) → (leb 1 k && not (leb 2 k)) ≡ eqb k 1
one_alone zero = refl
one_alone (suc zero) = refl
one_alone (suc (suc k)) =
    ap₂ (λ (a b : Bool). a && not b) (le-leb 1 (suc (suc k)) (omega arith)) (le-leb 2 (suc (suc k)) (omega arith))
    ∙ sym (ne_eqb (suc (suc k)) 1 (λ e. absurd (omega arith)))

-- ---- the pass

module _ (w first : ℕ) where
  -- at least so many of the first `count` features are on
  abbrev at_least : ℕ → ℕ → ℕ → Bool
  at_least least count c = leb least (features_on first count c)

  -- after `count` features: `some` has the configurations where one of them or more is on, `more` those where two or more are
  pub record Passed (count : ℕ) (some more : List ℕ) : Type 0 where
    pub some_is : some ≡ row_of w (at_least 1 count)
    pub more_is : more ≡ row_of w (at_least 2 count)

  module _ {count : ℕ} {some more : List ℕ} (P : Passed count some more) where
    pub passed_next : {on both some' more' : List ℕ} → on ≡ row_of w (λ c. bit c (first + count)) → both ≡ row_intersect w some on
        → more' ≡ row_join w more both → some' ≡ row_join w some on → Passed (count + 1) some' more'
    passed_next o b m s =
        rw (add-one count)
        (record {
          some_is =
              s ∙ ap₂ (row_join w) P.some_is o ∙ join_row_of w (at_least 1 count) (λ c. bit c (first + count))
              ∙ row_of_same w _ (at_least 1 (suc count)) (λ c h. first_on (features_on first count c) (bit c (first + count)));
          more_is =
              m
              ∙ ap₂ (row_join w) P.more_is
              (b ∙ ap₂ (row_intersect w) P.some_is o ∙ intersect_row_of w (at_least 1 count) (λ c. bit c (first + count)))
              ∙ join_row_of w (at_least 2 count) (λ c. at_least 1 count c && bit c (first + count))
              ∙ row_of_same w _ (at_least 2 (suc count)) (λ c h. one_more 1 (features_on first count c) (bit c (first + count)));
        })

    pub passed_all : row_minus w some more ≡ row_of w (exactly_one_on first count)
    passed_all =
        ap₂ (row_minus w) P.some_is P.more_is ∙ minus_row_of w (at_least 1 count) (at_least 2 count)
        ∙ row_of_same w _ (exactly_one_on first count) (λ c h. one_alone (features_on first count c))
