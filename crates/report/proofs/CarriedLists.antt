-- A list of entries and what configuring writes of it: the entries that are kept at c, in order, their expression made 0.
use Prim.Native.Nat.{ℕ, zero, suc, ◌+◌, ◌*◌, ◌/◌, ◌%◌, ◌<◌, ◌≤◌}
use mathlib.Core.Path.{◌≡◌, refl, sym, ap, ap₂, ◌∙◌}
use mathlib.Core.Bool.{Bool, true, false, and-eq-true_iff}
use mathlib.Core.Logic.{◌≢◌}
use mathlib.Core.List.{List, [], ◌∷◌, ◌++◌}
use native.Mathlib.Nat.{le_refl, zero-lt-suc}
use native.Mathlib.Omega.{arith}
use lib.ListN.{length, get_or}
use Rattle.sets.proofs.SearchLaws.{nth, count_yes, count_no, count_lt, count_before}
use Rattle.sets.proofs.ListLaws.{kept_yes, kept_no}
use Rattle.report.specs.Tables.{Tables, entry_attribute, entry_expression, entry_count}
use Rattle.report.specs.Typing.{entry_holds, joined_set}
use Rattle.report.specs.PlainAlgebra.{set_from}
use Rattle.report.specs.Configuring.{entry_kept, entry_stays, all_stay, kept_length, kept_list}
use Rattle.report.specs.ConfiguredReport.{kept_attributes}
use Rattle.report.specs.Repeats.{repeats}
use Rattle.report.specs.Formed.{Formed}
use Rattle.report.proofs.FormedFacts.{entry_attribute_lem}
use Rattle.report.proofs.KeptLists.{kept_once, kept_alone, kept_joined}
use Rattle.report.proofs.RepeatLaws.{no_repeat}
use Rattle.report.proofs.KeptForms.{kept_all, forms_length, first_word}

-- ---- table 1 as pairs: an attribute below m, and expression 0

abbrev pub Pairs : ℕ → List ℕ → Type 0
Pairs m [] = Unit {0}
Pairs m (a ∷ []) = ⊥
Pairs m (a ∷ z ∷ l) = (a < m) × (z ≡ 0) × Pairs m l

pub pairs_join : (m : ℕ) (x y : List ℕ) → Pairs m x → Pairs m y → Pairs m (x ++ y)
pairs_join m [] y p q = q
pairs_join m (a ∷ []) y p q = absurd p
pairs_join m (a ∷ z ∷ x) y p q = (p.0, p.1, pairs_join m x y p.2 q)

pub pairs_even : (m : ℕ) (x : List ℕ) → Pairs m x → length x % 2 ≡ 0
pairs_even m [] p = refl
pairs_even m (a ∷ []) p = absurd p
pairs_even m (a ∷ z ∷ x) p = let e = pairs_even m x p.2 in omega arith

pub pairs_attribute : (m : ℕ) (x : List ℕ) → Pairs m x → (k : ℕ) → k < length x / 2 → entry_attribute x k < m
pairs_attribute m [] p k h = absurd (omega arith)
pairs_attribute m (a ∷ []) p k h = absurd p
pairs_attribute m (a ∷ z ∷ x) p zero h = p.0
pairs_attribute m (a ∷ z ∷ x) p (suc k) h =
    let e : suc k * 2 ≡ suc (suc (k * 2)) = omega arith in
    rw e (pairs_attribute m x p.2 k (omega arith))

pub pairs_expression : (m : ℕ) (x : List ℕ) → Pairs m x → (k : ℕ) → entry_expression x k ≡ 0
pairs_expression m [] p k = refl
pairs_expression m (a ∷ []) p k = absurd p
pairs_expression m (a ∷ z ∷ x) p zero = p.1
pairs_expression m (a ∷ z ∷ x) p (suc k) =
    let e : suc k * 2 + 1 ≡ suc (suc (k * 2 + 1)) = omega arith in
    ap (λ (j : ℕ). get_or (a ∷ z ∷ x) j 0) e ∙ pairs_expression m x p.2 k

-- ---- the list written

-- the words l stand in table 1 from entry `start` on
pub record Stands (entries : List ℕ) (start : ℕ) (l : List ℕ) : Type 0 where
  pub inside : start * 2 + length l ≤ length entries
  pub reads : (j : ℕ) → j < length l → get_or entries (start * 2 + j) 0 ≡ get_or l j 0

module _ (T : Tables) (c : ℕ) (stay : ℕ → Bool) (start count : ℕ) where
  -- what stays is kept
  kept_of : (i : ℕ) → entry_stays T c stay start i ≡ true → entry_kept T c start i ≡ true
  kept_of i e = ((and-eq-true_iff (stay (entry_attribute T.entries (start + i))) (entry_kept T c start i)).0 e).1

  abbrev pair_of : ℕ → List ℕ
  pair_of i = entry_attribute T.entries (start + i) ∷ 0 ∷ []

  pub list_length : length (kept_list T c stay start count) ≡ kept_length T c stay start count * 2
  list_length = forms_length (entry_stays T c stay start) pair_of 2 count (λ i h k. refl) (zero-lt-suc 1)

  -- entry i of the source is one of the list written, if it is kept
  list_attribute : (i : ℕ) → i < count → entry_stays T c stay start i ≡ true
      → get_or (kept_list T c stay start count) (kept_length T c stay start i * 2) 0 ≡ entry_attribute T.entries (start + i)
  list_attribute i h k = first_word (entry_stays T c stay start) pair_of 2 count (λ i h k. refl) (zero-lt-suc 1) i h k

  pub list_pairs : Formed T → start + count ≤ entry_count T → Pairs T.attributes (kept_list T c stay start count)
  list_pairs F l =
      kept_all (entry_stays T c stay start) pair_of (Pairs T.attributes) tt (pairs_join T.attributes) count
      (λ i h k. (entry_attribute_lem F (start + i) (omega arith), refl, tt))

  -- tables U in whose table 1 the list written stands from `new` on, all entries holding at 0
  module _ (U : Tables) (new : ℕ) (s : Stands U.entries new (kept_list T c stay start count)) where
    carried : (i : ℕ) → i < count → entry_stays T c stay start i ≡ true
        → entry_attribute U.entries (new + kept_length T c stay start i) ≡ entry_attribute T.entries (start + i)
    carried i h k =
        let m = count_lt (entry_stays T c stay start) i count h k in
        let e : (new + kept_length T c stay start i) * 2 ≡ new * 2 + kept_length T c stay start i * 2 = omega arith in
        ap (λ (x : ℕ). get_or U.entries x 0) e ∙ s.reads (kept_length T c stay start i * 2) (omega (arith, list_length)) ∙ list_attribute i h k

    pub carried_inside : new + kept_length T c stay start count ≤ entry_count U
    carried_inside = omega (arith, list_length, s.inside)

    -- no attribute is in it twice
    carried_once : (i j : ℕ) → i < j → j < kept_length T c stay start count → entry_attribute U.entries (new + i) ≢ entry_attribute U.entries (new + j)
    carried_once i j below h same =
        let p = nth (entry_stays T c stay start) count i (omega arith) in
        let q = nth (entry_stays T c stay start) count j h in
        kept_once T c start p.old q.old
        (count_before (entry_stays T c stay start) q.old p.old p.passed (let a = p.number in let b = q.number in omega arith))
        (kept_of p.old p.passed) (kept_of q.old q.passed)
        (sym (carried p.old p.below p.passed) ∙ ap (λ (x : ℕ). entry_attribute U.entries (new + x)) p.number ∙ same
        ∙ ap (λ (x : ℕ). entry_attribute U.entries (new + x)) (sym q.number) ∙ carried q.old q.below q.passed)

    pub carried_repeats : repeats U.entries new (kept_length T c stay start count) ≡ false
    carried_repeats = no_repeat U.entries new (kept_length T c stay start count) carried_once

    module _ (hold : (k : ℕ) → entry_holds U 0 k ≡ true) where
      -- all of it is kept
      carried_kept : (k : ℕ) → k < kept_length T c stay start count → entry_kept U 0 new k ≡ true
      carried_kept k h = kept_alone U 0 new k (λ j l. carried_once j k l h) ∙ hold (new + k)

      attributes_to : (n : ℕ) → n ≤ count → kept_attributes U 0 all_stay new (kept_length T c stay start n) ≡ kept_attributes T c stay start n
      unfolding kept_attributes
      attributes_to zero h = refl
      attributes_to (suc n) h = go (entry_stays T c stay start n) refl (attributes_to n (omega arith))
        where
          go : (t : Bool) → entry_stays T c stay start n ≡ t → kept_attributes U 0 all_stay new (kept_length T c stay start n) ≡ kept_attributes T c stay start n
              → kept_attributes U 0 all_stay new (kept_length T c stay start (suc n)) ≡ kept_attributes T c stay start (suc n)
          go true p ih =
              ap (kept_attributes U 0 all_stay new) (count_yes (entry_stays T c stay start) n p)
              ∙ kept_yes (entry_kept U 0 new) (λ i. entry_attribute U.entries (new + i) ∷ []) (kept_length T c stay start n)
              (carried_kept (kept_length T c stay start n) (count_lt (entry_stays T c stay start) n count h p))
              ∙ ap₂ ◌++◌ ih (ap (λ (a : ℕ). a ∷ []) (carried n h p))
              ∙ sym (kept_yes (entry_stays T c stay start) (λ i. entry_attribute T.entries (start + i) ∷ []) n p)
          go false p ih =
              ap (kept_attributes U 0 all_stay new) (count_no (entry_stays T c stay start) n p) ∙ ih
              ∙ sym (kept_no (entry_stays T c stay start) (λ i. entry_attribute T.entries (start + i) ∷ []) n p)

      -- its list of attributes, and its set, are those of the source's list at c
      pub carried_attributes : kept_attributes U 0 all_stay new (kept_length T c stay start count) ≡ kept_attributes T c stay start count
      carried_attributes = attributes_to count (le_refl count)

      pub carried_set : joined_set U 0 new (kept_length T c stay start count) ≡ set_from (kept_attributes T c stay start count)
      carried_set = sym (kept_joined U 0 new (kept_length T c stay start count)) ∙ ap set_from carried_attributes
