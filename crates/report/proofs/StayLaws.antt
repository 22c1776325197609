-- What stays of a list, by its joined set (specs/Configuring; KeptLists): which attributes stay matters for those of that set alone, and as many entries
-- stay as attributes of it do.
use Prim.Native.Nat.{ℕ, zero, suc, ◌+◌, ◌-◌, ◌^◌, ◌<◌, ◌≤◌}
use mathlib.Core.Path.{◌≡◌, refl, sym, ap, ap₂, ◌∙◌}
use mathlib.Core.Bool.{Bool, true, false, ◌&&◌, and-true, and-false, and-eq-true_iff, or-false}
use mathlib.Core.Logic.{◌≢◌}
use mathlib.Core.List.{List, [], ◌∷◌}
use native.Mathlib.Omega.{arith}
use borrow.Author.Tests.{lt-ltb, ne_eqb}
use Rattle.sets.specs.Search.{count_below}
use Rattle.sets.specs.Bits.{bit, member_count}
use Rattle.sets.proofs.SearchLaws.{count_same, count_besides, count_yes, count_no}
use Rattle.sets.proofs.BitLaws.{bit-or, bit_pow, bit_ones}
use Rattle.sets.proofs.ListLaws.{kept_same, kept_no}
use Rattle.report.specs.Tables.{Tables, entry_attribute, entry_count}
use Rattle.report.specs.Typing.{joined_set}
use Rattle.report.specs.Configuring.{entry_kept, entry_stays, all_stay, kept_length, kept_list}
use Rattle.report.specs.ConfiguredReport.{kept_attributes}
use Rattle.report.specs.PlainAlgebra.{set_from}
use Rattle.report.specs.Formed.{Formed}
use Rattle.report.proofs.FormedFacts.{entry_narrow}
use Rattle.report.proofs.KeptLists.{kept_parts, joined_kept, kept_staying}
use Rattle.report.proofs.RulesMembers.{joined_members}

module _ (T : Tables) (c start : ℕ) where
  -- the attribute of entry i
  abbrev attribute : ℕ → ℕ
  attribute i = entry_attribute T.entries (start + i)

  -- an entry that is kept gives its attribute to the joined set
  kept_member : (count i : ℕ) → i < count → entry_kept T c start i ≡ true → bit (joined_set T c start count) (attribute i) ≡ true
  kept_member count i h k =
      (joined_members T c start count (attribute i)).1
      (record { number = i; below = h; holds = (kept_parts T c start i k).0; names = refl })

  -- ---- two tests that agree on the joined set

  module _ (count : ℕ) (stay stay' : ℕ → Bool) (same : (x : ℕ) → bit (joined_set T c start count) x ≡ true → stay x ≡ stay' x) where
    stays_same : (i : ℕ) → i < count → entry_stays T c stay start i ≡ entry_stays T c stay' start i
    stays_same i h = go (entry_kept T c start i) refl
      where
        go : (t : Bool) → entry_kept T c start i ≡ t → (stay (attribute i) && t) ≡ (stay' (attribute i) && t)
        go true k = ap (λ (s : Bool). s && true) (same (attribute i) (kept_member count i h k))
        go false k = and-false (stay (attribute i)) ∙ sym (and-false (stay' (attribute i)))

    pub list_same : kept_list T c stay start count ≡ kept_list T c stay' start count
    list_same = kept_same count stays_same (λ i h. refl)

    pub length_same : kept_length T c stay start count ≡ kept_length T c stay' start count
    length_same = count_same _ _ count stays_same

  module _ (F : Formed T) where
    -- the attributes of a list are among 64, so that with all of these all stay
    pub all_staying : (count : ℕ) → start + count ≤ entry_count T
        → kept_list T c (bit (2 ^ 64 - 1)) start count ≡ kept_list T c all_stay start count
    all_staying count h =
        list_same count (bit (2 ^ 64 - 1)) all_stay
        (λ x e. let m = (joined_members T c start count x).0 e in
        bit_ones 64 x ∙ lt-ltb x 64 (rw (← m.names) (entry_narrow F (start + m.number) (let l = m.below in omega arith))))

    -- ---- how many entries stay

    module _ (stay : ℕ → Bool) where
      -- attribute x is in the joined set of `count` entries, and stays
      abbrev joined_stays : ℕ → ℕ → Bool
      joined_stays count x = bit (joined_set T c start count) x && stay x

      -- an entry changes the joined set at its own attribute alone
      joined_other : (count x : ℕ) → entry_kept T c start count ≡ true → x ≢ attribute count
          → bit (joined_set T c start (suc count)) x ≡ bit (joined_set T c start count) x
      joined_other count x k d =
          ap (λ (y : ℕ). bit y x) (rw k at (joined_kept T c start count))
          ∙ bit-or (joined_set T c start count) (2 ^ attribute count) x
          ∙ rw (bit_pow (attribute count) x, ne_eqb x (attribute count) d) (or-false (bit (joined_set T c start count) x))

      pub stay_count : (count : ℕ) → start + count ≤ entry_count T → kept_length T c stay start count ≡ count_below (joined_stays count) 64
      unfolding joined_set kept_attributes
      stay_count zero h = refl
      stay_count (suc count) h = go (entry_stays T c stay start count) refl (stay_count count (omega arith))
        where
          go : (t : Bool) → entry_stays T c stay start count ≡ t → kept_length T c stay start count ≡ count_below (joined_stays count) 64
              → kept_length T c stay start (suc count) ≡ count_below (joined_stays (suc count)) 64
          go true e ih =
              let p = (and-eq-true_iff (stay (attribute count)) (entry_kept T c start count)).0 e in
              count_yes (entry_stays T c stay start) count e ∙ ap suc ih
              ∙ sym (count_besides (joined_stays count) (joined_stays (suc count)) (attribute count) 64 (entry_narrow F (start + count) (omega arith))
              (ap (λ (t : Bool). t && stay (attribute count)) (kept_parts T c start count p.1).1)
              (ap₂ ◌&&◌ (kept_member (suc count) count (omega arith) p.1) p.0)
              (λ x d. ap (λ (t : Bool). t && stay x) (joined_other count x p.1 d)))
          go false e ih =
              count_no (entry_stays T c stay start) count e ∙ ih
              ∙ count_same (joined_stays count) (joined_stays (suc count)) 64
              (λ x l. sym (kept_staying T c start stay count x) ∙ ap (λ (l : List ℕ). bit (set_from l) x) (sym (none e))
              ∙ kept_staying T c start stay (suc count) x)
            where
              none : entry_stays T c stay start count ≡ false → kept_attributes T c stay start (suc count) ≡ kept_attributes T c stay start count
              none = kept_no (entry_stays T c stay start) (λ i. attribute i ∷ []) count

    -- where all stay, as many as the joined set has attributes
    pub kept_count : (count : ℕ) → start + count ≤ entry_count T → kept_length T c all_stay start count ≡ member_count (joined_set T c start count)
    kept_count count h = stay_count all_stay count h ∙ count_same _ _ 64 (λ x l. and-true (bit (joined_set T c start count) x))
