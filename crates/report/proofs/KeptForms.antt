-- Tables made of those forms of a table that are kept: how many there are, and the words of each (sets/proofs/ListLaws has the lists).
use Prim.Native.Nat.{ℕ, zero, suc, ◌+◌, ◌*◌, ◌/◌, ◌<◌, ◌≤◌}
use mathlib.Core.Path.{◌≡◌, refl, sym, ap, ◌∙◌}
use mathlib.Core.Bool.{Bool, true, false, cond}
use mathlib.Core.List.{List, [], ◌++◌}
use native.Mathlib.Nat.{le_refl, add-zero, mul-div_cancel}
use native.Mathlib.Omega.{arith}
use lib.ListN.{length, get_or, length-append}
use Rattle.sets.specs.Search.{count_below}
use Rattle.sets.specs.Lists.{kept}
use Rattle.sets.proofs.ListLaws.{kept-length, kept_word, kept_yes, kept_grows}
use Rattle.report.specs.Tables.{word}

module _ (keep : ℕ → Bool) (block : ℕ → List ℕ) where
  -- a list that is kept ends within the whole
  pub kept_inside : (n i : ℕ) → i < n → keep i ≡ true → length (kept keep block i) + length (block i) ≤ length (kept keep block n)
  kept_inside n i h k =
      let e = ap length (kept_yes keep block i k) ∙ length-append (kept keep block i) (block i) in
      let g = kept_grows keep block (suc i) n h in
      omega arith

  -- one list more adds at most its length
  pub kept_short : (n : ℕ) → length (kept keep block (suc n)) ≤ length (kept keep block n) + length (block n)
  kept_short n = go (keep n) (length-append (kept keep block n) (cond (keep n) (block n) []))
    where
      go : (t : Bool) → length (kept keep block (suc n)) ≡ length (kept keep block n) + length (cond t (block n) [])
          → length (kept keep block (suc n)) ≤ length (kept keep block n) + length (block n)
      go true e = omega arith
      go false e = omega arith

  -- a property of lists that joining preserves
  pub kept_all : (P : List ℕ → Type 0) → P [] → ((x y : List ℕ) → P x → P y → P (x ++ y)) → (n : ℕ) → ((i : ℕ) → i < n → keep i ≡ true → P (block i))
      → P (kept keep block n)
  kept_all P start join zero h = start
  kept_all P start join (suc n) h =
      join (kept keep block n) _ (kept_all P start join n (λ i l. h i (omega arith))) (go (keep n) (h n (le_refl (suc n))))
    where
      go : (t : Bool) → (t ≡ true → P (block n)) → P (cond t (block n) [])
      go true p = p refl
      go false p = start

  -- forms of w words
  module _ (w n : ℕ) (wide : (i : ℕ) → i < n → keep i ≡ true → length (block i) ≡ w) (some : 0 < w) where
    pub forms_length : length (kept keep block n) ≡ count_below keep n * w
    forms_length = kept-length keep block w n wide n (le_refl n)

    pub forms_count : length (kept keep block n) / w ≡ count_below keep n
    forms_count = ap (λ (l : ℕ). l / w) forms_length ∙ mul-div_cancel (count_below keep n) some

    module _ (i : ℕ) (h : i < n) (k : keep i ≡ true) where
      pub first_word : get_or (kept keep block n) (count_below keep i * w) 0 ≡ get_or (block i) 0 0
      first_word =
          ap (λ (x : ℕ). get_or (kept keep block n) x 0) (sym (add-zero (count_below keep i * w))) ∙ kept_word keep block w n wide 0 i 0 h k some

      pub form_word : (j : ℕ) → j < w → word (kept keep block n) w (count_below keep i) j ≡ get_or (block i) j 0
      form_word j l = kept_word keep block w n wide 0 i j h k l
