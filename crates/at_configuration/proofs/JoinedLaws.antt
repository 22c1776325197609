-- Laws of the joined set of a list, entry by entry.
use Prim.Native.Nat.{ℕ, ◌+◌, ◌^◌, ◌<◌, ◌≤◌}
use mathlib.Core.Path.{◌≡◌, refl, sym, ap, ap₂, ◌∙◌}
use mathlib.Core.Bool.{Bool, true, false, cond}
use mathlib.Core.List.{List}
use native.Mathlib.Numerals.{add-one}
use native.Mathlib.Omega.{arith}
use lib.Bits.{bit_or, or_zero_r}
use Rattle.report.specs.Tables.{Tables, entry_attribute}
use Rattle.report.specs.Typing.{entry_holds, joined_set}
use Rattle.at_configuration.specs.AtConfiguration.{ListReads}
use Rattle.at_configuration.proofs.ListLaws.{attribute_is, each_entry}

-- ---- one entry more

-- a set with an attribute more if a test holds
with_test : (bits a : ℕ) (t : Bool) → cond t (bit_or bits (2 ^ a)) bits ≡ bit_or bits (cond t (2 ^ a) 0)
with_test bits a true = refl
with_test bits a false = sym (or_zero_r bits)

module _ {T : Tables} {offset : ℕ} {expression_rows entries : List ℕ} {c start count : ℕ} (R : ListReads T offset expression_rows entries c start count)
    {i : ℕ} (h : i < count) {a : ℕ} (p : a ≡ entry_attribute entries (start + i)) {t : Bool} (d : t ≡ entry_holds T c (offset + start + i)) where
  entry_more : {bits after : ℕ} → bits ≡ joined_set T c (offset + start) i → after ≡ cond t (bit_or bits (2 ^ a)) bits
      → after ≡ joined_set T c (offset + start) (i + 1)
  unfolding joined_set
  entry_more {bits} s after =
      after ∙ with_test bits a t ∙ ap₂ bit_or s (ap₂ (λ (t : Bool) (b : ℕ). cond t (2 ^ b) 0) d (attribute_is R h p))
      ∙ ap (joined_set T c (offset + start)) (sym (add-one i))

-- ---- the loop over a list

-- of the `count` entries from `start` on the first i are joined
pub record EntriesJoined (expression_rows entries : List ℕ) (c start count bits i : ℕ) : Type 0 where
  pub most : i ≤ count
  pub joined : (T : Tables) (offset : ℕ) → ListReads T offset expression_rows entries c start count → bits ≡ joined_set T c (offset + start) i

module _ {expression_rows entries : List ℕ} {c start count bits : ℕ} where
  pub joined_none : bits ≡ 0 → EntriesJoined expression_rows entries c start count bits 0
  unfolding joined_set
  joined_none e = record { most = omega arith; joined = λ T offset R. e }

  module _ {i : ℕ} (S : EntriesJoined expression_rows entries c start count bits i) where
    pub joined_more : i < count → {a after : ℕ} {t : Bool} → a ≡ entry_attribute entries (start + i)
        → ((T : Tables) (offset : ℕ) → ListReads T offset expression_rows entries c start (i + 1) → t ≡ entry_holds T c (offset + start + i))
        → after ≡ cond t (bit_or bits (2 ^ a)) bits
        → EntriesJoined expression_rows entries c start count after (i + 1)
    joined_more h p d e = record {
      most = omega arith;
      joined = λ T offset R. entry_more R h p (d T offset (each_entry R h)) (S.joined T offset R) e;
    }
