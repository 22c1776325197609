-- What is kept of a list at c (specs/Configuring) and its joined set (specs/Typing): what is kept has no attribute twice, and its set is the joined
-- set. Other proofs cite these laws, and do not ask whether a list has an attribute twice.
use Prim.Native.Nat.{ℕ, zero, suc, ◌+◌, ◌^◌, ◌<◌}
use mathlib.Core.Path.{◌≡◌, refl, sym, ap, ap₂, ◌∙◌}
use mathlib.Core.Bool.{Bool, true, false, cond, ◌&&◌, ◌||◌, not, and-true, and-false, and-eq-true_iff, false≢true}
use mathlib.Core.Logic.{◌≢◌, ◌↔◌}
use mathlib.Core.List.{List, [], ◌∷◌, ◌++◌}
use borrow.Author.Tests.{eqb-true, eq-eqb, ne_eqb, not-true}
use lib.Dec.{eqb}
use lib.Bits.{bit_or, or_zero_l, or_zero_r}
use Rattle.sets.specs.Search.{some_below}
use Rattle.sets.specs.Bits.{bit}
use Rattle.sets.proofs.SearchLaws.{some_none, none_some, some_below_suc}
use Rattle.sets.proofs.BitLaws.{bit_none, bits_equal, bit-or, bit_pow, or_assoc, or_member}
use Rattle.report.specs.Tables.{Tables, entry_attribute}
use Rattle.report.specs.Typing.{entry_holds, joined_set}
use Rattle.report.specs.PlainAlgebra.{set_from}
use Rattle.report.specs.Configuring.{gives_attribute, entry_kept, entry_stays, all_stay, staying, read_as}
use Rattle.report.specs.declared.Query.{Query}
use Rattle.report.specs.declared.Reading.{Reading}
use Rattle.report.specs.ConfiguredReport.{kept_attributes}

set_join : (x y : List ℕ) → set_from (x ++ y) ≡ bit_or (set_from x) (set_from y)
set_join [] y = sym (or_zero_l (set_from y))
set_join (a ∷ x) y = ap (bit_or (2 ^ a)) (set_join x y) ∙ sym (or_assoc (2 ^ a) (set_from x) (set_from y))

module _ (T : Tables) (c start : ℕ) where
  -- the attribute of entry i
  abbrev attribute : ℕ → ℕ
  attribute i = entry_attribute T.entries (start + i)

  -- an attribute is in the joined set when any of its entries holds
  pub joined_bit : (count a : ℕ) → bit (joined_set T c start count) a ≡ some_below (gives_attribute T c start a) count
  unfolding joined_set
  joined_bit zero a = bit_none a
  joined_bit (suc count) a =
      bit-or (joined_set T c start count) _ a
      ∙ ap₂ ◌||◌ (joined_bit count a) (one (entry_holds T c (start + count)))
      ∙ sym (some_below_suc (gives_attribute T c start a) count)
    where
      one : (t : Bool) → bit (cond t (2 ^ attribute count) 0) a ≡ (t && eqb a (attribute count))
      one true = bit_pow (attribute count) a
      one false = bit_none a

  -- ---- what is kept, by the joined set of the entries before

  pub kept_new : (i : ℕ) → entry_kept T c start i ≡ (entry_holds T c (start + i) && not (bit (joined_set T c start i) (attribute i)))
  unfolding entry_kept
  kept_new i = ap (λ (t : Bool). entry_holds T c (start + i) && not t) (sym (joined_bit i (attribute i)))

  pub kept_parts : (i : ℕ) → entry_kept T c start i ≡ true → (entry_holds T c (start + i) ≡ true) × (bit (joined_set T c start i) (attribute i) ≡ false)
  kept_parts i k = let p = (and-eq-true_iff _ _).0 (sym (kept_new i) ∙ k) in (p.0, not-true _ p.1)

  -- an entry adds its attribute where it is kept
  pub joined_kept : (count : ℕ)
      → joined_set T c start (suc count) ≡ bit_or (joined_set T c start count) (cond (entry_kept T c start count) (2 ^ attribute count) 0)
  unfolding joined_set
  joined_kept count =
      go (entry_holds T c (start + count)) (bit (joined_set T c start count) (attribute count)) refl
      ∙ ap (λ (t : Bool). bit_or (joined_set T c start count) (cond t (2 ^ attribute count) 0)) (sym (kept_new count))
    where
      go : (t s : Bool) → bit (joined_set T c start count) (attribute count) ≡ s
          → bit_or (joined_set T c start count) (cond t (2 ^ attribute count) 0)
          ≡ bit_or (joined_set T c start count) (cond (t && not s) (2 ^ attribute count) 0)
      go true true e = or_member (joined_set T c start count) (attribute count) e ∙ sym (or_zero_r (joined_set T c start count))
      go true false e = refl
      go false s e = refl

  -- "each attribute's first entry that holds"
  pub kept_first : (i : ℕ) → (entry_kept T c start i ≡ true)
      ↔ ((entry_holds T c (start + i) ≡ true) × ((j : ℕ) → j < i → entry_holds T c (start + j) ≡ true → attribute j ≢ attribute i))
  kept_first i = (
    λ k. ((kept_parts i k).0, λ j l h e. false≢true (sym (none k j l) ∙ ap₂ ◌&&◌ h (eq-eqb (attribute i) (attribute j) (sym e)))),
    λ p. kept_new i
        ∙ ap₂ (λ (s t : Bool). s && not t) p.0 (joined_bit i (attribute i) ∙ none_some (gives_attribute T c start (attribute i)) i (absent p)),
  )
    where
      none : entry_kept T c start i ≡ true → (j : ℕ) → j < i → gives_attribute T c start (attribute i) j ≡ false
      none k = some_none (gives_attribute T c start (attribute i)) i (sym (joined_bit i (attribute i)) ∙ (kept_parts i k).1)

      absent : (entry_holds T c (start + i) ≡ true) × ((j : ℕ) → j < i → entry_holds T c (start + j) ≡ true → attribute j ≢ attribute i)
          → (j : ℕ) → j < i → gives_attribute T c start (attribute i) j ≡ false
      absent p j l = go (entry_holds T c (start + j)) refl
        where
          go : (t : Bool) → entry_holds T c (start + j) ≡ t → (t && eqb (attribute i) (attribute j)) ≡ false
          go true h = ne_eqb (attribute i) (attribute j) (λ e. p.1 j l h (sym e))
          go false h = refl

  -- ---- what is kept has no attribute twice

  pub kept_once : (i j : ℕ) → i < j → entry_kept T c start i ≡ true → entry_kept T c start j ≡ true → attribute i ≢ attribute j
  kept_once i j l k m = ((kept_first j).0 m).1 i l (kept_parts i k).0

  -- where no entry before it has its attribute, an entry is kept if it holds
  pub kept_alone : (i : ℕ) → ((j : ℕ) → j < i → attribute j ≢ attribute i) → entry_kept T c start i ≡ entry_holds T c (start + i)
  kept_alone i h = go (entry_holds T c (start + i)) refl
    where
      go : (t : Bool) → entry_holds T c (start + i) ≡ t → entry_kept T c start i ≡ t
      go true e = (kept_first i).1 (e, λ j l g. h j l)
      go false e = kept_new i ∙ ap (λ (t : Bool). t && not (bit (joined_set T c start i) (attribute i))) e

  -- ---- its set is the joined set

  -- where some attributes stay, those of the joined set that stay
  pub kept_staying : (stay : ℕ → Bool) (count x : ℕ)
      → bit (set_from (kept_attributes T c stay start count)) x ≡ (bit (joined_set T c start count) x && stay x)
  unfolding kept_attributes joined_set
  kept_staying stay zero x = bit_none x ∙ sym (ap (λ (t : Bool). t && stay x) (bit_none x))
  kept_staying stay (suc count) x =
      ap (λ (y : ℕ). bit y x) (set_join (kept_attributes T c stay start count) _)
      ∙ bit-or (set_from (kept_attributes T c stay start count)) _ x
      ∙ ap₂ ◌||◌ (kept_staying stay count x) (one (entry_stays T c stay start count))
      ∙ go (eqb x (attribute count)) refl (bit (joined_set T c start count) x) (entry_kept T c start count)
      ∙ sym (ap (λ (t : Bool). t && stay x)
      (ap (λ (y : ℕ). bit y x) (joined_kept count) ∙ bit-or (joined_set T c start count) _ x ∙ ap (λ (t : Bool). bit (joined_set T c start count) x || t) (two (entry_kept T c start count))))
    where
      one : (t : Bool) → bit (set_from (cond t (attribute count ∷ []) [])) x ≡ (t && eqb x (attribute count))
      one true = ap (λ (y : ℕ). bit y x) (or_zero_r (2 ^ attribute count)) ∙ bit_pow (attribute count) x
      one false = bit_none x

      two : (t : Bool) → bit (cond t (2 ^ attribute count) 0) x ≡ (t && eqb x (attribute count))
      two true = bit_pow (attribute count) x
      two false = bit_none x

      spread : (j s k : Bool) → ((j && s) || ((s && k) && true)) ≡ ((j || (k && true)) && s)
      spread true true k = refl
      spread true false k = refl
      spread false true k = sym (and-true (k && true))
      spread false false k = sym (and-false (k && true))

      keep : (j s u k : Bool) → ((j && s) || ((u && k) && false)) ≡ ((j || (k && false)) && s)
      keep true true u k = refl
      keep true false u k = and-false (u && k)
      keep false s u k = and-false (u && k) ∙ sym (ap (λ (t : Bool). t && s) (and-false k))

      go : (t : Bool) → eqb x (attribute count) ≡ t → (j k : Bool)
          → ((j && stay x) || ((stay (attribute count) && k) && t)) ≡ ((j || (k && t)) && stay x)
      go true e j k = ap (λ (a : ℕ). (j && stay x) || ((stay a && k) && true)) (sym (eqb-true x (attribute count) e)) ∙ spread j (stay x) k
      go false e j k = keep j (stay x) (stay (attribute count)) k

  pub kept_joined : (count : ℕ) → set_from (kept_attributes T c all_stay start count) ≡ joined_set T c start count
  kept_joined count = bits_equal _ _ (λ x. kept_staying all_stay count x ∙ and-true (bit (joined_set T c start count) x))

-- ---- in the strict reading all attributes stay, and each form is written as it is

pub strict_staying : (T : Tables) (c : ℕ) (y : Query) → staying T c Reading.Strict y ≡ all_stay
strict_staying T c Query.Malformed = refl
strict_staying T c Query.Empty = refl
strict_staying T c (Query.Relation a) = refl
strict_staying T c (Query.Select a b) = refl
strict_staying T c (Query.Project a b) = refl
strict_staying T c (Query.Choice a b d) = refl
strict_staying T c (Query.Product a b) = refl
strict_staying T c (Query.Union a b) = refl
strict_staying T c (Query.Intersection a b) = refl

pub strict_read : (T : Tables) (c : ℕ) (y : Query) → read_as T c Reading.Strict y ≡ y
strict_read T c Query.Malformed = refl
strict_read T c Query.Empty = refl
strict_read T c (Query.Relation a) = refl
strict_read T c (Query.Select a b) = refl
strict_read T c (Query.Project a b) = refl
strict_read T c (Query.Choice a b d) = refl
strict_read T c (Query.Product a b) = refl
strict_read T c (Query.Union a b) = refl
strict_read T c (Query.Intersection a b) = refl
