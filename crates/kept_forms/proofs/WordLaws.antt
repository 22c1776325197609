-- Laws of the words of comparisons, and of the loop that writes them.
use Prim.Native.Nat.{ℕ, zero, suc, ◌+◌, ◌*◌, ◌/◌, ◌<◌, ◌≤◌}
use mathlib.Core.Path.{◌≡◌, refl, sym, ap, ap₂, ◌∙◌}
use mathlib.Core.Bool.{Bool, true, false, cond, not}
use mathlib.Core.List.{List, [], ◌∷◌}
use native.Mathlib.Omega.{arith}
use lib.ListN.{length, get_or}
use Rattle.sets.specs.Lists.{concat}
use Rattle.sets.specs.Writing.{WrittenAt}
use Rattle.sets.proofs.WritingLaws.{same_written, same_room}
use Rattle.sets.proofs.WritingLaws.{Writing, writing_room, writing_more, writing_all}
use Rattle.report.specs.Tables.{Tables, word, all_zero, unused, comparison_of, comparison, expression_count}
use Rattle.report.specs.Operands.{comparison_operands, is_choice}
use Rattle.report.specs.Configuring.{comparison_kept, new_comparison, comparison_form_of}
use Rattle.report.specs.Formed.{OperandsBelow}
use Rattle.report.specs.declared.Comparison.{Comparison}
use Rattle.report.proofs.FormedFacts.{comparison_at, comparison_operands_lem}
use Rattle.kept_forms.specs.Numbering.{comparison_forms, ComparisonFormReads, ComparisonFormWritable}
use Rattle.kept_forms.specs.FormWords.{comparison_words, ComparisonSmall, ComparisonWritable}
use Rattle.kept_forms.proofs.NumberLaws.{comparison_in, comparison_is}

-- ---- the words of one comparison

-- the words of a table are small, and so are the numbers in a comparison
comparison_whole : (rest : List ℕ) (x : Comparison) → ComparisonSmall x → ComparisonSmall (unused Comparison.Malformed rest x)
comparison_whole rest x h = go (all_zero rest)
  where
    go : (t : Bool) → ComparisonSmall (cond t x Comparison.Malformed)
    go true = h
    go false = tt

comparison_of_small : (kind o a b c : ℕ) → (o < 65536) × (a < 65536) × (b < 65536) × (c < 65536) → ComparisonSmall (comparison_of kind o a b c)
comparison_of_small zero o a b c h = comparison_whole (o ∷ a ∷ b ∷ c ∷ []) Comparison.Never tt
comparison_of_small (suc zero) o a b c h = comparison_whole (o ∷ a ∷ b ∷ c ∷ []) Comparison.Always tt
comparison_of_small (suc (suc zero)) o a b c h = h
comparison_of_small (suc (suc (suc zero))) o a b c h = comparison_whole (c ∷ []) (Comparison.Attribute o a b) (h.0, h.1, h.2)
comparison_of_small (suc (suc (suc (suc zero)))) o a b c h = comparison_whole (o ∷ b ∷ c ∷ []) (Comparison.Not a) tt
comparison_of_small (suc (suc (suc (suc (suc zero))))) o a b c h = comparison_whole (o ∷ c ∷ []) (Comparison.And a b) tt
comparison_of_small (suc (suc (suc (suc (suc (suc zero)))))) o a b c h = comparison_whole (o ∷ c ∷ []) (Comparison.Or a b) tt
comparison_of_small (suc (suc (suc (suc (suc (suc (suc zero))))))) o a b c h = comparison_whole (o ∷ []) (Comparison.Choice a b c) tt
comparison_of_small (suc (suc (suc (suc (suc (suc (suc (suc kind)))))))) o a b c h = tt

comparison_small : (comparisons : List ℕ) (f : ℕ) → ((i : ℕ) → get_or comparisons i 0 < 65536) → ComparisonSmall (comparison comparisons f)
comparison_small comparisons f words =
    comparison_of_small (get_or comparisons (f * 5) 0) (word comparisons 5 f 1) (word comparisons 5 f 2) (word comparisons 5 f 3)
    (word comparisons 5 f 4)
    (words (f * 5 + 1), words (f * 5 + 2), words (f * 5 + 3), words (f * 5 + 4))

-- what a comparison writes: a choice nothing, any other its words
module _ (T : Tables) (c : ℕ) where
  abbrev comparison_part : ℕ → List ℕ
  comparison_part f = cond (comparison_kept T c f) (comparison_form_of T c (comparison T.comparisons f)) []

  comparison_words_lem : (numbers : List ℕ) (f : ℕ) → ((j : ℕ) → j < f → get_or numbers j 0 ≡ new_comparison T c j) → (y : Comparison)
      → OperandsBelow f (comparison_operands y)
      → cond (not (is_choice (comparison_operands y))) (comparison_form_of T c y) [] ≡ comparison_words numbers y
  comparison_words_lem numbers f each Comparison.Malformed l = refl
  comparison_words_lem numbers f each Comparison.Never l = refl
  comparison_words_lem numbers f each Comparison.Always l = refl
  comparison_words_lem numbers f each (Comparison.Constant o a b k) l = refl
  comparison_words_lem numbers f each (Comparison.Attribute o a b) l = refl
  comparison_words_lem numbers f each (Comparison.Not a) l = sym (ap (λ (i : ℕ). 4 ∷ 0 ∷ i ∷ 0 ∷ 0 ∷ []) (each a l))
  comparison_words_lem numbers f each (Comparison.And a b) l = sym (ap₂ (λ (i j : ℕ). 5 ∷ 0 ∷ i ∷ j ∷ 0 ∷ []) (each a l.0) (each b l.1))
  comparison_words_lem numbers f each (Comparison.Or a b) l = sym (ap₂ (λ (i j : ℕ). 6 ∷ 0 ∷ i ∷ j ∷ 0 ∷ []) (each a l.0) (each b l.1))
  comparison_words_lem numbers f each (Comparison.Choice a b d) l = refl

module _ {T : Tables} {c : ℕ} {comparisons numbers : List ℕ} (R : ComparisonFormReads T c comparisons numbers) where
  -- what all comparisons write, one after another
  comparison_text : comparison_forms T c ≡ concat (length comparisons / 5) (comparison_part T c)
  unfolding comparison_forms
  comparison_text = ap (λ (t : List ℕ). concat (length t / 5) (comparison_part T c)) (sym R.comparisons_are)

  module _ {f : ℕ} (h : f < length comparisons / 5) {x : Comparison} (e : x ≡ comparison comparisons f) where
    part_is : comparison_part T c f ≡ comparison_words numbers x
    part_is =
        let k = comparison_in R.comparisons_are f h in
        comparison_words_lem T c numbers f (λ j l. R.numbered.each j (omega arith)) (comparison T.comparisons f)
        (comparison_operands_lem R.formed f k)
        ∙ ap (comparison_words numbers) (sym (comparison_is R.comparisons_are f e))

-- ---- the loop over the comparisons

-- what those below f write stands at the front, up to p: for all tables that are read
pub record ComparisonWriting (comparisons numbers first out : List ℕ) (f p : ℕ) : Type 0 where
  pub each : (T : Tables) (c : ℕ) → ComparisonFormReads T c comparisons numbers
      → Writing (comparison_part T c) (length comparisons / 5) first 0 out f p

module _ {comparisons numbers first : List ℕ} where
  module _ {out : List ℕ} {f p : ℕ} (S : ComparisonWriting comparisons numbers first out f p) where
    module _ (h : f < length comparisons / 5) {x : Comparison} (e : x ≡ comparison comparisons f) where
      pub comparison_forms_read : ((i : ℕ) → get_or comparisons i 0 < 65536) → ComparisonFormWritable comparisons numbers first
          → ComparisonWritable numbers x out p
      comparison_forms_read words A =
          let R = A.reads in
          let n = comparison_in R.comparisons_are f h in
          record {
            attributes = A.tables.attributes;
            expressions = expression_count A.tables;
            form = f;
            lower = rw (comparison_is R.comparisons_are f e) (comparison_at R.formed f n);
            below = let m = R.numbered.room in omega arith;
            small = rw e (comparison_small comparisons f words);
            room =
                same_room (part_is R h e)
                (writing_room (S.each A.tables A.configuration R) (same_room (comparison_text R) A.room) h);
          }

      pub comparison_forms_more : {o : List ℕ} {q : ℕ} → WrittenAt (comparison_words numbers x) out p o q
          → ComparisonWriting comparisons numbers first o (f + 1) q
      comparison_forms_more w = record { each = λ T c R. writing_more (S.each T c R) h (same_written (part_is R h e) w) }

    pub comparison_forms_all : length comparisons / 5 ≤ f → (T : Tables) (c : ℕ) → ComparisonFormReads T c comparisons numbers
        → WrittenAt (comparison_forms T c) first 0 out p
    comparison_forms_all h T c R = same_written (comparison_text R) (writing_all (S.each T c R) h)
