-- H1 to H10 and the cases after them: each gives what docs/FORMAT.md says. By computation.
use Prim.Native.Nat.{ℕ, zero, suc, ◌+◌, ◌*◌, ◌/◌}
use lib.Dec.{eqb}
use borrow.Author.Tests.{eqb-true}
use mathlib.Core.Path.{◌≡◌, refl, sym, ap, ap₂, ◌∙◌, fun_ext}
use mathlib.Core.Bool.{Bool, true, false, cond, ◌&&◌}
use mathlib.Core.List.{List, [], ◌∷◌, ◌++◌, map}
use Rattle.sets.specs.Lists.{table, concat}
use Rattle.sets.specs.Bits.{bit, bits_of, digit}
use Rattle.sets.proofs.ListLaws.{concat_first, map-table}
use Rattle.sets.proofs.BitLaws.{bit_none, bit_suc}
use Rattle.report.specs.Tables.{Tables, report}
use Rattle.report.specs.Expressions.{holds, permitted}
use Rattle.report.specs.Typing.{gathered, compares, set_of, leads, reached, joined_set, faults}
use Rattle.report.specs.Readings.{found_below, spared}
use Rattle.report.specs.ColumnRows.{has_column, column_rows}
use Rattle.report.specs.Configuring.{comparison_target, query_target, entry_kept, configured}
use Rattle.report.specs.FormChecks.{form_check, tables_check, kinds_check, expressions_check, entries_check, relations_check, comparisons_check, queries_check, untaken_check}
use Rattle.report.specs.Verdicts.{◌gives◌, each, first_of}
use Rattle.report.specs.Checks.{typing_check}
use Rattle.report.specs.Conditions.{form_conditions}
use Rattle.report.specs.Calls.{answer_to}
use Rattle.report.specs.Text.{decimal, numbers_in}
use Rattle.report.specs.HarbourFile.{lines_of, file_lines, file_of}
use Rattle.report.specs.Print.{print}
use Rattle.report.specs.Examples.{Case, Outcome, outcome_by, outcome, Example, Hold, examples}

-- to unfold this is to unfold all that an outcome is computed with
unfoldable pub computed : Unit {0}
unfolding bits_of holds permitted gathered compares set_of leads reached joined_set faults found_below spared column_rows comparison_target query_target entry_kept configured form_check tables_check kinds_check expressions_check entries_check relations_check comparisons_check queries_check untaken_check typing_check ◌gives◌ form_conditions each first_of answer_to decimal numbers_in lines_of file_lines file_of print
computed = tt

-- ---- the column rows, each configuration's set worked out once

-- what the rows show at c: nothing where c is not permitted
abbrev shown_at : Tables → ℕ → ℕ
shown_at T c = cond (permitted T c) (set_of T c (report T)) 0

-- the word whose bits are attribute a's in each of the sets
abbrev word_from : ℕ → List ℕ → ℕ
word_from a [] = 0
word_from a (s ∷ sets) = word_from a sets * 2 + digit (bit s a)

-- a set before others; an empty one is left out where none stands after it
abbrev before : ℕ → List ℕ → List ℕ
before s [] = cond (eqb s 0) [] (s ∷ [])
before s (t ∷ sets) = s ∷ t ∷ sets

-- the sets without attribute 0, each other attribute one lower: soon nothing is left of them, and so of the rows to work out
abbrev lowered : List ℕ → List ℕ
lowered [] = []
lowered (s ∷ sets) = before (s / 2) (lowered sets)

-- the rows of the n lowest attributes, from the sets of each word
abbrev rows_from : ℕ → List (List ℕ) → List ℕ
rows_from zero words = []
rows_from (suc n) words = map (word_from 0) words ++ rows_from n (map lowered words)

unfoldable pub shared_rows : Tables → List ℕ
shared_rows T = rows_from 64 (table 16 (λ w. table 64 (λ j. shown_at T (w * 64 + j))))

-- the same word, bit by bit
word_from_lem : (a k : ℕ) (f : ℕ → ℕ) → word_from a (table k f) ≡ bits_of k (λ j. bit (f j) a)
unfolding bits_of
word_from_lem a zero f = refl
word_from_lem a (suc k) f = ap (λ (x : ℕ). x * 2 + digit (bit (f 0) a)) (word_from_lem a k (λ j. f (suc j)))

before_word : (a s : ℕ) (sets : List ℕ) → word_from a (before s sets) ≡ word_from a sets * 2 + digit (bit s a)
before_word a s [] = go (eqb s 0) refl
  where
    go : (t : Bool) → eqb s 0 ≡ t → word_from a (cond t [] (s ∷ [])) ≡ word_from a [] * 2 + digit (bit s a)
    go true e = ap (λ (b : Bool). word_from a [] * 2 + digit b) (sym (bit_none a) ∙ ap (λ (x : ℕ). bit x a) (sym (eqb-true s 0 e)))
    go false e = refl
before_word a s (t ∷ sets) = refl

lowered_word : (a : ℕ) (sets : List ℕ) → word_from a (lowered sets) ≡ word_from (suc a) sets
lowered_word a [] = refl
lowered_word a (s ∷ sets) =
    before_word a (s / 2) (lowered sets) ∙ ap₂ (λ (x : ℕ) (b : Bool). x * 2 + digit b) (lowered_word a sets) (sym (bit_suc s a))

lowered_words : (a : ℕ) (words : List (List ℕ)) → map (word_from a) (map lowered words) ≡ map (word_from (suc a)) words
lowered_words a [] = refl
lowered_words a (sets ∷ words) = ap₂ (λ (w : ℕ) (l : List ℕ). w ∷ l) (lowered_word a sets) (lowered_words a words)

rows_from_lem : (n : ℕ) (words : List (List ℕ)) → rows_from n words ≡ concat n (λ a. map (word_from a) words)
rows_from_lem zero words = refl
rows_from_lem (suc n) words =
    ap (λ (l : List ℕ). map (word_from 0) words ++ l)
    (rows_from_lem n (map lowered words) ∙ ap (concat n) (fun_ext (λ a. lowered_words a words)))
    ∙ sym (concat_first n (λ a. map (word_from a) words))

shown_bit : (T : Tables) (a c : ℕ) → bit (shown_at T c) a ≡ has_column T a c
shown_bit T a c = go (permitted T c)
  where
    go : (t : Bool) → bit (cond t (set_of T c (report T)) 0) a ≡ (t && bit (set_of T c (report T)) a)
    go true = refl
    go false = bit_none a

rows_shared : (T : Tables) → shared_rows T ≡ column_rows T
unfolding shared_rows column_rows
rows_shared T =
    rows_from_lem 64 (table 16 (λ w. table 64 (λ j. shown_at T (w * 64 + j))))
    ∙ ap (concat 64)
    (fun_ext
    (λ a. map-table (word_from a) 16 (λ w. table 64 (λ j. shown_at T (w * 64 + j)))
    ∙ ap (table 16)
    (fun_ext (λ w. word_from_lem a 64 (λ j. shown_at T (w * 64 + j)) ∙ ap (bits_of 64) (fun_ext (λ j. shown_bit T a (w * 64 + j)))))))

outcome_shared : outcome_by shared_rows ≡ outcome
outcome_shared = ap outcome_by (fun_ext rows_shared)

-- examples hold where they do so with the shared rows, by which they are computed
pub hold_shared : (xs : List Example) → map (λ (e : Example). outcome_by shared_rows e.of) xs ≡ map (λ (e : Example). e.gives) xs → Hold xs
hold_shared xs h = ap (λ (o : Case → Outcome). map (λ (e : Example). o e.of) xs) (sym outcome_shared) ∙ h

-- each of them gives what docs/FORMAT.md says
pub examples_hold : Hold examples
unfolding computed shared_rows
examples_hold = hold_shared examples refl
