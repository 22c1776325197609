-- The harbour text of tables is read back as the tables.
use Prim.Native.Nat.{ℕ, zero, suc, ◌+◌, ◌*◌, ◌/◌, ◌≤◌, ◌<◌, min}
use mathlib.Core.Path.{◌≡◌, refl, ap, ◌∙◌}
use mathlib.Core.Bool.{true}
use mathlib.Core.List.{List, [], ◌∷◌, ◌++◌, flatten}
use native.Mathlib.Nat.{suc-mul, mul-div_cancel}
use native.Mathlib.Omega.{arith}
use lib.ListN.{length, get_or, take, drop, replicate, length-drop, take-append-drop}
use lib.Seq.{length-take-le, get_or-take, get_or-drop}
use borrow.Author.Tests.{eq-eqb}
use Rattle.report.specs.Tables.{Tables, words}
use Rattle.report.specs.Expressions.{holds, tables_of}
use Rattle.report.specs.HarbourFile.{groups, File, tables_from, file_of}
use Rattle.report.proofs.TextLaws.{both, every}
use Rattle.report.proofs.LineLaws.{at_most_iff}
use Rattle.report.proofs.FileLaws.{group_at, group_wide, kinds_stand}
use Rattle.report.proofs.FormLines.{fits, tables_same, forms_text, forms_read}

-- n forms of w words
abbrev pub rows : ℕ → ℕ → List ℕ → List (List ℕ)
rows w zero t = []
rows w (suc n) t = take w t ∷ rows w n (drop w t)

rows_flatten : (w n : ℕ) (t : List ℕ) → length t ≡ n * w → flatten (rows w n t) ≡ t
unfolding flatten
rows_flatten w zero [] e = refl
rows_flatten w zero (x ∷ t) e = absurd (omega arith)
rows_flatten w (suc n) t e =
    ap (λ (l : List ℕ). take w t ++ l) (rows_flatten w n (drop w t) (length-drop w t ∙ omega (arith, suc-mul n w))) ∙ take-append-drop w t

rows_length : (w n : ℕ) (t : List ℕ) → length (rows w n t) ≡ n
rows_length w zero t = refl
rows_length w (suc n) t = ap suc (rows_length w n (drop w t))

rows_fit : (g n : ℕ) (t : List ℕ) → length t ≡ n * (group_at g).shape.width → ((i : ℕ) → i < length t → get_or t i 0 ≤ 65535)
    → every (fits g) (rows (group_at g).shape.width n t) ≡ true
rows_fit g zero t e h = refl
rows_fit g (suc n) t e h =
    let w = (group_at g).shape.width in
    let s : suc n * w ≡ n * w + w = suc-mul n w in
    let l : length (take w t) ≡ w = length-take-le w t (omega arith) in
    let d : length (drop w t) ≡ n * w = length-drop w t ∙ omega arith in
    both
    (both (eq-eqb (length (take w t)) w l) ((at_most_iff 65535 (take w t)).1 (λ i b. rw (get_or-take w t i 0 (omega arith)) (h i (omega arith)))))
    (rows_fit g n (drop w t) d (λ i b. rw (get_or-drop w t i 0) (h (w + i) (omega arith))))

-- the numbers of group g: the head's, those of tables 0 to 4, then the kind table's
abbrev pub part_of : Tables → ℕ → List ℕ
part_of T g = get_or (((T.features ∷ T.attributes ∷ T.model ∷ []) ∷ words T) ++ (T.kinds ∷ [])) g []

-- as forms
abbrev pub forms_of : Tables → ℕ → List (List ℕ)
forms_of T g = let w = (group_at g).shape.width in rows w (length (part_of T g) / w) (part_of T g)

-- the harbour text: the head line, then the forms of each table as lines
unfoldable pub text_of : Tables → List ℕ
text_of T = forms_text (forms_of T)

-- tables that a harbour text can hold: whole forms, no more than the range, words of at most 65535
pub record Writable (T : Tables) : Type 0 where
  pub count : ℕ → ℕ
  pub whole : (g : ℕ) → g < length groups → length (part_of T g) ≡ count g * (group_at g).shape.width
  pub range : (g : ℕ) → g < length groups → count g ≤ (group_at g).shape.most
  pub small : (g : ℕ) → g < length groups → (i : ℕ) → i < length (part_of T g) → get_or (part_of T g) i 0 ≤ 65535

module _ (T : Tables) (W : Writable T) where
  counted : (g : ℕ) → g < length groups → length (part_of T g) / (group_at g).shape.width ≡ W.count g
  counted g h = ap (λ (n : ℕ). n / (group_at g).shape.width) (W.whole g h) ∙ mul-div_cancel (W.count g) (group_wide g h)

  -- the text of tables is read: it holds their numbers
  text_read : length (text_of T) ≤ 65536 → file_of (text_of T) ≡ File.holds (tables_from (part_of T))
  unfolding text_of
  text_read short =
      forms_read (forms_of T)
      (record {
        fit = λ g h. rw (counted g h) (rows_fit g (W.count g) (part_of T g) (W.whole g h) (W.small g h));
        range = λ g h. rw (counted g h, rows_length (group_at g).shape.width (W.count g) (part_of T g)) (W.range g h);
        head = omega arith;
      })
      short
      ∙ ap File.holds (tables_same (λ g. flatten (forms_of T g)) (part_of T) back)
    where
      back : (g : ℕ) → g < length groups → flatten (forms_of T g) ≡ part_of T g
      back g h = rw (counted g h) (rows_flatten (group_at g).shape.width (W.count g) (part_of T g) (W.whole g h))

  -- so it is read back as the tables
  pub round_trip : T.truth ≡ holds T.expressions → (length T.kinds ≡ 0 → T.attributes ≡ 0) → length (text_of T) ≤ 65536
      → file_of (text_of T) ≡ File.holds T
  round_trip worked kinded short = text_read short ∙ rw (kinds_stand T.attributes T.kinds kinded, ← worked)

-- and a text without kind lines, as every text was before there were any, as tables whose kinds are all 0
pub kindless_trip : (n m model : ℕ) (expressions entries relations comparisons queries : List ℕ)
    → Writable (tables_of n m model expressions entries relations comparisons queries [])
    → length (text_of (tables_of n m model expressions entries relations comparisons queries [])) ≤ 65536
    → file_of (text_of (tables_of n m model expressions entries relations comparisons queries []))
    ≡ File.holds (tables_of n m model expressions entries relations comparisons queries (replicate (min m 64) 0))
kindless_trip n m model expressions entries relations comparisons queries =
    text_read (tables_of n m model expressions entries relations comparisons queries [])
