-- What is printed in each layout.
use Rattle.std.specs.Prelude.{Ok, Err}
use Prim.Native.Nat.{ℕ, zero, suc}
use mathlib.Core.Path.{◌≡◌, refl, sym, ap, ap₂, ◌∙◌}
use mathlib.Core.Bool.{Bool, true, false, cond}
use mathlib.Core.List.{List, [], ◌∷◌, ◌++◌, append_assoc, append-nil}
use Rattle.sets.specs.Lists.{kept}
use Rattle.report.specs.Tables.{Tables, report}
use Rattle.report.specs.Expressions.{configurations, permitted}
use Rattle.report.specs.Typing.{set_of}
use Rattle.report.specs.Text.{bytes, line}
use Rattle.report.specs.Calls.{answer, checking}
use Rattle.report.specs.HarbourFile.{File, file_of}
use Rattle.report.specs.Print.{at_line, print_answer, print_file, print}
use Rattle.report.specs.Verdicts.{Verdict}
use Rattle.report.specs.declared.Reading.{Reading}
use Rattle.printing.specs.Page.{page_line, page}
use Rattle.harbour_print.specs.declared.Layout.{Layout}
use Rattle.harbour_print.specs.Layouts.{answer_as, file_as, text_as, ShownAt, shown_sets, texts_of, AnswersAgree, Agree}

answer_columns : (T : Tables) (v : Verdict) → answer_as Layout.Columns T v ≡ print_answer T v
answer_columns T (Ok tt) = refl
answer_columns T (Err r) = refl

file_columns : (f : File) → file_as Layout.Columns f ≡ print_file f
file_columns (File.unread n) = refl
file_columns (File.holds T) = answer_columns T (answer T Reading.Strict (checking 1024))

-- in the first layout, what `columns` printed before there was another
pub text_columns : (text : List ℕ) → text_as Layout.Columns text ≡ print text
unfolding text_as print
text_columns text = file_columns (file_of text)

-- ---- the two prints agree, line by line

module _ (text : ℕ → ℕ → List ℕ) where
  texts_append : (xs ys : List ShownAt) → texts_of text (xs ++ ys) ≡ texts_of text xs ++ texts_of text ys
  texts_append [] ys = refl
  texts_append (x ∷ xs) ys =
      ap (λ (l : List ℕ). text x.configuration x.set ++ l) (texts_append xs ys)
      ∙ sym (append_assoc (text x.configuration x.set) (texts_of text xs) (texts_of text ys))

  module _ (keep : ℕ → Bool) (set : ℕ → ℕ) where
    abbrev shown_at : ℕ → List ShownAt
    shown_at c = record { configuration = c; set = set c } ∷ []

    texts_kept : (n : ℕ) → texts_of text (kept keep shown_at n) ≡ kept keep (λ c. text c (set c)) n
    texts_kept zero = refl
    texts_kept (suc n) =
        texts_append (kept keep shown_at n) (cond (keep n) (shown_at n) []) ∙ ap₂ ◌++◌ (texts_kept n) (go (keep n))
      where
        go : (t : Bool) → texts_of text (cond t (shown_at n) []) ≡ cond t (text n (set n)) []
        go true = append-nil (text n (set n))
        go false = refl

-- the page, and what `columns` prints after its first line, are texts of the same configurations with the same sets
module _ (T : Tables) where
  pub page_texts : page T ≡ texts_of page_line (shown_sets T)
  unfolding page
  page_texts = sym (texts_kept page_line (permitted T) (λ c. set_of T c (report T)) (configurations T))

  pub columns_texts : print_answer T (Ok tt) ≡ line (bytes "accepted") [] ++ texts_of at_line (shown_sets T)
  columns_texts =
      ap (λ (l : List ℕ). line (bytes "accepted") [] ++ l) (sym (texts_kept at_line (permitted T) (λ c. set_of T c (report T)) (configurations T)))

answers_agree : (T : Tables) (v : Verdict) → AnswersAgree T v (answer_as Layout.Columns T v) (answer_as Layout.Page T v)
answers_agree T (Ok tt) = (columns_texts T, page_texts T)
answers_agree T (Err r) = (refl, refl)

files_agree : (f : File) → Agree f (file_as Layout.Columns f) (file_as Layout.Page f)
files_agree (File.unread n) = (refl, refl)
files_agree (File.holds T) = answers_agree T (answer T Reading.Strict (checking 1024))

-- what the two programs print for any text, by what it holds: the same line, or lines that agree
pub programs_agree : (text : List ℕ) → Agree (file_of text) (text_as Layout.Columns text) (text_as Layout.Page text)
unfolding text_as
programs_agree text = files_agree (file_of text)
