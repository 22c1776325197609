-- That what the calls write is the print of the answer.
use Rattle.std.specs.Prelude.{Ok, Err}
use Prim.Native.Nat.{ℕ, ◌*◌, ◌%◌, ◌^◌, ◌≤◌}
use mathlib.Core.Path.{◌≡◌, refl, sym, ap, ◌∙◌}
use mathlib.Core.List.{List, [], ◌∷◌}
use native.Mathlib.Omega.{arith}
use lib.ListN.{length, take}
use Rattle.sets.specs.Writing.{WrittenAt}
use Rattle.sets.proofs.WritingLaws.{from_start}
use Rattle.report.specs.Tables.{Tables}
use Rattle.report.specs.Expressions.{configurations, tables_under}
use Rattle.report.specs.Verdicts.{Verdict, or_else}
use Rattle.report.specs.Calls.{answer, checking}
use Rattle.report.specs.HarbourFile.{File, file_of}
use Rattle.report.specs.declared.Head.{Head}
use Rattle.report.specs.declared.Refusal.{Refusal}
use Rattle.report.specs.declared.Reading.{Reading}
use Rattle.report.proofs.VerdictLaws.{or_else_accepted}
use Rattle.report.proofs.FirstFault.{first_none, first_one}
use Rattle.report.proofs.TypingLaws.{rows_length}
use Rattle.judging.specs.Judging.{report_check}
use Rattle.judging.proofs.JudgingLaws.{call_parts, Columns, shifted_configurations, shifted_few}
use Rattle.writing.specs.Lines.{refusal_line, unread_line}
use Rattle.writing.proofs.LinePieces.{refusal_print, unread_print}
use Rattle.printing.specs.ColumnLines.{accepted_text, AcceptedRead}
use Rattle.printing.proofs.PrintLaws.{accepted_print, accepted_room}
use Rattle.printing.specs.PageRows.{page_text, PageRead}
use Rattle.printing.proofs.PageLaws.{rows_page, page_room}
use Rattle.harbour_file.specs.declared.Sizes.{Sizes}
use Rattle.harbour_file.specs.Filing.{head_of, FileWords, file_words, Held}
use Rattle.harbour_file.proofs.FileHeld.{held_tables}
use Rattle.harbour_print.specs.declared.Layout.{Layout}
use Rattle.harbour_print.specs.Layouts.{accepted_as, answer_as, file_as, text_as}
use Rattle.harbour_print.specs.Printing.{ColumnReads, Prints}

-- ---- a text at the start of lent bytes

-- what was written from the start, where there was room
pub prints : {text before after : List ℕ} {answer : ℕ} → length text ≤ 201653 → 201653 ≤ length before → WrittenAt text before 0 after answer
    → Prints text before after answer
prints h l w = record { long = omega (arith, w.place); stored = from_start (record { fits = omega arith }) w }

-- the same text under another name
same_prints : {xs ys before after : List ℕ} {answer : ℕ} → xs ≡ ys → Prints ys before after answer → Prints xs before after answer
same_prints e p = rw e p

-- a text that is the print of an accepted report in a layout
laid : (T : Tables) {layout known : Layout} → layout ≡ known → {text : List ℕ} → text ≡ accepted_as known T → {before after : List ℕ} {answer : ℕ}
    → Prints text before after answer → Prints (accepted_as layout T) before after answer
laid T e f = same_prints (ap (λ (x : Layout). accepted_as x T) e ∙ sym f)

-- ---- the print of an accepted report

module _ {T : Tables} {n : ℕ} {permits columns : List ℕ} (R : ColumnReads T n permits columns) where
  -- 1 << n is the number of configurations
  configurations_are : (1 * 2 ^ n) % 2 ^ 64 ≡ configurations T
  configurations_are = shifted_configurations R.formed R.features

  columns_few : (1 * 2 ^ n) % 2 ^ 64 ≤ 1024
  columns_few = shifted_few R.formed R.features

  columns_long : length columns ≡ 1024
  columns_long = ap length R.shows ∙ rows_length T

  module _ {out : List ℕ} (h : 201653 ≤ length out) where
    -- there is room for the print in each layout
    pub columns_read : AcceptedRead permits ((1 * 2 ^ n) % 2 ^ 64) columns out 0
    columns_read = record {
      long = columns_long;
      few = columns_few;
      room = record { fits = omega (arith, accepted_room permits ((1 * 2 ^ n) % 2 ^ 64) columns columns_few) };
    }

    pub page_read : PageRead permits ((1 * 2 ^ n) % 2 ^ 64) columns out 0
    page_read = record {
      long = columns_long;
      few = columns_few;
      room = record { fits = omega (arith, page_room permits ((1 * 2 ^ n) % 2 ^ 64) columns columns_few) };
    }

    -- what was written is the print in the layout
    pub columns_printed : {layout : Layout} → layout ≡ Layout.Columns → {o : List ℕ} {r : ℕ}
        → WrittenAt (accepted_text permits ((1 * 2 ^ n) % 2 ^ 64) columns) out 0 o r → Prints (accepted_as layout T) out o r
    columns_printed e w =
        laid T e (ap (λ (k : ℕ). accepted_text permits k columns) configurations_are ∙ accepted_print R.formed R.permitting R.shows)
        (prints (accepted_room permits ((1 * 2 ^ n) % 2 ^ 64) columns columns_few) h w)

    pub page_printed : {layout : Layout} → layout ≡ Layout.Page → {o : List ℕ} {r : ℕ}
        → WrittenAt (page_text permits ((1 * 2 ^ n) % 2 ^ 64) columns) out 0 o r → Prints (accepted_as layout T) out o r
    page_printed e w =
        laid T e (ap (λ (k : ℕ). page_text permits k columns) configurations_are ∙ rows_page R.formed R.permitting R.shows)
        (prints (omega (arith, page_room permits ((1 * 2 ^ n) % 2 ^ 64) columns columns_few)) h w)

-- ---- the print of the answer

-- the answer of a check with rows at their full length, which the print shows
checked : (T : Tables) → answer T Reading.Strict (checking 1024) ≡ report_check T Reading.Strict
checked T =
    call_parts T Reading.Strict (checking 1024) (first_one _ _) ∙ ap (or_else (report_check T Reading.Strict)) first_none ∙ or_else_accepted (report_check T Reading.Strict)

module _ (layout : Layout) (T : Tables) {v : Verdict} (own : v ≡ report_check T Reading.Strict) where
  answers : file_as layout (File.holds T) ≡ answer_as layout T v
  answers = ap (answer_as layout T) (checked T ∙ sym own)

  pub refusal_printed : {f : Refusal} → v ≡ Err f → {out o : List ℕ} {r : ℕ} → Prints (refusal_line f) out o r
      → Prints (file_as layout (File.holds T)) out o r
  refusal_printed {f} e = same_prints (answers ∙ ap (answer_as layout T) e ∙ refusal_print T f)

  pub acceptance_printed : v ≡ Ok tt → {out o : List ℕ} {r : ℕ} → Prints (accepted_as layout T) out o r
      → Prints (file_as layout (File.holds T)) out o r
  acceptance_printed e = same_prints (answers ∙ ap (answer_as layout T) e)

-- what the print reads of a report that has passed
pub accepted_reads : {T : Tables} {permits columns : List ℕ} → Columns T permits columns → ColumnReads T T.features permits columns
accepted_reads C = record { formed = C.formed; features = refl; permitting = C.permitting; shows = C.shows }

-- ---- the print of a file

-- the tables stand too where the head is decoded
pub held_decoded : {T : Tables} {sizes : Sizes} {words : FileWords} → Held T sizes words → {head : Head} → head ≡ head_of words.head
    → Held T sizes
    (file_words (head.features ∷ head.attributes ∷ head.model ∷ []) words.expressions words.entries words.relations words.comparisons
    words.queries words.kinds)
held_decoded H e = record {
  lengths = H.lengths;
  features = ap (λ (h : Head). h.features) e ∙ H.features;
  attributes = ap (λ (h : Head). h.attributes) e ∙ H.attributes;
  model = ap (λ (h : Head). h.model) e ∙ H.model;
  expressions_start = H.expressions_start;
  entries_start = H.entries_start;
  relations_start = H.relations_start;
  comparisons_start = H.comparisons_start;
  queries_start = H.queries_start;
  kinds_start = H.kinds_start;
  worked = H.worked;
}

-- the words that were read are the tables
pub held_printed : (layout : Layout) {T : Tables} {sizes : Sizes} {words : FileWords} → Held T sizes words → {head : Head} → head ≡ head_of words.head
    → {out o : List ℕ} {r : ℕ}
    → Prints
    (file_as layout
    (File.holds (tables_under head (take sizes.expressions words.expressions) (take sizes.entries words.entries)
    (take sizes.relations words.relations) (take sizes.comparisons words.comparisons) (take sizes.queries words.queries)
    (take sizes.kinds words.kinds))))
    out o r
    → Prints (file_as layout (File.holds T)) out o r
held_printed layout {sizes = sizes} {words = words} H e =
    same_prints
    (ap (λ (U : Tables). file_as layout (File.holds U))
    (sym
    (ap (λ (h : Head).
    tables_under h (take sizes.expressions words.expressions) (take sizes.entries words.entries)
    (take sizes.relations words.relations) (take sizes.comparisons words.comparisons) (take sizes.queries words.queries)
    (take sizes.kinds words.kinds)) e
    ∙ held_tables H)))

-- the print of what was read is the print of the text
module _ (layout : Layout) (text : List ℕ) {f : File} (e : file_of text ≡ f) {out o : List ℕ} {r : ℕ} where
  pub text_printed : Prints (file_as layout f) out o r → Prints (text_as layout text) out o r
  unfolding text_as
  text_printed = same_prints (ap (file_as layout) e)

  pub unread_printed : {n : ℕ} → f ≡ File.unread n → Prints (unread_line n) out o r → Prints (text_as layout text) out o r
  unread_printed {n} g p = text_printed (same_prints (ap (file_as layout) g ∙ unread_print n) p)
