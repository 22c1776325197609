-- The lines of the page counted, and what the call answers and leaves.
use Rattle.std.specs.Prelude.{Ok, Err}
use Prim.Native.Nat.{ℕ, ◌*◌, ◌%◌, ◌^◌}
use mathlib.Core.Path.{◌≡◌, refl, sym, ap, ◌∙◌}
use mathlib.Core.List.{List}
use native.Mathlib.Omega.{arith}
use borrow.Author.Tests.{ltb-false}
use lib.Dec.{ltb}
use lib.ListN.{length}
use Rattle.sets.specs.Search.{count_below}
use Rattle.sets.specs.Writing.{Room, WrittenAt}
use Rattle.sets.proofs.WritingLaws.{from_start}
use Rattle.report.specs.Tables.{Tables}
use Rattle.report.specs.Expressions.{configurations, permitted}
use Rattle.report.specs.Configuring.{written}
use Rattle.report.specs.Verdicts.{Verdict, refusal, refuse_if, after}
use Rattle.report.specs.Calls.{answer}
use Rattle.report.specs.Formed.{Formed}
use Rattle.report.specs.declared.Refusal.{Refusal}
use Rattle.report.specs.declared.Reading.{Reading}
use Rattle.report.proofs.VerdictLaws.{if_accepted}
use Rattle.report.proofs.FirstFault.{first_none, first_one}
use Rattle.report.proofs.TypingLaws.{rows_length}
use Rattle.printing.specs.Page.{page}
use Rattle.printing.specs.PageRows.{page_text, permitted_count, PageRead}
use Rattle.printing.proofs.PageLaws.{text_length, rows_page, rows_count, page_bytes}
use Rattle.judging.specs.Judging.{report_check}
use Rattle.judging.proofs.JudgingLaws.{call_refused, call_late, Columns, shifted_configurations, shifted_few}
use Rattle.wall_page.specs.Page.{PageAnswer, line_count, writing_page, page_answer, PageWritten}

-- ---- the number of lines of the definition's page

line_count_lem : (T : Tables) → line_count T ≡ count_below (permitted T) (configurations T)
unfolding line_count
line_count_lem T = refl

pub page-length : {T : Tables} → Formed T → length (page T) ≡ line_count T * 73
page-length {T} F = page_bytes F ∙ ap (λ (k : ℕ). k * 73) (sym (line_count_lem T))

-- ---- the answer

module _ (T : Tables) (R : Reading) {checked : Verdict} (before : checked ≡ report_check T R) (lent : List ℕ) where
  -- what is promised, where the call's answer is known
  answered : {v : Verdict} → v ≡ answer T R (writing_page (length lent)) → {r : PageAnswer} {now : List ℕ} → r ≡ page_answer v (line_count T)
      → now ≡ after v (written (page T) lent) lent → PageWritten T R lent r now
  answered e f g = record {
    answers = f ∙ ap (λ (x : Verdict). page_answer x (line_count T)) e;
    stored = g ∙ ap (λ (x : Verdict). after x (written (page T) lent) lent) e;
  }

  -- a check of the report refuses
  pub refused_answers : {r : Refusal} → checked ≡ Err r → PageWritten T R lent (Err r) lent
  refused_answers f = answered (call_refused T R (writing_page (length lent)) first_none before f) refl refl

  module _ (passed : checked ≡ Ok tt) {permits columns : List ℕ} (C : Columns T permits columns) {lines : ℕ}
      (counted : lines ≡ permitted_count permits ((1 * 2 ^ T.features) % 2 ^ 64)) where
    all : (1 * 2 ^ T.features) % 2 ^ 64 ≡ configurations T
    all = shifted_configurations C.formed refl

    lines_are : lines ≡ line_count T
    lines_are =
        counted ∙ ap (permitted_count permits) all ∙ rows_count C.formed C.permitting C.shows ∙ sym (line_count_lem T)

    module _ {late : Verdict} (own : late ≡ refuse_if (ltb (length lent) (73 * lines)) (refusal 23 0 0 0)) where
      verdict : late ≡ answer T R (writing_page (length lent))
      verdict =
          own ∙ ap (λ (k : ℕ). refuse_if (ltb (length lent) (73 * k)) (refusal 23 0 0 0)) lines_are
          ∙ sym (first_one (ltb (length lent) (73 * line_count T)) (refusal 23 0 0 0))
          ∙ call_late T R (writing_page (length lent)) first_none before passed

      -- the answer, where the bytes are what the verdict leaves
      pub late_answers : {r : PageAnswer} {now : List ℕ} → r ≡ page_answer late lines → now ≡ after late (written (page T) lent) lent → PageWritten T R lent r now
      late_answers e g = answered verdict (e ∙ ap (page_answer late) lines_are) g

      module _ (f : late ≡ Ok tt) where
        room : Room (page_text permits ((1 * 2 ^ T.features) % 2 ^ 64) columns) lent 0
        room = record {
          fits =
              omega (
                arith,
                text_length permits ((1 * 2 ^ T.features) % 2 ^ 64) columns (shifted_few C.formed refl),
                counted,
                ltb-false (length lent) (73 * lines) (if_accepted (ltb (length lent) (73 * lines)) (refusal 23 0 0 0) (sym own ∙ f)),
              );
        }

        pub page_read : PageRead permits ((1 * 2 ^ T.features) % 2 ^ 64) columns lent 0
        page_read = record {
          long = ap length C.shows ∙ rows_length T;
          few = shifted_few C.formed refl;
          room = room;
        }

        pub page_left : {now : List ℕ} {r : ℕ} → WrittenAt (page_text permits ((1 * 2 ^ T.features) % 2 ^ 64) columns) lent 0 now r
            → now ≡ after late (written (page T) lent) lent
        page_left w =
            from_start room w
            ∙ ap (λ (text : List ℕ). written text lent)
            (ap (λ (k : ℕ). page_text permits k columns) all ∙ rows_page C.formed C.permitting C.shows)
            ∙ ap (λ (v : Verdict). after v (written (page T) lent) lent) (sym f)
