-- How the parts of finding make its answer.
use Rattle.std.specs.Prelude.{Ok, Err, Option}
use Prim.Native.Nat.{ℕ, ◌<◌}
use mathlib.Core.Path.{◌≡◌, refl, sym, ap, ap₂, ◌∙◌}
use mathlib.Core.Bool.{Bool, true, false, ◌&&◌}
use mathlib.Core.List.{List}
use lib.Pow.{pow_mono}
use Rattle.sets.specs.Bits.{subset, has_from}
use Rattle.sets.specs.Rows.{row_of}
use Rattle.sets.proofs.SearchLaws.{lowest_same, lowest_narrow}
use Rattle.sets.proofs.RowLaws.{row_bit-row_of}
use Rattle.report.specs.Tables.{Tables, report}
use Rattle.report.specs.Expressions.{configurations, permitted}
use Rattle.report.specs.Typing.{set_of}
use Rattle.report.specs.ColumnRows.{column_rows, shown}
use Rattle.report.specs.Verdicts.{Verdict, refusal, refuse_if}
use Rattle.report.specs.Formed.{Formed}
use Rattle.report.specs.Calls.{answer}
use Rattle.report.specs.declared.Refusal.{Refusal}
use Rattle.report.specs.declared.Reading.{Reading}
use Rattle.report.proofs.FirstFault.{first_none, first_one}
use Rattle.report.proofs.TypingLaws.{shown_columns}
use Rattle.expression_rows.proofs.PermittedLaws.{permitted_out}
use Rattle.judging.specs.Judging.{report_check}
use Rattle.judging.proofs.JudgingLaws.{call_refused, call_late, Columns}
use Rattle.finding.specs.Finding.{finding, has_wanted, lowest_wanted, found_answer, Finds}
use Rattle.finding.specs.ColumnSearch.{shows_wanted, lowest_shown}

-- ---- the configuration, from the rows

-- at a permitted configuration the column rows show the report's set
shows_set : {T : Tables} → Formed T → (wanted c : ℕ) → c < 1024
    → shows_wanted (row_of 16 (permitted T)) (column_rows T) wanted c ≡ has_wanted T wanted c
shows_set {T} F wanted c h =
    ap (λ (t : Bool). t && subset wanted (shown (column_rows T) c)) (row_bit-row_of 16 (permitted T) c h) ∙ go (permitted T c) refl
  where
    go : (t : Bool) → permitted T c ≡ t → (t && subset wanted (shown (column_rows T) c)) ≡ (t && subset wanted (set_of T c (report T)))
    go true e = ap (subset wanted) (shown_columns F c e)
    go false e = refl

pub shown_wanted : {T : Tables} → Formed T → (wanted : ℕ) → lowest_shown (row_of 16 (permitted T)) (column_rows T) wanted ≡ lowest_wanted T wanted
unfolding lowest_shown lowest_wanted
shown_wanted {T} F wanted =
    lowest_same (shows_wanted (row_of 16 (permitted T)) (column_rows T) wanted) (has_wanted T wanted) 1024 (shows_set F wanted)
    ∙ lowest_narrow (has_wanted T wanted) (configurations T) 1024 (pow_mono F.few)
    (λ c l. ap (λ (t : Bool). t && subset wanted (set_of T c (report T))) (permitted_out T c l))

-- ---- the answer

module _ (T : Tables) (R : Reading) (wanted : ℕ) {checked : Verdict} (before : checked ≡ report_check T R) where
  -- a check of the report refuses
  pub checked_refused : {r : Refusal} → checked ≡ Err r → Finds T R wanted (Err r)
  checked_refused e = ap (λ (v : Verdict). found_answer v (lowest_wanted T wanted)) (call_refused T R (finding wanted) first_none before e)

  -- none does, and then 22
  module _ (e : checked ≡ Ok tt) {set : ℕ} (same : set ≡ wanted) {bad : Bool} (tells : bad ≡ has_from set T.attributes) where
    late_is : refuse_if bad (refusal 22 0 0 0) ≡ answer T R (finding wanted)
    late_is =
        ap (λ (b : Bool). refuse_if b (refusal 22 0 0 0)) (tells ∙ ap (λ (x : ℕ). has_from x T.attributes) same)
        ∙ sym (first_one (has_from wanted T.attributes) (refusal 22 0 0 0)) ∙ call_late T R (finding wanted) first_none before e

    pub late_refused : {r : Refusal} → Err r ≡ refuse_if bad (refusal 22 0 0 0) → Finds T R wanted (Err r)
    late_refused f = ap (λ (v : Verdict). found_answer v (lowest_wanted T wanted)) (f ∙ late_is)

    -- neither does 22, and the search answers
    pub found_answers : Ok tt ≡ refuse_if bad (refusal 22 0 0 0) → {permits columns : List ℕ} → Columns T permits columns → {found : Option ℕ}
        → found ≡ lowest_shown permits columns set → Finds T R wanted (Ok found)
    found_answers f C search =
        ap₂ found_answer (f ∙ late_is)
        (search ∙ ap₂ (λ (row rows : List ℕ). lowest_shown row rows set) C.permitting C.shows
        ∙ ap (lowest_shown (row_of 16 (permitted T)) (column_rows T)) same ∙ shown_wanted C.formed wanted)
