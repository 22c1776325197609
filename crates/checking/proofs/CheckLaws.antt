-- How the parts of the check make its answer, and what each part leaves for the next.
use Rattle.std.specs.Prelude.{Ok, Err}
use Prim.Native.Nat.{ℕ, ◌+◌, ◌<◌}
use mathlib.Core.Path.{◌≡◌, sym, ap, ap₂, ◌∙◌}
use mathlib.Core.Bool.{Bool, not}
use mathlib.Core.List.{List, ◌++◌, append-nil}
use native.Mathlib.Nat.{le_refl}
use native.Mathlib.Omega.{arith}
use borrow.Author.Tests.{eq-eqb, ne_eqb}
use lib.Dec.{eqb}
use lib.ListN.{length, drop, get_or}
use lib.Seq.{paste, take_all, drop-length}
use Rattle.sets.specs.Lists.{table}
use Rattle.sets.proofs.ListLaws.{table_of}
use Rattle.report.specs.Tables.{Tables}
use Rattle.report.specs.Verdicts.{Verdict, refusal, refuse_if, or_else, after}
use Rattle.report.specs.FormChecks.{form_check}
use Rattle.report.specs.ColumnRows.{column_rows}
use Rattle.report.specs.Calls.{answer, checking}
use Rattle.report.specs.declared.Refusal.{Refusal}
use Rattle.report.specs.declared.Reading.{Reading}
use Rattle.report.proofs.VerdictLaws.{or_else_accepted, then_next, accepted_if}
use Rattle.report.proofs.FirstFault.{first_none, first_one}
use Rattle.forms.proofs.Chain.{stops, goes_on}
use Rattle.judging.specs.Judging.{meaning_check}
use Rattle.judging.proofs.JudgingLaws.{answer_parts}
use Rattle.checking.specs.Promises.{Checks}
use Rattle.checking.specs.Meaning.{Meant}

-- a list with as many words of another over it is that other
pub paste_all : (d s : List ℕ) → length s ≡ length d → paste d 0 s (length s) ≡ s
paste_all d s e =
    let z : 0 + length s ≡ length d = omega arith in
    ap₂ (λ (a b : List ℕ). a ++ b) (take_all (length s) s (le_refl (length s))) (ap (λ (k : ℕ). drop k d) z ∙ drop-length d) ∙ append-nil s

-- a list of words is the table of its words; only must-fail/configuration_zero_copied.edit cites this, so that its `stored` would be accepted if it gave
-- the right words
pub own_table : (n : ℕ) (f : ℕ → ℕ) (l : List ℕ) → length l ≡ n → ((i : ℕ) → i < n → get_or l i 0 ≡ f i) → l ≡ table n f
own_table n f l = table_of 0 n f l

-- ---- the answer

-- 11
abbrev rows_check : ℕ → Verdict
rows_check room = refuse_if (not (eqb room 1024)) (refusal 11 0 0 0)

module _ (T : Tables) (R : Reading) where
  -- the parts of the answer, in the order in which they run
  parts : (room : ℕ) → answer T R (checking room) ≡ or_else (form_check T) (or_else (rows_check room) (meaning_check T R))
  parts room =
      answer_parts T R (checking room)
      ∙ ap₂ (λ (v w : Verdict). or_else (form_check T) (or_else v (or_else (meaning_check T R) w))) (first_one _ _) first_none
      ∙ ap (λ (v : Verdict). or_else (form_check T) (or_else (rows_check room) v)) (or_else_accepted (meaning_check T R))

  refused : {v : Verdict} {r : Refusal} (lent : List ℕ) → v ≡ answer T R (checking (length lent)) → v ≡ Err r → Checks T R lent v lent
  refused lent e f = (e, ap (λ (x : Verdict). after x (column_rows T) lent) (sym f ∙ e))

  module _ {v : Verdict} (lent : List ℕ) (forms : v ≡ form_check T) where
    -- a form check refuses
    pub forms_refuse : {r : Refusal} → v ≡ Err r → Checks T R lent v lent
    forms_refuse f = refused lent (stops _ forms f ∙ sym (parts (length lent))) f

    module _ (passed : v ≡ Ok tt) where
      -- 11
      pub rows_refuse : {w : Verdict} → w ≡ Err (refusal 11 0 0 0) → (length lent ≡ 1024 → ⊥) → Checks T R lent w lent
      rows_refuse {w} e n =
          let own : w ≡ rows_check (length lent) = e ∙ ap (λ (b : Bool). refuse_if (not b) (refusal 11 0 0 0)) (sym (ne_eqb (length lent) 1024 n)) in
          refused lent (goes_on forms passed (stops _ own e) ∙ sym (parts (length lent))) e

      -- 12 to 19 and 25
      pub meaning_answers : length lent ≡ 1024 → {w : Verdict} {rows : List ℕ} → Meant T R w lent rows → Checks T R lent w rows
      meaning_answers room {w} M = (answers, M.shows ∙ ap (λ (x : Verdict). after x (column_rows T) lent) answers)
        where
          answers : w ≡ answer T R (checking (length lent))
          answers =
              goes_on forms passed
              (M.answers ∙ sym (then_next (accepted_if _ (ap not (eq-eqb (length lent) 1024 room)))))
              ∙ sym (parts (length lent))
