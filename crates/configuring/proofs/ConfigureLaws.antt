-- How the parts of configuring make its answer, and what each part leaves for the next.
use Rattle.std.specs.Prelude.{Ok, Err}
use Prim.Native.Nat.{ℕ, ◌*◌, ◌/◌, ◌%◌}
use mathlib.Core.Path.{◌≡◌, refl, sym, ap, ◌∙◌}
use mathlib.Core.Bool.{true, not}
use mathlib.Core.List.{List, [], ◌∷◌}
use mathlib.Core.Logic.{◌↔◌}
use native.Mathlib.Nat.{div-add-mod'}
use native.Mathlib.Omega.{arith}
use borrow.Author.Tests.{not-false}
use lib.ListN.{length, take, drop}
use lib.Seq.{take_at}
use Rattle.report.specs.Tables.{Tables, entry_count, relation_count, comparison_count, query_count}
use Rattle.report.specs.Expressions.{holds, permitted, tables_of}
use Rattle.report.specs.Configuring.{configured, written}
use Rattle.report.specs.Verdicts.{Verdict, refusal, refuse_if, first_of}
use Rattle.report.specs.Formed.{Formed}
use Rattle.report.specs.FormChecks.{form_check}
use Rattle.report.specs.Checks.{model_and_schema_check, typing_check, is_typing_fault}
use Rattle.report.specs.Calls.{Call, room_conditions, configuring}
use Rattle.report.specs.declared.Refusal.{Refusal}
use Rattle.report.specs.declared.Reading.{Reading}
use Rattle.report.proofs.Formed.{formed}
use Rattle.report.proofs.VerdictLaws.{both_accepted, if_accepted}
use Rattle.report.proofs.SameTables.{same_tables}
use Rattle.report.proofs.FirstFault.{first_none, room_fits, first_own}
use Rattle.expression_rows.specs.SplitTables.{of_split}
use Rattle.expression_rows.specs.declared.SplitTables.{SplitTables}
use Rattle.judging.specs.Judging.{meaning_check, report_check, IsSplit}
use Rattle.judging.proofs.JudgingLaws.{call_refused, call_late, Rows, split_prepared}
use Rattle.configuring.specs.declared.FormCounts.{FormCounts}
use Rattle.configuring.specs.Promises.{Configured, form_counts, configured_answer, Rooms, Leaves, Configures, is_configured_fault}
use Rattle.configuring.specs.AfterTyping.{late_verdict, ConfigureReads}

-- ---- 20 and 21

-- where the tests of 21 accept there is room for each table
pub room_accepted : (T : Tables) (new_entries new_relations new_comparisons new_queries : List ℕ)
    → first_of (room_conditions (length new_entries) (length new_relations) (length new_comparisons) (length new_queries) T) ≡ Ok tt
    → Rooms T new_entries new_relations new_comparisons new_queries
room_accepted T new_entries new_relations new_comparisons new_queries e =
    let h = (room_fits T (length new_entries) (length new_relations) (length new_comparisons) (length new_queries)).0 e in
    record { entries = h.0; relations = h.1; comparisons = h.2; queries = h.3 }

-- where both accept, c is permitted and there is room for each table
pub late_accepted : (T : Tables) (c : ℕ) (new_entries new_relations new_comparisons new_queries : List ℕ)
    → late_verdict T c new_entries new_relations new_comparisons new_queries ≡ Ok tt
    → (permitted T c ≡ true) × Rooms T new_entries new_relations new_comparisons new_queries
late_accepted T c new_entries new_relations new_comparisons new_queries e =
    let parts = first_own T c (length new_entries) (length new_relations) (length new_comparisons) (length new_queries) in
    let p = both_accepted (refuse_if (not (permitted T c)) (refusal 20 0 0 c)) _ (sym parts ∙ e) in
    (not-false _ (if_accepted _ _ p.0), room_accepted T new_entries new_relations new_comparisons new_queries p.1)

-- ---- the answer

-- a refused call leaves the tables as they were
pub leaves_refused : {v : Verdict} {r : Refusal} {U : Tables} {new_entries new_relations new_comparisons new_queries : List ℕ} → Err r ≡ v
    → Leaves v U new_entries new_relations new_comparisons new_queries (Err r) new_entries new_relations new_comparisons new_queries
leaves_refused e = rw (← e) record { answers = refl; entries = refl; relations = refl; comparisons = refl; queries = refl }

-- where a reading accepts, what the writers write, which is what the filled one does, is what it does
same_written : (T : Tables) (R : Reading) → report_check T R ≡ Ok tt → (c : ℕ) → configured T c Reading.Filled ≡ configured T c R
same_written T Reading.Strict e c =
    let p = both_accepted (form_check T) (meaning_check T Reading.Strict) e in
    same_tables (formed T p.0) (both_accepted (model_and_schema_check T) (typing_check T Reading.Strict) p.1).1 c
same_written T Reading.Filled e c = refl

module _ (T : Tables) (R : Reading) (c : ℕ) (new_entries new_relations new_comparisons new_queries : List ℕ) {v : Verdict} (checked : v ≡ report_check T R) where
  abbrev call : Call
  call = configuring c (length new_entries) (length new_relations) (length new_comparisons) (length new_queries)

  -- a check before 20 refuses
  pub report_refuses : {r : Refusal} → v ≡ Err r
      → Configures T R c new_entries new_relations new_comparisons new_queries (Err r) new_entries new_relations new_comparisons new_queries
  report_refuses f = leaves_refused (call_refused T R call first_none checked f)

  -- 20 and 21 answer
  pub late_answers : v ≡ Ok tt → {r : Configured} {new_entries' new_relations' new_comparisons' new_queries' : List ℕ}
      → Leaves (late_verdict T c new_entries new_relations new_comparisons new_queries) (configured T c Reading.Filled)
      new_entries new_relations new_comparisons new_queries r new_entries' new_relations' new_comparisons' new_queries'
      → Configures T R c new_entries new_relations new_comparisons new_queries r new_entries' new_relations' new_comparisons' new_queries'
  late_answers f L = rw (← call_late T R call first_none checked f, ← same_written T R (sym checked ∙ f) c) L

-- 20 and 21 accept, and the tables are written
pub written_late : (T : Tables) (c : ℕ) (new_entries new_relations new_comparisons new_queries : List ℕ) {v : Verdict}
    → v ≡ late_verdict T c new_entries new_relations new_comparisons new_queries → v ≡ Ok tt
    → {r : Configured} {new_entries' new_relations' new_comparisons' new_queries' : List ℕ}
    → (permitted T c ≡ true → Leaves (Ok tt) (configured T c Reading.Filled) new_entries new_relations new_comparisons new_queries r
    new_entries' new_relations' new_comparisons' new_queries')
    → Leaves (late_verdict T c new_entries new_relations new_comparisons new_queries) (configured T c Reading.Filled)
    new_entries new_relations new_comparisons new_queries r new_entries' new_relations' new_comparisons' new_queries'
written_late T c new_entries new_relations new_comparisons new_queries e f L =
    rw (← e, f) (L (late_accepted T c new_entries new_relations new_comparisons new_queries (sym e ∙ f)).0)

-- what 20, 21 and the writing read of a report that has passed the checks before
pub judged_reads : {T : Tables} {expression_rows reach columns : List ℕ} → Rows T expression_rows reach columns
    → {split : SplitTables} → of_split split (IsSplit T expression_rows) → ConfigureReads T T.model split reach
judged_reads R S = record { prepared = split_prepared R.formed S R.filled; number = refl; reaching = R.reaching }

-- ---- for those who read the answer

module _ {v : Verdict} {U : Tables} {new_entries new_relations new_comparisons new_queries : List ℕ} {r : Configured}
    {new_entries' new_relations' new_comparisons' new_queries' : List ℕ}
    (L : Leaves v U new_entries new_relations new_comparisons new_queries r new_entries' new_relations' new_comparisons' new_queries') where
  -- it is a typing fault where the verdict is one
  pub configured_fault : is_configured_fault r ≡ is_typing_fault v
  configured_fault = ap is_configured_fault L.answers ∙ go v
    where
      go : (v : Verdict) → is_configured_fault (configured_answer v U) ≡ is_typing_fault v
      go (Ok tt) = refl
      go (Err r) = refl

  -- and a refusal exactly where the verdict is that
  pub configured_refused : (x : Refusal) → (r ≡ Err x) ↔ (v ≡ Err x)
  configured_refused x = (λ e. go v (sym L.answers ∙ e), λ e. L.answers ∙ ap (λ (v : Verdict). configured_answer v U) e)
    where
      go : (v : Verdict) → configured_answer v U ≡ Err x → v ≡ Err x
      go (Ok tt) e = absurd (let z : ◌≡◌ {A = ℕ} 0 1 = cc in omega arith)
      go (Err y) e = cc

-- as many words as so many forms have are the table that was written
read : {new after : List ℕ} (lent : List ℕ) (count width : ℕ) → after ≡ written new lent → count ≡ length new / width → length new % width ≡ 0
    → take (count * width) after ≡ new
read {new} lent count width e f whole =
    let d = div-add-mod' (length new) width in
    let all : length new / width * width ≡ length new = omega arith in
    ap (take (count * width)) e ∙ take_at new (drop (length new) lent) (count * width) (sym (ap (λ (k : ℕ). k * width) f ∙ all))

read_tables : {U : Tables} → U.truth ≡ holds U.expressions → Formed U
    → {new_entries new_relations new_comparisons new_queries new_entries' new_relations' new_comparisons' new_queries' : List ℕ} {a b c d : ℕ}
    → Leaves (Ok tt) U new_entries new_relations new_comparisons new_queries
    (Ok (form_counts a b c d)) new_entries' new_relations' new_comparisons' new_queries'
    → tables_of U.features U.attributes U.model U.expressions (take (a * 2) new_entries') (take (b * 2) new_relations')
    (take (c * 5) new_comparisons') (take (d * 4) new_queries') U.kinds
    ≡ U
read_tables {U} worked F {new_entries} {new_relations} {new_comparisons} {new_queries} {new_entries'} {new_relations'} {new_comparisons'} {new_queries'} {a} {b} {c}
    {d} L =
    let answered = L.answers in
    let counted : form_counts a b c d ≡ form_counts (entry_count U) (relation_count U) (comparison_count U) (query_count U) = cc in
    let e1 : take (a * 2) new_entries' ≡ U.entries = read new_entries a 2 L.entries (ap (λ (n : FormCounts). n.entries) counted) F.sized1.whole in
    let e2 : take (b * 2) new_relations' ≡ U.relations = read new_relations b 2 L.relations (ap (λ (n : FormCounts). n.relations) counted) F.sized2.whole in
    let e3 : take (c * 5) new_comparisons' ≡ U.comparisons = read new_comparisons c 5 L.comparisons (ap (λ (n : FormCounts). n.comparisons) counted) F.sized3.whole in
    let e4 : take (d * 4) new_queries' ≡ U.queries = read new_queries d 4 L.queries (ap (λ (n : FormCounts). n.queries) counted) F.sized4.whole in
    rw (e1, e2, e3, e4, ← worked)

-- so what the call answers and leaves gives the tables written
pub read_back_lem : (T : Tables) (k : ℕ) (R : Reading) → Formed (configured T k R)
    → {new_entries new_relations new_comparisons new_queries new_entries' new_relations' new_comparisons' new_queries' : List ℕ} {a b c d : ℕ}
    → Leaves (Ok tt) (configured T k R) new_entries new_relations new_comparisons new_queries
    (Ok (form_counts a b c d)) new_entries' new_relations' new_comparisons' new_queries'
    → tables_of 0 T.attributes 0 (1 ∷ 0 ∷ 0 ∷ []) (take (a * 2) new_entries') (take (b * 2) new_relations') (take (c * 5) new_comparisons')
    (take (d * 4) new_queries') T.kinds ≡ configured T k R
unfolding configured
read_back_lem T k R = read_tables refl
