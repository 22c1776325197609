-- Document 02's fifth wish, on what the calls answer and leave. Of every call: crate report, proofs/KindCalls (24, 25, one kind where a call accepts) and
-- proofs/KindLaws (what is as before).
use Rattle.std.specs.Prelude.{Ok, Err}
use Prim.Native.Nat.{ℕ}
use mathlib.Core.Path.{◌≡◌, refl, sym, ap, ap₂, ◌∙◌}
use mathlib.Core.List.{List, []}
use lib.ListN.{length}
use Rattle.report.specs.Tables.{Tables}
use Rattle.report.specs.Expressions.{permitted}
use Rattle.report.specs.Typing.{joined_set, set_of}
use Rattle.report.specs.ColumnRows.{column_rows}
use Rattle.report.specs.Configuring.{configured, written}
use Rattle.report.specs.Verdicts.{Verdict, after}
use Rattle.report.specs.FormChecks.{kinds_check}
use Rattle.report.specs.Calls.{Call, answer, checking, configuring}
use Rattle.report.specs.Kinds.{Differing, KindFault, AllKinds0, answer_before_kinds, with_kinds, NoSelect, KindFree}
use Rattle.report.specs.declared.Refusal.{Refusal}
use Rattle.report.specs.declared.Reading.{Reading}
use Rattle.report.proofs.Refusing.{checking_own}
use Rattle.report.proofs.KindLaws.{kinds_0_before, no_comparisons_before, kinds_unread, rows_unread, configured_unread}
use Rattle.report.proofs.KindLaws.{checking_free, configuring_free}
use Rattle.report.proofs.KindCalls.{accepted_one_kind, refused_25}
use Rattle.checking.specs.Promises.{Checks}
use Rattle.configuring.specs.Promises.{Configured, configured_answer, table_after, Configures}
use Rattle.finding.specs.Finding.{FindAnswer, finding, lowest_wanted, found_answer, Finds}
use Rattle.printing.specs.Page.{page}
use Rattle.wall_page.specs.Page.{PageAnswer, line_count, writing_page, page_answer, PageWritten}

-- ---- "Both sides must have one kind at every configuration that reaches them"

module _ (T : Tables) (rows rows' : List ℕ) where
  -- of a report that a check accepts, in either reading
  pub check_one_kind : (R : Reading) → Checks T R rows (Ok tt) rows' → (c q a g : ℕ) → Differing T c q a g → ⊥
  check_one_kind R k = accepted_one_kind T R (checking (length rows)) (sym k.0)

  -- and where a check refuses by 25 they have two, at the place, with the item and the configuration that it names
  pub check_25 : (r : Refusal) → Checks T Reading.Strict rows (Err r) rows' → r.number ≡ 25 → KindFault T r
  check_25 r k = refused_25 T (checking_own (length rows)) r (sym k.0)

  -- ---- "Where 24 finds nothing, a report with no comparisons is judged as before"; and so is every one whose kinds, the constants' too, are 0

  module _ (r : Verdict) (k : Checks T Reading.Strict rows r rows') where
    left_before : answer T Reading.Strict (checking (length rows)) ≡ answer_before_kinds T (checking (length rows))
        → (r ≡ answer_before_kinds T (checking (length rows))) × (rows' ≡ after (answer_before_kinds T (checking (length rows))) (column_rows T) rows)
    left_before e = (k.0 ∙ e, k.1 ∙ ap (λ (v : Verdict). after v (column_rows T) rows) e)

    pub check_no_comparisons : T.comparisons ≡ [] → kinds_check T.attributes T.kinds T.comparisons ≡ Ok tt
        → (r ≡ answer_before_kinds T (checking (length rows))) × (rows' ≡ after (answer_before_kinds T (checking (length rows))) (column_rows T) rows)
    check_no_comparisons none e = left_before (no_comparisons_before T none e (checking (length rows)))

    pub check_kinds_0 : AllKinds0 T
        → (r ≡ answer_before_kinds T (checking (length rows))) × (rows' ≡ after (answer_before_kinds T (checking (length rows))) (column_rows T) rows)
    check_kinds_0 all = left_before (kinds_0_before all (checking (length rows)))

-- ---- and no answer and no word depends on the kind table: two calls on a report without a select, with kind tables in which 24 finds nothing, answer and
-- leave the same

-- the own conditions of `find` and `write_page` do not read it
pub finding_free : (wanted : ℕ) → KindFree (finding wanted)
finding_free wanted = record { early = λ T kinds. refl; late = λ T kinds. refl }

pub writing_free : (room : ℕ) → KindFree (writing_page room)
unfolding permitted line_count
writing_free room = record { early = λ T kinds. refl; late = λ T kinds. refl }

module _ (T : Tables) (none : NoSelect T) (k k' : List ℕ) (e : kinds_check T.attributes k T.comparisons ≡ Ok tt)
    (e' : kinds_check T.attributes k' T.comparisons ≡ Ok tt) where
  same : {call : Call} → KindFree call → answer (with_kinds T k) Reading.Strict call ≡ answer (with_kinds T k') Reading.Strict call
  same free = kinds_unread T none free k k' e e'

  pub check_unread : (rows left left' : List ℕ) (r r' : Verdict) → Checks (with_kinds T k) Reading.Strict rows r left → Checks (with_kinds T k') Reading.Strict rows r' left'
      → (r ≡ r') × (left ≡ left')
  check_unread rows left left' r r' p p' =
      let v = same (checking_free (length rows)) in (
        p.0 ∙ v ∙ sym p'.0,
        p.1 ∙ ap₂ (λ (v : Verdict) (new : List ℕ). after v new rows) v (rows_unread T k ∙ sym (rows_unread T k')) ∙ sym p'.1,
      )

  pub find_unread : (wanted : ℕ) (r r' : FindAnswer) → Finds (with_kinds T k) Reading.Strict wanted r → Finds (with_kinds T k') Reading.Strict wanted r' → r ≡ r'
  unfolding lowest_wanted permitted set_of joined_set
  find_unread wanted r r' p p' = p ∙ ap (λ (v : Verdict). found_answer v (lowest_wanted T wanted)) (same (finding_free wanted)) ∙ sym p'

  pub page_unread : (lent : List ℕ) (r r' : PageAnswer) (bytes bytes' : List ℕ) → PageWritten (with_kinds T k) Reading.Strict lent r bytes
      → PageWritten (with_kinds T k') Reading.Strict lent r' bytes' → (r ≡ r') × (bytes ≡ bytes')
  unfolding page line_count permitted set_of joined_set
  page_unread lent r r' bytes bytes' p p' =
      let v = same (writing_free (length lent)) in (
        p.answers ∙ ap (λ (v : Verdict). page_answer v (line_count T)) v ∙ sym p'.answers,
        p.stored ∙ ap (λ (v : Verdict). after v (written (page T) lent) lent) v ∙ sym p'.stored,
      )

  -- (of what configuring writes the kind table is no part)
  pub configure_unread : (c : ℕ) (entries relations comparisons queries : List ℕ) (r r' : Configured)
      (entries' relations' comparisons' queries' entries'' relations'' comparisons'' queries'' : List ℕ)
      → Configures (with_kinds T k) Reading.Strict c entries relations comparisons queries r entries' relations' comparisons' queries'
      → Configures (with_kinds T k') Reading.Strict c entries relations comparisons queries r' entries'' relations'' comparisons'' queries''
      → (r ≡ r') × (entries' ≡ entries'') × (relations' ≡ relations'') × (comparisons' ≡ comparisons'') × (queries' ≡ queries'')
  configure_unread c entries relations comparisons queries r r' entries' relations' comparisons' queries' entries'' relations'' comparisons'' queries'' p p' =
      let v = same (configuring_free c (length entries) (length relations) (length comparisons) (length queries)) in
      let U = configured_unread T k c Reading.Strict in
      let U' = configured_unread T k' c Reading.Strict in (
        p.answers ∙ ap₂ configured_answer v U ∙ counted (answer (with_kinds T k') Reading.Strict call) ∙ ap (configured_answer (answer (with_kinds T k') Reading.Strict call)) (sym U') ∙ sym p'.answers,
        left v (λ (W : Tables). W.entries) entries U U' p.entries p'.entries refl,
        left v (λ (W : Tables). W.relations) relations U U' p.relations p'.relations refl,
        left v (λ (W : Tables). W.comparisons) comparisons U U' p.comparisons p'.comparisons refl,
        left v (λ (W : Tables). W.queries) queries U U' p.queries p'.queries refl,
      )
    where
      call : Call
      call = configuring c (length entries) (length relations) (length comparisons) (length queries)

      counted : (v : Verdict) → configured_answer v (with_kinds (configured T c Reading.Strict) k) ≡ configured_answer v (with_kinds (configured T c Reading.Strict) k')
      counted (Ok tt) = refl
      counted (Err r) = refl

      left : {v v' : Verdict} → v ≡ v' → (table : Tables → List ℕ) (lent : List ℕ) {U U' : Tables} {new new' : List ℕ} → U ≡ with_kinds (configured T c Reading.Strict) k
          → U' ≡ with_kinds (configured T c Reading.Strict) k' → new ≡ table_after v (table U) lent → new' ≡ table_after v' (table U') lent
          → table (with_kinds (configured T c Reading.Strict) k) ≡ table (with_kinds (configured T c Reading.Strict) k') → new ≡ new'
      left {v} {v'} e table lent p q new new' same =
          new ∙ ap₂ (λ (w : Verdict) (l : List ℕ). table_after w l lent) e (ap table p ∙ same ∙ ap table (sym q)) ∙ sym new'
