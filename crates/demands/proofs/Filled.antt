-- Wish 7, of the four calls: each theorem takes what their promises say in the two readings, for every set of tables T that is sound in form and schema.
-- `FilledDemanded` (crate filled, specs/FilledDemands) has the wish's sentences one by one, of the verdicts; `-named` has of each answer what a refusal for a
-- typing fault names. First fault first, that a refused call changes nothing, and that what a call accepts passes, configured in its reading, with the
-- columns shown, and is written so, stand in Demands, Finding and WallPage for either reading.
use Rattle.std.specs.Prelude.{Ok, Err}
use Prim.Native.Nat.{ℕ}
use mathlib.Core.Path.{◌≡◌, sym, ap, ◌∙◌}
use mathlib.Core.Bool.{true}
use mathlib.Core.List.{List}
use mathlib.Core.Logic.{◌↔◌}
use lib.ListN.{length}
use Rattle.report.specs.Tables.{Tables}
use Rattle.report.specs.Rules.{ruled_rows}
use Rattle.report.specs.Configuring.{written}
use Rattle.report.specs.Checks.{typing_check, is_of_typing}
use Rattle.report.specs.Verdicts.{Verdict, after}
use Rattle.report.specs.Calls.{answer, Sound, checking, configuring}
use Rattle.report.specs.declared.Reading.{Reading}
use Rattle.report.specs.declared.Refusal.{Refusal}
use Rattle.report.proofs.CallLaws.{sound_formed}
use Rattle.report.proofs.Refusing.{check_gets, check_typing, configure_gets, checking_own, configuring_own}
use Rattle.filled.specs.FilledDemands.{FilledNamed, FilledDemanded}
use Rattle.filled.specs.ReadRules.{RulesBy}
use Rattle.filled.proofs.ReadRulesLaws.{accepts_by, rows_by}
use Rattle.filled.proofs.GivenSentences.{whole_filled}
use Rattle.checking.specs.Promises.{Checks}
use Rattle.configuring.specs.Promises.{Configured, Configures}
use Rattle.configuring.proofs.ConfigureLaws.{configured_refused}
use Rattle.finding.specs.Finding.{FindAnswer, finding, lowest_wanted, found_answer, Finds}
use Rattle.printing.specs.Page.{page}
use Rattle.wall_page.specs.Page.{PageAnswer, line_count, writing_page, page_answer, PageWritten}
use Rattle.demands.proofs.Demands.{left_rows}
use Rattle.demands.proofs.Finding.{find_says, finding_own, which_find}
use Rattle.demands.proofs.WallPage.{page_says, page_own, which_page}

module _ (T : Tables) (sound : Sound T) where
  -- ---- checking, with 1,024 words of rows. "Demand 2 holds by the reading's rules"

  module _ (R : Reading) (rows rows' : List ℕ) (full : length rows ≡ 1024) {r : Verdict} (checks : Checks T R rows r rows') where
    typed : r ≡ typing_check T R
    typed = checks.0 ∙ ap (λ (n : ℕ). answer T R (checking n)) full ∙ check_typing T R sound

    -- the rules accept where some sets keep them
    pub check_accepts_by : (r ≡ Ok tt) ↔ ((S : ℕ → ℕ → ℕ) × RulesBy T S R)
    check_accepts_by = let a = accepts_by (sound_formed T sound) R in (λ e. a.0 (sym typed ∙ e), λ p. typed ∙ a.1 p)

    -- the rows of any such sets are those written
    pub check_writes_by : (S : ℕ → ℕ → ℕ) → RulesBy T S R → rows' ≡ ruled_rows T S
    check_writes_by S keep = left_rows T R rows rows' (rw (check_accepts_by.1 (S, keep)) at checks) ∙ rows_by (sound_formed T sound) R S keep

  -- ---- in the strict reading and in the filled one

  module _ (rows strict_rows filled_rows : List ℕ) (full : length rows ≡ 1024) {strict filled : Verdict} (s : Checks T Reading.Strict rows strict strict_rows)
      (f : Checks T Reading.Filled rows filled filled_rows) where
    pub check_filled : FilledDemanded T strict filled
    check_filled = rw (s.0, f.0) (whole_filled T (checking_own (length rows)) ((check_gets T sound (length rows)).1 full))

    -- "What the strict reading accepts, this one accepts with equal rows"
    pub check_equal_rows : strict ≡ Ok tt → (filled ≡ Ok tt) × (filled_rows ≡ strict_rows)
    check_equal_rows e =
        let a = check_filled.strictly e in
        (a, left_rows T Reading.Filled rows filled_rows (rw a at f) ∙ sym (left_rows T Reading.Strict rows strict_rows (rw e at s)))

  -- ---- configuring at c, with tables of so many words lent: the verdicts

  module _ (c r1 r2 r3 r4 : ℕ) where
    pub configure_filled : FilledDemanded T (answer T Reading.Strict (configuring c r1 r2 r3 r4)) (answer T Reading.Filled (configuring c r1 r2 r3 r4))
    configure_filled = whole_filled T (configuring_own c r1 r2 r3 r4) (configure_gets T sound c r1 r2 r3 r4)

  -- a refusal of it for a typing fault
  module _ (c : ℕ) (new_entries new_relations new_comparisons new_queries : List ℕ) {r : Configured} {entries relations comparisons queries : List ℕ}
      (f : Configures T Reading.Filled c new_entries new_relations new_comparisons new_queries r entries relations comparisons queries) where
    pub configure_named : (x : Refusal) → r ≡ Err x → is_of_typing x.number ≡ true → FilledNamed T x
    configure_named x e =
        (configure_filled c (length new_entries) (length new_relations) (length new_comparisons) (length new_queries)).named x ((configured_refused f x).0 e)

  -- what the strict reading configures, this one configures alike: the same answer and the same words
  module _ (c : ℕ) (new_entries new_relations new_comparisons new_queries : List ℕ) {strict filled : Configured}
      {entries relations comparisons queries entries' relations' comparisons' queries' : List ℕ}
      (s : Configures T Reading.Strict c new_entries new_relations new_comparisons new_queries strict entries relations comparisons queries)
      (f : Configures T Reading.Filled c new_entries new_relations new_comparisons new_queries filled entries' relations' comparisons' queries')
      (e : answer T Reading.Strict (configuring c (length new_entries) (length new_relations) (length new_comparisons) (length new_queries)) ≡ Ok tt)
    where
      pub configure_equal : (filled ≡ strict) × (entries' ≡ entries) × (relations' ≡ relations) × (comparisons' ≡ comparisons) × (queries' ≡ queries)
      configure_equal =
          let D = configure_filled c (length new_entries) (length new_relations) (length new_comparisons) (length new_queries) in
          let g = rw (D.strictly e, D.same e c) at f in
          let h = rw e at s in (
            g.answers ∙ sym h.answers,
            g.entries ∙ sym h.entries,
            g.relations ∙ sym h.relations,
            g.comparisons ∙ sym h.comparisons,
            g.queries ∙ sym h.queries,
          )

  -- ---- finding and the page: their verdicts, what a refusal names, and that both readings answer alike where the strict one accepts

  module _ (wanted : ℕ) where
    pub find_filled : FilledDemanded T (answer T Reading.Strict (finding wanted)) (answer T Reading.Filled (finding wanted))
    find_filled = whole_filled T (finding_own wanted) (which_find T sound wanted)

    pub find_named : {r : FindAnswer} → Finds T Reading.Filled wanted r → (x : Refusal) → r ≡ Err x → is_of_typing x.number ≡ true
        → FilledNamed T x
    find_named {r} f x e = find_filled.named x ((find_says T Reading.Filled wanted r f x).0 e)

    pub find_equal : {strict filled : FindAnswer} → Finds T Reading.Strict wanted strict → Finds T Reading.Filled wanted filled
        → answer T Reading.Strict (finding wanted) ≡ Ok tt → filled ≡ strict
    find_equal s f e =
        f ∙ ap (λ (v : Verdict). found_answer v (lowest_wanted T wanted)) (find_filled.strictly e ∙ sym e) ∙ sym s

  module _ (lent : List ℕ) where
    pub page_filled : FilledDemanded T (answer T Reading.Strict (writing_page (length lent))) (answer T Reading.Filled (writing_page (length lent)))
    page_filled = whole_filled T (page_own (length lent)) (which_page T sound lent)

    pub page_named : {r : PageAnswer} {bytes : List ℕ} → PageWritten T Reading.Filled lent r bytes → (x : Refusal) → r ≡ Err x
        → is_of_typing x.number ≡ true → FilledNamed T x
    page_named {r} {bytes} f x e = page_filled.named x ((page_says T Reading.Filled lent r bytes f x).0 e)

    pub page_equal : {strict filled : PageAnswer} {bytes bytes' : List ℕ} → PageWritten T Reading.Strict lent strict bytes
        → PageWritten T Reading.Filled lent filled bytes' → answer T Reading.Strict (writing_page (length lent)) ≡ Ok tt
        → (filled ≡ strict) × (bytes' ≡ bytes)
    page_equal s f e =
        let same = page_filled.strictly e ∙ sym e in (
          f.answers ∙ ap (λ (v : Verdict). page_answer v (line_count T)) same ∙ sym s.answers,
          f.stored ∙ ap (λ (v : Verdict). after v (written (page T) lent) lent) same ∙ sym s.stored,
        )
