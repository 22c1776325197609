-- Wish 2, of the calls `check`, `configure` and `find`: an attribute that is in a list more than once. Each theorem takes what their promises say, as
-- those of Demands do, for every set of tables T. Of a list, `Entry` (crate report, proofs/RulesMembers) is an entry that holds and has the attribute.
use Rattle.std.specs.Prelude.{Ok, Err}
use Prim.Native.Nat.{ℕ, ◌+◌, ◌*◌, ◌<◌, ◌≤◌}
use mathlib.Core.Path.{◌≡◌, refl, sym, ap, ap₂, ◌∙◌}
use mathlib.Core.Bool.{true, ◌&&◌, and-eq-true_iff}
use mathlib.Core.List.{List, [], ◌∷◌}
use mathlib.Core.Logic.{◌↔◌}
use native.Mathlib.Omega.{arith}
use borrow.Author.Tests.{ltb-true, lt-ltb, not-false}
use lib.Dec.{ltb}
use lib.ListN.{length, take}
use Rattle.sets.specs.Search.{seek}
use Rattle.sets.specs.Bits.{bit}
use Rattle.sets.proofs.SearchLaws.{seek_nothing, some_at}
use Rattle.report.specs.Tables.{Tables, relation_expression, relation_length, query, report, relation_start, project_start}
use Rattle.report.specs.Tables.{expression_count, entry_count, relation_count}
use Rattle.report.specs.Expressions.{configurations, permitted, tables_of}
use Rattle.report.specs.Typing.{at, reached, entry_holds, present, set_of}
use Rattle.report.specs.ColumnRows.{column_rows, shown}
use Rattle.report.specs.Rules.{Rules}
use Rattle.report.specs.Configuring.{configured}
use Rattle.report.specs.Verdicts.{Verdict, refusal, refuse_if, after}
use Rattle.report.specs.FormChecks.{relation_ok, query_ok}
use Rattle.report.specs.Formed.{Free}
use Rattle.report.specs.Checks.{absent_everywhere, apart_everywhere, relation_check}
use Rattle.report.specs.Calls.{Call, answer, checking, configuring}
use Rattle.report.specs.Repeats.{NoRepeats, answer_before, configured_before}
use Rattle.report.specs.declared.Query.{Query}
use Rattle.report.specs.declared.Reading.{Reading}
use Rattle.report.proofs.VerdictLaws.{both_accepted, at_accepted, first_accepted}
use Rattle.report.proofs.FormFacts.{list_inside, query_lower}
use Rattle.report.proofs.FitLaws.{list_fits_lem, query_fits}
use Rattle.report.proofs.CallLaws.{sound_checks}
use Rattle.report.proofs.ReachLaws.{reached-report}
use Rattle.report.proofs.RulesLaws.{accepted_sets, accepted_shown}
use Rattle.report.proofs.RulesMembers.{Entry, joined_members}
use Rattle.report.proofs.RepeatLaws.{answer_before_lem, written_before}
use Rattle.report.proofs.Refusing.{check_typing}
use Rattle.report.proofs.WrittenAccepted.{called_sound, called_typed, called_formed}
use Rattle.checking.specs.Promises.{Checks}
use Rattle.configuring.specs.Promises.{Configured, form_counts, Leaves, Configures}
use Rattle.finding.specs.Finding.{FindAnswer, finding, lowest_wanted, found_answer, Finds}
use Rattle.demands.proofs.Demands.{left_rows, written_alone}

-- ---- "An attribute may now occur more than once in a list and is there when any of its entries holds."

-- of any sets that keep the typing rules at c, at a form that c reaches
module _ (T : Tables) (c : ℕ) (S : ℕ → ℕ) (keeps : Rules T c S) (q : ℕ) (there : reached T c q ≡ true) where
  pub relation_has : (r : ℕ) → query T.queries q ≡ Query.Relation r → (a : ℕ)
      → (bit (S q) a ≡ true) ↔ Entry T c (relation_start T.relations r) (relation_length T.relations r) a
  relation_has r form a =
      rw (rw form at (keeps q there)).1 (joined_members T c (relation_start T.relations r) (relation_length T.relations r) a)

  pub project_has : (n b : ℕ) → query T.queries q ≡ Query.Project n b → (a : ℕ) → (bit (S q) a ≡ true) ↔ Entry T c (project_start T q) n a
  project_has n b form a = rw (rw form at (keeps q there)).1 (joined_members T c (project_start T q) n a)

module _ (T : Tables) (rows rows' : List ℕ) (checks : Checks T Reading.Strict rows (Ok tt) rows') where
  accepts : answer T Reading.Strict (checking (length rows)) ≡ Ok tt
  accepts = sym checks.0

  -- so the rows that an accepting check leaves show it: of a report that is a relation, or a project form
  module _ (c : ℕ) (chosen : permitted T c ≡ true) where
    keeps : Rules T c (set_of T c)
    keeps =
        let sound = called_sound T Reading.Strict _ accepts in
        accepted_sets T sound (check_typing T Reading.Strict sound ∙ called_typed T Reading.Strict _ accepts) c chosen

    shows : set_of T c (report T) ≡ shown rows' c
    shows =
        accepted_shown T (called_sound T Reading.Strict _ accepts) c chosen (set_of T c) keeps ∙ ap (λ (l : List ℕ). shown l c) (sym (left_rows T Reading.Strict rows rows' checks))

    here : reached T c (report T) ≡ true
    here = reached-report (called_formed T Reading.Strict _ accepts) c chosen

    pub relation_shown : (r : ℕ) → query T.queries (report T) ≡ Query.Relation r → (a : ℕ)
        → (bit (shown rows' c) a ≡ true) ↔ Entry T c (relation_start T.relations r) (relation_length T.relations r) a
    relation_shown r form a = rw (← shows) (relation_has T c (set_of T c) keeps (report T) here r form a)

    pub project_shown : (n b : ℕ) → query T.queries (report T) ≡ Query.Project n b → (a : ℕ)
        → (bit (shown rows' c) a ≡ true) ↔ Entry T c (project_start T (report T)) n a
    project_shown n b form a = rw (← shows) (project_has T c (set_of T c) keeps (report T) here n b form a)

  -- ---- "14 tests each entry by itself": each entry of a relation's list holds at some permitted configuration at which the relation is present

  pub entry_somewhere : (r i : ℕ) → r < relation_count T → i < relation_length T.relations r
      → (c : ℕ) × (permitted T c ≡ true) × (present T c r ≡ true) × (entry_holds T c (relation_start T.relations r + i) ≡ true)
  entry_somewhere r i h l =
      let schema = ((sound_checks T).0 (called_sound T Reading.Strict (checking (length rows)) accepts)).2 in
      let each = first_accepted (relation_check T) (relation_count T) 0 schema r (omega arith) (omega arith) in
      let n = relation_length T.relations r in
      let start = relation_start T.relations r in
      let none =
      at_accepted _ (seek (apart_everywhere T r) n start) (both_accepted (refuse_if (absent_everywhere T r) (refusal 13 r 0 0)) _ each).1 in
      let s = some_at _ (configurations T) (not-false _ (seek_nothing (apart_everywhere T r) n start none (start + i) (omega arith) (omega arith))) in
      let p = (and-eq-true_iff (permitted T s.0) _).0 s.2 in
      let e = (and-eq-true_iff (at T s.0 (relation_expression T.relations r)) _).0 p.1 in
      (s.0, p.0, ap₂ ◌&&◌ (lt-ltb r (relation_count T) h) e.0, e.1)

-- ---- "Refusals 6 and 8 no longer cover repeats": what they ask of a relation, and of a project form

module _ (T : Tables) where
  pub six_asks : (r : ℕ) → (relation_ok T r ≡ true)
      ↔ ((relation_expression T.relations r < expression_count T)
      × (relation_start T.relations r + relation_length T.relations r ≤ entry_count T))
  six_asks r = (
    λ e. let p = (and-eq-true_iff (ltb (relation_expression T.relations r) (expression_count T)) _).0 e in
        (ltb-true _ _ p.0, list_inside T.entries _ _ p.1),
    λ p. ap₂ ◌&&◌ (lt-ltb (relation_expression T.relations r) (expression_count T) p.0) (list_fits_lem T.entries _ _ p.1),
  )

  pub eight_asks : (q n b : ℕ) → query T.queries q ≡ Query.Project n b
      → (query_ok T q ≡ true) ↔ ((project_start T q + n ≤ entry_count T) × Free T.queries q b)
  eight_asks q n b form = rw form (query_lower T q (Query.Project n b), query_fits T q (Query.Project n b))

-- ---- "Configuring keeps each attribute's first entry that holds" (`kept_first`, crate report, proofs/KeptLists): of the words that `configure`
-- leaves, in either reading, no list holds an attribute twice

module _ (T : Tables) (R : Reading) (c : ℕ) (new_entries new_relations new_comparisons new_queries : List ℕ) (r : Configured)
    (new_entries' new_relations' new_comparisons' new_queries' : List ℕ)
    (configures : Configures T R c new_entries new_relations new_comparisons new_queries r new_entries' new_relations' new_comparisons' new_queries') where
  pub configure_once : (a b d e : ℕ) → r ≡ Ok (form_counts a b d e)
      → NoRepeats
      (tables_of 0 T.attributes 0 (1 ∷ 0 ∷ 0 ∷ [])
      (take (a * 2) new_entries') (take (b * 2) new_relations') (take (d * 5) new_comparisons') (take (e * 4) new_queries') T.kinds)
  configure_once a b d e written =
      let w = written_alone T R c _ _ _ _ r _ _ _ _ configures a b d e written in
      rw (w.read_back a b d e written) w.accepted.written.writes.once

-- ---- Where no list has an attribute twice, every answer and word is what it was

module _ (T : Tables) (c : ℕ) (new_entries new_relations new_comparisons new_queries : List ℕ) (r : Configured)
    (new_entries' new_relations' new_comparisons' new_queries' : List ℕ)
    (configures : Configures T Reading.Strict c new_entries new_relations new_comparisons new_queries r new_entries' new_relations' new_comparisons' new_queries') where
  pub configure_before : NoRepeats T
      → Leaves (answer_before T (configuring c (length new_entries) (length new_relations) (length new_comparisons) (length new_queries)))
      (configured_before T c) new_entries new_relations new_comparisons new_queries r new_entries' new_relations' new_comparisons' new_queries'
  configure_before once = rw (← answer_before_lem once call) (go (answer T Reading.Strict call) refl configures)
    where
      call : Call
      call = configuring c (length new_entries) (length new_relations) (length new_comparisons) (length new_queries)

      go : (v : Verdict) → answer T Reading.Strict call ≡ v
          → Leaves v (configured T c Reading.Strict) new_entries new_relations new_comparisons new_queries r new_entries' new_relations' new_comparisons' new_queries'
          → Leaves v (configured_before T c) new_entries new_relations new_comparisons new_queries r new_entries' new_relations' new_comparisons' new_queries'
      go (Ok tt) e l = rw (← written_before (called_formed T Reading.Strict call e) once c) l
      go (Err x) e l =
          record { answers = l.answers; entries = l.entries; relations = l.relations; comparisons = l.comparisons; queries = l.queries }

pub check_before : (T : Tables) → NoRepeats T → (rows rows' : List ℕ) (r : Verdict) → Checks T Reading.Strict rows r rows'
    → (r ≡ answer_before T (checking (length rows))) × (rows' ≡ after (answer_before T (checking (length rows))) (column_rows T) rows)
check_before T once rows rows' r checks = rw (← answer_before_lem once (checking (length rows))) checks

pub find_before : (T : Tables) → NoRepeats T → (wanted : ℕ) (r : FindAnswer) → Finds T Reading.Strict wanted r
    → r ≡ found_answer (answer_before T (finding wanted)) (lowest_wanted T wanted)
find_before T once wanted r finds = rw (← answer_before_lem once (finding wanted)) finds
