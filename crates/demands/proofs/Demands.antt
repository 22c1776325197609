-- Demands 1 to 3, of the calls `check` and `configure`: each theorem takes what their promises say (`Checks` in checking/specs/Promises, `Configures`
-- in configuring/specs/Promises), for every set of tables T. The demands' terms are defined in the crate report: `conditions`, `Sound` and
-- `GetsAsFarAsTyping` in specs/Calls, `Foremost` in specs/Verdicts, `Rules` and `ruled_rows` (the typing rules) in specs/Rules, `permitted` in
-- specs/Expressions, `passes` and `columns` (the plain rules) in specs/PlainAlgebra, `configured_report` and `configured_schema` in
-- specs/ConfiguredReport, `configured` (the tables written) in specs/Configuring, `shown` in specs/ColumnRows, `is_typing_fault` in specs/Checks, `Broken`
-- and `Named` in specs/TypingFaults, `RulesThroughout` and `PassesThroughout` in specs/GivenDemands, `WrittenAccepted` in specs/WrittenTables.
use Rattle.std.specs.Prelude.{Ok, Err}
use Prim.Native.Nat.{ℕ}
use mathlib.Core.Path.{◌≡◌, refl, sym, ap, ◌∙◌}
use mathlib.Core.Bool.{Bool, true, false, not}
use mathlib.Core.List.{List}
use mathlib.Core.Logic.{◌↔◌}
use native.Mathlib.Omega.{arith}
use borrow.Author.Tests.{not-false}
use lib.ListN.{length, replicate}
use Rattle.report.specs.Tables.{Tables, kind_of}
use Rattle.report.specs.Expressions.{permitted}
use Rattle.report.specs.Typing.{set_of}
use Rattle.report.specs.ColumnRows.{column_rows, shown}
use Rattle.report.specs.Rules.{Rules, ruled_rows}
use Rattle.report.specs.Configuring.{configured, written}
use Rattle.report.specs.PlainAlgebra.{columns, passes}
use Rattle.report.specs.ConfiguredReport.{configured_report, configured_schema}
use Rattle.report.specs.Verdicts.{Verdict, refusal, refuse_if, after, first_of, Foremost}
use Rattle.report.specs.Checks.{typing_check, is_typing_fault}
use Rattle.report.specs.Calls.{Call, conditions, answer, Sound, GetsAsFarAsTyping, OwnNumbers, checking, room_conditions, configuring}
use Rattle.report.specs.TypingFaults.{Broken, Named}
use Rattle.report.specs.WrittenTables.{WrittenAccepted}
use Rattle.report.specs.GivenDemands.{RulesThroughout, PassesThroughout}
use Rattle.report.specs.declared.Refusal.{Refusal}
use Rattle.report.specs.declared.Reading.{Reading}
use Rattle.report.proofs.VerdictLaws.{both_accepted, if_accepted}
use Rattle.report.proofs.FirstFault.{first_own}
use Rattle.report.proofs.CallLaws.{refused_foremost, sound_formed}
use Rattle.report.proofs.TypingLaws.{typing_passes}
use Rattle.report.proofs.RulesLaws.{rules_plain, rules_throughout, accepted_sets, accepted_rules, accepted_rows}
use Rattle.report.proofs.WrittenAccepted.{called_sound, called_typed, called_own, checked_passes, checked_columns, accepted_written, configure_accepted}
use Rattle.report.proofs.Refusing.{check_gets, configure_gets, check_typing, checking_own, configuring_own, refused_broken, refused_named, never_refused}
use Rattle.checking.specs.Promises.{Checks}
use Rattle.configuring.specs.Promises.{Configured, form_counts, configured_answer, table_after, Rooms, Leaves, Configures, is_configured_fault}
use Rattle.configuring.proofs.ConfigureLaws.{room_accepted, read_back_lem, configured_fault, configured_refused}
use Rattle.demands.specs.FoundWritten.{FoundWritten}

-- ---- demand 1: "what it cannot accept it refuses by the number, place, item and configuration in document 01, first fault first; a refused call changes
-- no lent word"

-- of any call: its answer r is `refused x` where it is refused by x
module _ (T : Tables) (R : Reading) (call : Call) {A : Type 0} (refused : Refusal → A) {r : A}
    (says : (x : Refusal) → (r ≡ refused x) ↔ (answer T R call ≡ Err x)) where
  -- it is refused exactly by the first of its conditions that hold
  pub call_foremost : (x : Refusal) → (r ≡ refused x) ↔ Foremost (conditions T R call) x
  call_foremost x = let f = refused_foremost T R call x in (λ e. f.0 ((says x).0 e), λ h. (says x).1 (f.1 h))

  -- and then what was lent to it is as it was
  pub call_unchanged : {B : Type 0} (new : B) {lent left : B} → left ≡ after (answer T R call) new lent → (x : Refusal) → r ≡ refused x → left ≡ lent
  call_unchanged new {lent} stored x e = stored ∙ ap (λ (v : Verdict). after v new lent) ((says x).0 e)

-- checking
module _ (T : Tables) (R : Reading) (rows rows' : List ℕ) (r : Verdict) (checks : Checks T R rows r rows') where
  says : (x : Refusal) → (r ≡ Err x) ↔ (answer T R (checking (length rows)) ≡ Err x)
  says x = (λ e. sym checks.0 ∙ e, λ e. checks.0 ∙ e)

  pub check_foremost : (x : Refusal) → (r ≡ Err x) ↔ Foremost (conditions T R (checking (length rows))) x
  check_foremost = call_foremost T R (checking (length rows)) Err says

  pub check_unchanged : (x : Refusal) → r ≡ Err x → rows' ≡ rows
  check_unchanged = call_unchanged T R (checking (length rows)) Err says (column_rows T) checks.1

-- a check that accepts leaves the column rows
pub left_rows : (T : Tables) (R : Reading) (rows rows' : List ℕ) → Checks T R rows (Ok tt) rows' → rows' ≡ column_rows T
left_rows T R rows rows' k = k.1 ∙ ap (λ (v : Verdict). after v (column_rows T) rows) (sym k.0)

-- ---- In the strict reading (in either: Filled). "Tables sound in form and schema, with rows lent at their full length, it accepts exactly when those rules
-- do, and the column rows it writes are the rows of the rules, bit by bit."

module _ (T : Tables) (sound : Sound T) (rows rows' : List ℕ) (r : Verdict) (full : length rows ≡ 1024) (checks : Checks T Reading.Strict rows r rows') where
  answers : r ≡ answer T Reading.Strict (checking 1024)
  answers = checks.0 ∙ ap (λ (n : ℕ). answer T Reading.Strict (checking n)) full

  -- the rules accept where at each permitted configuration some sets keep them
  pub check_accepts : (r ≡ Ok tt) ↔ RulesThroughout T
  check_accepts = let a = accepted_rules T sound in (λ e. a.0 (sym answers ∙ e), λ f. answers ∙ a.1 f)

  -- the rows of any such sets are those written
  pub check_writes : (S : ℕ → ℕ → ℕ) → ((c : ℕ) → permitted T c ≡ true → Rules T c (S c)) → rows' ≡ ruled_rows T S
  check_writes S keep =
      checks.1 ∙ ap (λ (v : Verdict). after v (column_rows T) rows) (sym checks.0 ∙ check_accepts.1 (λ c p. (S c, keep c p)))
      ∙ accepted_rows T sound S keep

  -- and where it accepts there are such sets, one for each form that is reached (RulesLaws: `rules_one`)
  pub check_ruled : r ≡ Ok tt → (S : ℕ → ℕ → ℕ) × ((c : ℕ) → permitted T c ≡ true → Rules T c (S c)) × (rows' ≡ ruled_rows T S)
  check_ruled e = let keep = accepted_sets T sound (sym answers ∙ e) in (set_of T, keep, check_writes (set_of T) keep)

-- ---- docs/FORMAT.md, "Typing rules and plain rules agree", for all tables sound in form and schema

module _ (T : Tables) (sound : Sound T) where
  -- "The report passes the typing rules exactly when, at every permitted configuration, the configured report passes the plain rules under the
  -- configured schema."
  pub report_agrees : RulesThroughout T ↔ PassesThroughout T
  report_agrees = rules_throughout (sound_formed T sound)

  -- so it is at each of these configurations by itself
  pub rules_agree : (c : ℕ) → permitted T c ≡ true
      → ((S : ℕ → ℕ) × Rules T c S) ↔ (passes (kind_of T) (configured_schema T c) (configured_report T c Reading.Strict) ≡ true)
  rules_agree = rules_plain (sound_formed T sound)

  -- and of the checks of typing, 15 to 19 and 25
  pub typing_agrees : (typing_check T Reading.Strict ≡ Ok tt) ↔ PassesThroughout T
  typing_agrees = typing_passes (sound_formed T sound)

-- ---- In either reading, the report being configured in it. "Found afterwards, whichever configuration that the feature model permits was chosen: the
-- configured report passes the plain rules under the configured schema, and its columns are exactly those the rows show at that configuration. Done
-- before: a schema and report, whatever they are, were accepted, and no word of them has changed since."

pub found_afterwards : (T : Tables) (R : Reading) (rows rows' : List ℕ) → Checks T R rows (Ok tt) rows' → (c : ℕ) → permitted T c ≡ true
    → (passes (kind_of T) (configured_schema T c) (configured_report T c R) ≡ true) × (columns (configured_schema T c) (configured_report T c R) ≡ shown rows' c)
found_afterwards T R rows rows' k c chosen =
    let accepted = sym k.0 in (
      checked_passes T R (length rows) accepted c chosen,
      checked_columns T R (length rows) accepted c chosen ∙ ap (λ (l : List ℕ). shown l c) (sym (left_rows T R rows rows' k)),
    )

-- ---- configuring: demand 1, and the same found in the tables that it writes at that configuration

module _ (T : Tables) (R : Reading) (c : ℕ) (new_entries new_relations new_comparisons new_queries : List ℕ) (r : Configured)
    (new_entries' new_relations' new_comparisons' new_queries' : List ℕ)
    (configures : Configures T R c new_entries new_relations new_comparisons new_queries r new_entries' new_relations' new_comparisons' new_queries')
  where
    abbrev writing : Call
    writing = configuring c (length new_entries) (length new_relations) (length new_comparisons) (length new_queries)

    pub configure_foremost : (x : Refusal) → (r ≡ Err x) ↔ Foremost (conditions T R writing) x
    configure_foremost = call_foremost T R writing Err (configured_refused configures)

    pub configure_unchanged : (x : Refusal) → r ≡ Err x
        → (new_entries' ≡ new_entries) × (new_relations' ≡ new_relations) × (new_comparisons' ≡ new_comparisons) × (new_queries' ≡ new_queries)
    configure_unchanged x e = (
      same (configured T c R).entries configures.entries,
      same (configured T c R).relations configures.relations,
      same (configured T c R).comparisons configures.comparisons,
      same (configured T c R).queries configures.queries,
    )
      where
        same : (new : List ℕ) {lent left : List ℕ} → left ≡ table_after (answer T R writing) new lent → left ≡ lent
        same new {lent} stored = call_unchanged T R writing Err (configured_refused configures) (written new lent) stored x e

    -- after a check that accepted, with tables lent of any length that check 21 takes, and any words in them
    pub found_written : (rows rows' : List ℕ) → Checks T R rows (Ok tt) rows' → permitted T c ≡ true
        → Rooms T new_entries new_relations new_comparisons new_queries
        → FoundWritten T R c rows' new_entries new_relations new_comparisons new_queries r new_entries' new_relations' new_comparisons' new_queries'
    found_written rows rows' k chosen room = record {
      leaves = leaves;
      read_back = λ a b d e f. read_back_lem T c R there.written.formed (rw f at leaves);
      accepted = there;
      shows = shows;
    }
      where
        there : WrittenAccepted T c R
        there = accepted_written T R (length rows) (sym k.0) c chosen

        leaves : Leaves (Ok tt) (configured T c R) new_entries new_relations new_comparisons new_queries r
            new_entries' new_relations' new_comparisons' new_queries'
        leaves =
            rw (configure_accepted T R (length rows) (sym k.0) c chosen
            (length new_entries) (length new_relations) (length new_comparisons) (length new_queries)
            room.entries room.relations room.comparisons room.queries) at configures

        shows : (lent lent' : List ℕ) (v : Verdict) → length lent ≡ 1024 → Checks (configured T c R) Reading.Strict lent v lent'
            → (v ≡ Ok tt) × (shown lent' 0 ≡ shown rows' c)
        shows lent lent' v full w =
            let e : v ≡ (Ok tt) = w.0 ∙ ap (λ (n : ℕ). answer (configured T c R) Reading.Strict (checking n)) full ∙ there.checked in (
              e,
              ap (λ (l : List ℕ). shown l 0) (left_rows (configured T c R) Reading.Strict lent lent' (rw e at w)) ∙ there.written.shows
                  ∙ ap (λ (l : List ℕ). shown l c) (sym (left_rows T R rows rows' k)),
            )

    -- From `configure` alone, where it answers that it has written
    module _ (a b d e : ℕ) (written : r ≡ Ok (form_counts a b d e)) where
      accepts : answer T R writing ≡ Ok tt
      accepts = go (answer T R writing) (sym written ∙ configures.answers)
        where
          go : (v : Verdict) → Ok (form_counts a b d e) ≡ configured_answer v (configured T c R) → v ≡ Ok tt
          go (Ok tt) u = refl
          go (Err x) u = absurd (let z : ◌≡◌ {A = ℕ} 0 1 = cc in omega arith)

      own_accepted : (refuse_if (not (permitted T c)) (refusal 20 0 0 c) ≡ Ok tt)
          × (first_of (room_conditions (length new_entries) (length new_relations) (length new_comparisons) (length new_queries) T) ≡ Ok tt)
      own_accepted =
          both_accepted _ _
          (sym (first_own T c (length new_entries) (length new_relations) (length new_comparisons) (length new_queries)) ∙ called_own T R writing accepts)

      -- checking accepts the tables too, with 1,024 words of rows; c is permitted; and there was room
      pub written_checked : answer T R (checking 1024) ≡ Ok tt
      written_checked = check_typing T R (called_sound T R writing accepts) ∙ called_typed T R writing accepts

      pub written-permitted : permitted T c ≡ true
      written-permitted = not-false (permitted T c) (if_accepted (not (permitted T c)) (refusal 20 0 0 c) own_accepted.0)

      pub written_rooms : Rooms T new_entries new_relations new_comparisons new_queries
      written_rooms = room_accepted T new_entries new_relations new_comparisons new_queries own_accepted.1

      -- so all that is found of the tables written after a check is found, of the rows that a check would write
      pub written_alone : FoundWritten T R c (column_rows T) new_entries new_relations new_comparisons new_queries r
          new_entries' new_relations' new_comparisons' new_queries'
      written_alone =
          found_written (replicate 1024 0) (column_rows T)
          (sym written_checked, ap (λ (v : Verdict). after v (column_rows T) (replicate 1024 0)) (sym written_checked)) written-permitted written_rooms

      -- that is: the configured report passes the plain rules; given to the checker, what is written is accepted, and its columns are the report's
      pub written-columns : (lent lent' : List ℕ) (v : Verdict) → length lent ≡ 1024 → Checks (configured T c R) Reading.Strict lent v lent'
          → (passes (kind_of T) (configured_schema T c) (configured_report T c R) ≡ true)
          × (v ≡ Ok tt)
          × (shown lent' 0 ≡ columns (configured_schema T c) (configured_report T c R))
      written-columns lent lent' v full w =
          let s = written_alone.shows lent lent' v full w in (
            checked_passes T R 1024 written_checked c written-permitted,
            s.0,
            s.1 ∙ sym (checked_columns T R 1024 written_checked c written-permitted),
          )

-- ---- In the strict reading. "Found also, for all tables sound in form and schema: a call that gets as far as typing refuses them for a typing fault exactly when, at some
-- permitted configuration, the configured report breaks a plain rule; the configuration named is then one of those. No report that passes at every
-- permitted configuration is refused so."

-- of any call that gets as far as typing, where the answer's being a typing fault is told by `fault`
module _ (T : Tables) {call : Call} (own : OwnNumbers call) (gets : GetsAsFarAsTyping T call) {fault : Bool}
    (same : fault ≡ is_typing_fault (answer T Reading.Strict call)) where
  pub call_refuses : (fault ≡ true) ↔ Broken T
  call_refuses = let b = refused_broken T own gets in (λ e. b.0 (sym same ∙ e), λ e. same ∙ b.1 e)

  pub call_names : fault ≡ true → Named T call
  call_names e = refused_named T own gets (sym same ∙ e)

  pub call_never : PassesThroughout T → fault ≡ false
  call_never h = same ∙ never_refused T own gets h

module _ (T : Tables) (sound : Sound T) where
  -- on such tables these calls are checking with 1,024 words of rows, and configuring whatever configuration and room it is given
  pub which_check : (rows : List ℕ) → GetsAsFarAsTyping T (checking (length rows)) ↔ (length rows ≡ 1024)
  which_check rows = check_gets T sound (length rows)

  pub which_configure : (c entries_room relations_room comparisons_room queries_room : ℕ)
      → GetsAsFarAsTyping T (configuring c entries_room relations_room comparisons_room queries_room)
  which_configure = configure_gets T sound

  -- checking
  module _ (rows rows' : List ℕ) (r : Verdict) (full : length rows ≡ 1024) (checks : Checks T Reading.Strict rows r rows') where
    abbrev call : Call
    call = checking (length rows)

    gets : GetsAsFarAsTyping T call
    gets = (which_check rows).1 full

    same : is_typing_fault r ≡ is_typing_fault (answer T Reading.Strict call)
    same = ap is_typing_fault checks.0

    pub check_refuses : (is_typing_fault r ≡ true) ↔ Broken T
    check_refuses = call_refuses T (checking_own (length rows)) gets same

    pub check_names : is_typing_fault r ≡ true → (n : Named T call) × (r ≡ Err n.refuses)
    check_names e = let n = call_names T (checking_own (length rows)) gets same e in (n, checks.0 ∙ n.answers)

    pub check_never : PassesThroughout T → is_typing_fault r ≡ false
    check_never = call_never T (checking_own (length rows)) gets same

  -- configuring
  module _ (c : ℕ) (new_entries new_relations new_comparisons new_queries : List ℕ) (r : Configured)
      (new_entries' new_relations' new_comparisons' new_queries' : List ℕ)
      (configures : Configures T Reading.Strict c new_entries new_relations new_comparisons new_queries r new_entries' new_relations' new_comparisons' new_queries') where
    abbrev called : Call
    called = configuring c (length new_entries) (length new_relations) (length new_comparisons) (length new_queries)

    own : OwnNumbers called
    own = configuring_own c (length new_entries) (length new_relations) (length new_comparisons) (length new_queries)

    reaches : GetsAsFarAsTyping T called
    reaches = which_configure c (length new_entries) (length new_relations) (length new_comparisons) (length new_queries)

    pub configure_refuses : (is_configured_fault r ≡ true) ↔ Broken T
    configure_refuses = call_refuses T own reaches (configured_fault configures)

    pub configure_names : is_configured_fault r ≡ true → (n : Named T called) × (r ≡ Err n.refuses)
    configure_names e =
        let n = call_names T own reaches (configured_fault configures) e in (n, (configured_refused configures n.refuses).1 n.answers)

    pub configure_never : PassesThroughout T → is_configured_fault r ≡ false
    configure_never = call_never T own reaches (configured_fault configures)
