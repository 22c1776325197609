-- The tables that configuring writes for an accepted report are accepted, and show at 0 what the report shows at c (docs/FORMAT.md, "Configuring").
use Rattle.std.specs.Prelude.{Ok}
use Prim.Native.Nat.{ℕ, zero, suc, ◌<◌, ◌≤◌}
use mathlib.Core.Path.{◌≡◌, refl, sym, ap, ap₂, ◌∙◌}
use mathlib.Core.Logic.{◌≢◌}
use mathlib.Core.Bool.{Bool, true, false, cond, ◌&&◌, not, false≢true}
use native.Mathlib.Omega.{arith}
use lib.ListN.{length}
use Rattle.sets.specs.Bits.{bit}
use Rattle.sets.proofs.SearchLaws.{at_some, nothing_seek}
use Rattle.sets.proofs.RowLaws.{within_out}
use Rattle.report.specs.Tables.{Tables, kind_of, relation_expression, relation_length, relation_start, entry_attribute, entry_expression}
use Rattle.report.specs.Tables.{entry_count, relation_count, report}
use Rattle.report.specs.Expressions.{holds, configurations, permitted}
use Rattle.report.specs.Typing.{at, present, set_of}
use Rattle.report.specs.ColumnRows.{has_column, column_rows, shown}
use Rattle.report.specs.Configuring.{read_as, configured}
use Rattle.report.specs.declared.Query.{Query}
use Rattle.report.specs.PlainAlgebra.{columns, passes}
use Rattle.report.specs.ConfiguredReport.{configured_report, configured_schema}
use Rattle.report.specs.Formed.{Formed}
use Rattle.report.specs.FormChecks.{form_check}
use Rattle.report.specs.Verdicts.{refusal, refuse_at, first_of}
use Rattle.report.specs.Checks.{somewhere, relation_check, apart_everywhere, model_and_schema_check, typing_check}
use Rattle.report.specs.Calls.{Call, Given, answer_to, whole, answer, Sound, checking, configuring}
use Rattle.report.specs.GivenDemands.{Forms}
use Rattle.report.specs.WrittenTables.{WrittenTables, WrittenAccepted, WrittenTyped}
use Rattle.report.specs.declared.Reading.{Reading}
use Rattle.report.proofs.VerdictLaws.{accepted_both, accepted_if, accepted_first}
use Rattle.report.proofs.FirstFault.{first_own, room_fits}
use Rattle.report.proofs.CallLaws.{given_answer, given_formed, whole_forms, given_gets, given_typed, given_own, gets_given, sound_accepted, sound_checks, sound_formed}
use Rattle.report.proofs.Formed.{few_entries}
use Rattle.report.proofs.FormedFacts.{report_in}
use Rattle.report.proofs.SetLaws.{kept_sets}
use Rattle.report.proofs.KeptLists.{strict_read}
use Rattle.report.proofs.LeadLaws.{form_at}
use Rattle.report.proofs.FilledTrees.{filled_columns}
use Rattle.report.proofs.TreeLaws.{passes_clean, report-columns}
use Rattle.report.proofs.TypingLaws.{typing_passes, typed_passes, shown_nothing, shown_columns}
use Rattle.report.proofs.Refusing.{configure_gets, check_typing}
use Rattle.report.proofs.ReachLaws.{reached-leads, reached_in}
use Rattle.report.proofs.WrittenEntries.{entry_holds_lem, relation_holds}
use Rattle.report.proofs.WrittenQueries.{parts_shorter, entries_room, relations_room, comparisons_room, queries_room}
use Rattle.report.proofs.WrittenFormed.{RelationsPresent}
use Rattle.report.proofs.WrittenFormed.{written_formed as tables_formed}
use Rattle.report.proofs.Written.{tables_accepted, tables_written, passes_written, columns_written}

-- where the configured report passes, every relation that c reaches and that is written as one is present. In the filled reading it always is
pub passes-present : {T : Tables} → Formed T → (c : ℕ) (R : Reading) → permitted T c ≡ true
    → passes (kind_of T) (configured_schema T c) (configured_report T c R) ≡ true → RelationsPresent T c R
passes-present {T} F c Reading.Strict ok good q a r e =
    let clean = (passes_clean F c (report T) (report_in F)).0 good q (sym (reached-leads F c ok q) ∙ r) in
    (rw (sym (strict_read T c (form_at T q)) ∙ e) at (kept_sets F c q (reached_in F c ok q r) clean)).0
passes-present {T} F c Reading.Filled ok good q a r e = go (form_at T q) e
  where
    is : Query → ℕ
    is Query.Malformed = 0
    is Query.Empty = 0
    is (Query.Relation a) = suc a
    is (Query.Select a b) = 0
    is (Query.Project a b) = 0
    is (Query.Choice a b d) = 0
    is (Query.Product a b) = 0
    is (Query.Union a b) = 0
    is (Query.Intersection a b) = 0

    none : {y : Query} → is y ≡ 0 → y ≡ Query.Relation a → ⊥
    none z e = let n = sym z ∙ ap is e in omega arith

    relation : (b : ℕ) (t : Bool) → present T c b ≡ t → cond t (Query.Relation b) Query.Empty ≡ Query.Relation a → present T c a ≡ true
    relation b true p e = let n = ap is e in let s : a ≡ b = omega arith in ap (present T c) s ∙ p
    relation b false p e = absurd (none refl e)

    go : (y : Query) → read_as T c Reading.Filled y ≡ Query.Relation a → present T c a ≡ true
    go Query.Malformed e = absurd (none refl e)
    go Query.Empty e = absurd (none refl e)
    go (Query.Relation b) e = relation b (present T c b) refl e
    go (Query.Select b d) e = absurd (none refl e)
    go (Query.Project b d) e = absurd (none refl e)
    go (Query.Choice b d f) e = absurd (none refl e)
    go (Query.Product b d) e = absurd (none refl e)
    go (Query.Union b d) e = absurd (none refl e)
    go (Query.Intersection b d) e = absurd (none refl e)

-- and its columns are the report's set
pub passed_columns : {T : Tables} → Formed T → (c : ℕ) (R : Reading) → passes (kind_of T) (configured_schema T c) (configured_report T c R) ≡ true
    → columns (configured_schema T c) (configured_report T c R) ≡ set_of T c (report T)
passed_columns {T} F c Reading.Strict good = report-columns F c good
passed_columns {T} F c Reading.Filled good = filled_columns F c (report T) (report_in F)

-- ---- tables written where the configured report passes

module _ (T : Tables) (c : ℕ) (R : Reading) where
  -- 0 is their one configuration, and permitted
  pub one_configuration : configurations (configured T c R) ≡ 1
  unfolding configured
  one_configuration = refl

  pub zero_permitted : permitted (configured T c R) 0 ≡ true
  unfolding permitted configured holds
  zero_permitted = refl

  pub only_zero : (d : ℕ) → d ≢ 0 → permitted (configured T c R) d ≡ false
  unfolding permitted configured
  only_zero d n = within_out 0 (λ d. (configured T c R).truth d (configured T c R).model) d (omega arith)

  -- what holds at 0 holds somewhere
  at_zero : (test : ℕ → Bool) → test 0 ≡ true → somewhere (configured T c R) test ≡ true
  at_zero test e =
      at_some (λ d. permitted (configured T c R) d && test d) (configurations (configured T c R)) 0 (omega (arith, one_configuration))
      (ap₂ ◌&&◌ zero_permitted e)

module _ {T : Tables} (F : Formed T) (c : ℕ) (R : Reading) where
  -- 13 and 14
  relation_accepted : (r : ℕ) → r < relation_count (configured T c R) → relation_check (configured T c R) r ≡ Ok tt
  relation_accepted r h =
      let U = configured T c R in
      accepted_both (accepted_if _ (ap not (at_zero T c R (λ d. at U d (relation_expression U.relations r)) (relation_holds F c R r h))))
      (ap (refuse_at (λ i. refusal 14 r (entry_attribute U.entries i) 0))
      (nothing_seek (apart_everywhere U r) (relation_length U.relations r) (relation_start U.relations r)
      (λ i l k.
      ap not
      (at_zero T c R (λ d. at U d (relation_expression U.relations r) && at U d (entry_expression U.entries i))
      (ap₂ ◌&&◌ (relation_holds F c R r h) (entry_holds_lem F c R i))))))

  -- 12 to 14
  schema_accepted : model_and_schema_check (configured T c R) ≡ Ok tt
  schema_accepted =
      accepted_both (accepted_if _ (ap not (at_zero T c R (λ d. true) refl)))
      (accepted_first (relation_check (configured T c R)) (relation_count (configured T c R)) 0 (λ r l h. relation_accepted r (omega arith)))

  module _ (ok : permitted T c ≡ true) (good : passes (kind_of T) (configured_schema T c) (configured_report T c R) ≡ true) where
    passes_writes : WrittenTables T c R
    passes_writes = tables_written F c R ok (passes-present F c R ok good)

    pub written_formed : Formed (configured T c R)
    written_formed = tables_formed F c R ok (passes-present F c R ok good)

    -- the report of the tables written passes at 0, their one configuration
    written_passes : (d : ℕ) → permitted (configured T c R) d ≡ true
        → passes (kind_of (configured T c R)) (configured_schema (configured T c R) d) (configured_report (configured T c R) d Reading.Strict) ≡ true
    written_passes zero p = passes_written F c R ok (passes-present F c R ok good) ∙ good
    written_passes (suc d) p = absurd (false≢true (sym (only_zero T c R (suc d) (omega arith)) ∙ p))

    written_typed : typing_check (configured T c R) Reading.Strict ≡ Ok tt
    written_typed = (typing_passes written_formed).1 written_passes

    -- the report has at 0 the set that it had at c
    pub written_set : set_of (configured T c R) 0 (report (configured T c R)) ≡ set_of T c (report T)
    written_set =
        sym (report-columns written_formed 0 (written_passes 0 (zero_permitted T c R)))
        ∙ columns_written F c R ok (passes-present F c R ok good)
        ∙ passed_columns F c R good

    -- so their column rows have at 0 what those of the source have at c, and nothing elsewhere
    pub written_column : (a : ℕ) → has_column (configured T c R) a 0 ≡ has_column T a c
    written_column a = ap₂ (λ (t : Bool) (x : ℕ). t && bit x a) (zero_permitted T c R ∙ sym ok) written_set

    pub no_other_column : (a d : ℕ) → d ≢ 0 → has_column (configured T c R) a d ≡ false
    no_other_column a d n = ap (λ (t : Bool). t && bit (set_of (configured T c R) d (report (configured T c R))) a) (only_zero T c R d n)

    -- what they show
    pub written_shown : shown (column_rows (configured T c R)) 0 ≡ shown (column_rows T) c
    written_shown = shown_columns written_formed 0 (zero_permitted T c R) ∙ written_set ∙ sym (shown_columns F c ok)

    pub nothing_shown : (d : ℕ) → d ≢ 0 → d < 1024 → shown (column_rows (configured T c R)) d ≡ 0
    nothing_shown d n h = shown_nothing (configured T c R) d h (only_zero T c R d n)

    -- all of it
    pub typed_written : WrittenTyped T c R
    typed_written = record {
      writes = passes_writes;
      formed = written_formed;
      schema_sound = schema_accepted;
      typed = written_typed;
      column = written_column;
      no_other = no_other_column;
      shows = written_shown;
      shows_nothing = nothing_shown;
      lists = parts_shorter F c R;
      room1 = entries_room F c R;
      room2 = relations_room F c R;
      room3 = comparisons_room F c R;
      room4 = queries_room F c R;
    }

    -- of whole tables
    module _ (few : entry_count T ≤ 512) where
      forms_accepted : form_check (configured T c R) ≡ Ok tt
      forms_accepted = tables_accepted F few c R ok (passes-present F c R ok good)

      -- "sound in form and schema"
      written_sound : Sound (configured T c R)
      written_sound = (sound_accepted (configured T c R)).1 (accepted_both forms_accepted schema_accepted)

      -- given to the checker, they are accepted
      whole_written : WrittenAccepted T c R
      whole_written = record {
        written = typed_written;
        forms = forms_accepted;
        sound = written_sound;
        checked = check_typing (configured T c R) Reading.Strict written_sound ∙ written_typed;
      }

-- ---- an accepted report

-- of a call that accepts, whatever it was given
module _ (G : Given) (forms : Forms G) (R : Reading) (call : Call) (e : answer_to G R call ≡ Ok tt) (c : ℕ) (ok : permitted G.tables c ≡ true) where
  formed_there : Formed G.tables
  formed_there = given_formed G call forms (given_gets G R call e)

  -- the report configured in its reading passes at every permitted configuration
  pub given_passes : passes (kind_of G.tables) (configured_schema G.tables c) (configured_report G.tables c R) ≡ true
  given_passes = typed_passes formed_there R (given_typed G R call e) c ok

  -- its columns are the report's set there, which the rows show
  pub given_columns : columns (configured_schema G.tables c) (configured_report G.tables c R) ≡ set_of G.tables c (report G.tables)
  given_columns = passed_columns formed_there c R given_passes

  pub given_shown : columns (configured_schema G.tables c) (configured_report G.tables c R) ≡ shown (column_rows G.tables) c
  given_shown = given_columns ∙ sym (shown_columns formed_there c ok)

  -- and what configuring writes there
  pub given_written : WrittenTyped G.tables c R
  given_written = typed_written formed_there c R ok given_passes

-- a call on whole tables that accepts has accepted 1 to 10, 24, 12 to 14, 15 to 19 and 25, and none of its own conditions holds
module _ (T : Tables) (R : Reading) (call : Call) (e : answer T R call ≡ Ok tt) where
  pub called_sound : Sound T
  called_sound = gets_given (whole T) call (given_gets (whole T) R call e)

  pub called_typed : typing_check T R ≡ Ok tt
  called_typed = given_typed (whole T) R call e

  pub called_own : first_of (call.after_typing T) ≡ Ok tt
  called_own = given_own (whole T) R call e

  pub called_formed : Formed T
  called_formed = sound_formed T called_sound

  called_few : entry_count T ≤ 512
  called_few = few_entries T ((sound_checks T).0 called_sound).0

  module _ (c : ℕ) (ok : permitted T c ≡ true) where
    pub called_passes : passes (kind_of T) (configured_schema T c) (configured_report T c R) ≡ true
    called_passes = given_passes (whole T) (whole_forms T) R call e c ok

    pub called_columns : columns (configured_schema T c) (configured_report T c R) ≡ set_of T c (report T)
    called_columns = given_columns (whole T) (whole_forms T) R call e c ok

module _ (T : Tables) (R : Reading) (room : ℕ) (e : answer T R (checking room) ≡ Ok tt) where
  pub checked_sound : Sound T
  checked_sound = called_sound T R (checking room) e

  pub checked_formed : Formed T
  checked_formed = called_formed T R (checking room) e

  module _ (c : ℕ) (ok : permitted T c ≡ true) where
    pub checked_passes : passes (kind_of T) (configured_schema T c) (configured_report T c R) ≡ true
    checked_passes = called_passes T R (checking room) e c ok

    -- the columns are those that the rows show there
    pub checked_columns : columns (configured_schema T c) (configured_report T c R) ≡ shown (column_rows T) c
    checked_columns = given_shown (whole T) (whole_forms T) R (checking room) e c ok

    -- the tables written there
    pub accepted_written : WrittenAccepted T c R
    accepted_written = whole_written checked_formed c R ok checked_passes (called_few T R (checking room) e)

    -- and configuring accepts it there, if each table lent for writing is as long as its source
    pub configure_accepted : (r1 r2 r3 r4 : ℕ) → length T.entries ≤ r1 → length T.relations ≤ r2 → length T.comparisons ≤ r3
        → length T.queries ≤ r4 → answer T R (configuring c r1 r2 r3 r4) ≡ Ok tt
    configure_accepted r1 r2 r3 r4 h1 h2 h3 h4 =
        given_answer (whole T) R (configuring c r1 r2 r3 r4) (configure_gets T checked_sound c r1 r2 r3 r4)
        ∙ accepted_both (called_typed T R (checking room) e)
        (first_own T c r1 r2 r3 r4
        ∙ accepted_both (accepted_if _ (ap not ok))
        ((room_fits T r1 r2 r3 r4).1 (h1, h2, h3, h4)))
