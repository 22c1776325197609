-- The promises and the theorems of this crate are about something: calls on H1 and on others of docs/FORMAT.md, "Worked examples", by computation.
use Rattle.std.specs.Prelude.{Ok, Err, Some, None}
use Prim.Native.Nat.{ℕ, zero, suc, ◌<◌}
use mathlib.Core.Path.{◌≡◌, refl, sym, ap, ◌∙◌}
use mathlib.Core.Bool.{true, false, false≢true}
use mathlib.Core.List.{List, [], ◌∷◌}
use mathlib.Core.Logic.{inr}
use native.Mathlib.Omega.{arith}
use lib.ListN.{replicate, get_or}
use lib.Dec.{lit≤}
use Rattle.sets.proofs.BitLaws.{bit_none}
use Rattle.report.specs.Tables.{Tables, query, relation_length, relation_start, project_length, project_start}
use Rattle.report.specs.Expressions.{permitted, tables_of}
use Rattle.report.specs.ColumnRows.{column_rows}
use Rattle.report.specs.ConfiguredReport.{plain_query_at, kept_attributes}
use Rattle.report.specs.Verdicts.{Verdict, refusal, after, Foremost}
use Rattle.report.specs.FormChecks.{list_fits, comparison_ok}
use Rattle.report.specs.Calls.{Call, whole, conditions, answer, Sound, GetsAsFarAsTyping, checking, configuring}
use Rattle.report.specs.Repeats.{relation_repeats, project_repeats, NoRepeats, answer_before, configured_before}
use Rattle.report.specs.Kinds.{IsKind2, Differing, KindFault, AllKinds0, answer_before_kinds}
use Rattle.report.specs.Examples.{h1, ramp_twice, quay, arrivals, kinds012, arrival_by_count, arrival_by, lacking}
use Rattle.report.specs.declared.Reading.{Reading}
use Rattle.report.proofs.ExamplesHold.{computed}
use Rattle.report.proofs.Guards.{h1_accepted}
use Rattle.report.proofs.CallLaws.{gets_given}
use Rattle.report.proofs.Refusing.{configure_gets, configuring_own}
use Rattle.report.proofs.KindLaws.{kinds_0_before}
use Rattle.report.proofs.KindMembers.{seven_asks}
use Rattle.report.proofs.KindCalls.{accepted_one_kind, exactly_25}
use Rattle.checking.specs.Promises.{Checks}
use Rattle.configuring.specs.Promises.{form_counts, Rooms, Leaves, Configures}
use Rattle.finding.specs.Finding.{lowest_wanted, Finds}
use Rattle.wall_page.specs.Page.{line_count, page_after, PageWritten}
use Rattle.demands.specs.FoundWritten.{FoundWritten}
use Rattle.demands.specs.FoundConfiguration.{columns_at, HoldsAll, LowestWith, NoneWith}
use Rattle.demands.specs.PageLines.{line_of, line_at, LineShows}
use Rattle.demands.specs.ExactlyOne.{IsKind6, OneOn}
use Rattle.demands.proofs.Demands.{configure_foremost, found_written}
use Rattle.demands.proofs.Finding.{find_found, find_none}
use Rattle.demands.proofs.Joined.{configure_once, configure_before}
use Rattle.demands.proofs.WallPage.{page_shows}
use Rattle.demands.proofs.ExactlyOne.{range_refused, model_permits, model_found}
use Rattle.demands.proofs.ComparedKinds.{check_one_kind, check_25}

-- tables lent with other words in them, table 1 with two words more than its source
abbrev lent1 : List ℕ
lent1 = replicate 12 9

abbrev lent2 : List ℕ
lent2 = replicate 2 9

abbrev lent4 : List ℕ
lent4 = replicate 8 9

-- H4: H1 configured at 0. The words after those written are as they were
pub h4_configures : Configures (h1 2) Reading.Strict 0 lent1 lent2 [] lent4 (Ok (form_counts 3 1 0 2)) (0 ∷ 0 ∷ 1 ∷ 0 ∷ 0 ∷ 0 ∷ replicate 6 9) (0 ∷ 2 ∷ []) []
    (1 ∷ 0 ∷ 0 ∷ 0 ∷ 3 ∷ 1 ∷ 0 ∷ 0 ∷ [])
unfolding computed
h4_configures = record { answers = refl; entries = refl; relations = refl; comparisons = refl; queries = refl }

-- 20: a configuration past the last, also where its low 16 bits are those of a permitted one
pub past_refused : Configures (h1 2) Reading.Strict 65536 lent1 lent2 [] lent4 (Err (refusal 20 0 0 65536)) lent1 lent2 [] lent4
unfolding computed
past_refused = record { answers = refl; entries = refl; relations = refl; comparisons = refl; queries = refl }

-- so no condition before that holds
pub past_foremost : Foremost (conditions (h1 2) Reading.Strict (configuring 65536 12 2 0 8)) (refusal 20 0 0 65536)
past_foremost = (configure_foremost (h1 2) Reading.Strict 65536 lent1 lent2 [] lent4 _ lent1 lent2 [] lent4 past_refused (refusal 20 0 0 65536)).0 refl

-- 21: a table with room for what is written, and shorter than its source
pub short_refused : Configures (h1 2) Reading.Strict 0 (replicate 9 9) lent2 [] lent4 (Err (refusal 21 1 0 0)) (replicate 9 9) lent2 [] lent4
unfolding computed
short_refused = record { answers = refl; entries = refl; relations = refl; comparisons = refl; queries = refl }

-- and H1 is accepted, so Demands says of H4 what it says of any such call
h1_checks : Checks (h1 2) Reading.Strict (replicate 1024 9) (Ok tt) (column_rows (h1 2))
h1_checks = (sym h1_accepted, ap (λ (v : Verdict). after v (column_rows (h1 2)) (replicate 1024 9)) (sym h1_accepted))

h4_permitted : permitted (h1 2) 0 ≡ true
unfolding computed
h4_permitted = refl

h4_rooms : Rooms (h1 2) lent1 lent2 [] lent4
h4_rooms = record { entries = lit≤ tt; relations = lit≤ tt; comparisons = lit≤ tt; queries = lit≤ tt }

pub h4_found : FoundWritten (h1 2) Reading.Strict 0 (column_rows (h1 2)) lent1 lent2 [] lent4 (Ok (form_counts 3 1 0 2)) (0 ∷ 0 ∷ 1 ∷ 0 ∷ 0 ∷ 0 ∷ replicate 6 9)
    (0 ∷ 2 ∷ []) [] (1 ∷ 0 ∷ 0 ∷ 0 ∷ 3 ∷ 1 ∷ 0 ∷ 0 ∷ [])
h4_found =
    found_written (h1 2) Reading.Strict 0 lent1 lent2 [] lent4 _ _ _ _ _ h4_configures (replicate 1024 9) (column_rows (h1 2)) h1_checks h4_permitted h4_rooms

-- Wish 2: H1 has no list with an attribute twice, so H4 is what it was. A relation that lists the ramp for swaps and again for tide gates has such a
-- list; what is written of it with tide gates alone has none
pub h1_once : NoRepeats (h1 2)
unfolding computed
h1_once = record { relations = relation; projects = project }
  where
    relation : (r : ℕ) → r < 1 → list_fits (h1 2).entries (relation_start (h1 2).relations r) (relation_length (h1 2).relations r) ≡ true
        → relation_repeats (h1 2) r ≡ false
    relation zero h f = refl
    relation (suc r) h f = absurd (omega arith)

    project : (q : ℕ) → q < 2 → list_fits (h1 2).entries (project_start (h1 2) q) (project_length (query (h1 2).queries q)) ≡ true
        → project_repeats (h1 2) q ≡ false
    project zero h f = refl
    project (suc zero) h f = refl
    project (suc (suc q)) h f = absurd (omega arith)

pub h4_before : Leaves (answer_before (h1 2) (configuring 0 12 2 0 8)) (configured_before (h1 2) 0) lent1 lent2 [] lent4 (Ok (form_counts 3 1 0 2))
    (0 ∷ 0 ∷ 1 ∷ 0 ∷ 0 ∷ 0 ∷ replicate 6 9) (0 ∷ 2 ∷ []) [] (1 ∷ 0 ∷ 0 ∷ 0 ∷ 3 ∷ 1 ∷ 0 ∷ 0 ∷ [])
h4_before = configure_before (h1 2) 0 lent1 lent2 [] lent4 _ _ _ _ _ h4_configures h1_once

pub ramp_repeats : relation_repeats ramp_twice 0 ≡ true
ramp_repeats = refl

ramp_configures : Configures ramp_twice Reading.Strict 2 (replicate 7 9) lent2 [] (replicate 4 9) (Ok (form_counts 2 1 0 1))
    (0 ∷ 0 ∷ 1 ∷ 0 ∷ replicate 3 9) (0 ∷ 2 ∷ []) [] (1 ∷ 0 ∷ 0 ∷ 0 ∷ [])
unfolding computed
ramp_configures = record { answers = refl; entries = refl; relations = refl; comparisons = refl; queries = refl }

pub ramp_once : NoRepeats (tables_of 0 2 0 (1 ∷ 0 ∷ 0 ∷ []) (0 ∷ 0 ∷ 1 ∷ 0 ∷ []) (0 ∷ 2 ∷ []) [] (1 ∷ 0 ∷ 0 ∷ 0 ∷ []) (0 ∷ 0 ∷ []))
ramp_once = configure_once ramp_twice Reading.Strict 2 (replicate 7 9) lent2 [] (replicate 4 9) _ _ _ _ _ ramp_configures 2 1 0 1 refl

-- `find` on H1: vessel and ramp are wanted, and 2 is the lowest configuration that has both; 0 has not. Berth no configuration has
h1_finds : Finds (h1 2) Reading.Strict 5 (Ok (Some 2))
unfolding computed lowest_wanted
h1_finds = refl

pub h1_found : LowestWith (h1 2) (columns_at (h1 2) Reading.Strict) 5 2
h1_found = (find_found (h1 2) Reading.Strict 5 (Ok (Some 2)) h1_finds refl).1

pub h1_lacks : HoldsAll (columns_at (h1 2) Reading.Strict) 5 0 → ⊥
h1_lacks = h1_found.lower 0 (lit≤ tt) h4_permitted

berth_finds : Finds (h1 2) Reading.Strict 2 (Ok None)
unfolding computed lowest_wanted
berth_finds = refl

pub berth_nowhere : NoneWith (h1 2) (columns_at (h1 2) Reading.Strict) 2
berth_nowhere = find_none (h1 2) Reading.Strict 2 (Ok None) berth_finds refl

-- `write_page` on H1, with room for two bytes more: four lines. That of 2 has a mark for the ramp, attribute 2, and none for the berth, attribute 1
abbrev lent_page : List ℕ
lent_page = replicate 294 63

h1_page : PageWritten (h1 2) Reading.Strict lent_page (Ok 4) (page_after (h1 2) Reading.Strict lent_page)
unfolding computed line_count
h1_page = record { answers = refl; stored = refl }

h1_permits : permitted (h1 2) 2 ≡ true
unfolding computed
h1_permits = refl

h1_columns : columns_at (h1 2) Reading.Strict 2 ≡ 5
unfolding computed plain_query_at kept_attributes
h1_columns = refl

h1_line : LineShows 2 5 (line_at (page_after (h1 2) Reading.Strict lent_page) (line_of (h1 2) 2))
h1_line = rw h1_columns at ((page_shows (h1 2) Reading.Strict lent_page (Ok 4) _ h1_page refl).line 2 h1_permits).1

pub ramp_marked : get_or (line_at (page_after (h1 2) Reading.Strict lent_page) (line_of (h1 2) 2)) 7 0 ≡ 111
ramp_marked = (h1_line.present 2 (lit≤ tt)).1 refl

pub berth_absent : get_or (line_at (page_after (h1 2) Reading.Strict lent_page) (line_of (h1 2) 2)) 6 0 ≡ 46
berth_absent = (h1_line.absent 1 (lit≤ tt)).1 refl

-- A quay that is tidal, locked or floating: its model is of kind 6. `find` answers 1, where the quay is tidal; at 3 it would be two, at 0 none, so
-- neither is permitted. A range whose end in 16 bits would be 1 is refused
quay_kind : IsKind6 (quay 3 0 3) 0 0 3
quay_kind = record { kind = refl; first_is = refl; count_is = refl }

quay_finds : Finds (quay 3 0 3) Reading.Strict 1 (Ok (Some 1))
unfolding computed lowest_wanted
quay_finds = refl

pub quay_found : OneOn 0 3 1
quay_found = model_found (quay 3 0 3) refl 0 3 quay_kind Reading.Strict 1 (Ok (Some 1)) quay_finds refl

pub quay_tidal : quay_found.feature ≡ 0
quay_tidal = sym (quay_found.alone 0 (lit≤ tt) (lit≤ tt) refl)

pub quay_two : permitted (quay 3 0 3) 3 ≡ true → ⊥
quay_two p =
    let o = ((model_permits (quay 3 0 3) refl 0 3 quay_kind 3).0 p).1 in
    let a = o.alone 0 (lit≤ tt) (lit≤ tt) refl in
    let b = o.alone 1 (lit≤ tt) (lit≤ tt) refl in
    omega arith

pub quay_none : permitted (quay 3 0 3) 0 ≡ true → ⊥
quay_none p = let o = ((model_permits (quay 3 0 3) refl 0 3 quay_kind 0).0 p).1 in false≢true (sym (bit_none o.feature) ∙ o.on)

far_kind : IsKind6 (quay 3 65535 2) 0 65535 2
far_kind = record { kind = refl; first_is = refl; count_is = refl }

pub far_refused : (call : Call) → answer (quay 3 65535 2) Reading.Strict call ≡ Err (refusal 3 0 0 0)
far_refused call =
    range_refused (quay 3 65535 2) Reading.Strict call 0 (lit≤ tt) refl (λ f l. absurd (omega arith)) 65535 2 far_kind (inr (inr (lit≤ tt)))

-- an arrival compared with a passenger count: the select reaches the comparison at 0, so no call accepts it, and the check refuses it by 25, which names
-- just that
abbrev compared : Tables
compared = arrivals arrival_by_count 0 kinds012

pub arrival_differs : Differing compared 0 1 0 0
unfolding computed
arrival_differs = record { selects = 0; of = 0; form = refl; reaches = refl; leads = refl; two = refl; left = refl }

pub arrival_never : (call : Call) → answer compared Reading.Strict call ≡ Ok tt → ⊥
arrival_never call e = accepted_one_kind compared Reading.Strict call e 0 1 0 0 arrival_differs

pub arrival_refused : Checks compared Reading.Strict (replicate 1024 9) (Err (refusal 25 1 0 0)) (replicate 1024 9)
unfolding computed
arrival_refused = (refl, refl)

arrival_gets : GetsAsFarAsTyping compared (checking 1024)
unfolding computed
arrival_gets = refl

pub arrival_fault : KindFault compared (refusal 25 1 0 0)
arrival_fault = check_25 compared (replicate 1024 9) (replicate 1024 9) (refusal 25 1 0 0) arrival_refused refl

-- so `configure` refuses it by the same, whatever it is given
pub arrival_configure : (c r1 r2 r3 r4 : ℕ) → answer compared Reading.Strict (configuring c r1 r2 r3 r4) ≡ Err (refusal 25 1 0 0)
arrival_configure c r1 r2 r3 r4 = (exactly_25 compared (configuring_own c r1 r2 r3 r4) (configure_gets compared sound c r1 r2 r3 r4) 1 0 0).1 arrival_fault
  where
    sound : Sound compared
    sound = gets_given (whole compared) (checking 1024) arrival_gets

-- an arrival compared with 830, and 3 for the constant's kind: 7 finds nothing in the form
constant_words : IsKind2 (arrivals (arrival_by 3) 0 kinds012) 0 0 0 830 3
constant_words = record { kind = refl; operator_is = refl; attribute_is = refl; constant_is = refl; word_c_is = refl }

pub constant_seven : comparison_ok (arrivals (arrival_by 3) 0 kinds012) 0 ≡ true
constant_seven = (seven_asks constant_words).1 (lit≤ tt, lit≤ tt)

-- of the same with one kind for both it is accepted, and so no sides differ
pub counts_agree : Checks (arrivals arrival_by_count 0 (1 ∷ 1 ∷ 2 ∷ [])) Reading.Strict (replicate 1024 9) (Ok tt) (column_rows (arrivals arrival_by_count 0 (1 ∷ 1 ∷ 2 ∷ [])))
unfolding computed
counts_agree = (refl, refl)

pub counts_alike : (c q a g : ℕ) → Differing (arrivals arrival_by_count 0 (1 ∷ 1 ∷ 2 ∷ [])) c q a g → ⊥
counts_alike = check_one_kind (arrivals arrival_by_count 0 (1 ∷ 1 ∷ 2 ∷ [])) (replicate 1024 9) _ Reading.Strict counts_agree

-- 16 at 3 comes before 25 at 0, and says that at 0 no compared attribute is missing
pub lacking_refused : Checks (lacking arrival_by_count (2 ∷ 0 ∷ 0 ∷ 0 ∷ [])) Reading.Strict (replicate 1024 9) (Err (refusal 16 1 1 3)) (replicate 1024 9)
unfolding computed
lacking_refused = (refl, refl)

pub lacking_differs : Differing (lacking arrival_by_count (2 ∷ 0 ∷ 0 ∷ 0 ∷ [])) 0 1 0 0
unfolding computed
lacking_differs = record { selects = 0; of = 0; form = refl; reaches = refl; leads = refl; two = refl; left = refl }

-- H1's kinds are all 0 and it has no select, so it is judged as it was
pub h1_kinds : AllKinds0 (h1 2)
h1_kinds = record { attributes = refl; constants = λ f h. absurd (omega arith) }

pub h1_before : (call : Call) → answer (h1 2) Reading.Strict call ≡ answer_before_kinds (h1 2) call
h1_before = kinds_0_before h1_kinds
