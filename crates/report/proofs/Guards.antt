-- The statements of Refusing, TypingLaws and TreeLaws are about something: tables that are sound and that are not, configurations that are permitted and
-- that are not, forms that fail and that do not, reports that pass and that break a rule.
use Rattle.std.specs.Prelude.{Ok, Err}
use Prim.Native.Nat.{ℕ, zero, suc}
use mathlib.Core.Path.{◌≡◌, refl, ap}
use mathlib.Core.Bool.{true, false, cond}
use lib.Dec.{eqb}
use mathlib.Core.List.{[], ◌∷◌}
use mathlib.Core.Option.{none, some}
use Rattle.report.specs.Tables.{Tables, kind_of}
use Rattle.report.specs.Expressions.{permitted, tables_of}
use Rattle.report.specs.Typing.{present, reached, fails}
use Rattle.report.specs.PlainAlgebra.{PlainComparison, PlainQuery, Schema, Kinds, passes, columns}
use Rattle.report.specs.ConfiguredReport.{plain_comparison_at, kept_attributes, plain_query_at, configured_report, configured_schema}
use Rattle.report.specs.Verdicts.{refusal}
use Rattle.report.specs.Checks.{is_typing_fault}
use Rattle.report.specs.Calls.{answer, Sound, checking, configuring}
use Rattle.report.specs.TypingFaults.{Broken, Named}
use Rattle.report.specs.Examples.{h1, harbour, h1_expressions, h1_entries, h1_queries, guarded}
use Rattle.report.specs.declared.Reading.{Reading}
use Rattle.report.proofs.ExamplesHold.{computed}
use Rattle.report.proofs.CallLaws.{sound_accepted, sound_formed}
use Rattle.report.proofs.TreeLaws.{report-passes}
use Rattle.report.proofs.TypingLaws.{permitted_within}
use Rattle.report.proofs.Refusing.{check_gets, configure_gets, check_early, accepted_exactly}
use Rattle.report.proofs.Refusing.{checking_own, configuring_own, refused_broken, refused_named, never_refused}

-- ---- plain trees, under a schema whose relation 0 has attributes 0 and 1

abbrev schema : Schema
schema zero = some 3
schema (suc r) = none

-- attribute 2 is a count, all others are moments
abbrev kinds : Kinds
kinds a = cond (eqb a 2) 1 0

-- one that passes, and its columns
pub plain_passes : (passes kinds schema (PlainQuery.project (1 ∷ []) (PlainQuery.select (PlainComparison.constant 2 0 7 0) (PlainQuery.relation 0))) ≡ true)
    × (columns schema (PlainQuery.project (1 ∷ []) (PlainQuery.select (PlainComparison.constant 2 0 7 0) (PlainQuery.relation 0))) ≡ 2)
plain_passes = (refl, refl)

-- one that breaks a rule in each of the six ways
pub plain_breaks : (passes kinds schema (PlainQuery.relation 1) ≡ false)
    × (passes kinds schema (PlainQuery.select (PlainComparison.attribute 0 1 2) (PlainQuery.relation 0)) ≡ false)
    × (passes kinds schema (PlainQuery.select (PlainComparison.constant 2 0 7 1) (PlainQuery.relation 0)) ≡ false)
    × (passes kinds schema (PlainQuery.project (2 ∷ []) (PlainQuery.relation 0)) ≡ false)
    × (passes kinds schema (PlainQuery.product (PlainQuery.relation 0) (PlainQuery.relation 0)) ≡ false)
    × (passes kinds schema (PlainQuery.union PlainQuery.empty (PlainQuery.relation 0)) ≡ false)
plain_breaks = (refl, refl, refl, refl, refl, refl)

-- ---- H1: sound, and accepted; so its report passes at every permitted configuration, and no call refuses it for a typing fault

pub h1_sound : Sound (h1 2)
unfolding computed
h1_sound = (sound_accepted (h1 2)).1 refl

pub h1_accepted : answer (h1 2) Reading.Strict (checking 1024) ≡ Ok tt
unfolding computed
h1_accepted = refl

-- with two features the configurations permitted are 0 to 3
pub h1-permitted : (permitted (h1 2) 3 ≡ true) × (permitted (h1 2) 4 ≡ false)
unfolding computed
h1-permitted = (refl, refl)

pub h1-passes : (c : ℕ) → permitted (h1 2) c ≡ true → passes (kind_of (h1 2)) (configured_schema (h1 2) c) (configured_report (h1 2) c Reading.Strict) ≡ true
h1-passes c p =
    (report-passes (sound_formed (h1 2) h1_sound) c p).1 (λ q phase. (accepted_exactly (h1 2) Reading.Strict h1_sound).0 h1_accepted c q phase (permitted_within (h1 2) c p))

pub h1_never : (c r1 r2 r3 r4 : ℕ) → is_typing_fault (answer (h1 2) Reading.Strict (configuring c r1 r2 r3 r4)) ≡ false
h1_never c r1 r2 r3 r4 = never_refused (h1 2) (configuring_own c r1 r2 r3 r4) (configure_gets (h1 2) h1_sound c r1 r2 r3 r4) h1-passes

-- ---- H2: sound, and refused for a typing fault by both calls; so its report breaks a rule somewhere: at 1, where the form named fails

abbrev h2 : Tables
h2 = harbour 2 h1_expressions (h1_entries 1) h1_queries

pub h2_sound : Sound h2
unfolding computed
h2_sound = (sound_accepted h2).1 refl

pub h2_refused : answer h2 Reading.Strict (checking 1024) ≡ Err (refusal 17 1 2 1)
unfolding computed
h2_refused = refl

h2_fault : is_typing_fault (answer h2 Reading.Strict (checking 1024)) ≡ true
h2_fault = ap is_typing_fault h2_refused

pub h2_broken : Broken h2
h2_broken = (refused_broken h2 (checking_own 1024) ((check_gets h2 h2_sound 1024).1 refl)).0 h2_fault

pub h2_named : Named h2 (checking 1024)
h2_named = refused_named h2 (checking_own 1024) ((check_gets h2 h2_sound 1024).1 refl) h2_fault

pub h2_configure : (c r1 r2 r3 r4 : ℕ) → is_typing_fault (answer h2 Reading.Strict (configuring c r1 r2 r3 r4)) ≡ true
h2_configure c r1 r2 r3 r4 = (refused_broken h2 (configuring_own c r1 r2 r3 r4) (configure_gets h2 h2_sound c r1 r2 r3 r4)).1 h2_broken

pub h2_fails : (fails h2 1 0 1 ≡ true) × (fails h2 0 0 1 ≡ false)
unfolding computed
h2_fails = (refl, refl)

-- computed as a tree, without the theorem
pub h2_tree : (passes (kind_of h2) (configured_schema h2 1) (configured_report h2 1 Reading.Strict) ≡ false) × (passes (kind_of h2) (configured_schema h2 0) (configured_report h2 0 Reading.Strict) ≡ true)
unfolding computed plain_comparison_at kept_attributes plain_query_at
h2_tree = (refl, refl)

-- ---- H8: not sound, for it is refused before typing

abbrev h8 : Tables
h8 = harbour 2 (0 ∷ 0 ∷ 0 ∷ 2 ∷ 0 ∷ 0 ∷ 2 ∷ 1 ∷ 0 ∷ []) (h1_entries 2) h1_queries

h8_refused : answer h8 Reading.Strict (checking 1024) ≡ Err (refusal 12 0 0 0)
unfolding computed
h8_refused = refl

pub h8_unsound : Sound h8 → ⊥
h8_unsound = (check_early h8 Reading.Strict).0 (refusal 12 0 0 0, h8_refused, refl)

-- ---- a relation that is absent at 0, under a choice that does not take it there: accepted. A form that is not reached breaks nothing

abbrev untaken : Tables
untaken = guarded (0 ∷ 0 ∷ []) 1

pub untaken_accepted : answer untaken Reading.Strict (checking 1024) ≡ Ok tt
unfolding computed
untaken_accepted = refl

pub untaken_absent : (present untaken 0 0 ≡ false) × (reached untaken 0 0 ≡ false) × (reached untaken 1 0 ≡ true)
unfolding computed
untaken_absent = (refl, refl, refl)

-- the same report without the choice is refused, at 0
abbrev unguarded : Tables
unguarded = tables_of 1 2 0 (1 ∷ 0 ∷ 0 ∷ 2 ∷ 0 ∷ 0 ∷ []) (0 ∷ 0 ∷ []) (1 ∷ 1 ∷ []) [] (1 ∷ 0 ∷ 0 ∷ 0 ∷ []) (0 ∷ 0 ∷ [])

pub unguarded_refused : answer unguarded Reading.Strict (checking 1024) ≡ Err (refusal 15 0 0 0)
unfolding computed
unguarded_refused = refl
