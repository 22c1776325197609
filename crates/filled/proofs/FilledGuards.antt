-- What is not claimed of the filled reading, because it is false: a report for which each fails. And that what 15 and 17 ask can be had. By computation.
use Rattle.std.specs.Prelude.{Err}
use mathlib.Core.Path.{◌≡◌, refl}
use mathlib.Core.Bool.{true, false}
use Rattle.sets.specs.Bits.{subset}
use Rattle.report.specs.Tables.{kind_of}
use Rattle.report.specs.Typing.{project_set}
use Rattle.report.specs.PlainAlgebra.{columns, passes}
use Rattle.report.specs.ConfiguredReport.{plain_comparison_at, kept_attributes, plain_query_at, configured_report, configured_schema}
use Rattle.report.specs.Verdicts.{refusal}
use Rattle.report.specs.Calls.{answer, GetsAsFarAsTyping, checking}
use Rattle.report.specs.Examples.{nested, swaps_where}
use Rattle.report.specs.declared.Reading.{Reading}
use Rattle.report.proofs.ExamplesHold.{computed}
use Rattle.report.proofs.Refusing.{checking_own}
use Rattle.filled.specs.FilledDemands.{LowestAbsent, LowestMissing}
use Rattle.filled.proofs.GivenSentences.{whole_filled}

unfoldable treed : Unit {0}
unfolding computed plain_comparison_at kept_attributes plain_query_at
treed = tt

-- ---- two projects, of which the outer one is refused here, and strictly the inner one (report/specs/Examples: nested)

-- "the form that 15 or 17 names breaks its own rule, configured strictly, with all below keeping theirs": at 0 the inner one breaks its rule, and the outer
-- one, which is named, would keep its own
pub nested_inner : passes (kind_of nested) (configured_schema nested 0) (plain_query_at nested 0 Reading.Strict 1) ≡ false
unfolding treed
nested_inner = refl

pub nested_outer : subset (project_set nested 0 2 1) (columns (configured_schema nested 0) (plain_query_at nested 0 Reading.Strict 1)) ≡ true
unfolding treed
nested_outer = refl

-- "a report that passes everywhere, configured in this reading, is not refused here": it passes at all four
pub nested-passes : (passes (kind_of nested) (configured_schema nested 0) (configured_report nested 0 Reading.Filled) ≡ true)
    × (passes (kind_of nested) (configured_schema nested 1) (configured_report nested 1 Reading.Filled) ≡ true)
    × (passes (kind_of nested) (configured_schema nested 2) (configured_report nested 2 Reading.Filled) ≡ true)
    × (passes (kind_of nested) (configured_schema nested 3) (configured_report nested 3 Reading.Filled) ≡ true)
unfolding treed
nested-passes = (refl, refl, refl, refl)

-- ---- 15 and 17 of a call that gets as far as typing: what its refusal says

nested_gets : GetsAsFarAsTyping nested (checking 1024)
unfolding treed
nested_gets = refl

nested_refused : answer nested Reading.Filled (checking 1024) ≡ Err (refusal 17 2 1 0)
unfolding treed
nested_refused = refl

pub nested_missing : LowestMissing nested 0 2 1
nested_missing = ((whole_filled nested (checking_own 1024) nested_gets).named (refusal 17 2 1 0) nested_refused refl).missing refl

swaps_gets : GetsAsFarAsTyping (swaps_where 4) (checking 1024)
unfolding treed
swaps_gets = refl

swaps_refused : answer (swaps_where 4) Reading.Filled (checking 1024) ≡ Err (refusal 15 0 0 2)
unfolding treed
swaps_refused = refl

pub swaps_absent : LowestAbsent (swaps_where 4) 2 0 0
swaps_absent = ((whole_filled (swaps_where 4) (checking_own 1024) swaps_gets).named (refusal 15 0 0 2) swaps_refused refl).absent refl
