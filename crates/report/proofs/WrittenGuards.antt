-- The statements of Written and WrittenAccepted are about something: an accepted report to which they apply, and a report that is sound and not
-- accepted, for which the tables written are not well formed.
use Rattle.std.specs.Prelude.{Err}
use mathlib.Core.Path.{◌≡◌, refl}
use mathlib.Core.Bool.{true, false}
use mathlib.Core.List.{[], ◌∷◌}
use Rattle.report.specs.Tables.{Tables}
use Rattle.report.specs.Expressions.{permitted, tables_of}
use Rattle.report.specs.Typing.{present, reached}
use Rattle.report.specs.Configuring.{configured}
use Rattle.report.specs.Verdicts.{refusal}
use Rattle.report.specs.FormChecks.{form_check}
use Rattle.report.specs.Calls.{answer, Sound, checking}
use Rattle.report.specs.WrittenTables.{WrittenAccepted}
use Rattle.report.specs.Examples.{h1}
use Rattle.report.specs.declared.Reading.{Reading}
use Rattle.report.proofs.ExamplesHold.{computed}
use Rattle.report.proofs.CallLaws.{sound_accepted}
use Rattle.report.proofs.Guards.{h1_accepted}
use Rattle.report.proofs.WrittenAccepted.{accepted_written}

-- H1 is accepted, so what is written of it at 0 (H4) is accepted too
h1-permitted : permitted (h1 2) 0 ≡ true
unfolding computed
h1-permitted = refl

pub h1_written : WrittenAccepted (h1 2) 0 Reading.Strict
h1_written = accepted_written (h1 2) Reading.Strict 1024 h1_accepted 0 h1-permitted

-- a report that names a relation which its feature guards, with no choice
abbrev absent : Tables
absent = tables_of 1 1 0 (1 ∷ 0 ∷ 0 ∷ 2 ∷ 0 ∷ 0 ∷ []) (0 ∷ 0 ∷ []) (1 ∷ 1 ∷ []) [] (1 ∷ 0 ∷ 0 ∷ 0 ∷ []) (0 ∷ [])

-- it is sound; where the feature is off, the relation is reached and absent, and the tables written do not pass check 8
pub absent_written : Sound absent
    × (permitted absent 0 ≡ true)
    × (reached absent 0 0 ≡ true)
    × (present absent 0 0 ≡ false)
    × (answer absent Reading.Strict (checking 1024) ≡ Err (refusal 15 0 0 0))
    × (form_check (configured absent 0 Reading.Strict) ≡ Err (refusal 8 0 0 0))
unfolding computed
absent_written = ((sound_accepted absent).1 refl, refl, refl, refl, refl, refl)
