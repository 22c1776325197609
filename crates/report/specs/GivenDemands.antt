-- "First fault first", and demand 3, of a call whatever it is given (specs/Calls).
use Rattle.std.specs.Prelude.{ℕ, ◌≡◌, true, false, ◌↔◌, Ok, Err}
use Rattle.report.specs.Tables.{Tables, kind_of}
use Rattle.report.specs.Expressions.{permitted}
use Rattle.report.specs.ColumnRows.{column_rows, shown}
use Rattle.report.specs.Rules.{Rules}
use Rattle.report.specs.PlainAlgebra.{columns, passes}
use Rattle.report.specs.ConfiguredReport.{configured_report, configured_schema}
use Rattle.report.specs.Verdicts.{Verdict, first_of, Foremost, NoneHolds}
use Rattle.report.specs.Checks.{is_early, is_typing_fault}
use Rattle.report.specs.Formed.{Formed}
use Rattle.report.specs.Calls.{Call, Given, conditions_to, answer_to}
use Rattle.report.specs.TypingFaults.{Broken, NamedBy}
use Rattle.report.specs.WrittenTables.{WrittenTyped}
use Rattle.report.specs.declared.Refusal.{Refusal}
use Rattle.report.specs.declared.Reading.{Reading}

-- ---- what theorems on a call ask of what it is given

-- where none of the first conditions holds, the tables are formed
abbrev pub Forms : Given → Type 0
Forms G = first_of G.first ≡ Ok tt → Formed G.tables

-- the first conditions refuse by numbers of the checks before typing
abbrev pub EarlyFirst : Given → Type 0
EarlyFirst G = (r : Refusal) → first_of G.first ≡ Err r → is_early r.number ≡ true

-- ---- what they say

-- "first fault first", of any call, in either reading
pub record FirstFaultTo (G : Given) (R : Reading) (call : Call) : Type 0 where
  pub refuses : (r : Refusal) → (answer_to G R call ≡ Err r) ↔ Foremost (conditions_to G R call) r
  pub accepts : (answer_to G R call ≡ Ok tt) ↔ NoneHolds (conditions_to G R call)

-- the typing rules hold at every permitted configuration: there are sets that keep them
abbrev pub RulesThroughout : Tables → Type 0
RulesThroughout T = (c : ℕ) → permitted T c ≡ true → (S : ℕ → ℕ) × Rules T c S

-- the report configured strictly passes the plain rules at every permitted configuration
abbrev pub PassesThroughout : Tables → Type 0
PassesThroughout T = (c : ℕ) → permitted T c ≡ true → passes (kind_of T) (configured_schema T c) (configured_report T c Reading.Strict) ≡ true

-- demand 3: what an answer v, in the strict reading, to a call that got as far as typing says of the tables T
pub record Demanded (T : Tables) (v : Verdict) : Type 0 where
  -- it refuses for a typing fault exactly when, at some permitted configuration, the configured report breaks a plain rule
  pub broken : (is_typing_fault v ≡ true) ↔ Broken T
  -- it then names one, and the form, the configuration and the item are the lowest
  pub named : is_typing_fault v ≡ true → NamedBy T v
  -- its last sentence
  pub never : PassesThroughout T → is_typing_fault v ≡ false
  -- its first sentence: where it accepts, the report passes at every permitted configuration, with the columns shown there
  pub passing : v ≡ Ok tt → PassesThroughout T
  pub showing : v ≡ Ok tt → (c : ℕ) → permitted T c ≡ true
      → columns (configured_schema T c) (configured_report T c Reading.Strict) ≡ shown (column_rows T) c
  -- and what configuring writes there
  pub writing : v ≡ Ok tt → (c : ℕ) → permitted T c ≡ true → WrittenTyped T c Reading.Strict

abbrev pub DemandsTo : Given → Call → Type 0
DemandsTo G call = Demanded G.tables (answer_to G Reading.Strict call)
