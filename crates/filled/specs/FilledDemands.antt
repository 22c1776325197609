-- docs/FORMAT.md, "Readings": what a call says that gets as far as typing and is told the filled reading, whatever it is given (report/specs/Calls).
use Rattle.std.specs.Prelude.{ℕ, ◌<◌, ◌≡◌, true, false, ◌↔◌, [], ◌∷◌, Ok, Err}
use Rattle.sets.specs.Bits.{bit}
use Rattle.report.specs.Tables.{Tables, kind_of, query}
use Rattle.report.specs.Expressions.{configurations, permitted}
use Rattle.report.specs.Typing.{phases, reached, present, project_set, set_of}
use Rattle.report.specs.Readings.{fails_by}
use Rattle.report.specs.ColumnRows.{column_rows, shown}
use Rattle.report.specs.PlainAlgebra.{columns, passes}
use Rattle.report.specs.Rules.{ruled_rows}
use Rattle.report.specs.Configuring.{configured}
use Rattle.report.specs.ConfiguredReport.{configured_report, configured_schema}
use Rattle.report.specs.Verdicts.{Verdict, refusal}
use Rattle.report.specs.Checks.{is_one_of, is_of_typing, is_typing_fault}
use Rattle.report.specs.Calls.{Call, Given, answer_to}
use Rattle.report.specs.WrittenTables.{WrittenTyped}
use Rattle.report.specs.GivenDemands.{PassesThroughout}
use Rattle.report.specs.declared.Query.{Query}
use Rattle.report.specs.declared.Reading.{Reading}
use Rattle.report.specs.declared.Refusal.{Refusal}
use Rattle.filled.specs.ReadRules.{RulesBy}

-- ---- 15 and 17 in the wish's words

-- form q, a relation form of relation a, is reached at c, and absent everywhere it is reached
pub record AbsentThroughout (T : Tables) (c q a : ℕ) : Type 0 where
  pub form : query T.queries q ≡ Query.Relation a
  pub reaches : reached T c q ≡ true
  pub absent : (d : ℕ) → reached T d q ≡ true → present T d a ≡ false

-- form q is a project form; at c, which reaches it, an entry with attribute x holds, and the attribute is missing at all such places
pub record MissingThroughout (T : Tables) (c q x : ℕ) : Type 0 where
  pub count : ℕ
  pub of : ℕ
  pub form : query T.queries q ≡ Query.Project count of
  pub reaches : reached T c q ≡ true
  pub listed : bit (project_set T c q count) x ≡ true
  pub missing : (d : ℕ) → reached T d q ≡ true → bit (project_set T d q count) x ≡ true → bit (set_of T d of) x ≡ false

-- "either gives the lowest such configuration", and 17 the lowest such attribute there
pub record LowestAbsent (T : Tables) (c q a : ℕ) : Type 0 where
  pub is : AbsentThroughout T c q a
  pub lower : (d : ℕ) → d < c → reached T d q ≡ false

pub record LowestMissing (T : Tables) (c q x : ℕ) : Type 0 where
  pub is : MissingThroughout T c q x
  pub lower : (d y : ℕ) → d < c → MissingThroughout T d q y → ⊥
  pub lower_item : (y : ℕ) → y < x → MissingThroughout T c q y → ⊥

-- no form below q fails at any configuration
abbrev pub LowerFormsKeep : Tables → ℕ → Type 0
LowerFormsKeep T q = (p phase c : ℕ) → p < q → phase < phases → c < configurations T → fails_by T Reading.Filled c phase p ≡ false

-- ---- a refusal for a typing fault

-- "At a refusal's configuration a plain rule breaks: configured strictly for 15 and 17, else in this reading"; "the configuration named is still permitted"
pub record PlainBreaks (T : Tables) (r : Refusal) : Type 0 where
  pub permits : permitted T r.configuration ≡ true
  pub strictly : is_one_of (15 ∷ 17 ∷ []) r.number ≡ true
      → passes (kind_of T) (configured_schema T r.configuration) (configured_report T r.configuration Reading.Strict) ≡ false
  pub filled : is_one_of (15 ∷ 17 ∷ []) r.number ≡ false
      → passes (kind_of T) (configured_schema T r.configuration) (configured_report T r.configuration Reading.Filled) ≡ false

-- what it names: the lowest form that fails
pub record FilledNamed (T : Tables) (r : Refusal) : Type 0 where
  pub breaks : PlainBreaks T r
  pub absent : r.number ≡ 15 → LowestAbsent T r.configuration r.place r.item
  pub missing : r.number ≡ 17 → LowestMissing T r.configuration r.place r.item
  pub lower_forms : LowerFormsKeep T r.place

-- ---- what the answers in the two readings, to a call that got as far as typing, say of the tables T

pub record FilledDemanded (T : Tables) (strict filled : Verdict) : Type 0 where
  -- a refusal for a typing fault: 15 and 17 "only if"
  pub named : (r : Refusal) → filled ≡ Err r → is_of_typing r.number ≡ true → FilledNamed T r
  -- and "if": where no lower form fails, that refusal is given; where one does, there is one
  pub absent_refused : (c q a : ℕ) → LowestAbsent T c q a → LowerFormsKeep T q → filled ≡ Err (refusal 15 q a c)
  pub missing_refused : (c q x : ℕ) → LowestMissing T c q x → LowerFormsKeep T q → filled ≡ Err (refusal 17 q x c)
  pub absent_fault : (c q a : ℕ) → AbsentThroughout T c q a → is_typing_fault filled ≡ true
  pub missing_fault : (c q x : ℕ) → MissingThroughout T c q x → is_typing_fault filled ≡ true
  -- demand 3's last sentence, of the report configured strictly
  pub never : PassesThroughout T → is_typing_fault filled ≡ false
  -- "What the strict reading accepts, this one accepts with equal rows": the rows are one definition, column_rows. And configuring writes the same
  pub strictly : strict ≡ Ok tt → filled ≡ Ok tt
  pub same : strict ≡ Ok tt → (c : ℕ) → configured T c Reading.Filled ≡ configured T c Reading.Strict
  -- "What this reading accepts, configured in it anywhere permitted, passes the strict rules with the columns shown": the tree, and the tables written
  pub passing : filled ≡ Ok tt → (c : ℕ) → permitted T c ≡ true
      → passes (kind_of T) (configured_schema T c) (configured_report T c Reading.Filled) ≡ true
  pub showing : filled ≡ Ok tt → (c : ℕ) → permitted T c ≡ true
      → columns (configured_schema T c) (configured_report T c Reading.Filled) ≡ shown (column_rows T) c
  pub writing : filled ≡ Ok tt → (c : ℕ) → permitted T c ≡ true → WrittenTyped T c Reading.Filled
  -- "Demand 2 holds by the reading's rules"
  pub ruled : (is_typing_fault filled ≡ false) ↔ ((S : ℕ → ℕ → ℕ) × RulesBy T S Reading.Filled)
  pub rows : (S : ℕ → ℕ → ℕ) → RulesBy T S Reading.Filled → column_rows T ≡ ruled_rows T S

abbrev pub FilledDemandsTo : Given → Call → Type 0
FilledDemandsTo G call = FilledDemanded G.tables (answer_to G Reading.Strict call) (answer_to G Reading.Filled call)
