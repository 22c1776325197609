-- What a refusal for a typing fault names, said of the typing rules and of the plain rules (the demands' third, its second half).
use Rattle.std.specs.Prelude.{ℕ, ◌<◌, ◌≡◌, Bool, true, false, ◌≢◌, List, eqb, Err}
use Rattle.sets.specs.Search.{First}
use Rattle.sets.specs.Bits.{bit, lowest_member}
use Rattle.report.specs.Tables.{Tables, kind_of, query, query_count}
use Rattle.report.specs.Expressions.{configurations, permitted}
use Rattle.report.specs.Typing.{phases, passes_on, reached, faults}
use Rattle.report.specs.Readings.{faults_by, fails_by}
use Rattle.report.specs.PlainAlgebra.{PlainComparison, PlainQuery, Schema, Kinds, one_kind, names_there, columns, passes}
use Rattle.report.specs.ConfiguredReport.{plain_query_at, configured_report, configured_schema}
use Rattle.report.specs.Checks.{fault_number}
use Rattle.report.specs.Calls.{Call, answer}
use Rattle.report.specs.declared.Refusal.{Refusal}
use Rattle.report.specs.Verdicts.{Verdict}
use Rattle.report.specs.declared.Reading.{Reading}

-- at some permitted configuration the report configured strictly breaks a plain rule
abbrev pub Broken : Tables → Type 0
Broken T = (c : ℕ) × (permitted T c ≡ true) × (passes (kind_of T) (configured_schema T c) (configured_report T c Reading.Strict) ≡ false)

-- the refusal, in a reading, of the lowest form that fails at any configuration, in its first phase that fails at any, at the lowest failing configuration of that
-- phase, with the lowest item at fault there
pub record TypingFault (T : Tables) (R : Reading) (r : Refusal) : Type 0 where
  pub inside : r.place < query_count T
  pub permits : permitted T r.configuration ≡ true
  pub phase : ℕ
  pub is_phase : phase < phases
  pub failing : fails_by T R r.configuration phase r.place ≡ true
  pub numbered : r.number ≡ fault_number phase (query T.queries r.place)
  pub item_of : r.item ≡ lowest_member (faults_by T R r.configuration phase r.place)
  pub lower_forms : (q p c : ℕ) → q < r.place → p < phases → c < configurations T → fails_by T R c p q ≡ false
  pub lower_phases : (p c : ℕ) → p < phase → c < configurations T → fails_by T R c p r.place ≡ false
  pub lower_configurations : (c : ℕ) → c < r.configuration → fails_by T R c phase r.place ≡ false

-- t is the tree, or a part of it
pub data PartOf (t : PlainQuery) : PlainQuery → Type 0 where
  whole : PartOf t t
  of_select : {p : PlainComparison} {q : PlainQuery} → PartOf t q → PartOf t (PlainQuery.select p q)
  of_project : {l : List ℕ} {q : PlainQuery} → PartOf t q → PartOf t (PlainQuery.project l q)
  left_of_product : {p q : PlainQuery} → PartOf t p → PartOf t (PlainQuery.product p q)
  right_of_product : {p q : PlainQuery} → PartOf t q → PartOf t (PlainQuery.product p q)
  left_of_union : {p q : PlainQuery} → PartOf t p → PartOf t (PlainQuery.union p q)
  right_of_union : {p q : PlainQuery} → PartOf t q → PartOf t (PlainQuery.union p q)
  left_of_intersection : {p q : PlainQuery} → PartOf t p → PartOf t (PlainQuery.intersection p q)
  right_of_intersection : {p q : PlainQuery} → PartOf t q → PartOf t (PlainQuery.intersection p q)

-- the first half of the rule of a select, by itself
abbrev pub compared_there : Schema → PlainQuery → Bool
compared_there schema PlainQuery.empty = true
compared_there schema (PlainQuery.relation r) = true
compared_there schema (PlainQuery.select t q) = names_there (columns schema q) t
compared_there schema (PlainQuery.project l q) = true
compared_there schema (PlainQuery.product p q) = true
compared_there schema (PlainQuery.union p q) = true
compared_there schema (PlainQuery.intersection p q) = true

-- and the second
abbrev pub compared_alike : Kinds → PlainQuery → Bool
compared_alike kind PlainQuery.empty = true
compared_alike kind (PlainQuery.relation r) = true
compared_alike kind (PlainQuery.select t q) = one_kind kind t
compared_alike kind (PlainQuery.project l q) = true
compared_alike kind (PlainQuery.product p q) = true
compared_alike kind (PlainQuery.union p q) = true
compared_alike kind (PlainQuery.intersection p q) = true

-- what it names in the strict reading, said of the plain rules
pub record Breaks (T : Tables) (r : Refusal) : Type 0 where
  -- the configuration is permitted, and there the configured report breaks a rule
  pub permits : permitted T r.configuration ≡ true
  pub report_breaks : passes (kind_of T) (configured_schema T r.configuration) (configured_report T r.configuration Reading.Strict) ≡ false
  -- it reaches the form, whose own node breaks its rule there, with all nodes below keeping theirs
  pub reaches : reached T r.configuration r.place ≡ true
  pub part : PartOf (plain_query_at T r.configuration Reading.Strict r.place) (configured_report T r.configuration Reading.Strict)
  pub operands_keep : (x : ℕ) → passes_on T r.configuration (eqb x) (query T.queries r.place) ≡ true
      → passes (kind_of T) (configured_schema T r.configuration) (plain_query_at T r.configuration Reading.Strict x) ≡ true
  pub form_breaks : passes (kind_of T) (configured_schema T r.configuration) (plain_query_at T r.configuration Reading.Strict r.place) ≡ false
  -- the form is the lowest such, and the configuration its lowest. But 16 is looked for at all configurations before 25 is. So by 16 a compared attribute
  -- is missing there, and at lower configurations none is; by 25 none is missing at any, and there the node is a select that compares two kinds
  pub lower_forms : (q c : ℕ) → q < r.place → reached T c q ≡ true → passes (kind_of T) (configured_schema T c) (plain_query_at T c Reading.Strict q) ≡ true
  pub lower_configurations : r.number ≢ 16 → (c : ℕ) → c < r.configuration → reached T c r.place ≡ true
      → passes (kind_of T) (configured_schema T c) (plain_query_at T c Reading.Strict r.place) ≡ true
  pub lower_compared : r.number ≡ 16 → (c : ℕ) → c < r.configuration → reached T c r.place ≡ true
      → compared_there (configured_schema T c) (plain_query_at T c Reading.Strict r.place) ≡ true
  pub missing : r.number ≡ 16 → compared_there (configured_schema T r.configuration) (plain_query_at T r.configuration Reading.Strict r.place) ≡ false
  pub compared_always : r.number ≡ 25 → (c : ℕ) → reached T c r.place ≡ true → compared_there (configured_schema T c) (plain_query_at T c Reading.Strict r.place) ≡ true
  pub two_kinds : r.number ≡ 25 → compared_alike (kind_of T) (plain_query_at T r.configuration Reading.Strict r.place) ≡ false

-- what an answer in the strict reading that refuses for a typing fault names
pub record NamedBy (T : Tables) (v : Verdict) : Type 0 where
  pub refuses : Refusal
  pub answers : v ≡ Err refuses
  pub fault : TypingFault T Reading.Strict refuses
  pub lowest_item : First (bit (faults T refuses.configuration fault.phase refuses.place)) 64 refuses.item
  pub breaks : Breaks T refuses

-- what a call that refuses so names
abbrev pub Named : Tables → Call → Type 0
Named T call = NamedBy T (answer T Reading.Strict call)
