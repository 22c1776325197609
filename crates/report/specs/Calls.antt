-- docs/FORMAT.md, "Refusals": what a call is given, what it checks and answers; checking and configuring; and the terms that the demands use.
use Rattle.std.specs.Prelude.{ℕ, ◌≡◌, Bool, true, ◌&&◌, not, List, [], ◌∷◌, ◌++◌, length, ltb, eqb, Ok}
use Rattle.report.specs.Tables.{Tables}
use Rattle.report.specs.Expressions.{permitted}
use Rattle.report.specs.ColumnRows.{column_rows}
use Rattle.report.specs.Verdicts.{Verdict, refusal, or_else, after, Condition, ◌gives◌, first_of, NoneHolds}
use Rattle.report.specs.Checks.{model_and_schema_check, typing_check, is_early, is_late}
use Rattle.report.specs.Conditions.{form_conditions, schema_conditions, typing_conditions}
use Rattle.report.specs.declared.Reading.{Reading}

-- A call, by the conditions of its own: those that it checks between the first checks and 12, and those after typing
pub record Call : Type 0 where
  pub before_model : Tables → List Condition
  pub after_typing : Tables → List Condition

-- What a call is given: tables, and the conditions that are checked first
pub record Given : Type 0 where
  pub tables : Tables
  pub first : List Condition

module _ (G : Given) where
  -- all that a call checks in the reading it is told, in its order
  abbrev pub conditions_to : Reading → Call → List Condition
  conditions_to R call =
      G.first ++ call.before_model G.tables ++ schema_conditions G.tables ++ typing_conditions G.tables R ++ call.after_typing G.tables

  -- what it runs before typing: the first checks, its own, 12 to 14
  abbrev pub before_typing_to : Call → Verdict
  before_typing_to call = or_else (first_of G.first) (or_else (first_of (call.before_model G.tables)) (model_and_schema_check G.tables))

  -- the answer of a call in the reading it is told
  unfoldable pub answer_to : Reading → Call → Verdict
  answer_to R call = or_else (before_typing_to call) (or_else (typing_check G.tables R) (first_of (call.after_typing G.tables)))

  -- "sound in form and schema": none of the conditions checked before typing holds, a call's own left aside
  abbrev pub SoundTo : Type 0
  SoundTo = NoneHolds (G.first ++ schema_conditions G.tables)

  -- "gets as far as typing": the call runs the typing checks, and no earlier check refuses it
  abbrev pub GetsTo : Call → Type 0
  GetsTo call = before_typing_to call ≡ Ok tt

-- ---- the calls of document 01: they are given whole tables, whose form is checked first, by 1 to 10 and 24

abbrev pub whole : Tables → Given
whole T = record { tables = T; first = form_conditions T }

module _ (T : Tables) where
  abbrev pub conditions : Reading → Call → List Condition
  conditions = conditions_to (whole T)

  abbrev pub answer : Reading → Call → Verdict
  answer = answer_to (whole T)

  abbrev pub Sound : Type 0
  Sound = SoundTo (whole T)

  abbrev pub GetsAsFarAsTyping : Call → Type 0
  GetsAsFarAsTyping = GetsTo (whole T)

-- ---- the numbers of a call's own refusals

-- the refusals that conditions give have such numbers
abbrev pub all_give : (ℕ → Bool) → List Condition → Bool
all_give test [] = true
all_give test (x ∷ xs) = test x.gives.number && all_give test xs

-- a call's own refusals have numbers of their place: early ones before typing, late ones after it
pub record OwnNumbers (call : Call) : Type 0 where
  pub early : (T : Tables) → all_give is_early (call.before_model T) ≡ true
  pub late : (T : Tables) → all_give is_late (call.after_typing T) ≡ true

-- ---- checking: 1 to 10, 24, 11 to 19, 25

-- 11: the rows lent are not 1,024 words
abbrev pub rows_condition : ℕ → List Condition
rows_condition room = not (eqb room 1024) gives refusal 11 0 0 0

-- with so many words of rows lent
abbrev pub checking : ℕ → Call
checking room = record { before_model = λ T. rows_condition room; after_typing = λ T. [] }

-- the rows lent to checking, afterwards
abbrev pub rows_after : Tables → Reading → List ℕ → List ℕ
rows_after T R lent = after (answer T R (checking (length lent))) (column_rows T) lent

-- ---- configuring: 1 to 10, 24, 12 to 19, 25, 20, 21

-- 20: c over 2 ^ n - 1, or not permitted
abbrev pub permitted_condition : ℕ → Tables → List Condition
permitted_condition c T = not (permitted T c) gives refusal 20 0 0 c

-- 21: a table lent for writing (1 to 4) shorter than its source
abbrev pub room_conditions : ℕ → ℕ → ℕ → ℕ → Tables → List Condition
room_conditions entries_room relations_room comparisons_room queries_room T =
    (ltb entries_room (length T.entries) gives refusal 21 1 0 0)
    ++ (ltb relations_room (length T.relations) gives refusal 21 2 0 0)
    ++ (ltb comparisons_room (length T.comparisons) gives refusal 21 3 0 0)
    ++ (ltb queries_room (length T.queries) gives refusal 21 4 0 0)

-- at c, with tables 1 to 4 of so many words lent for writing
abbrev pub configuring : ℕ → ℕ → ℕ → ℕ → ℕ → Call
configuring c entries_room relations_room comparisons_room queries_room = record {
  before_model = λ T. [];
  after_typing = λ T. permitted_condition c T ++ room_conditions entries_room relations_room comparisons_room queries_room T;
}
