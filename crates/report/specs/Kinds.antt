-- Kinds, in the words of document 02: what is at fault where they differ, and what was checked before comparisons had kinds
-- (docs/changes/05-a-time-is-not-a-count.md). proofs/KindLaws says what has not changed, proofs/KindMembers what is at fault.
use Rattle.std.specs.Prelude.{ℕ, ◌*◌, ◌^◌, ◌<◌, ◌≡◌, true, false, ◌&&◌, not, List, eqb, get_or, replicate}
use Rattle.sets.specs.Search.{lowest}
use Rattle.sets.specs.Lists.{kept}
use Rattle.report.specs.Tables.{Tables, kind_of, word, comparison, query, comparison_count, query_count, relations_end, expression_count, relation_count}
use Rattle.report.specs.Operands.{sides_in}
use Rattle.report.specs.Expressions.{configurations}
use Rattle.report.specs.Typing.{phases, reached, kinds_differ, left_of, compares, fails}
use Rattle.report.specs.Configuring.{comparison_kept, comparison_form_of}
use Rattle.report.specs.Verdicts.{Verdict, refusal, refuse_at, or_else, first_from, first_of}
use Rattle.report.specs.FormChecks.{constant_kind, comparison_ok, relations_check, queries_check}
use Rattle.report.specs.Checks.{phase_at, model_and_schema_check}
use Rattle.report.specs.Calls.{Call}
use Rattle.report.specs.Repeats.{tables_check_with}
use Rattle.report.specs.declared.Comparison.{Comparison}
use Rattle.report.specs.declared.Query.{Query}
use Rattle.report.specs.declared.Refusal.{Refusal}
use Rattle.report.specs.declared.Reading.{Reading}

-- ---- a comparison with a constant

-- the words of form f of table 3: kind 2, the operator, the attribute, the constant, and word c
pub record IsKind2 (T : Tables) (f operator attribute constant word_c : ℕ) : Type 0 where
  pub kind : get_or T.comparisons (f * 5) 0 ≡ 2
  pub operator_is : word T.comparisons 5 f 1 ≡ operator
  pub attribute_is : word T.comparisons 5 f 2 ≡ attribute
  pub constant_is : word T.comparisons 5 f 3 ≡ constant
  pub word_c_is : word T.comparisons 5 f 4 ≡ word_c

-- ---- both sides have one kind

-- at c the select form q reaches comparison g, whose sides have two kinds and whose left attribute is a
pub record Differing (T : Tables) (c q a g : ℕ) : Type 0 where
  pub selects : ℕ
  pub of : ℕ
  pub form : query T.queries q ≡ Query.Select selects of
  pub reaches : reached T c q ≡ true
  pub leads : compares T c g selects ≡ true
  pub two : kinds_differ (kind_of T) (sides_in T.comparisons g) ≡ true
  pub left : left_of (sides_in T.comparisons g) ≡ 2 ^ a

-- "25 kinds differ, a typing fault looked for in a form only when 16 fails there at no configuration, place form, item the lowest left attribute at
-- fault, with the lowest configuration"
pub record KindFault (T : Tables) (r : Refusal) : Type 0 where
  -- at the configuration the form reaches a comparison whose sides have two kinds, and its left attribute is the item
  pub at : ℕ
  pub differs : Differing T r.configuration r.place r.item at
  pub lower_items : (a g : ℕ) → a < r.item → Differing T r.configuration r.place a g → ⊥
  pub lower_configurations : (c a g : ℕ) → c < r.configuration → Differing T c r.place a g → ⊥
  -- no compared attribute is missing in the form, and no lower form fails
  pub compared : (c : ℕ) → c < configurations T → fails T c 0 r.place ≡ false
  pub lower_forms : (q phase c : ℕ) → q < r.place → phase < phases → c < configurations T → fails T c phase q ≡ false

-- ---- what was checked

module _ (T : Tables) where
  -- the kinds of all constants are 0
  abbrev pub ConstantsAre0 : Type 0
  ConstantsAre0 = (f : ℕ) → f < comparison_count T → constant_kind (sides_in T.comparisons f) ≡ 0

  -- all kinds are 0, the constants' too
  pub record AllKinds0 : Type 0 where
    pub attributes : T.kinds ≡ replicate T.attributes 0
    pub constants : ConstantsAre0

  -- check 7 as it was: a word c other than 0 in a comparison with a constant did not fit
  unfoldable pub comparisons_check_before : Verdict
  comparisons_check_before =
      refuse_at (λ f. refusal 7 f 0 0)
      (lowest (λ f. not (comparison_ok T f && eqb (constant_kind (sides_in T.comparisons f)) 0)) (comparison_count T))

  -- checks 1 to 10, with it for 7
  abbrev pub tables_check_before : Verdict
  tables_check_before =
      tables_check_with T (relations_check (expression_count T) T.entries T.relations) comparisons_check_before
      (queries_check (expression_count T) (relation_count T) (comparison_count T) T.entries (relations_end T) T.queries)

  -- 15 to 19 alone
  unfoldable pub typing_check_before : Verdict
  typing_check_before = first_from (λ q. phase_at T Reading.Strict q 0) (query_count T) 0

  -- an answer without 24 and 25, after these checks of the tables
  abbrev pub answer_without : Verdict → Call → Verdict
  answer_without tables call =
      or_else (or_else tables (or_else (first_of (call.before_model T)) (model_and_schema_check T))) (or_else typing_check_before (first_of (call.after_typing T)))

  -- the answer of a call as it was
  unfoldable pub answer_before_kinds : Call → Verdict
  answer_before_kinds = answer_without tables_check_before

-- the same tables with other kinds of attributes
abbrev pub with_kinds : Tables → List ℕ → Tables
with_kinds T kinds = record {
  features = T.features;
  attributes = T.attributes;
  model = T.model;
  expressions = T.expressions;
  entries = T.entries;
  relations = T.relations;
  comparisons = T.comparisons;
  queries = T.queries;
  kinds = kinds;
  truth = T.truth;
}

-- no query form is a select
abbrev pub NoSelect : Tables → Type 0
NoSelect T = (q a b : ℕ) → query T.queries q ≡ Query.Select a b → ⊥

-- a call's own conditions do not read the kinds
pub record KindFree (call : Call) : Type 0 where
  pub early : (T : Tables) (kinds : List ℕ) → call.before_model (with_kinds T kinds) ≡ call.before_model T
  pub late : (T : Tables) (kinds : List ℕ) → call.after_typing (with_kinds T kinds) ≡ call.after_typing T

-- the comparisons written as they were: the fifth word of one with a constant was 0
abbrev pub with_kind_0 : Comparison → Comparison
with_kind_0 Comparison.Malformed = Comparison.Malformed
with_kind_0 Comparison.Never = Comparison.Never
with_kind_0 Comparison.Always = Comparison.Always
with_kind_0 (Comparison.Constant o a b k) = Comparison.Constant o a b 0
with_kind_0 (Comparison.Attribute o a b) = Comparison.Attribute o a b
with_kind_0 (Comparison.Not a) = Comparison.Not a
with_kind_0 (Comparison.And a b) = Comparison.And a b
with_kind_0 (Comparison.Or a b) = Comparison.Or a b
with_kind_0 (Comparison.Choice a b d) = Comparison.Choice a b d

abbrev pub comparisons_before : Tables → ℕ → List ℕ
comparisons_before T c = kept (comparison_kept T c) (λ f. comparison_form_of T c (with_kind_0 (comparison T.comparisons f))) (comparison_count T)
