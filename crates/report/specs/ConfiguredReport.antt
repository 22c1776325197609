-- docs/FORMAT.md, "Configuring": the configured report as a tree, and the configured schema, of any tables, accepted or refused,
-- in either reading. Relations keep their old numbers.
use Rattle.std.specs.Prelude.{ℕ, ◌+◌, Bool, cond, List, [], ◌∷◌}
use mathlib.Core.Option.{none, some}
use Rattle.sets.specs.Lists.{kept}
use Rattle.sets.specs.Bits.{bit}
use Rattle.report.specs.Values.{value}
use Rattle.report.specs.Tables.{Tables, entry_attribute, comparison, query, project_start, report}
use Rattle.report.specs.Typing.{taken, present, relation_set}
use Rattle.report.specs.Configuring.{entry_stays, all_stay}
use Rattle.report.specs.PlainAlgebra.{PlainComparison, PlainQuery, Schema, columns}
use Rattle.report.specs.declared.Comparison.{Comparison}
use Rattle.report.specs.declared.Query.{Query}
use Rattle.report.specs.declared.Reading.{Reading}

module _ (T : Tables) (c : ℕ) where
  abbrev pub plain_comparison_of : (ℕ → PlainComparison) → Comparison → PlainComparison
  plain_comparison_of tree Comparison.Malformed = PlainComparison.never
  plain_comparison_of tree Comparison.Never = PlainComparison.never
  plain_comparison_of tree Comparison.Always = PlainComparison.always
  plain_comparison_of tree (Comparison.Constant o a b k) = PlainComparison.constant o a b k
  plain_comparison_of tree (Comparison.Attribute o a b) = PlainComparison.attribute o a b
  plain_comparison_of tree (Comparison.Not a) = PlainComparison.negation (tree a)
  plain_comparison_of tree (Comparison.And a b) = PlainComparison.both (tree a) (tree b)
  plain_comparison_of tree (Comparison.Or a b) = PlainComparison.either (tree a) (tree b)
  plain_comparison_of tree (Comparison.Choice a b d) = tree (taken T c a b d)

  -- comparison f, each choice giving way to the alternative that it takes
  unfoldable pub plain_comparison_at : ℕ → PlainComparison
  plain_comparison_at = value PlainComparison.never (λ tree f. plain_comparison_of tree (comparison T.comparisons f))

  -- the attributes that stay of the entries that are kept, of `count` entries from `start` on, in their order
  unfoldable pub kept_attributes : (ℕ → Bool) → ℕ → ℕ → List ℕ
  kept_attributes stay start count = kept (entry_stays T c stay start) (λ i. entry_attribute T.entries (start + i) ∷ []) count

  -- "configured schema": the relations present at c, each with the attributes of its joined list. One that is absent is lacking
  abbrev pub configured_schema : Schema
  configured_schema r = cond (present T c r) (some (relation_set T c r)) none

  -- relation a, by reading: in the filled one, where it is absent, empty
  abbrev pub plain_relation : Reading → ℕ → PlainQuery
  plain_relation Reading.Strict a = PlainQuery.relation a
  plain_relation Reading.Filled a = cond (present T c a) (PlainQuery.relation a) PlainQuery.empty

  -- which attributes of a project's list stay over an operand that is this tree: in the filled reading those that it has
  abbrev pub plain_staying : Reading → PlainQuery → ℕ → Bool
  plain_staying Reading.Strict t = all_stay
  plain_staying Reading.Filled t = bit (columns configured_schema t)

  module _ (R : Reading) where
    abbrev pub plain_query_of : (ℕ → PlainQuery) → ℕ → Query → PlainQuery
    plain_query_of tree q Query.Malformed = PlainQuery.empty
    plain_query_of tree q Query.Empty = PlainQuery.empty
    plain_query_of tree q (Query.Relation a) = plain_relation R a
    plain_query_of tree q (Query.Select a b) = PlainQuery.select (plain_comparison_at a) (tree b)
    plain_query_of tree q (Query.Project a b) = PlainQuery.project (kept_attributes (plain_staying R (tree b)) (project_start T q) a) (tree b)
    plain_query_of tree q (Query.Choice a b d) = tree (taken T c a b d)
    plain_query_of tree q (Query.Product a b) = PlainQuery.product (tree a) (tree b)
    plain_query_of tree q (Query.Union a b) = PlainQuery.union (tree a) (tree b)
    plain_query_of tree q (Query.Intersection a b) = PlainQuery.intersection (tree a) (tree b)

    -- query form q, each choice giving way to the alternative that it takes
    unfoldable pub plain_query_at : ℕ → PlainQuery
    plain_query_at = value PlainQuery.empty (λ tree q. plain_query_of tree q (query T.queries q))

    -- the configured report
    abbrev pub configured_report : PlainQuery
    configured_report = plain_query_at (report T)
