-- docs/FORMAT.md, "Features and configurations" and table 0: features, configurations, where an expression holds, which configurations are permitted.
use Rattle.std.specs.Prelude.{ℕ, ◌+◌, ◌^◌, Bool, true, false, ◌&&◌, ◌||◌, not, List, eqb}
use Rattle.sets.specs.Search.{count_below}
use Rattle.sets.specs.Bits.{bit}
use Rattle.sets.specs.Rows.{within}
use Rattle.report.specs.Values.{value}
use Rattle.report.specs.Tables.{Tables, expression}
use Rattle.report.specs.declared.Expression.{Expression}
use Rattle.report.specs.declared.Head.{Head}
use Rattle.report.specs.declared.TableWords.{TableWords}

-- Feature i is on at configuration c where bit i of c is 1

-- how many of the `count` features from `first` on are on at configuration c
abbrev pub features_on : ℕ → ℕ → ℕ → ℕ
features_on first count c = count_below (λ i. bit c (first + i)) count

-- kind 6: exactly one of them is on
abbrev pub exactly_one_on : ℕ → ℕ → ℕ → Bool
exactly_one_on first count c = eqb (features_on first count c) 1

-- an expression at configuration c, where `at` gives the truth of lower forms
abbrev pub truth_of : ℕ → (ℕ → Bool) → Expression → Bool
truth_of c at Expression.Malformed = false
truth_of c at Expression.False = false
truth_of c at Expression.True = true
truth_of c at (Expression.Feature a) = bit c a
truth_of c at (Expression.Not a) = not (at a)
truth_of c at (Expression.And a b) = at a && at b
truth_of c at (Expression.Or a b) = at a || at b
truth_of c at (Expression.ExactlyOne a b) = exactly_one_on a b c

-- expression e of table 0 holds at configuration c
unfoldable pub holds : List ℕ → ℕ → ℕ → Bool
holds expressions c = value false (λ at e. truth_of c at (expression expressions e))

-- the tables of these words: the truth of an expression is that it holds
abbrev pub tables_of : ℕ → ℕ → ℕ → List ℕ → List ℕ → List ℕ → List ℕ → List ℕ → List ℕ → Tables
tables_of features attributes model expressions entries relations comparisons queries kinds = record {
  features = features;
  attributes = attributes;
  model = model;
  expressions = expressions;
  entries = entries;
  relations = relations;
  comparisons = comparisons;
  queries = queries;
  kinds = kinds;
  truth = holds expressions;
}

-- the same, with the head as one value
abbrev pub tables_under : Head → List ℕ → List ℕ → List ℕ → List ℕ → List ℕ → List ℕ → Tables
tables_under head = tables_of head.features head.attributes head.model

-- the tables that these words spell
abbrev pub tables_in : TableWords → Tables
tables_in words =
    tables_under words.head words.expressions.now words.entries.now words.relations.now words.comparisons.now words.queries.now words.kinds.now

module _ (T : Tables) where
  -- with n features the configurations run from 0 to 2 ^ n - 1
  abbrev pub configurations : ℕ
  configurations = 2 ^ T.features

  -- "permitted": c is a configuration, and the feature model holds
  unfoldable pub permitted : ℕ → Bool
  permitted = within T.features (λ c. T.truth c T.model)
