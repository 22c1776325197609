-- What the private functions do with rows: the row of one expression, and checks 13 and 14 of one relation. proofs/ ties these to the definitions.
use Rattle.std.specs.Prelude.{ℕ, ◌+◌, ◌/◌, ◌<◌, ◌≤◌, Bool, false, List, length}
use Rattle.sets.specs.Search.{seek}
use Rattle.sets.specs.Bits.{bit}
use Rattle.sets.specs.Rows.{row_of, row_in, row_join, row_intersect, row_minus, row_is_empty}
use Rattle.report.specs.Tables.{entry_attribute, entry_expression, relation_expression, relation_length}
use Rattle.report.specs.Expressions.{exactly_one_on}
use Rattle.report.specs.Verdicts.{Verdict, refusal, refuse_if, refuse_at, or_else}
use Rattle.report.specs.declared.Expression.{Expression}

-- the row of one expression, from `full`, which has the configurations of all features, and the rows of lower forms
abbrev pub step_row : List ℕ → List ℕ → Expression → List ℕ
step_row full expression_rows Expression.Malformed = row_of 16 (λ c. false)
step_row full expression_rows Expression.False = row_of 16 (λ c. false)
step_row full expression_rows Expression.True = full
step_row full expression_rows (Expression.Feature a) = row_intersect 16 full (row_of 16 (λ c. bit c a))
step_row full expression_rows (Expression.Not a) = row_minus 16 full (row_in 16 expression_rows a)
step_row full expression_rows (Expression.And a b) = row_intersect 16 (row_in 16 expression_rows a) (row_in 16 expression_rows b)
step_row full expression_rows (Expression.Or a b) = row_join 16 (row_in 16 expression_rows a) (row_in 16 expression_rows b)
step_row full expression_rows (Expression.ExactlyOne a b) = row_intersect 16 full (row_of 16 (exactly_one_on a b))

-- entry k holds nowhere that `present` has
abbrev pub apart_in : List ℕ → List ℕ → List ℕ → ℕ → Bool
apart_in expression_rows present entries k = row_is_empty 16 (row_intersect 16 present (row_in 16 expression_rows (entry_expression entries k)))

-- 14 of relation r, of `count` entries from `start` on, where `present` has the permitted configurations at which it is present
unfoldable pub list_rule : List ℕ → List ℕ → List ℕ → ℕ → ℕ → ℕ → Verdict
list_rule expression_rows present entries r start count = refuse_at (λ k. refusal 14 r (entry_attribute entries k) 0)
    (seek (apart_in expression_rows present entries) count start)

-- the permitted configurations at which relation r is present
abbrev pub present_row : List ℕ → List ℕ → List ℕ → ℕ → List ℕ
present_row expression_rows permits relations r = row_intersect 16 permits (row_in 16 expression_rows (relation_expression relations r))

-- 13 and 14 of relation r, whose list starts at `start`
unfoldable pub relation_rule : List ℕ → List ℕ → List ℕ → List ℕ → ℕ → ℕ → Verdict
relation_rule expression_rows permits entries relations r start =
    or_else (refuse_if (row_is_empty 16 (present_row expression_rows permits relations r)) (refusal 13 r 0 0))
    (list_rule expression_rows (present_row expression_rows permits relations r) entries r start (relation_length relations r))

-- a list lies in the entries, and each expression there has a row
pub record ListRead (expression_rows entries : List ℕ) (start count : ℕ) : Type 0 where
  pub inside : start + count ≤ length entries / 2
  pub rowed : (k : ℕ) → k < length entries / 2 → entry_expression entries k < length expression_rows / 16

-- relation r is in table 2, its expression has a row, and its list is such a one
pub record RelationRead (expression_rows entries relations : List ℕ) (r start : ℕ) : Type 0 where
  pub inside : r < length relations / 2
  pub rowed : relation_expression relations r < length expression_rows / 16
  pub list : ListRead expression_rows entries start (relation_length relations r)
