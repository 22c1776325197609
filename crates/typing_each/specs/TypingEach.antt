-- The typing check, configuration by configuration: how the answers at all of them make one, and what the functions read; `..Readable`: there are such
-- tables; `..Fillable`: and words are lent.
use Rattle.std.specs.Prelude.{ℕ, zero, suc, ◌/◌, ◌≤◌, List, length, Ok}
use Rattle.sets.specs.Lists.{NumbersAre}
use Rattle.sets.specs.Rows.{row_count}
use Rattle.report.specs.Tables.{Tables, query_count}
use Rattle.report.specs.Readings.{spared}
use Rattle.report.specs.Verdicts.{Verdict}
use Rattle.report.specs.declared.Reading.{Reading}
use Rattle.verdicts.specs.Sooner.{sooner}
use Rattle.expression_rows.specs.TypingReads.{TypingReads, TypingReadable}
use Rattle.expression_rows.specs.declared.Scope.{Scope}
use Rattle.typing_at.specs.TypingAt.{typing_here, SetsLent}

-- the answer in a reading from those at the configurations below k (proofs/EachLaws: each_typing)
unfoldable pub typing_below : Tables → Reading → ℕ → Verdict
typing_below T R zero = Ok tt
typing_below T R (suc k) = sooner (typing_below T R k) (typing_here T R k)

-- what typing reads, where at most 64 configurations are permitted
pub record EachReadable (scope : Scope) (expression_rows relation_entries project_entries relations comparisons queries kinds reach columns : List ℕ)
    : Type 0 where
  pub readable : TypingReadable scope expression_rows relation_entries project_entries relations comparisons queries kinds reach columns
  pub few : row_count 16 scope.permitted.words ≤ 64

-- the tables, what the reading does not hold against each form, and words for the sets at one configuration
pub record EachFillable (scope : Scope)
    (expression_rows relation_entries project_entries relations comparisons queries kinds reach spared_sets columns named_sets clash_sets form_sets : List ℕ) : Type 0
  where
    pub each : EachReadable scope expression_rows relation_entries project_entries relations comparisons queries kinds reach columns
    pub sparing : (T : Tables) → TypingReads T scope expression_rows relation_entries project_entries relations comparisons queries kinds reach
        → NumbersAre (query_count T) (spared T scope.reading) spared_sets
    pub lent : SetsLent each.readable.tables named_sets clash_sets form_sets

-- the tables have at most so many comparisons and query forms
pub record SizeReadable (most : ℕ) (scope : Scope)
    (expression_rows relation_entries project_entries relations comparisons queries kinds reach columns : List ℕ) : Type 0 where
  pub each : EachReadable scope expression_rows relation_entries project_entries relations comparisons queries kinds reach columns
  pub comparisons_few : length comparisons / 5 ≤ most
  pub forms_few : length queries / 4 ≤ most
