-- What typing reads of tables that have passed the form checks, and what it answers and leaves, whichever way it goes.
use Rattle.std.specs.Prelude.{ℕ, ◌≤◌, ◌≡◌, true, List, replicate}
use Rattle.sets.specs.Rows.{row_of, within}
use Rattle.report.specs.Tables.{Tables, relation_count}
use Rattle.report.specs.Expressions.{permitted}
use Rattle.report.specs.ColumnRows.{column_rows}
use Rattle.report.specs.Checks.{typing_check}
use Rattle.report.specs.Verdicts.{Verdict}
use Rattle.report.specs.declared.Reading.{Reading}
use Rattle.expression_rows.specs.ExpressionRows.{Prepared, ReachFilled}
use Rattle.expression_rows.specs.declared.Scope.{Scope}

-- no item is at or above `items`: items are attributes and relations
pub record Items (T : Tables) (items : ℕ) : Type 0 where
  pub attributes : T.attributes ≤ items
  pub relations : relation_count T ≤ items
  pub most : items ≤ 64

-- the scope of T
pub record ScopeOf (T : Tables) (scope : Scope) : Type 0 where
  pub whole : scope.full.words ≡ row_of 16 (within T.features (λ c. true))
  pub permitting : scope.permitted.words ≡ row_of 16 (permitted T)
  pub bounded : Items T scope.items

-- the prepared tables, the kind table and the reach rows
pub record ReportReads (T : Tables) (expression_rows relation_entries project_entries relations comparisons queries kinds reach : List ℕ) : Type 0 where
  pub prepared : Prepared T expression_rows relation_entries project_entries relations comparisons queries
  pub kinds_are : kinds ≡ T.kinds
  pub reaching : ReachFilled T reach

-- these, and the scope
pub record TypingReads (T : Tables) (scope : Scope) (expression_rows relation_entries project_entries relations comparisons queries kinds reach : List ℕ)
    : Type 0 where
  pub scoped : ScopeOf T scope
  pub report : ReportReads T expression_rows relation_entries project_entries relations comparisons queries kinds reach

-- there are such tables, and 1,024 words for the column rows, all 0
pub record TypingReadable (scope : Scope) (expression_rows relation_entries project_entries relations comparisons queries kinds reach columns : List ℕ)
    : Type 0 where
  pub tables : Tables
  pub reads : TypingReads tables scope expression_rows relation_entries project_entries relations comparisons queries kinds reach
  pub clear : columns ≡ replicate 1024 0

-- the answer in a reading, and the column rows that are left whatever it is
pub record Checked (T : Tables) (R : Reading) (answer : Verdict) (columns : List ℕ) : Type 0 where
  pub answers : answer ≡ typing_check T R
  pub shows : columns ≡ column_rows T
