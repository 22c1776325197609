-- What every call runs before its own checks: the answers, and what the rows lent to it hold afterwards.
use Rattle.std.specs.Prelude.{ℕ, ◌*◌, ◌/◌, ◌≤◌, ◌≡◌, false, List, length, replicate}
use Rattle.sets.specs.Rows.{row_of}
use Rattle.report.specs.Tables.{Tables, expression_count, query_count, entries_of_relations, entries_of_projects}
use Rattle.report.specs.Expressions.{permitted}
use Rattle.report.specs.ColumnRows.{column_rows}
use Rattle.report.specs.Configuring.{written}
use Rattle.report.specs.Verdicts.{Verdict, or_else, after}
use Rattle.report.specs.FormChecks.{form_check}
use Rattle.report.specs.Checks.{model_and_schema_check, typing_check}
use Rattle.report.specs.Formed.{Formed}
use Rattle.report.specs.declared.Head.{Head}
use Rattle.report.specs.declared.Reading.{Reading}
use Rattle.expression_rows.specs.ExpressionRows.{rows_of, Prepared}
use Rattle.reach.specs.Reach.{reach_rows}

-- 12 to 19 and 25
abbrev pub meaning_check : Tables → Reading → Verdict
meaning_check T R = or_else (model_and_schema_check T) (typing_check T R)

-- 1 to 10, 24, 12 to 19 and 25: what configuring runs before its own checks
abbrev pub report_check : Tables → Reading → Verdict
report_check T R = or_else (form_check T) (meaning_check T R)

-- 1 to 10, 24 and 12 to 14: what it runs before typing
abbrev pub early_check : Tables → Verdict
early_check T = or_else (form_check T) (model_and_schema_check T)

-- ---- 12 to 19 and 25, given expression rows

-- the prepared tables and their head
pub record JudgeReads (T : Tables) (head : Head) (expression_rows relation_entries project_entries relations comparisons queries kinds : List ℕ)
    : Type 0 where
  pub prepared : Prepared T expression_rows relation_entries project_entries relations comparisons queries
  pub features : head.features ≡ T.features
  pub attributes : head.attributes ≡ T.attributes
  pub model : head.model ≡ T.model
  pub kinds_are : kinds ≡ T.kinds

-- there are such tables, and room for the reach rows and the column rows, all 0
pub record JudgeReadable (head : Head) (expression_rows relation_entries project_entries relations comparisons queries kinds reach columns : List ℕ)
    : Type 0 where
  pub tables : Tables
  pub reads : JudgeReads tables head expression_rows relation_entries project_entries relations comparisons queries kinds
  pub forms : query_count tables * 16 ≤ length reach
  pub unreached : reach ≡ replicate (length reach) 0
  pub unshown : columns ≡ replicate 1024 0

-- the answer, and what the rows lent hold afterwards: the reach rows and the column rows, whatever typing answers, and what they held where 12 to
-- 14 refuse
pub record Judged (T : Tables) (R : Reading) (answer : Verdict) (lent_reach lent_columns reach columns : List ℕ) : Type 0 where
  pub answers : answer ≡ meaning_check T R
  pub reaching : reach ≡ after (model_and_schema_check T) (reach_rows T (length lent_reach)) lent_reach
  pub shows : columns ≡ after (model_and_schema_check T) (column_rows T) lent_columns

-- with reach rows of its own: there are such tables, with at most so many query forms, and room for the column rows, all 0
pub record ColumnsReadable (most : ℕ) (head : Head) (expression_rows relation_entries project_entries relations comparisons queries kinds columns : List ℕ)
    : Type 0 where
  pub tables : Tables
  pub reads : JudgeReads tables head expression_rows relation_entries project_entries relations comparisons queries kinds
  pub few : length queries / 4 ≤ most
  pub unshown : columns ≡ replicate 1024 0

-- the answer, and what the column rows lent hold afterwards
pub record ColumnsJudged (T : Tables) (R : Reading) (answer : Verdict) (lent_columns columns : List ℕ) : Type 0 where
  pub answers : answer ≡ meaning_check T R
  pub shows : columns ≡ after (model_and_schema_check T) (column_rows T) lent_columns

-- ---- whole tables

-- tables that have passed the form checks: these are their tables 1 to 4 and their kind table
pub record SplitReads (T : Tables) (entries relations comparisons queries kinds : List ℕ) : Type 0 where
  pub formed : Formed T
  pub entries_are : entries ≡ T.entries
  pub relations_are : relations ≡ T.relations
  pub comparisons_are : comparisons ≡ T.comparisons
  pub queries_are : queries ≡ T.queries
  pub kinds_are : kinds ≡ T.kinds

-- there are such tables
pub record SplitReadable (entries relations comparisons queries kinds : List ℕ) : Type 0 where
  pub tables : Tables
  pub reads : SplitReads tables entries relations comparisons queries kinds

-- the parts of split tables: these expression rows, table 1 in its two parts, and the others as they are
pub record IsSplit (T : Tables) (rows expression_rows relation_entries project_entries relations comparisons queries kinds : List ℕ) : Type 0 where
  pub rows_are : expression_rows ≡ rows
  pub relation_entries_are : relation_entries ≡ entries_of_relations T
  pub project_entries_are : project_entries ≡ entries_of_projects T
  pub relations_are : relations ≡ T.relations
  pub comparisons_are : comparisons ≡ T.comparisons
  pub queries_are : queries ≡ T.queries
  pub kinds_are : kinds ≡ T.kinds

-- tables that have passed the form checks, room for their expression rows, and for the column rows, all 0
pub record TablesFillable (T : Tables) (expression_rows columns : List ℕ) : Type 0 where
  pub formed : Formed T
  pub room : expression_count T * 16 ≤ length expression_rows
  pub unshown : columns ≡ replicate 1024 0

-- the answer, and what the rows lent hold afterwards: the expression rows, whatever the answer, and the column rows
pub record TablesFilled (T : Tables) (R : Reading) (answer : Verdict) (lent_expression_rows lent_columns expression_rows columns : List ℕ) : Type 0 where
  pub fills : expression_rows ≡ written (rows_of T) lent_expression_rows
  pub judged : ColumnsJudged T R answer lent_columns columns

-- with expression rows of its own: tables that have passed the form checks and have at most so many expressions, and room for the column rows, all 0
pub record TablesReadable (most : ℕ) (T : Tables) (columns : List ℕ) : Type 0 where
  pub formed : Formed T
  pub few : expression_count T ≤ most
  pub unshown : columns ≡ replicate 1024 0

-- the answer, the permitted configurations, and what the column rows lent hold afterwards
pub record TablesJudged (T : Tables) (R : Reading) (answer : Verdict) (permits lent_columns columns : List ℕ) : Type 0 where
  pub judged : ColumnsJudged T R answer lent_columns columns
  pub permitting : permits ≡ row_of 16 (permitted T)

-- the same of any tables: with no permitted configuration where the form checks refuse, and with the rows as they were where these or 12 to 14 do
pub record ColumnsChecked (T : Tables) (R : Reading) (answer : Verdict) (permits lent_columns columns : List ℕ) : Type 0 where
  pub answers : answer ≡ report_check T R
  pub permitting : permits ≡ after (form_check T) (row_of 16 (permitted T)) (row_of 16 (λ c. false))
  pub shows : columns ≡ after (early_check T) (column_rows T) lent_columns

-- rows enough for all tables that pass the form checks
pub record RowsLent (expression_rows reach columns : List ℕ) : Type 0 where
  pub expressions : 4096 ≤ length expression_rows
  pub forms : 4096 ≤ length reach
  pub unreached : reach ≡ replicate (length reach) 0
  pub unshown : columns ≡ replicate 1024 0

-- the same with all rows: where the form checks refuse, or 12 to 14, the rows that are not filled are as they were
pub record RowsChecked (T : Tables) (R : Reading) (answer : Verdict) (lent_expression_rows lent_reach lent_columns expression_rows reach columns : List ℕ) : Type 0 where
  pub answers : answer ≡ report_check T R
  pub fills : expression_rows ≡ after (form_check T) (written (rows_of T) lent_expression_rows) lent_expression_rows
  pub reaching : reach ≡ after (early_check T) (reach_rows T (length lent_reach)) lent_reach
  pub shows : columns ≡ after (early_check T) (column_rows T) lent_columns
