-- Expression rows: for each expression the configurations of n features at which it is true, as the tables' truth has it; and what checks 13 and 14 read.
use Rattle.std.specs.Prelude.{ℕ, ◌*◌, ◌/◌, ◌<◌, ◌≤◌, ◌≡◌, Bool, List, length, Ok}
use Rattle.sets.specs.Lists.{concat}
use Rattle.sets.specs.Rows.{row_of, row_in, within, RowsAre}
use Rattle.report.specs.Tables.{Tables, expression_count, query_count, entries_of_relations, entries_of_projects}
use Rattle.report.specs.Expressions.{holds, permitted}
use Rattle.report.specs.Typing.{reached}
use Rattle.report.specs.FormChecks.{expressions_check}
use Rattle.report.specs.Formed.{Formed}

-- the row of expression e, where there are n features and `truth` says at which configuration each expression holds
abbrev pub expression_row : ℕ → (ℕ → ℕ → Bool) → ℕ → List ℕ
expression_row n truth e = row_of 16 (within n (λ c. truth c e))

-- the rows of `count` expressions, one after another
unfoldable pub rows_of_truth : ℕ → (ℕ → ℕ → Bool) → ℕ → List ℕ
rows_of_truth n truth count = concat count (expression_row n truth)

-- those of tables T; and those worked out from a table 0
abbrev pub rows_of : Tables → List ℕ
rows_of T = rows_of_truth T.features T.truth (expression_count T)

abbrev pub fresh_rows : ℕ → List ℕ → List ℕ
fresh_rows n expressions = rows_of_truth n (holds expressions) (length expressions / 3)

-- table 0 passes its check, 3, and there is room for its rows
pub record ExpressionsFillable (n : ℕ) (expressions expression_rows : List ℕ) : Type 0 where
  pub few : n ≤ 10
  pub checked : expressions_check n expressions ≡ Ok tt
  pub room : length expressions / 3 * 16 ≤ length expression_rows

-- `expression_rows` starts with the rows of `count` expressions, where there are n features and `truth` says at which configuration each of them holds
pub record ExpressionsFilled (n : ℕ) (truth : ℕ → ℕ → Bool) (count : ℕ) (expression_rows : List ℕ) : Type 0 where
  pub room : count * 16 ≤ length expression_rows
  pub each : (e : ℕ) → e < count → row_in 16 expression_rows e ≡ expression_row n truth e

-- those of tables T
abbrev pub TruthFilled : Tables → List ℕ → Type 0
TruthFilled T = ExpressionsFilled T.features T.truth (expression_count T)

-- tables that have passed the form checks, as all later steps read them: the expression rows in place of table 0, table 1 in its parts
pub record Prepared (T : Tables) (expression_rows relation_entries project_entries relations comparisons queries : List ℕ) : Type 0 where
  pub formed : Formed T
  pub filled : TruthFilled T expression_rows
  pub relation_entries_are : relation_entries ≡ entries_of_relations T
  pub project_entries_are : project_entries ≡ entries_of_projects T
  pub relations_are : relations ≡ T.relations
  pub comparisons_are : comparisons ≡ T.comparisons
  pub queries_are : queries ≡ T.queries

-- the row of the configurations that reach query form q, and that `reach` starts with those of all query forms
abbrev pub reach_row : Tables → ℕ → List ℕ
reach_row T q = row_of 16 (λ c. reached T c q)

abbrev pub ReachFilled : Tables → List ℕ → Type 0
ReachFilled T = RowsAre 16 (query_count T) (reach_row T)

-- the expression rows, the permitted configurations, the relations' entries and table 2 of tables that have passed the form checks
pub record SchemaReads (T : Tables) (expression_rows permits entries relations : List ℕ) : Type 0 where
  pub formed : Formed T
  pub filled : TruthFilled T expression_rows
  pub permitting : permits ≡ row_of 16 (permitted T)
  pub entries_are : entries ≡ entries_of_relations T
  pub relations_are : relations ≡ T.relations

-- there are such tables
pub record SchemaReadable (expression_rows permits entries relations : List ℕ) : Type 0 where
  pub tables : Tables
  pub reads : SchemaReads tables expression_rows permits entries relations
