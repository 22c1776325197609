-- What is read at one configuration c of tables T; `..Readable`: there are such tables.
use Rattle.std.specs.Prelude.{ℕ, ◌+◌, ◌/◌, ◌<◌, ◌≤◌, ◌≡◌, List, length}
use Rattle.report.specs.Tables.{Tables, query, relation_count, query_count, projected_before, entries_of_relations, entries_of_projects}
use Rattle.report.specs.Expressions.{configurations}
use Rattle.report.specs.Formed.{Formed, EntriesFrom}
use Rattle.report.specs.declared.Query.{Query}
use Rattle.expression_rows.specs.ExpressionRows.{TruthFilled}

-- the expression rows of tables that have passed the form checks, and a configuration of their features
pub record AtReads (T : Tables) (expression_rows : List ℕ) (c : ℕ) : Type 0 where
  pub formed : Formed T
  pub filled : TruthFilled T expression_rows
  pub inside : c < configurations T

-- besides, the entries of table 1 from entry `offset` on, and a list in them
pub record ListReads (T : Tables) (offset : ℕ) (expression_rows entries : List ℕ) (c start count : ℕ) : Type 0 where
  pub reads : AtReads T expression_rows c
  pub part : EntriesFrom T offset entries
  pub lies : start + count ≤ length entries / 2

pub record ListReadable (expression_rows entries : List ℕ) (c start count : ℕ) : Type 0 where
  pub tables : Tables
  pub offset : ℕ
  pub reads : ListReads tables offset expression_rows entries c start count

-- table 2, of which the relations below a bound may be asked for
pub record PresentReads (T : Tables) (expression_rows relations : List ℕ) (c : ℕ) : Type 0 where
  pub reads : AtReads T expression_rows c
  pub relations_are : relations ≡ T.relations

pub record PresentReadable (expression_rows relations : List ℕ) (c bound : ℕ) : Type 0 where
  pub tables : Tables
  pub reads : PresentReads tables expression_rows relations c
  pub few : bound ≤ relation_count tables

-- the relations' entries and table 2
pub record RelationReads (T : Tables) (expression_rows entries relations : List ℕ) (c : ℕ) : Type 0 where
  pub reads : AtReads T expression_rows c
  pub entries_are : entries ≡ entries_of_relations T
  pub relations_are : relations ≡ T.relations

-- table 3, and room for a number of each comparison
pub record ComparisonReads (T : Tables) (expression_rows comparisons : List ℕ) (c : ℕ) : Type 0 where
  pub reads : AtReads T expression_rows c
  pub comparisons_are : comparisons ≡ T.comparisons

pub record ComparisonNumberable (expression_rows comparisons : List ℕ) (c : ℕ) (numbers : List ℕ) : Type 0 where
  pub tables : Tables
  pub reads : ComparisonReads tables expression_rows comparisons c
  pub room : length comparisons / 5 ≤ length numbers

-- the project forms' entries, and x, which is query form q: a project's list starts at `start`
pub record FormAt (T : Tables) (q : ℕ) (expression_rows entries : List ℕ) (c start : ℕ) (x : Query) : Type 0 where
  pub reads : AtReads T expression_rows c
  pub entries_are : entries ≡ entries_of_projects T
  pub inside : q < query_count T
  pub form : x ≡ query T.queries q
  pub starts : start ≡ projected_before T.queries q
