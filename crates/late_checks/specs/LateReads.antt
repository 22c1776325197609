-- What the checks after typing read.
use Rattle.std.specs.Prelude.{ℕ, ◌≤◌, ◌≡◌, List}
use Rattle.sets.specs.Rows.{row_of}
use Rattle.report.specs.Tables.{Tables}
use Rattle.report.specs.Expressions.{permitted}

-- tables 1 to 4
pub record SourceReads (T : Tables) (entries relations comparisons queries : List ℕ) : Type 0 where
  pub entries_are : entries ≡ T.entries
  pub relations_are : relations ≡ T.relations
  pub comparisons_are : comparisons ≡ T.comparisons
  pub queries_are : queries ≡ T.queries

-- besides, the permitted configurations, of at most 10 features
pub record LateReads (T : Tables) (permits entries relations comparisons queries : List ℕ) : Type 0 where
  pub few : T.features ≤ 10
  pub permitting : permits ≡ row_of 16 (permitted T)
  pub source : SourceReads T entries relations comparisons queries

-- there are such tables
pub record LateReadable (permits entries relations comparisons queries : List ℕ) : Type 0 where
  pub tables : Tables
  pub reads : LateReads tables permits entries relations comparisons queries
