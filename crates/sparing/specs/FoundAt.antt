-- What the private functions read of tables T at one configuration c; `..Readable`: there are such tables.
use Rattle.std.specs.Prelude.{ℕ, ◌<◌, ◌≡◌, List}
use Rattle.sets.specs.Lists.{NumbersAre}
use Rattle.report.specs.Tables.{Tables, query, query_count}
use Rattle.report.specs.Typing.{set_of}
use Rattle.report.specs.Readings.{found_below}
use Rattle.report.specs.declared.Query.{Query}
use Rattle.expression_rows.specs.ExpressionRows.{ReachFilled}
use Rattle.at_configuration.specs.AtConfiguration.{AtReads}

-- ---- one form

-- x is query form q; the expression rows, table 2, and the sets of the forms at c
pub record FoundReads (T : Tables) (x : Query) (q c : ℕ) (expression_rows relations form_sets : List ℕ) : Type 0 where
  pub reads : AtReads T expression_rows c
  pub relations_are : relations ≡ T.relations
  pub formed : NumbersAre (query_count T) (set_of T c) form_sets
  pub inside : q < query_count T
  pub form : x ≡ query T.queries q

pub record FoundReadable (x : Query) (q c : ℕ) (expression_rows relations form_sets : List ℕ) : Type 0 where
  pub tables : Tables
  pub reads : FoundReads tables x q c expression_rows relations form_sets

-- and the reach rows
pub record FoundHereReads (T : Tables) (x : Query) (q c : ℕ) (expression_rows relations reach form_sets : List ℕ) : Type 0 where
  pub found : FoundReads T x q c expression_rows relations form_sets
  pub reaching : ReachFilled T reach

pub record FoundHereReadable (x : Query) (q c : ℕ) (expression_rows relations reach form_sets : List ℕ) : Type 0 where
  pub tables : Tables
  pub reads : FoundHereReads tables x q c expression_rows relations reach form_sets

-- ---- all forms

-- `spared_sets` has what each finds at the configurations below c
pub record AddReads (T : Tables) (c : ℕ) (expression_rows relations queries reach form_sets spared_sets : List ℕ) : Type 0 where
  pub reads : AtReads T expression_rows c
  pub relations_are : relations ≡ T.relations
  pub queries_are : queries ≡ T.queries
  pub reaching : ReachFilled T reach
  pub formed : NumbersAre (query_count T) (set_of T c) form_sets
  pub before : NumbersAre (query_count T) (found_below T c) spared_sets

pub record AddReadable (c : ℕ) (expression_rows relations queries reach form_sets spared_sets : List ℕ) : Type 0 where
  pub tables : Tables
  pub reads : AddReads tables c expression_rows relations queries reach form_sets spared_sets
