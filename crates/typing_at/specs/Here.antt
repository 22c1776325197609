-- What the private functions work out at one configuration c, and what each reads of tables T; `..Readable`: there are such tables.
use Rattle.std.specs.Prelude.{ℕ, ◌≡◌, List}
use Rattle.sets.specs.Lists.{NumbersAre}
use Rattle.report.specs.Tables.{Tables, comparison_count, query_count, entries_of_projects}
use Rattle.report.specs.Typing.{names, clashes, set_of}
use Rattle.report.specs.Readings.{spared}
use Rattle.report.specs.declared.Query.{Query}
use Rattle.report.specs.declared.Reading.{Reading}
use Rattle.expression_rows.specs.ExpressionRows.{ReachFilled}
use Rattle.at_configuration.specs.AtConfiguration.{AtReads}
use Rattle.faults_at.specs.SetsAt.{FormFaultsReads}

-- ---- one form

-- x is query form q; `spared_sets` has what the reading does not hold against it, `named_sets`, `clash_sets` and `form_sets` what its faults are worked out from
pub record FormHereReads (T : Tables) (R : Reading) (q : ℕ) (expression_rows entries relations reach spared_sets : List ℕ) (c : ℕ)
    (named_sets clash_sets form_sets : List ℕ) (start : ℕ) (x : Query) : Type 0 where
  pub rule : FormFaultsReads T q expression_rows entries relations c named_sets form_sets start x
  pub clashed : NumbersAre (comparison_count T) (clashes T c) clash_sets
  pub reaching : ReachFilled T reach
  pub sparing : NumbersAre (query_count T) (spared T R) spared_sets

pub record FormHereReadable (q : ℕ) (expression_rows entries relations reach spared_sets : List ℕ) (c : ℕ) (named_sets clash_sets form_sets : List ℕ) (start : ℕ)
    (x : Query) : Type 0 where
  pub tables : Tables
  pub reading : Reading
  pub reads : FormHereReads tables reading q expression_rows entries relations reach spared_sets c named_sets clash_sets form_sets start x

-- ---- all forms

-- the tables, the reach rows, what the reading does not hold against each form, and the sets at c of the comparisons and of the query forms
pub record FormsHereReads (T : Tables) (R : Reading) (expression_rows entries relations queries reach spared_sets : List ℕ) (c : ℕ)
    (named_sets clash_sets form_sets : List ℕ) : Type 0 where
  pub reads : AtReads T expression_rows c
  pub entries_are : entries ≡ entries_of_projects T
  pub relations_are : relations ≡ T.relations
  pub queries_are : queries ≡ T.queries
  pub reaching : ReachFilled T reach
  pub compared : NumbersAre (comparison_count T) (names T c) named_sets
  pub clashed : NumbersAre (comparison_count T) (clashes T c) clash_sets
  pub formed : NumbersAre (query_count T) (set_of T c) form_sets
  pub sparing : NumbersAre (query_count T) (spared T R) spared_sets

pub record FormsHereReadable (expression_rows entries relations queries reach spared_sets : List ℕ) (c : ℕ) (named_sets clash_sets form_sets : List ℕ)
    : Type 0 where
  pub tables : Tables
  pub reading : Reading
  pub reads : FormsHereReads tables reading expression_rows entries relations queries reach spared_sets c named_sets clash_sets form_sets
