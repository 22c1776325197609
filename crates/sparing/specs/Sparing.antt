-- What the filled reading does not hold against each query form (report/specs/Readings): what the functions read of tables T; `..Readable`: there are such
-- tables.
use Rattle.std.specs.Prelude.{ℕ, ◌≤◌, ◌≡◌, List, replicate}
use Rattle.report.specs.Tables.{Tables, query_count, entries_of_relations, entries_of_projects}
use Rattle.report.specs.Formed.{Formed}
use Rattle.expression_rows.specs.ExpressionRows.{TruthFilled, ReachFilled}
use Rattle.expression_rows.specs.TypingReads.{ScopeOf}
use Rattle.expression_rows.specs.declared.Scope.{Scope}

-- tables that have passed the form checks, without table 3, their scope, and the reach rows
pub record SparingReads (T : Tables) (scope : Scope) (expression_rows relation_entries project_entries relations queries reach : List ℕ) : Type 0 where
  pub scoped : ScopeOf T scope
  pub formed : Formed T
  pub filled : TruthFilled T expression_rows
  pub relation_entries_are : relation_entries ≡ entries_of_relations T
  pub project_entries_are : project_entries ≡ entries_of_projects T
  pub relations_are : relations ≡ T.relations
  pub queries_are : queries ≡ T.queries
  pub reaching : ReachFilled T reach

-- and a word for each query form, all 0
pub record SparingReadable (scope : Scope) (expression_rows relation_entries project_entries relations queries reach spared_sets : List ℕ) : Type 0 where
  pub tables : Tables
  pub reads : SparingReads tables scope expression_rows relation_entries project_entries relations queries reach
  pub words : ℕ
  pub clear : spared_sets ≡ replicate words 0
  pub room : query_count tables ≤ words
