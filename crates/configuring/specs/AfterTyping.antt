-- The parts of the call after typing.
use Rattle.std.specs.Prelude.{ℕ, ◌<◌, ◌≡◌, List, ◌++◌, length}
use Rattle.sets.specs.Lists.{NumbersAre}
use Rattle.sets.specs.Writing.{Room}
use Rattle.report.specs.Tables.{Tables, query_count}
use Rattle.report.specs.Typing.{set_of}
use Rattle.report.specs.Expressions.{configurations}
use Rattle.report.specs.Verdicts.{Verdict, first_of}
use Rattle.report.specs.Calls.{permitted_condition, room_conditions}
use Rattle.expression_rows.specs.ExpressionRows.{Prepared, ReachFilled}
use Rattle.expression_rows.specs.declared.SplitTables.{SplitTables}
use Rattle.at_configuration.specs.AtConfiguration.{RelationReads}
use Rattle.kept_lists.specs.Keeping.{relation_lists, project_lists, ProjectReads}
use Rattle.configuring.specs.Promises.{Rooms}

-- 20 and 21 at c, with these tables lent for writing
abbrev pub late_verdict : Tables → ℕ → List ℕ → List ℕ → List ℕ → List ℕ → Verdict
late_verdict T c new_entries new_relations new_comparisons new_queries =
    first_of (permitted_condition c T ++ room_conditions (length new_entries) (length new_relations) (length new_comparisons) (length new_queries) T)

-- the prepared tables, with their model and their reach rows
pub record ConfigureReads (T : Tables) (model : ℕ) (split : SplitTables) (reach : List ℕ) : Type 0 where
  pub prepared : Prepared T split.expression_rows.now split.relation_entries.now split.project_entries.now split.relations.now split.comparisons.now
      split.queries.now
  pub number : model ≡ T.model
  pub reaching : ReachFilled T reach

-- there are such tables
pub record ConfigureReadable (model : ℕ) (split : SplitTables) (reach : List ℕ) : Type 0 where
  pub tables : Tables
  pub reads : ConfigureReads tables model split reach

-- what table 1 is written from: its parts, tables 2 and 4, and the sets of the query forms
pub record EntriesReads (T : Tables) (split : SplitTables) (reach form_sets : List ℕ) (c : ℕ) : Type 0 where
  pub lists : RelationReads T split.expression_rows.now split.relation_entries.now split.relations.now c
  pub projects : ProjectReads T split.expression_rows.now reach form_sets split.project_entries.now split.queries.now c

pub record EntriesWritable (split : SplitTables) (reach form_sets : List ℕ) (c : ℕ) (out : List ℕ) : Type 0 where
  pub tables : Tables
  pub reads : EntriesReads tables split reach form_sets c
  pub room : Room (relation_lists tables c ++ project_lists tables c) out 0

-- the prepared tables, a configuration of their features, and the reach rows
pub record KeptReads (T : Tables) (split : SplitTables) (reach : List ℕ) (c : ℕ) : Type 0 where
  pub prepared : Prepared T split.expression_rows.now split.relation_entries.now split.project_entries.now split.relations.now split.comparisons.now
      split.queries.now
  pub inside : c < configurations T
  pub reaching : ReachFilled T reach

pub record KeptWritable (split : SplitTables) (reach : List ℕ) (c : ℕ) (new_entries new_relations new_comparisons new_queries : List ℕ)
    : Type 0 where
  pub tables : Tables
  pub reads : KeptReads tables split reach c
  pub rooms : Rooms tables new_entries new_relations new_comparisons new_queries

-- besides, the sets of the query forms at c
pub record TypedReads (T : Tables) (split : SplitTables) (reach form_sets : List ℕ) (c : ℕ) : Type 0 where
  pub kept : KeptReads T split reach c
  pub typed : NumbersAre (query_count T) (set_of T c) form_sets

pub record TypedWritable (split : SplitTables) (reach form_sets : List ℕ) (c : ℕ) (new_entries new_relations new_comparisons new_queries : List ℕ)
    : Type 0 where
  pub tables : Tables
  pub reads : TypedReads tables split reach form_sets c
  pub rooms : Rooms tables new_entries new_relations new_comparisons new_queries
