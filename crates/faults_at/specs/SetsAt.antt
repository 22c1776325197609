-- What is worked out at one configuration c: what is gathered from comparisons, the sets of relations and query forms, the items at fault; and what
-- each function reads of tables T. `..Readable`, `Some..`: there are such tables, and room for what is written.
use Rattle.std.specs.Prelude.{ℕ, ◌/◌, ◌<◌, ◌≤◌, ◌≡◌, cond, List, length}
use Rattle.sets.specs.Lists.{NumbersAre}
use Rattle.report.specs.Tables.{Tables, comparison, query, relation_count, comparison_count, query_count}
use Rattle.report.specs.Tables.{relation_start, entries_of_projects}
use Rattle.report.specs.Operands.{comparison_operands}
use Rattle.report.specs.Typing.{present, relation_set, names, clashes, set_of}
use Rattle.report.specs.Formed.{Formed}
use Rattle.report.specs.declared.Operands.{Operands}
use Rattle.report.specs.declared.Query.{Query}
use Rattle.at_configuration.specs.AtConfiguration.{AtReads, RelationReads, ComparisonReads, FormAt}

-- the set of relation r: none where it is absent
abbrev pub present_set : Tables → ℕ → ℕ → ℕ
present_set T c r = cond (present T c r) (relation_set T c r) 0

-- ---- relations

-- room for the sets of all
pub record RelationSetsReadable (expression_rows entries relations : List ℕ) (c : ℕ) (lent : List ℕ) : Type 0 where
  pub tables : Tables
  pub reads : RelationReads tables expression_rows entries relations c
  pub room : length relations / 2 ≤ length lent

-- relation r, whose list starts at `start`
pub record RelationSetReadable (expression_rows entries relations : List ℕ) (c r start : ℕ) : Type 0 where
  pub tables : Tables
  pub reads : RelationReads tables expression_rows entries relations c
  pub inside : r < length relations / 2
  pub starts : start ≡ relation_start relations r

-- ---- comparisons

-- comparison f refers to these, and `sets` has the sets of the lower ones, which `set` gives
pub record ComparisonAt (T : Tables) (f : ℕ) (set : ℕ → ℕ) (expression_rows : List ℕ) (c : ℕ) (sets : List ℕ) (to : Operands) : Type 0 where
  pub reads : AtReads T expression_rows c
  pub inside : f < comparison_count T
  pub refers : to ≡ comparison_operands (comparison T.comparisons f)
  pub below : NumbersAre f set sets

pub record SomeComparison (expression_rows : List ℕ) (c : ℕ) (sets : List ℕ) (to : Operands) : Type 0 where
  pub tables : Tables
  pub number : ℕ
  pub set : ℕ → ℕ
  pub at : ComparisonAt tables number set expression_rows c sets to

-- table 3 and the kind table
pub record GatheredReads (T : Tables) (expression_rows comparisons kinds : List ℕ) (c : ℕ) : Type 0 where
  pub compared : ComparisonReads T expression_rows comparisons c
  pub kinds_are : kinds ≡ T.kinds

-- and room for the sets of all
pub record GatheredReadable (expression_rows comparisons kinds : List ℕ) (c : ℕ) (lent : List ℕ) : Type 0 where
  pub tables : Tables
  pub reads : GatheredReads tables expression_rows comparisons kinds c
  pub room : length comparisons / 5 ≤ length lent

-- ---- query forms

-- the project forms' entries and table 4; `relation_sets` has the sets of the relations
pub record SetsReads (T : Tables) (expression_rows entries queries relation_sets : List ℕ) (c : ℕ) : Type 0 where
  pub reads : AtReads T expression_rows c
  pub entries_are : entries ≡ entries_of_projects T
  pub queries_are : queries ≡ T.queries
  pub related : NumbersAre (relation_count T) (present_set T c) relation_sets

-- and room for the sets of all
pub record SetsReadable (expression_rows entries queries relation_sets : List ℕ) (c : ℕ) (lent : List ℕ) : Type 0 where
  pub tables : Tables
  pub reads : SetsReads tables expression_rows entries queries relation_sets c
  pub room : length queries / 4 ≤ length lent

-- what they are worked out from, those of the relations with them
pub record FormSetsReads (T : Tables) (c : ℕ) (expression_rows relation_entries project_entries relations queries : List ℕ) : Type 0 where
  pub related : RelationReads T expression_rows relation_entries relations c
  pub entries_are : project_entries ≡ entries_of_projects T
  pub queries_are : queries ≡ T.queries

pub record FormSetsReadable (c : ℕ) (expression_rows relation_entries project_entries relations queries lent : List ℕ) : Type 0 where
  pub tables : Tables
  pub reads : FormSetsReads tables c expression_rows relation_entries project_entries relations queries
  pub room : query_count tables ≤ length lent

-- x is query form q, `sets` has the sets of lower forms and `relation_sets` those of the relations
pub record QueryAt (T : Tables) (q : ℕ) (expression_rows entries relation_sets : List ℕ) (c : ℕ) (sets : List ℕ) (start : ℕ) (x : Query) : Type 0 where
  pub at : FormAt T q expression_rows entries c start x
  pub below : NumbersAre q (set_of T c) sets
  pub related : NumbersAre (relation_count T) (present_set T c) relation_sets

pub record SomeQuery (expression_rows entries relation_sets : List ℕ) (c : ℕ) (sets : List ℕ) (start : ℕ) (x : Query) : Type 0 where
  pub tables : Tables
  pub number : ℕ
  pub at : QueryAt tables number expression_rows entries relation_sets c sets start x

-- x is query form q, `sets` has the sets of lower forms and `named` what the comparisons name; and table 2
pub record FormFaultsReads (T : Tables) (q : ℕ) (expression_rows entries relations : List ℕ) (c : ℕ) (named sets : List ℕ) (start : ℕ)
    (x : Query) : Type 0 where
  pub at : FormAt T q expression_rows entries c start x
  pub below : NumbersAre q (set_of T c) sets
  pub relations_are : relations ≡ T.relations
  pub compared : NumbersAre (comparison_count T) (names T c) named

pub record FormFaultsReadable (expression_rows entries relations : List ℕ) (c : ℕ) (named sets : List ℕ) (start : ℕ) (x : Query) : Type 0 where
  pub tables : Tables
  pub number : ℕ
  pub reads : FormFaultsReads tables number expression_rows entries relations c named sets start x

-- x is query form q, and `clashing` has the left attributes at fault in the comparisons
pub record FormClashesReads (T : Tables) (q c : ℕ) (clashing : List ℕ) (x : Query) : Type 0 where
  pub formed : Formed T
  pub inside : q < query_count T
  pub form : x ≡ query T.queries q
  pub compared : NumbersAre (comparison_count T) (clashes T c) clashing

pub record FormClashesReadable (clashing : List ℕ) (x : Query) : Type 0 where
  pub tables : Tables
  pub number : ℕ
  pub configuration : ℕ
  pub reads : FormClashesReads tables number configuration clashing x
