-- What configuring at one configuration reads and writes of the lists and the relations.
use Rattle.std.specs.Prelude.{ℕ, ◌+◌, ◌≡◌, List}
use Rattle.sets.specs.Bits.{bit}
use Rattle.sets.specs.Lists.{kept, NumbersAre}
use Rattle.sets.specs.Writing.{Room}
use Rattle.report.specs.Tables.{Tables, query, relation_count, query_count, entries_of_projects}
use Rattle.report.specs.Typing.{present, set_of}
use Rattle.report.specs.Configuring.{query_kept, kept_list, relation_list, project_list_of, relation_form}
use Rattle.report.specs.declared.Reading.{Reading}
use Rattle.expression_rows.specs.ExpressionRows.{ReachFilled}
use Rattle.at_configuration.specs.AtConfiguration.{AtReads, ListReads, RelationReads}

-- ---- what is written, of tables T at configuration c: parts of `configured`, in the filled reading. Of a report that the strict one accepts they are
-- those of the strict one too (report, proofs/SameTables), so that the functions that write are not told the reading

module _ (T : Tables) (c : ℕ) where
  -- the lists of the relations that are present
  unfoldable pub relation_lists : List ℕ
  relation_lists = kept (present T c) (relation_list T c) (relation_count T)

  -- the lists of the project forms that are kept
  unfoldable pub project_lists : List ℕ
  project_lists = kept (query_kept T c) (λ q. project_list_of T c Reading.Filled q (query T.queries q)) (query_count T)

  -- the relations that are present
  unfoldable pub relation_forms : List ℕ
  relation_forms = kept (present T c) (relation_form T c) (relation_count T)

-- ---- what each function reads of tables T; `..Writable`: there are such tables, and room for what is written

-- a list, with room for its kept entries whose attributes are among `stays`
pub record KeptListWritable (expression_rows entries : List ℕ) (c start count stays : ℕ) (out : List ℕ) (at : ℕ) : Type 0 where
  pub tables : Tables
  pub offset : ℕ
  pub reads : ListReads tables offset expression_rows entries c start count
  pub room : Room (kept_list tables c (bit stays) (offset + start) count) out at

-- the relations' entries and table 2, with room for the text that f makes of them
pub record KeptRelationWritable (f : Tables → ℕ → List ℕ) (expression_rows entries relations : List ℕ) (c : ℕ) (out : List ℕ) (at : ℕ) : Type 0 where
  pub tables : Tables
  pub reads : RelationReads tables expression_rows entries relations c
  pub room : Room (f tables c) out at

-- the project forms' entries and table 4, with the configurations that reach each form, and each form's set at c
pub record ProjectReads (T : Tables) (expression_rows reach form_sets entries queries : List ℕ) (c : ℕ) : Type 0 where
  pub reads : AtReads T expression_rows c
  pub reaching : ReachFilled T reach
  pub typed : NumbersAre (query_count T) (set_of T c) form_sets
  pub entries_are : entries ≡ entries_of_projects T
  pub queries_are : queries ≡ T.queries

pub record ProjectWritable (expression_rows reach form_sets entries queries : List ℕ) (c : ℕ) (out : List ℕ) (at : ℕ) : Type 0 where
  pub tables : Tables
  pub reads : ProjectReads tables expression_rows reach form_sets entries queries c
  pub room : Room (project_lists tables c) out at
