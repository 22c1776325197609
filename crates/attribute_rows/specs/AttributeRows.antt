-- The rows of one attribute: at which configurations a list, a relation, a comparison or a query form has it; the rows of comparisons of two kinds;
-- and what the functions that fill them read.
use Rattle.std.specs.Prelude.{ℕ, ◌+◌, ◌*◌, ◌/◌, ◌≤◌, ◌≡◌, true, cond, List, length}
use Rattle.sets.specs.Bits.{bit}
use Rattle.sets.specs.Rows.{row_of, within}
use Rattle.report.specs.Tables.{Tables, kind_of, entries_of_relations}
use Rattle.report.specs.Typing.{joined_set, present, relation_set, gathered, set_of}
use Rattle.report.specs.Formed.{Formed, EntriesFrom}
use Rattle.comparisons.specs.Gathering.{own_of, shows}
use Rattle.comparisons.specs.declared.Gathered.{Gathered}
use Rattle.expression_rows.specs.ExpressionRows.{TruthFilled}

module _ (T : Tables) (a : ℕ) where
  -- the configurations at which a set that goes by configurations has attribute a
  abbrev pub has_row : (ℕ → ℕ) → List ℕ
  has_row set = row_of 16 (within T.features (λ c. bit (set c) a))

  -- `count` entries from `start` on
  abbrev pub list_row : ℕ → ℕ → List ℕ
  list_row start count = has_row (λ c. joined_set T c start count)

  -- a relation: none where it is absent
  abbrev pub relation_row : ℕ → List ℕ
  relation_row r = has_row (λ c. cond (present T c r) (relation_set T c r) 0)

  -- the set of a query form
  abbrev pub set_row : ℕ → List ℕ
  set_row q = has_row (λ c. set_of T c q)

-- comparison f, its choices taken: where it names attribute a, or where anything is at fault in it
abbrev pub gathered_row : Tables → Gathered → ℕ → ℕ → List ℕ
gathered_row T what a f = row_of 16 (within T.features (λ c. shows what a (gathered T c (own_of (kind_of T) what) f)))

-- ---- what each function reads of tables T that have passed the form checks, whose expression rows `expression_rows` starts with; `..Readable`: there are
-- such tables, and room

-- a list in `entries`, which are those of table 1 from entry `offset` on
pub record ListRowReads (T : Tables) (offset : ℕ) (expression_rows entries : List ℕ) (start count : ℕ) : Type 0 where
  pub formed : Formed T
  pub filled : TruthFilled T expression_rows
  pub part : EntriesFrom T offset entries
  pub inside : start + count ≤ length entries / 2

pub record ListRowReadable (expression_rows entries : List ℕ) (start count : ℕ) : Type 0 where
  pub tables : Tables
  pub offset : ℕ
  pub reads : ListRowReads tables offset expression_rows entries start count

-- the relations' entries and table 2
pub record RelationRowReads (T : Tables) (expression_rows relation_entries relations : List ℕ) : Type 0 where
  pub formed : Formed T
  pub filled : TruthFilled T expression_rows
  pub entries_are : relation_entries ≡ entries_of_relations T
  pub relations_are : relations ≡ T.relations

pub record RelationRowReadable (expression_rows relation_entries relations lent : List ℕ) : Type 0 where
  pub tables : Tables
  pub reads : RelationRowReads tables expression_rows relation_entries relations
  pub room : length relations / 2 * 16 ≤ length lent

-- table 3 and the kind table; `full` has all configurations
pub record GatheredReads (T : Tables) (expression_rows comparisons kinds full : List ℕ) : Type 0 where
  pub formed : Formed T
  pub filled : TruthFilled T expression_rows
  pub comparisons_are : comparisons ≡ T.comparisons
  pub kinds_are : kinds ≡ T.kinds
  pub whole : full ≡ row_of 16 (within T.features (λ c. true))

pub record GatheredReadable (expression_rows comparisons kinds full lent : List ℕ) : Type 0 where
  pub tables : Tables
  pub reads : GatheredReads tables expression_rows comparisons kinds full
  pub room : length comparisons / 5 * 16 ≤ length lent
