-- What one step of a loop writes: a block where it is kept, and nothing elsewhere.
use Rattle.std.specs.Prelude.{ℕ, ◌+◌, ◌<◌, Bool, cond, List, [], ◌∷◌}
use Rattle.sets.specs.Bits.{bit}
use Rattle.sets.specs.Writing.{Room}
use Rattle.report.specs.Tables.{Tables, entry_attribute, query}
use Rattle.report.specs.Typing.{present}
use Rattle.report.specs.Configuring.{query_kept, entry_stays, kept_list, relation_list, project_list_of, relation_form}
use Rattle.report.specs.declared.Reading.{Reading}
use Rattle.at_configuration.specs.AtConfiguration.{ListReads}

-- two words; a list of table 1
abbrev pub pair_if : Bool → ℕ → ℕ → List ℕ
pair_if keep x y = cond keep (x ∷ y ∷ []) []

abbrev pub list_if : Bool → Tables → ℕ → (ℕ → Bool) → ℕ → ℕ → List ℕ
list_if keep T c stay start count = cond keep (kept_list T c stay start count) []

module _ (T : Tables) (c : ℕ) where
  -- entry i of the list that starts at `start`
  abbrev pub entry_at : (ℕ → Bool) → ℕ → ℕ → List ℕ
  entry_at stay start i = pair_if (entry_stays T c stay start i) (entry_attribute T.entries (start + i)) 0

  -- relation r: its list, and its form
  abbrev pub relation_list_at : ℕ → List ℕ
  relation_list_at r = cond (present T c r) (relation_list T c r) []

  abbrev pub relation_form_at : ℕ → List ℕ
  relation_form_at r = cond (present T c r) (relation_form T c r) []

  -- the list of query form q
  abbrev pub project_list_at : ℕ → List ℕ
  project_list_at q = cond (query_kept T c q) (project_list_of T c Reading.Filled q (query T.queries q)) []

-- ---- what the functions that write one block ask for

-- two words of a table, and room for them if they are kept
pub record WordPairWritable (keep : Bool) (x y : ℕ) (out : List ℕ) (at : ℕ) : Type 0 where
  pub first : x < 65536
  pub second : y < 65536
  pub room : Room (pair_if keep x y) out at

-- a list of table 1, and room for its kept entries whose attributes are among `stays`, if it is kept
pub record ListIfWritable (keep : Bool) (expression_rows entries : List ℕ) (c start count stays : ℕ) (out : List ℕ) (at : ℕ) : Type 0 where
  pub tables : Tables
  pub offset : ℕ
  pub reads : ListReads tables offset expression_rows entries c start count
  pub room : Room (list_if keep tables c (bit stays) (offset + start) count) out at
