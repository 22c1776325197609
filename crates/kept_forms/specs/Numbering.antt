-- What configuring at one configuration reads and writes of the comparisons and the queries, with their new numbers.
use Rattle.std.specs.Prelude.{ℕ, ◌/◌, ◌≤◌, ◌≡◌, List, length}
use Rattle.sets.specs.Lists.{kept, NumbersAre}
use Rattle.sets.specs.Writing.{Room}
use Rattle.report.specs.Tables.{Tables, comparison, query, comparison_count, query_count}
use Rattle.report.specs.Typing.{set_of}
use Rattle.report.specs.Configuring.{comparison_kept, query_kept, new_comparison, new_query, comparison_form_of, query_form_of}
use Rattle.report.specs.Formed.{Formed}
use Rattle.report.specs.declared.Reading.{Reading}
use Rattle.expression_rows.specs.ExpressionRows.{ReachFilled}
use Rattle.at_configuration.specs.AtConfiguration.{AtReads}

-- ---- what is written, of tables T at configuration c: parts of `configured`, in the filled reading (kept_lists, specs/Keeping, says why)

module _ (T : Tables) (c : ℕ) where
  unfoldable pub comparison_forms : List ℕ
  comparison_forms = kept (comparison_kept T c) (λ f. comparison_form_of T c (comparison T.comparisons f)) (comparison_count T)

  unfoldable pub query_forms : List ℕ
  query_forms = kept (query_kept T c) (λ q. query_form_of T c Reading.Filled q (query T.queries q)) (query_count T)

-- ---- what each function reads of tables T; `..Numberable`, `..Writable`: there are such tables, and room for what is written

-- table 3, and the new numbers at a configuration
pub record ComparisonFormReads (T : Tables) (c : ℕ) (comparisons numbers : List ℕ) : Type 0 where
  pub formed : Formed T
  pub comparisons_are : comparisons ≡ T.comparisons
  pub numbered : NumbersAre (comparison_count T) (new_comparison T c) numbers

pub record ComparisonFormWritable (comparisons numbers out : List ℕ) : Type 0 where
  pub tables : Tables
  pub configuration : ℕ
  pub reads : ComparisonFormReads tables configuration comparisons numbers
  pub room : Room (comparison_forms tables configuration) out 0

-- table 4, at a configuration, with the configurations that reach each form
pub record QueryReads (T : Tables) (expression_rows reach queries : List ℕ) (c : ℕ) : Type 0 where
  pub reads : AtReads T expression_rows c
  pub reaching : ReachFilled T reach
  pub queries_are : queries ≡ T.queries

pub record QueryNumberable (expression_rows reach queries : List ℕ) (c : ℕ) (numbers : List ℕ) : Type 0 where
  pub tables : Tables
  pub reads : QueryReads tables expression_rows reach queries c
  pub room : length queries / 4 ≤ length numbers

-- besides, table 2, each form's set at c and the new numbers
pub record QueryFormReads (T : Tables) (expression_rows reach form_sets relations queries : List ℕ) (c : ℕ)
    (comparison_numbers query_numbers : List ℕ) : Type 0 where
  pub reads : QueryReads T expression_rows reach queries c
  pub typed : NumbersAre (query_count T) (set_of T c) form_sets
  pub relations_are : relations ≡ T.relations
  pub comparisons_numbered : NumbersAre (comparison_count T) (new_comparison T c) comparison_numbers
  pub queries_numbered : NumbersAre (query_count T) (new_query T c) query_numbers

pub record QueryFormWritable (expression_rows reach form_sets relations queries : List ℕ) (c : ℕ)
    (comparison_numbers query_numbers out : List ℕ) : Type 0 where
  pub tables : Tables
  pub reads : QueryFormReads tables expression_rows reach form_sets relations queries c comparison_numbers query_numbers
  pub room : Room (query_forms tables c) out 0
