-- Fault rows: the configurations at which an item is at fault in a query form in the first phase, and at which the form fails in either, in a reading;
-- and the column rows.
use Rattle.std.specs.Prelude.{ℕ, ◌*◌, ◌≤◌, ◌≡◌, Bool, cond, ◌&&◌, List, length, replicate}
use Rattle.sets.specs.Search.{some_below}
use Rattle.sets.specs.Lists.{table, concat}
use Rattle.sets.specs.Bits.{bit}
use Rattle.sets.specs.Rows.{row_of, RowsAre}
use Rattle.report.specs.Tables.{Tables, comparison_count, query_count}
use Rattle.report.specs.Expressions.{configurations}
use Rattle.report.specs.Typing.{reached}
use Rattle.report.specs.Readings.{spared, faults_by, fails_by}
use Rattle.report.specs.Configuring.{written}
use Rattle.report.specs.Formed.{Formed}
use Rattle.report.specs.declared.Reading.{Reading}
use Rattle.comparisons.specs.declared.Gathered.{Gathered}
use Rattle.expression_rows.specs.ExpressionRows.{ReachFilled}
use Rattle.report.specs.ColumnRows.{column_row}
use Rattle.expression_rows.specs.TypingReads.{TypingReads}
use Rattle.expression_rows.specs.declared.Scope.{Scope}
use Rattle.attribute_rows.specs.AttributeRows.{gathered_row}

module _ (T : Tables) (R : Reading) where
  -- the configurations that reach form q, and at which item a is at fault in it
  abbrev pub fault_row : ℕ → ℕ → List ℕ
  fault_row a q = row_of 16 (λ c. reached T c q && bit (faults_by T R c 0 q) a)

  -- those at which an item below `items` is
  abbrev pub faulty_row : ℕ → ℕ → List ℕ
  faulty_row items q = row_of 16 (λ c. reached T c q && some_below (bit (faults_by T R c 0 q)) items)

  -- those at which form q fails in a phase
  abbrev pub fails_row : ℕ → ℕ → List ℕ
  fails_row phase q = row_of 16 (λ c. fails_by T R c phase q)

  -- form q fails at c in its first phase that fails at any configuration
  abbrev pub fails_at : ℕ → ℕ → Bool
  fails_at q c = cond (some_below (λ d. fails_by T R d 0 q) (configurations T)) (fails_by T R c 0 q) (fails_by T R c 1 q)

  abbrev pub failing_row : ℕ → List ℕ
  failing_row q = row_of 16 (fails_at q)

-- there are tables that are read so; `fault_rows` and `spared_sets` have only zeros, and room for a row and a word a form, and `columns` for a row an item
pub record FailReadable (scope : Scope)
    (expression_rows relation_entries project_entries relations comparisons queries kinds reach fault_rows spared_sets columns : List ℕ)
    : Type 0 where
  pub tables : Tables
  pub reads : TypingReads tables scope expression_rows relation_entries project_entries relations comparisons queries kinds reach
  pub words : ℕ
  pub clear : fault_rows ≡ replicate words 0
  pub room : query_count tables * 16 ≤ words
  pub set_words : ℕ
  pub clear_sets : spared_sets ≡ replicate set_words 0
  pub set_room : query_count tables ≤ set_words
  pub column : scope.items * 16 ≤ length columns

-- what is filled in, over the words that were lent: the rows of the forms, what they are spared, and the column rows
pub record FailsFilled (T : Tables) (R : Reading) (items : ℕ) (lent_fault_rows fault_rows lent_spared spared_sets lent_columns columns : List ℕ)
    : Type 0 where
  pub rows : fault_rows ≡ written (concat (query_count T) (faulty_row T R items)) lent_fault_rows
  pub sparing : spared_sets ≡ written (table (query_count T) (spared T R)) lent_spared
  pub shown : columns ≡ written (concat items (column_row T)) lent_columns

-- what the second phase is worked out from: the query forms, the configurations that reach each, those at which each comparison clashes, and those
-- at which each form fails in the first phase of a reading
pub record ClashReads (T : Tables) (R : Reading) (queries reach clash_rows fault_rows : List ℕ) : Type 0 where
  pub formed : Formed T
  pub queries_are : queries ≡ T.queries
  pub reaching : ReachFilled T reach
  pub clashing : RowsAre 16 (comparison_count T) (gathered_row T Gathered.Clashes 0) clash_rows
  pub failing : RowsAre 16 (query_count T) (fails_row T R 0) fault_rows

-- there are such tables and such a reading
pub record ClashReadable (queries reach clash_rows fault_rows : List ℕ) : Type 0 where
  pub tables : Tables
  pub reading : Reading
  pub reads : ClashReads tables reading queries reach clash_rows fault_rows
