-- What the private functions do with rows: one form, one item, one attribute. proofs/ ties these to the definitions.
use Rattle.std.specs.Prelude.{ℕ, ◌+◌, ◌-◌, ◌*◌, ◌/◌, ◌^◌, ◌<◌, ◌≤◌, ◌≡◌, Bool, false, cond, not, ◌&&◌, List, length, get_or, set, eqb}
use Rattle.std.specs.Int.Bits.{bit_or}
use Rattle.sets.specs.Bits.{bit, bits_of}
use Rattle.sets.specs.Lists.{table, concat, NumbersAre}
use Rattle.sets.specs.Rows.{row_of, row_in, row_join, row_intersect, row_minus, row_is_empty, with_row, RowsAre}
use Rattle.report.specs.Tables.{Tables, relation_expression, relation_count, comparison_count, query_count, entries_of_projects}
use Rattle.report.specs.Readings.{spared}
use Rattle.report.specs.Configuring.{written}
use Rattle.report.specs.Formed.{Formed, QueryLower}
use Rattle.report.specs.declared.Query.{Query}
use Rattle.report.specs.declared.Reading.{Reading}
use Rattle.comparisons.specs.declared.Gathered.{Gathered}
use Rattle.expression_rows.specs.ExpressionRows.{TruthFilled, ReachFilled}
use Rattle.attribute_rows.specs.AttributeRows.{relation_row, gathered_row, set_row}
use Rattle.fault_rows.specs.FaultRows.{faulty_row}

-- what one of two rows has and the other lacks
abbrev pub unequal_row : List ℕ → List ℕ → List ℕ
unequal_row x y = row_join 16 (row_minus 16 x y) (row_minus 16 y x)

-- where, of `reached`, relation r is absent, if it is item a
abbrev pub absent_row : List ℕ → List ℕ → List ℕ → ℕ → ℕ → List ℕ
absent_row expression_rows reached relations a r =
    cond (eqb a r) (row_minus 16 reached (row_in 16 expression_rows (relation_expression relations r))) (row_of 16 (λ c. false))

-- relation r is item a, and present at any of `reached`
abbrev pub present_in : List ℕ → List ℕ → List ℕ → ℕ → ℕ → Bool
present_in expression_rows reached relations a r =
    eqb a r && not (row_is_empty 16 (row_intersect 16 reached (row_in 16 expression_rows (relation_expression relations r))))

-- a relation is in table 2, and its expression has a row
pub record AbsentRead (expression_rows relations : List ℕ) (r : ℕ) : Type 0 where
  pub inside : r < length relations / 2
  pub rowed : relation_expression relations r * 16 + 16 ≤ length expression_rows

-- where item a is at fault in a form, right of the configurations in `reached`; `listed` is the row of the form's own list
abbrev pub fault_step : List ℕ → List ℕ → List ℕ → List ℕ → List ℕ → List ℕ → ℕ → Query → List ℕ
fault_step expression_rows relations named_rows form_rows listed reached a Query.Malformed = row_of 16 (λ c. false)
fault_step expression_rows relations named_rows form_rows listed reached a Query.Empty = row_of 16 (λ c. false)
fault_step expression_rows relations named_rows form_rows listed reached a (Query.Relation r) = absent_row expression_rows reached relations a r
fault_step expression_rows relations named_rows form_rows listed reached a (Query.Select f b) = row_minus 16 (row_in 16 named_rows f) (row_in 16 form_rows b)
fault_step expression_rows relations named_rows form_rows listed reached a (Query.Project n b) = row_minus 16 listed (row_in 16 form_rows b)
fault_step expression_rows relations named_rows form_rows listed reached a (Query.Choice e b d) = row_of 16 (λ c. false)
fault_step expression_rows relations named_rows form_rows listed reached a (Query.Product b d) = row_intersect 16 (row_in 16 form_rows b) (row_in 16 form_rows d)
fault_step expression_rows relations named_rows form_rows listed reached a (Query.Union b d) = unequal_row (row_in 16 form_rows b) (row_in 16 form_rows d)
fault_step expression_rows relations named_rows form_rows listed reached a (Query.Intersection b d) = unequal_row (row_in 16 form_rows b) (row_in 16 form_rows d)

-- item a is found by a form that asks for it, at any of the configurations in `reached`
abbrev pub found_step : List ℕ → List ℕ → List ℕ → List ℕ → List ℕ → ℕ → Query → Bool
found_step expression_rows relations form_rows listed reached a Query.Malformed = false
found_step expression_rows relations form_rows listed reached a Query.Empty = false
found_step expression_rows relations form_rows listed reached a (Query.Relation r) = present_in expression_rows reached relations a r
found_step expression_rows relations form_rows listed reached a (Query.Select f b) = false
found_step expression_rows relations form_rows listed reached a (Query.Project n b) =
    not (row_is_empty 16 (row_intersect 16 (row_intersect 16 listed reached) (row_in 16 form_rows b)))
found_step expression_rows relations form_rows listed reached a (Query.Choice e b d) = false
found_step expression_rows relations form_rows listed reached a (Query.Product b d) = false
found_step expression_rows relations form_rows listed reached a (Query.Union b d) = false
found_step expression_rows relations form_rows listed reached a (Query.Intersection b d) = false

-- and so spared by the reading
abbrev pub spared_step : Reading → List ℕ → List ℕ → List ℕ → List ℕ → List ℕ → ℕ → Query → Bool
spared_step Reading.Strict expression_rows relations form_rows listed reached a x = false
spared_step Reading.Filled expression_rows relations form_rows listed reached a x = found_step expression_rows relations form_rows listed reached a x

-- a query stands as a form of some tables, and what it finds is made of what has a row
pub record FormRead (expression_rows relations form_rows : List ℕ) (x : Query) : Type 0 where
  pub tables : Tables
  pub form : ℕ
  pub lower : QueryLower tables form x
  pub related : (r : ℕ) → r < relation_count tables → AbsentRead expression_rows relations r
  pub below : form * 16 ≤ length form_rows

-- and so are its faults
pub record FaultRead (expression_rows relations named_rows form_rows : List ℕ) (x : Query) : Type 0 where
  pub read : FormRead expression_rows relations form_rows x
  pub compared : comparison_count read.tables * 16 ≤ length named_rows

-- and form q has its row and its set, which has room for item a
pub record ItemRead (expression_rows relations named_rows form_rows fault_rows spared_sets : List ℕ) (x : Query) (a q : ℕ) : Type 0 where
  pub read : FaultRead expression_rows relations named_rows form_rows x
  pub row : q * 16 + 16 ≤ length fault_rows
  pub item : a < 64
  pub room : q < length spared_sets

-- item a in form q: spared, or at fault at the configurations in `here`
pub record ItemJudged (spares : Bool) (here : List ℕ) (a q : ℕ) (lent_fault_rows fault_rows lent_spared spared_sets : List ℕ) : Type 0 where
  pub held : fault_rows ≡ cond spares lent_fault_rows (with_row 16 lent_fault_rows q (row_join 16 (row_in 16 lent_fault_rows q) here))
  pub sparing : spared_sets ≡ cond spares (set lent_spared q (bit_or (get_or lent_spared q 0) (2 ^ a))) lent_spared

-- of what form q is spared, the items below `items`
abbrev pub spared_below : Tables → Reading → ℕ → ℕ → ℕ
spared_below T R items q = bits_of items (bit (spared T R q))

-- what all forms' rows of attribute a and faults of item a are worked out from; `fault_rows` and `spared_sets` have what the items below a give
pub record FormRowsReads (T : Tables) (R : Reading) (expression_rows project_entries relations queries reach named_rows relation_rows : List ℕ) (a : ℕ)
    (fault_rows spared_sets : List ℕ)
    : Type 0 where
  pub formed : Formed T
  pub filled : TruthFilled T expression_rows
  pub entries_are : project_entries ≡ entries_of_projects T
  pub relations_are : relations ≡ T.relations
  pub queries_are : queries ≡ T.queries
  pub reaching : ReachFilled T reach
  pub compared : RowsAre 16 (comparison_count T) (gathered_row T Gathered.Names a) named_rows
  pub related : RowsAre 16 (relation_count T) (relation_row T a) relation_rows
  pub faulty : RowsAre 16 (query_count T) (faulty_row T R a) fault_rows
  pub sparing : NumbersAre (query_count T) (spared_below T R a) spared_sets

-- there are such tables, `form_rows` has room for a row a form, and a set has room for item a
pub record FormRowsReadable (R : Reading) (expression_rows project_entries relations queries reach named_rows relation_rows : List ℕ) (a : ℕ)
    (form_rows fault_rows spared_sets : List ℕ) : Type 0 where
  pub tables : Tables
  pub reads : FormRowsReads tables R expression_rows project_entries relations queries reach named_rows relation_rows a fault_rows spared_sets
  pub room : length queries / 4 * 16 ≤ length form_rows
  pub item : a < 64

-- what is filled in: the forms' rows of attribute a, and over the words that were lent the fault rows and what is spared, with item a besides
pub record FormsFilled (T : Tables) (R : Reading) (a : ℕ) (form_rows lent_fault_rows fault_rows lent_spared spared_sets : List ℕ) : Type 0 where
  pub shaped : RowsAre 16 (query_count T) (set_row T a) form_rows
  pub joined : fault_rows ≡ written (concat (query_count T) (faulty_row T R (a + 1))) lent_fault_rows
  pub sparing : spared_sets ≡ written (table (query_count T) (spared_below T R (a + 1))) lent_spared

-- where a form clashes, of the configurations in `reached`
abbrev pub clash_step : List ℕ → List ℕ → Query → List ℕ
clash_step clash_rows reached Query.Malformed = row_of 16 (λ c. false)
clash_step clash_rows reached Query.Empty = row_of 16 (λ c. false)
clash_step clash_rows reached (Query.Relation r) = row_of 16 (λ c. false)
clash_step clash_rows reached (Query.Select f b) = row_intersect 16 (row_in 16 clash_rows f) reached
clash_step clash_rows reached (Query.Project n b) = row_of 16 (λ c. false)
clash_step clash_rows reached (Query.Choice e b d) = row_of 16 (λ c. false)
clash_step clash_rows reached (Query.Product b d) = row_of 16 (λ c. false)
clash_step clash_rows reached (Query.Union b d) = row_of 16 (λ c. false)
clash_step clash_rows reached (Query.Intersection b d) = row_of 16 (λ c. false)

-- a query stands as a form of some tables, and its comparison has a row
pub record ClashRead (clash_rows : List ℕ) (x : Query) : Type 0 where
  pub tables : Tables
  pub form : ℕ
  pub lower : QueryLower tables form x
  pub compared : comparison_count tables * 16 ≤ length clash_rows

-- the first of two rows, or the second if that is empty
abbrev pub first_found : List ℕ → List ℕ → List ℕ
first_found first second = cond (row_is_empty 16 first) second first

-- the column row of an attribute, of whose rows `form_rows` has those of the forms: that of the last form, the report, where permitted
abbrev pub stored_column : List ℕ → List ℕ → List ℕ → List ℕ
stored_column permits queries form_rows = row_intersect 16 (row_in 16 form_rows (length queries / 4 - 1)) permits

pub record ColumnRead (queries form_rows : List ℕ) (a : ℕ) (lent : List ℕ) : Type 0 where
  pub some : 1 ≤ length queries / 4
  pub formed : length queries / 4 * 16 ≤ length form_rows
  pub room : a * 16 + 16 ≤ length lent
