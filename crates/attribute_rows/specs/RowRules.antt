-- What the functions do with rows: one entry, one relation, one comparison, one query form. proofs/ ties these to the definitions.
use Rattle.std.specs.Prelude.{ℕ, ◌*◌, ◌/◌, ◌<◌, ◌≤◌, ◌≡◌, Bool, false, cond, List, length, eqb}
use Rattle.sets.specs.Rows.{row_of, row_in, row_join, row_intersect, row_minus}
use Rattle.report.specs.Tables.{Tables, entry_attribute, entry_expression, expression_count, relation_count, relation_start}
use Rattle.report.specs.Formed.{QueryLower}
use Rattle.report.specs.declared.Query.{Query}
use Rattle.report.specs.declared.Operands.{Operands}
use Rattle.attribute_rows.specs.AttributeRows.{RelationRowReads}

-- where `holds` has it what x has, elsewhere what y has
abbrev pub choice_row : List ℕ → List ℕ → List ℕ → List ℕ
choice_row holds x y = row_join 16 (row_intersect 16 x holds) (row_minus 16 y holds)

-- a row, joined with that of entry k if it names attribute a
abbrev pub entry_row : List ℕ → List ℕ → ℕ → ℕ → List ℕ → List ℕ
entry_row expression_rows entries a k row =
    cond (eqb a (entry_attribute entries k)) (row_join 16 row (row_in 16 expression_rows (entry_expression entries k))) row

-- entry k is one of these, and its expression has a row
pub record EntryRead (expression_rows entries : List ℕ) (k : ℕ) : Type 0 where
  pub inside : k < length entries / 2
  pub rowed : entry_expression entries k < length expression_rows / 16

-- relation r is in table 2, and its list starts at `start`
pub record RelationAt (T : Tables) (expression_rows relation_entries relations : List ℕ) (r start : ℕ) : Type 0 where
  pub reads : RelationRowReads T expression_rows relation_entries relations
  pub inside : r < relation_count T
  pub starts : start ≡ relation_start T.relations r

pub record SomeRelation (expression_rows relation_entries relations : List ℕ) (r start : ℕ) : Type 0 where
  pub tables : Tables
  pub at : RelationAt tables expression_rows relation_entries relations r start

-- the row of a comparison with these operands, from the rows of lower ones; without operands it is `full`, which has all configurations, or empty: what
-- a comparison gives by itself it gives at all of them
abbrev pub gathered_step : List ℕ → List ℕ → List ℕ → Bool → Operands → List ℕ
gathered_step expression_rows rows full own Operands.Nothing = cond own full (row_of 16 (λ c. false))
gathered_step expression_rows rows full own (Operands.One b) = row_in 16 rows b
gathered_step expression_rows rows full own (Operands.Both b d) = row_join 16 (row_in 16 rows b) (row_in 16 rows d)
gathered_step expression_rows rows full own (Operands.Choice e b d) = choice_row (row_in 16 expression_rows e) (row_in 16 rows b) (row_in 16 rows d)

-- operands are below f, and the expression of a choice below n
abbrev pub OperandsLower : ℕ → ℕ → Operands → Type 0
OperandsLower n f Operands.Nothing = Unit {0}
OperandsLower n f (Operands.One b) = b < f
OperandsLower n f (Operands.Both b d) = (b < f) × (d < f)
OperandsLower n f (Operands.Choice e b d) = (e < n) × (b < f) × (d < f)

-- all that the row of a comparison with these operands is made of has a row
pub record GatheredRead (expression_rows rows : List ℕ) (to : Operands) : Type 0 where
  pub expressions : ℕ
  pub form : ℕ
  pub lower : OperandsLower expressions form to
  pub rowed : expressions * 16 ≤ length expression_rows
  pub below : form * 16 ≤ length rows

-- the row of a query form, from those of the relations, of the lower forms and of its own list
abbrev pub set_step : List ℕ → List ℕ → List ℕ → List ℕ → Query → List ℕ
set_step expression_rows relation_rows form_rows listed Query.Malformed = row_of 16 (λ c. false)
set_step expression_rows relation_rows form_rows listed Query.Empty = row_of 16 (λ c. false)
set_step expression_rows relation_rows form_rows listed (Query.Relation r) = row_in 16 relation_rows r
set_step expression_rows relation_rows form_rows listed (Query.Select f b) = row_in 16 form_rows b
set_step expression_rows relation_rows form_rows listed (Query.Project n b) = row_intersect 16 listed (row_in 16 form_rows b)
set_step expression_rows relation_rows form_rows listed (Query.Choice e b d) = choice_row (row_in 16 expression_rows e) (row_in 16 form_rows b)
    (row_in 16 form_rows d)
set_step expression_rows relation_rows form_rows listed (Query.Product b d) = row_join 16 (row_in 16 form_rows b) (row_in 16 form_rows d)
set_step expression_rows relation_rows form_rows listed (Query.Union b d) = row_in 16 form_rows b
set_step expression_rows relation_rows form_rows listed (Query.Intersection b d) = row_in 16 form_rows b

-- a query stands as a form of some tables, and what it is made of has a row
pub record SetRead (expression_rows relation_rows form_rows : List ℕ) (x : Query) : Type 0 where
  pub tables : Tables
  pub form : ℕ
  pub lower : QueryLower tables form x
  pub rowed : expression_count tables * 16 ≤ length expression_rows
  pub related : relation_count tables * 16 ≤ length relation_rows
  pub below : form * 16 ≤ length form_rows
