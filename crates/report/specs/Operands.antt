-- docs/FORMAT.md, tables 3 and 4: what a form refers to in its own table, said once for comparisons and query forms; and what a comparison compares.
use Rattle.std.specs.Prelude.{ℕ, Bool, true, false, ◌||◌, List, eqb}
use Rattle.report.specs.Tables.{comparison}
use Rattle.report.specs.declared.Comparison.{Comparison}
use Rattle.report.specs.declared.Query.{Query}
use Rattle.report.specs.declared.Operands.{Operands}
use Rattle.report.specs.declared.Sides.{Sides}

-- the comparisons that a comparison refers to
abbrev pub comparison_operands : Comparison → Operands
comparison_operands Comparison.Malformed = Operands.Nothing
comparison_operands Comparison.Never = Operands.Nothing
comparison_operands Comparison.Always = Operands.Nothing
comparison_operands (Comparison.Constant o a b k) = Operands.Nothing
comparison_operands (Comparison.Attribute o a b) = Operands.Nothing
comparison_operands (Comparison.Not a) = Operands.One a
comparison_operands (Comparison.And a b) = Operands.Both a b
comparison_operands (Comparison.Or a b) = Operands.Both a b
comparison_operands (Comparison.Choice e a b) = Operands.Choice e a b

-- the query forms that a query form refers to
abbrev pub query_operands : Query → Operands
query_operands Query.Malformed = Operands.Nothing
query_operands Query.Empty = Operands.Nothing
query_operands (Query.Relation a) = Operands.Nothing
query_operands (Query.Select a b) = Operands.One b
query_operands (Query.Project a b) = Operands.One b
query_operands (Query.Choice e a b) = Operands.Choice e a b
query_operands (Query.Product a b) = Operands.Both a b
query_operands (Query.Union a b) = Operands.Both a b
query_operands (Query.Intersection a b) = Operands.Both a b

-- form x is among them
abbrev pub is_among : ℕ → Operands → Bool
is_among x Operands.Nothing = false
is_among x (Operands.One a) = eqb x a
is_among x (Operands.Both a b) = eqb x a || eqb x b
is_among x (Operands.Choice e a b) = eqb x a || eqb x b

-- they are the alternatives of a choice. A form that is no choice is called plain
abbrev pub is_choice : Operands → Bool
is_choice Operands.Nothing = false
is_choice (Operands.One a) = false
is_choice (Operands.Both a b) = false
is_choice (Operands.Choice e a b) = true

-- what a comparison compares by itself: an attribute with a constant, of which the kind alone is told here, or two attributes
abbrev pub comparison_sides : Comparison → Sides
comparison_sides Comparison.Malformed = Sides.Neither
comparison_sides Comparison.Never = Sides.Neither
comparison_sides Comparison.Always = Sides.Neither
comparison_sides (Comparison.Constant o a b k) = Sides.Constant a k
comparison_sides (Comparison.Attribute o a b) = Sides.Attributes a b
comparison_sides (Comparison.Not a) = Sides.Neither
comparison_sides (Comparison.And a b) = Sides.Neither
comparison_sides (Comparison.Or a b) = Sides.Neither
comparison_sides (Comparison.Choice e a b) = Sides.Neither

-- those of form f of table 3
abbrev pub sides_in : List ℕ → ℕ → Sides
sides_in comparisons f = comparison_sides (comparison comparisons f)
