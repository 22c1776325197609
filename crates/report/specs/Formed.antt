-- What the form checks (specs/FormChecks) give, said of numbers instead of tests. Contracts of inner functions name these facts; a reader of the
-- demands need not believe them.
use Rattle.std.specs.Prelude.{ℕ, ◌+◌, ◌-◌, ◌/◌, ◌%◌, ◌<◌, ◌≤◌, ◌≡◌, true, false, List, length}
use Rattle.report.specs.Tables.{Tables, Shape, shape_of, entry_attribute, entry_expression, query, project_start}
use Rattle.report.specs.Tables.{expression_count, entry_count, relation_count, comparison_count, query_count}
use Rattle.report.specs.FormChecks.{is_operand, taken_below, expression_ok, entry_ok, relation_ok, comparison_ok, query_ok, kind_ok, constant_ok, lists_end}
use Rattle.report.specs.declared.Expression.{Expression}
use Rattle.report.specs.declared.Comparison.{Comparison}
use Rattle.report.specs.declared.Query.{Query}
use Rattle.report.specs.declared.Operands.{Operands}
use Rattle.report.specs.declared.Sides.{Sides}

-- ---- all tables together

-- a table of `count` words: a whole number of forms, and as many as its range allows
pub record Sized (s : Shape) (count : ℕ) : Type 0 where
  pub whole : count % s.width ≡ 0
  pub enough : s.least ≤ count / s.width
  pub fits : count / s.width ≤ s.most

-- what the form checks leave: tables of which none of the conditions 1 to 10 and 24 holds, but that table 1 may have 1,024 entries, those of two tables
-- together
pub record Formed (T : Tables) : Type 0 where
  pub few : T.features ≤ 10
  pub narrow : T.attributes ≤ 64
  pub sized0 : Sized (shape_of 3 1 256) (length T.expressions)
  pub sized1 : Sized (shape_of 2 0 1024) (length T.entries)
  pub sized2 : Sized (shape_of 2 0 32) (length T.relations)
  pub sized3 : Sized (shape_of 5 0 256) (length T.comparisons)
  pub sized4 : Sized (shape_of 4 1 256) (length T.queries)
  pub expressions_ok : (f : ℕ) → f < expression_count T → expression_ok T f ≡ true
  pub model_in : T.model < expression_count T
  pub entries_ok : (i : ℕ) → i < entry_count T → entry_ok T i ≡ true
  pub relations_ok : (r : ℕ) → r < relation_count T → relation_ok T r ≡ true
  pub comparisons_ok : (f : ℕ) → f < comparison_count T → comparison_ok T f ≡ true
  pub queries_ok : (q : ℕ) → q < query_count T → query_ok T q ≡ true
  pub all_taken : (q : ℕ) → q < query_count T - 1 → taken_below T.queries (query_count T) q ≡ true
  pub all_used : entry_count T ≤ lists_end T
  pub kinded : length T.kinds ≡ T.attributes
  pub kinds_ok : (a : ℕ) → a < length T.kinds → kind_ok T a ≡ true
  pub constants_ok : (f : ℕ) → f < comparison_count T → constant_ok T f ≡ true

-- ---- one form

-- what an expression that stands as form f is, where there are n features
abbrev pub ExpressionLower : ℕ → ℕ → Expression → Type 0
ExpressionLower n f Expression.Malformed = ⊥
ExpressionLower n f Expression.False = Unit {0}
ExpressionLower n f Expression.True = Unit {0}
ExpressionLower n f (Expression.Feature a) = a < n
ExpressionLower n f (Expression.Not a) = a < f
ExpressionLower n f (Expression.And a b) = (a < f) × (b < f)
ExpressionLower n f (Expression.Or a b) = (a < f) × (b < f)
ExpressionLower n f (Expression.ExactlyOne a b) = (1 ≤ b) × (b ≤ 10) × (a + b ≤ n)

-- what a comparison that stands as form f is, where there are m attributes and e expressions
abbrev pub ComparisonLower : ℕ → ℕ → ℕ → Comparison → Type 0
ComparisonLower m e f Comparison.Malformed = ⊥
ComparisonLower m e f Comparison.Never = Unit {0}
ComparisonLower m e f Comparison.Always = Unit {0}
ComparisonLower m e f (Comparison.Constant o a b k) = (o ≤ 5) × (a < m)
ComparisonLower m e f (Comparison.Attribute o a b) = (o ≤ 5) × (a < m) × (b < m)
ComparisonLower m e f (Comparison.Not a) = a < f
ComparisonLower m e f (Comparison.And a b) = (a < f) × (b < f)
ComparisonLower m e f (Comparison.Or a b) = (a < f) × (b < f)
ComparisonLower m e f (Comparison.Choice a b d) = (a < e) × (b < f) × (d < f)

-- the operands of a form of table 3 or 4 are below f
abbrev pub OperandsBelow : ℕ → Operands → Type 0
OperandsBelow f Operands.Nothing = Unit {0}
OperandsBelow f (Operands.One a) = a < f
OperandsBelow f (Operands.Both a b) = (a < f) × (b < f)
OperandsBelow f (Operands.Choice e a b) = (a < f) × (b < f)

-- the attributes on the sides of a comparison are below m
abbrev pub SidesBelow : ℕ → Sides → Type 0
SidesBelow m (Sides.Constant a k) = a < m
SidesBelow m (Sides.Attributes a b) = (a < m) × (b < m)
SidesBelow m Sides.Neither = Unit {0}

-- `entries` are entries of table 1 of T, from entry `offset` on
pub record EntriesFrom (T : Tables) (offset : ℕ) (entries : List ℕ) : Type 0 where
  pub inside : offset + length entries / 2 ≤ entry_count T
  pub attribute : (k : ℕ) → k < length entries / 2 → entry_attribute entries k ≡ entry_attribute T.entries (offset + k)
  pub expression : (k : ℕ) → k < length entries / 2 → entry_expression entries k ≡ entry_expression T.entries (offset + k)

-- x can be an operand of form q: it is lower, and no form below q has taken it
pub record Free (queries : List ℕ) (q x : ℕ) : Type 0 where
  pub lower : x < q
  pub untaken : (p : ℕ) → p < q → is_operand x (query queries p) ≡ false

-- so can x and y, which are two
pub record FreePair (queries : List ℕ) (q x y : ℕ) : Type 0 where
  pub first : Free queries q x
  pub second : Free queries q y
  pub apart : x ≡ y → ⊥

-- so can the operands of a query form, and the expression of a choice is one of n
abbrev pub OperandsFree : ℕ → List ℕ → ℕ → Operands → Type 0
OperandsFree n queries q Operands.Nothing = Unit {0}
OperandsFree n queries q (Operands.One a) = Free queries q a
OperandsFree n queries q (Operands.Both a b) = FreePair queries q a b
OperandsFree n queries q (Operands.Choice e a b) = (e < n) × FreePair queries q a b

module _ (T : Tables) where
  -- what a query that stands as form q is
  abbrev pub QueryLower : ℕ → Query → Type 0
  QueryLower q Query.Malformed = ⊥
  QueryLower q Query.Empty = Unit {0}
  QueryLower q (Query.Relation a) = a < relation_count T
  QueryLower q (Query.Select a b) = (a < comparison_count T) × Free T.queries q b
  QueryLower q (Query.Project a b) = (project_start T q + a ≤ entry_count T) × Free T.queries q b
  QueryLower q (Query.Choice a b d) = (a < expression_count T) × FreePair T.queries q b d
  QueryLower q (Query.Product a b) = FreePair T.queries q a b
  QueryLower q (Query.Union a b) = FreePair T.queries q a b
  QueryLower q (Query.Intersection a b) = FreePair T.queries q a b
