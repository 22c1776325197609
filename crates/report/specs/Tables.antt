-- docs/FORMAT.md, "Tables": the head, the five tables and the kind table as words, their forms, and where the lists lie.
use Rattle.std.specs.Prelude.{ℕ, zero, suc, ◌+◌, ◌-◌, ◌*◌, ◌/◌, Bool, true, cond, ◌&&◌, List, [], ◌∷◌, length, get_or, take, drop, eqb}
use Rattle.report.specs.declared.Expression.{Expression}
use Rattle.report.specs.declared.Comparison.{Comparison}
use Rattle.report.specs.declared.Query.{Query}

pub record Tables : Type 0 where
  -- the head
  pub features : ℕ
  pub attributes : ℕ
  pub model : ℕ
  -- tables 0 to 4
  pub expressions : List ℕ
  pub entries : List ℕ
  pub relations : List ℕ
  pub comparisons : List ℕ
  pub queries : List ℕ
  -- the kind table: of each attribute its kind
  pub kinds : List ℕ
  -- the truth of each expression, by configuration and number: worked out from table 0 (Expressions, `tables_of`), or read from rows that are stored
  pub truth : ℕ → ℕ → Bool

-- the words of tables 0 to 4
abbrev pub words : Tables → List (List ℕ)
words T = T.expressions ∷ T.entries ∷ T.relations ∷ T.comparisons ∷ T.queries ∷ []

-- how many words a form of the table has, and the range of its number of forms
pub record Shape : Type 0 where
  pub width : ℕ
  pub least : ℕ
  pub most : ℕ

abbrev pub shape_of : ℕ → ℕ → ℕ → Shape
shape_of width least most = record { width = width; least = least; most = most }

-- the shapes of tables 0 to 4
abbrev pub shapes : List Shape
shapes = shape_of 3 1 256 ∷ shape_of 2 0 512 ∷ shape_of 2 0 32 ∷ shape_of 5 0 256 ∷ shape_of 4 1 256 ∷ []

-- ---- one form: its words, and what they say

-- word j of form k of a table whose forms have w words
abbrev pub word : List ℕ → ℕ → ℕ → ℕ → ℕ
word t w k j = get_or t (k * w + j) 0

abbrev pub all_zero : List ℕ → Bool
all_zero [] = true
all_zero (x ∷ xs) = eqb x 0 && all_zero xs

-- the form, if the words that its kind leaves unused are 0
abbrev pub unused : {A : Type 0} → A → List ℕ → A → A
unused malformed rest form = cond (all_zero rest) form malformed

-- the kinds of table 0, from 0 on
abbrev pub expression_of : ℕ → ℕ → ℕ → Expression
expression_of kind a b =
    get_or
    (unused Expression.Malformed (a ∷ b ∷ []) Expression.False
    ∷ unused Expression.Malformed (a ∷ b ∷ []) Expression.True
    ∷ unused Expression.Malformed (b ∷ []) (Expression.Feature a)
    ∷ unused Expression.Malformed (b ∷ []) (Expression.Not a)
    ∷ Expression.And a b
    ∷ Expression.Or a b
    ∷ Expression.ExactlyOne a b
    ∷ [])
    kind Expression.Malformed

-- the kinds of table 3, from 0 on, with the operator o
abbrev pub comparison_of : ℕ → ℕ → ℕ → ℕ → ℕ → Comparison
comparison_of kind o a b c =
    get_or
    (unused Comparison.Malformed (o ∷ a ∷ b ∷ c ∷ []) Comparison.Never
    ∷ unused Comparison.Malformed (o ∷ a ∷ b ∷ c ∷ []) Comparison.Always
    ∷ Comparison.Constant o a b c
    ∷ unused Comparison.Malformed (c ∷ []) (Comparison.Attribute o a b)
    ∷ unused Comparison.Malformed (o ∷ b ∷ c ∷ []) (Comparison.Not a)
    ∷ unused Comparison.Malformed (o ∷ c ∷ []) (Comparison.And a b)
    ∷ unused Comparison.Malformed (o ∷ c ∷ []) (Comparison.Or a b)
    ∷ unused Comparison.Malformed (o ∷ []) (Comparison.Choice a b c)
    ∷ [])
    kind Comparison.Malformed

-- the kinds of table 4, from 0 on
abbrev pub query_of : ℕ → ℕ → ℕ → ℕ → Query
query_of kind a b c =
    get_or
    (unused Query.Malformed (a ∷ b ∷ c ∷ []) Query.Empty
    ∷ unused Query.Malformed (b ∷ c ∷ []) (Query.Relation a)
    ∷ unused Query.Malformed (c ∷ []) (Query.Select a b)
    ∷ unused Query.Malformed (c ∷ []) (Query.Project a b)
    ∷ Query.Choice a b c
    ∷ unused Query.Malformed (c ∷ []) (Query.Product a b)
    ∷ unused Query.Malformed (c ∷ []) (Query.Union a b)
    ∷ unused Query.Malformed (c ∷ []) (Query.Intersection a b)
    ∷ [])
    kind Query.Malformed

-- form k of each table
abbrev pub expression : List ℕ → ℕ → Expression
expression t k = expression_of (get_or t (k * 3) 0) (word t 3 k 1) (word t 3 k 2)

abbrev pub entry_attribute : List ℕ → ℕ → ℕ
entry_attribute t k = get_or t (k * 2) 0

abbrev pub entry_expression : List ℕ → ℕ → ℕ
entry_expression t k = word t 2 k 1

abbrev pub relation_expression : List ℕ → ℕ → ℕ
relation_expression t k = get_or t (k * 2) 0

abbrev pub relation_length : List ℕ → ℕ → ℕ
relation_length t k = word t 2 k 1

abbrev pub comparison : List ℕ → ℕ → Comparison
comparison t k = comparison_of (get_or t (k * 5) 0) (word t 5 k 1) (word t 5 k 2) (word t 5 k 3) (word t 5 k 4)

abbrev pub query : List ℕ → ℕ → Query
query t k = query_of (get_or t (k * 4) 0) (word t 4 k 1) (word t 4 k 2) (word t 4 k 3)

-- the kind of attribute a, in a kind table, and in that of T: 0 moment, 1 count, 2 name
abbrev pub kind_in : List ℕ → ℕ → ℕ
kind_in kinds a = get_or kinds a 0

abbrev pub kind_of : Tables → ℕ → ℕ
kind_of T = kind_in T.kinds

-- how many forms each table has
abbrev pub expression_count : Tables → ℕ
expression_count T = length T.expressions / 3

abbrev pub entry_count : Tables → ℕ
entry_count T = length T.entries / 2

abbrev pub relation_count : Tables → ℕ
relation_count T = length T.relations / 2

abbrev pub comparison_count : Tables → ℕ
comparison_count T = length T.comparisons / 5

abbrev pub query_count : Tables → ℕ
query_count T = length T.queries / 4

-- the last query form is the report
abbrev pub report : Tables → ℕ
report T = query_count T - 1

-- ---- lists: in table 1 one after another, those of the relations and then those of the project forms

-- where the list of relation r starts, in a table 2
abbrev pub relation_start : List ℕ → ℕ → ℕ
relation_start relations zero = 0
relation_start relations (suc r) = relation_start relations r + relation_length relations r

-- how many entries a query form lists
abbrev pub project_length : Query → ℕ
project_length Query.Malformed = 0
project_length Query.Empty = 0
project_length (Query.Relation a) = 0
project_length (Query.Select a b) = 0
project_length (Query.Project a b) = a
project_length (Query.Choice a b c) = 0
project_length (Query.Product a b) = 0
project_length (Query.Union a b) = 0
project_length (Query.Intersection a b) = 0

-- how many entries the project forms below q list, in a table 4
abbrev pub projected_before : List ℕ → ℕ → ℕ
projected_before queries zero = 0
projected_before queries (suc q) = projected_before queries q + project_length (query queries q)

-- where table 1 is split: the lists of the relations end there, and those of the project forms start
abbrev pub relations_end : Tables → ℕ
relations_end T = relation_start T.relations (relation_count T)

-- the entries of the relations' lists, and those of the project forms' lists, each counted from 0
abbrev pub entries_of_relations : Tables → List ℕ
entries_of_relations T = take (relations_end T * 2) T.entries

abbrev pub entries_of_projects : Tables → List ℕ
entries_of_projects T = drop (relations_end T * 2) T.entries

-- where the list of the project form q starts in table 1
abbrev pub project_start : Tables → ℕ → ℕ
project_start T q = relations_end T + projected_before T.queries q
