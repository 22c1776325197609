-- docs/FORMAT.md, "Refusals": checks 1 to 10 and 24, in its order. A form `fits` where its row of the table finds nothing in it.
use Rattle.std.specs.Prelude.{ℕ, ◌+◌, ◌-◌, ◌/◌, ◌%◌, Bool, true, false, ◌&&◌, not, List, [], length, get_or, leb, ltb, eqb}
use Rattle.sets.specs.Search.{lowest, some_below}
use Rattle.report.specs.Tables.{Tables, Shape, shape_of, shapes, words, entry_attribute, entry_expression, relation_expression, relation_length}
use Rattle.report.specs.Tables.{expression, comparison, query, expression_count, entry_count, relation_count, comparison_count, query_count}
use Rattle.report.specs.Tables.{kind_in, kind_of, relation_start, projected_before, relations_end, project_start}
use Rattle.report.specs.Operands.{query_operands, is_among, sides_in}
use Rattle.report.specs.Verdicts.{Verdict, refusal, refuse_if, refuse_at, or_else, first_from}
use Rattle.report.specs.declared.Expression.{Expression}
use Rattle.report.specs.declared.Comparison.{Comparison}
use Rattle.report.specs.declared.Query.{Query}
use Rattle.report.specs.declared.Sides.{Sides}

-- 1: over 10 features, then over 64 attributes
abbrev pub head_check : ℕ → ℕ → Verdict
head_check features attributes = or_else (refuse_if (ltb 10 features) (refusal 1 0 0 0)) (refuse_if (ltb 64 attributes) (refusal 1 1 0 0))

-- a word count is a multiple of the form's, and the number of forms is in its range
abbrev pub length_fits : Shape → ℕ → Bool
length_fits s count = eqb (count % s.width) 0 && leb s.least (count / s.width) && leb (count / s.width) s.most

-- a range of 1 to 10 features from `first` on, where there are n: it does not pass n
abbrev pub range_fits : ℕ → ℕ → ℕ → Bool
range_fits n first count = leb 1 count && leb count 10 && leb (first + count) n

-- an expression that stands as form f: a feature below n, a range of features, operands below f
abbrev pub expression_fits : ℕ → ℕ → Expression → Bool
expression_fits n f Expression.Malformed = false
expression_fits n f Expression.False = true
expression_fits n f Expression.True = true
expression_fits n f (Expression.Feature a) = ltb a n
expression_fits n f (Expression.Not a) = ltb a f
expression_fits n f (Expression.And a b) = ltb a f && ltb b f
expression_fits n f (Expression.Or a b) = ltb a f && ltb b f
expression_fits n f (Expression.ExactlyOne a b) = range_fits n a b

-- a comparison that stands as form f, where there are m attributes and e expressions
abbrev pub comparison_fits : ℕ → ℕ → ℕ → Comparison → Bool
comparison_fits m e f Comparison.Malformed = false
comparison_fits m e f Comparison.Never = true
comparison_fits m e f Comparison.Always = true
comparison_fits m e f (Comparison.Constant o a b k) = leb o 5 && ltb a m
comparison_fits m e f (Comparison.Attribute o a b) = leb o 5 && ltb a m && ltb b m
comparison_fits m e f (Comparison.Not a) = ltb a f
comparison_fits m e f (Comparison.And a b) = ltb a f && ltb b f
comparison_fits m e f (Comparison.Or a b) = ltb a f && ltb b f
comparison_fits m e f (Comparison.Choice a b d) = ltb a e && ltb b f && ltb d f

-- a kind is 0 moment, 1 count or 2 name
abbrev pub is_kind : ℕ → Bool
is_kind k = leb k 2

-- the kind that stands in a comparison with these sides, its constant's; 0 where none does
abbrev pub constant_kind : Sides → ℕ
constant_kind (Sides.Constant a k) = k
constant_kind (Sides.Attributes a b) = 0
constant_kind Sides.Neither = 0

-- form x is an operand of a query form
abbrev pub is_operand : ℕ → Query → Bool
is_operand x y = is_among x (query_operands y)

-- form x is an operand of a form below q
abbrev pub taken_below : List ℕ → ℕ → ℕ → Bool
taken_below queries q x = some_below (λ p. is_operand x (query queries p)) q

-- form x is below q, and not among the forms taken so far
abbrev pub free : (ℕ → Bool) → ℕ → ℕ → Bool
free taken q x = ltb x q && not (taken x)

-- two operands, of which the second is not the first once more
abbrev pub free_pair : (ℕ → Bool) → ℕ → ℕ → ℕ → Bool
free_pair taken q x y = free taken q x && free taken q y && not (eqb x y)

-- a list lies in table 1. An attribute may be in it more than once
abbrev pub list_fits : List ℕ → ℕ → ℕ → Bool
list_fits entries start count = leb (start + count) (length entries / 2)

-- entry k: an attribute below m, one of e expressions
abbrev pub entry_fits : ℕ → ℕ → List ℕ → ℕ → Bool
entry_fits m e entries k = ltb (entry_attribute entries k) m && ltb (entry_expression entries k) e

-- relation r: one of e expressions, and its list
abbrev pub relation_fits : ℕ → List ℕ → List ℕ → ℕ → Bool
relation_fits e entries relations r =
    ltb (relation_expression relations r) e && list_fits entries (relation_start relations r) (relation_length relations r)

-- a query that stands as form q, where there are e expressions, r relations and p comparisons, the list of a project lies in `entries` from
-- `start` on, and `taken` are the forms that a form below q has taken
module _ (e r p : ℕ) (entries : List ℕ) (start : ℕ) (taken : ℕ → Bool) (q : ℕ) where
  abbrev pub query_fits : Query → Bool
  query_fits Query.Malformed = false
  query_fits Query.Empty = true
  query_fits (Query.Relation a) = ltb a r
  query_fits (Query.Select a b) = ltb a p && free taken q b
  query_fits (Query.Project a b) = list_fits entries start a && free taken q b
  query_fits (Query.Choice a b d) = ltb a e && free_pair taken q b d
  query_fits (Query.Product a b) = free_pair taken q a b
  query_fits (Query.Union a b) = free_pair taken q a b
  query_fits (Query.Intersection a b) = free_pair taken q a b

-- table 4, whose lists lie in `entries` from `start` on
module _ (e r p : ℕ) (entries : List ℕ) (start : ℕ) (queries : List ℕ) where
  abbrev pub query_fits_at : ℕ → Query → Bool
  query_fits_at q = query_fits e r p entries (start + projected_before queries q) (taken_below queries q) q

  -- 8: the lowest form that does not fit
  unfoldable pub queries_check : Verdict
  queries_check = refuse_at (λ q. refusal 8 q 0 0) (lowest (λ q. not (query_fits_at q (query queries q))) (length queries / 4))

-- 2: the length of table t
abbrev pub length_check : Shape → ℕ → ℕ → Verdict
length_check shape t count = refuse_if (not (length_fits shape count)) (refusal 2 t 0 0)

-- 3: the lowest expression that does not fit, where there are n features
unfoldable pub expressions_check : ℕ → List ℕ → Verdict
expressions_check n expressions =
    refuse_at (λ f. refusal 3 f 0 0) (lowest (λ f. not (expression_fits n f (expression expressions f))) (length expressions / 3))

-- 4: the model is not in table 0
abbrev pub model_form_check : ℕ → ℕ → Verdict
model_form_check e model = refuse_if (leb e model) (refusal 4 0 0 0)

-- 5: the lowest entry that does not fit
unfoldable pub entries_check : ℕ → ℕ → List ℕ → Verdict
entries_check m e entries = refuse_at (λ k. refusal 5 k 0 0) (lowest (λ k. not (entry_fits m e entries k)) (length entries / 2))

-- 6: the lowest relation that does not fit
unfoldable pub relations_check : ℕ → List ℕ → List ℕ → Verdict
relations_check e entries relations =
    refuse_at (λ r. refusal 6 r 0 0) (lowest (λ r. not (relation_fits e entries relations r)) (length relations / 2))

-- 7: the lowest comparison that does not fit
unfoldable pub comparisons_check : ℕ → ℕ → List ℕ → Verdict
comparisons_check m e comparisons =
    refuse_at (λ f. refusal 7 f 0 0) (lowest (λ f. not (comparison_fits m e f (comparison comparisons f))) (length comparisons / 5))

-- 9: the lowest form other than the last that no form has taken
unfoldable pub untaken_check : List ℕ → Verdict
untaken_check queries =
    refuse_at (λ q. refusal 9 q 0 0) (lowest (λ q. not (taken_below queries (length queries / 4) q)) (length queries / 4 - 1))

-- 10: the first entry after the last list, of `count` entries
abbrev pub left_entry_check : ℕ → ℕ → Verdict
left_entry_check end count = refuse_if (ltb end count) (refusal 10 end 0 0)

-- 24: the kind table is not m words; else its lowest word that is no kind
abbrev pub kind_table_check : ℕ → List ℕ → Verdict
kind_table_check m kinds =
    or_else (refuse_if (not (eqb (length kinds) m)) (refusal 24 0 0 0))
    (refuse_at (λ a. refusal 24 a 0 0) (lowest (λ a. not (is_kind (kind_in kinds a))) (length kinds)))

-- else the lowest comparison in which a word that is no kind stands as one, whether a query names it or not
abbrev pub constants_check : List ℕ → Verdict
constants_check comparisons =
    refuse_at (λ f. refusal 24 f 0 0) (lowest (λ f. not (is_kind (constant_kind (sides_in comparisons f)))) (length comparisons / 5))

unfoldable pub kinds_check : ℕ → List ℕ → List ℕ → Verdict
kinds_check m kinds comparisons = or_else (kind_table_check m kinds) (constants_check comparisons)

module _ (T : Tables) where
  -- form k of each table fits
  abbrev pub expression_ok : ℕ → Bool
  expression_ok f = expression_fits T.features f (expression T.expressions f)

  abbrev pub entry_ok : ℕ → Bool
  entry_ok k = entry_fits T.attributes (expression_count T) T.entries k

  abbrev pub relation_ok : ℕ → Bool
  relation_ok r = relation_fits (expression_count T) T.entries T.relations r

  abbrev pub comparison_ok : ℕ → Bool
  comparison_ok f = comparison_fits T.attributes (expression_count T) f (comparison T.comparisons f)

  abbrev pub query_fits_in : ℕ → Query → Bool
  query_fits_in = query_fits_at (expression_count T) (relation_count T) (comparison_count T) T.entries (relations_end T) T.queries

  abbrev pub query_ok : ℕ → Bool
  query_ok q = query_fits_in q (query T.queries q)

  -- word a of the kind table, and the kind that stands in comparison f, are kinds
  abbrev pub kind_ok : ℕ → Bool
  kind_ok a = is_kind (kind_of T a)

  abbrev pub constant_ok : ℕ → Bool
  constant_ok f = is_kind (constant_kind (sides_in T.comparisons f))

  -- where all lists end
  abbrev pub lists_end : ℕ
  lists_end = project_start T (query_count T)

  -- 2: the lowest table whose length does not fit
  abbrev pub lengths_check : Verdict
  lengths_check = first_from (λ t. length_check (get_or shapes t (shape_of 1 0 0)) t (length (get_or (words T) t []))) 5 0

  -- checks 1 to 10
  unfoldable pub tables_check : Verdict
  tables_check =
      or_else (head_check T.features T.attributes)
      (or_else lengths_check
      (or_else (expressions_check T.features T.expressions)
      (or_else (model_form_check (expression_count T) T.model)
      (or_else (entries_check T.attributes (expression_count T) T.entries)
      (or_else (relations_check (expression_count T) T.entries T.relations)
      (or_else (comparisons_check T.attributes (expression_count T) T.comparisons)
      (or_else (queries_check (expression_count T) (relation_count T) (comparison_count T) T.entries (relations_end T) T.queries)
      (or_else (untaken_check T.queries) (left_entry_check lists_end (entry_count T))))))))))

  -- checks 1 to 10, then 24
  unfoldable pub form_check : Verdict
  form_check = or_else tables_check (kinds_check T.attributes T.kinds T.comparisons)
