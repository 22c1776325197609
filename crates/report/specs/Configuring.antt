-- docs/FORMAT.md, "Configuring": the tables that an accepted report becomes at a permitted configuration c, in either reading.
use Rattle.std.specs.Prelude.{ℕ, ◌+◌, Bool, true, cond, ◌&&◌, not, List, [], ◌∷◌, ◌++◌, length, drop, eqb}
use Rattle.sets.specs.Search.{some_below, count_below}
use Rattle.sets.specs.Lists.{kept}
use Rattle.sets.specs.Bits.{bit}
use Rattle.report.specs.Values.{value}
use Rattle.report.specs.Tables.{Tables, entry_attribute, relation_length, comparison, query}
use Rattle.report.specs.Expressions.{tables_of}
use Rattle.report.specs.Tables.{relation_count, comparison_count, query_count, relation_start, project_length, project_start}
use Rattle.report.specs.Operands.{comparison_operands, query_operands, is_choice}
use Rattle.report.specs.Typing.{taken, reached, entry_holds, present, set_of}
use Rattle.report.specs.declared.Comparison.{Comparison}
use Rattle.report.specs.declared.Query.{Query}
use Rattle.report.specs.declared.Operands.{Operands}
use Rattle.report.specs.declared.Reading.{Reading}

-- ---- the words of a plain form whose references have new numbers. A choice has none

-- `to_comparison` gives those of comparisons
abbrev pub comparison_words_of : (ℕ → ℕ) → Comparison → List ℕ
comparison_words_of to_comparison Comparison.Malformed = []
comparison_words_of to_comparison Comparison.Never = 0 ∷ 0 ∷ 0 ∷ 0 ∷ 0 ∷ []
comparison_words_of to_comparison Comparison.Always = 1 ∷ 0 ∷ 0 ∷ 0 ∷ 0 ∷ []
comparison_words_of to_comparison (Comparison.Constant o a b k) = 2 ∷ o ∷ a ∷ b ∷ k ∷ []
comparison_words_of to_comparison (Comparison.Attribute o a b) = 3 ∷ o ∷ a ∷ b ∷ 0 ∷ []
comparison_words_of to_comparison (Comparison.Not a) = 4 ∷ 0 ∷ to_comparison a ∷ 0 ∷ 0 ∷ []
comparison_words_of to_comparison (Comparison.And a b) = 5 ∷ 0 ∷ to_comparison a ∷ to_comparison b ∷ 0 ∷ []
comparison_words_of to_comparison (Comparison.Or a b) = 6 ∷ 0 ∷ to_comparison a ∷ to_comparison b ∷ 0 ∷ []
comparison_words_of to_comparison (Comparison.Choice e a b) = []

-- `to_relation`, `to_comparison` and `to_query` give those of the three tables, `entries` the number of entries kept of a project's
abbrev pub query_words_of : (to_relation to_comparison to_query entries : ℕ → ℕ) → Query → List ℕ
query_words_of to_relation to_comparison to_query entries Query.Malformed = []
query_words_of to_relation to_comparison to_query entries Query.Empty = 0 ∷ 0 ∷ 0 ∷ 0 ∷ []
query_words_of to_relation to_comparison to_query entries (Query.Relation a) = 1 ∷ to_relation a ∷ 0 ∷ 0 ∷ []
query_words_of to_relation to_comparison to_query entries (Query.Select a b) = 2 ∷ to_comparison a ∷ to_query b ∷ 0 ∷ []
query_words_of to_relation to_comparison to_query entries (Query.Project a b) = 3 ∷ entries a ∷ to_query b ∷ 0 ∷ []
query_words_of to_relation to_comparison to_query entries (Query.Choice e a b) = []
query_words_of to_relation to_comparison to_query entries (Query.Product a b) = 5 ∷ to_query a ∷ to_query b ∷ 0 ∷ []
query_words_of to_relation to_comparison to_query entries (Query.Union a b) = 6 ∷ to_query a ∷ to_query b ∷ 0 ∷ []
query_words_of to_relation to_comparison to_query entries (Query.Intersection a b) = 7 ∷ to_query a ∷ to_query b ∷ 0 ∷ []

-- all attributes of a list stay, as in that of a relation
abbrev pub all_stay : ℕ → Bool
all_stay a = true

module _ (T : Tables) (c : ℕ) where
  -- ---- references: one to a choice becomes one to the form it leads to, through further choices

  -- where a reference to form f leads, by its operands, where `target` says it of lower forms
  abbrev pub target_of : (ℕ → ℕ) → ℕ → Operands → ℕ
  target_of target f Operands.Nothing = f
  target_of target f (Operands.One a) = f
  target_of target f (Operands.Both a b) = f
  target_of target f (Operands.Choice e a b) = target (taken T c e a b)

  unfoldable pub comparison_target : ℕ → ℕ
  comparison_target = value 0 (λ target f. target_of target f (comparison_operands (comparison T.comparisons f)))

  unfoldable pub query_target : ℕ → ℕ
  query_target = value 0 (λ target q. target_of target q (query_operands (query T.queries q)))

  -- ---- what is kept, and its new number

  -- every comparison that is no choice
  abbrev pub comparison_kept : ℕ → Bool
  comparison_kept f = not (is_choice (comparison_operands (comparison T.comparisons f)))

  -- the query forms that are no choice and that c reaches
  abbrev pub query_kept : ℕ → Bool
  query_kept q = reached T c q && not (is_choice (query_operands (query T.queries q)))

  -- the new number of what a reference leads to: how many forms before it are kept
  abbrev pub new_relation : ℕ → ℕ
  new_relation r = count_below (present T c) r

  abbrev pub new_comparison : ℕ → ℕ
  new_comparison f = count_below comparison_kept (comparison_target f)

  abbrev pub new_query : ℕ → ℕ
  new_query q = count_below query_kept (query_target q)

  -- ---- lists: of `count` entries from `start` on each attribute's first entry that holds, in the order of the list, its expression made 0

  -- entry j of the list that starts at `start` holds, and has attribute a
  abbrev pub gives_attribute : ℕ → ℕ → ℕ → Bool
  gives_attribute start a j = entry_holds T c (start + j) && eqb a (entry_attribute T.entries (start + j))

  -- entry i of that list is its attribute's first that holds: it holds, and no entry before it holds and has its attribute
  unfoldable pub entry_kept : ℕ → ℕ → Bool
  entry_kept start i =
      entry_holds T c (start + i) && not (some_below (gives_attribute start (entry_attribute T.entries (start + i))) i)

  -- and its attribute stays
  abbrev pub entry_stays : (ℕ → Bool) → ℕ → ℕ → Bool
  entry_stays stay start i = stay (entry_attribute T.entries (start + i)) && entry_kept start i

  abbrev pub kept_length : (ℕ → Bool) → ℕ → ℕ → ℕ
  kept_length stay start count = count_below (entry_stays stay start) count

  abbrev pub kept_list : (ℕ → Bool) → ℕ → ℕ → List ℕ
  kept_list stay start count = kept (entry_stays stay start) (λ i. entry_attribute T.entries (start + i) ∷ 0 ∷ []) count

  abbrev pub relation_list : ℕ → List ℕ
  relation_list r = kept_list all_stay (relation_start T.relations r) (relation_length T.relations r)

  -- ---- the two readings (document 02, Wish 7)

  -- which attributes stay in a project's list over operand b: in the filled reading those that the operand has
  abbrev pub staying_over : Reading → ℕ → ℕ → Bool
  staying_over Reading.Strict b = all_stay
  staying_over Reading.Filled b = bit (set_of T c b)

  abbrev pub staying : Reading → Query → ℕ → Bool
  staying R Query.Malformed = all_stay
  staying R Query.Empty = all_stay
  staying R (Query.Relation a) = all_stay
  staying R (Query.Select a b) = all_stay
  staying R (Query.Project a b) = staying_over R b
  staying R (Query.Choice a b d) = all_stay
  staying R (Query.Product a b) = all_stay
  staying R (Query.Union a b) = all_stay
  staying R (Query.Intersection a b) = all_stay

  -- what a query form is written as: in the filled reading an absent relation as empty
  abbrev pub relation_as : Reading → ℕ → Query
  relation_as Reading.Strict a = Query.Relation a
  relation_as Reading.Filled a = cond (present T c a) (Query.Relation a) Query.Empty

  abbrev pub read_as : Reading → Query → Query
  read_as R Query.Malformed = Query.Malformed
  read_as R Query.Empty = Query.Empty
  read_as R (Query.Relation a) = relation_as R a
  read_as R (Query.Select a b) = Query.Select a b
  read_as R (Query.Project a b) = Query.Project a b
  read_as R (Query.Choice a b d) = Query.Choice a b d
  read_as R (Query.Product a b) = Query.Product a b
  read_as R (Query.Union a b) = Query.Union a b
  read_as R (Query.Intersection a b) = Query.Intersection a b

  -- the list of query form q. One that is no project lists no entries
  abbrev pub project_list_of : Reading → ℕ → Query → List ℕ
  project_list_of R q y = kept_list (staying R y) (project_start T q) (project_length y)

  -- ---- forms

  abbrev pub relation_form : ℕ → List ℕ
  relation_form r = 0 ∷ kept_length all_stay (relation_start T.relations r) (relation_length T.relations r) ∷ []

  abbrev pub comparison_form_of : Comparison → List ℕ
  comparison_form_of = comparison_words_of new_comparison

  abbrev pub query_form_of : Reading → ℕ → Query → List ℕ
  query_form_of R q y = query_words_of new_relation new_comparison new_query (kept_length (staying R y) (project_start T q)) (read_as R y)

  -- ---- the written tables: 0 features, the same attributes with their kinds, model 0, the one expression true

  unfoldable pub configured : Reading → Tables
  configured R =
      tables_of 0 T.attributes 0 (1 ∷ 0 ∷ 0 ∷ [])
      (kept (present T c) relation_list (relation_count T) ++ kept query_kept (λ q. project_list_of R q (query T.queries q)) (query_count T))
      (kept (present T c) relation_form (relation_count T))
      (kept comparison_kept (λ f. comparison_form_of (comparison T.comparisons f)) (comparison_count T))
      (kept query_kept (λ q. query_form_of R q (query T.queries q)) (query_count T))
      T.kinds

-- a lent table with words written to it: those after them are unchanged
abbrev pub written : List ℕ → List ℕ → List ℕ
written new lent = new ++ drop (length new) lent
