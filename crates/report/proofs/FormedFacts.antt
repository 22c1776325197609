-- What holds of tables that checks 1 to 10 and 24 accept: how many forms there are, what each is, where the lists lie, what is whose operand.
use Prim.Native.Nat.{ℕ, zero, suc, ◌+◌, ◌*◌, ◌<◌, ◌≤◌}
use mathlib.Core.Path.{◌≡◌, sym, ◌∙◌}
use mathlib.Core.Bool.{true, and-eq-true_iff, false≢true}
use mathlib.Core.List.{List}
use native.Mathlib.Nat.{le_refl}
use native.Mathlib.Decide.{le_ind}
use native.Mathlib.Omega.{arith}
use borrow.Author.Tests.{ltb-true}
use lib.ListN.{length}
use lib.Dec.{ltb}
use Rattle.sets.proofs.SearchLaws.{some_at}
use Rattle.report.specs.Tables.{Tables, entry_attribute, entry_expression, relation_expression, relation_length, comparison, query}
use Rattle.report.specs.Tables.{expression_count, entry_count, relation_count, comparison_count, query_count, report}
use Rattle.report.specs.Tables.{relation_start, project_length, relations_end, project_start}
use Rattle.report.specs.Operands.{comparison_operands, query_operands, sides_in}
use Rattle.report.specs.FormChecks.{is_operand, list_fits, lists_end}
use Rattle.report.specs.Formed.{Formed, ComparisonLower, OperandsBelow, SidesBelow, Free, OperandsFree, QueryLower}
use Rattle.report.specs.declared.Query.{Query}
use Rattle.report.proofs.FormFacts.{comparison_lower, comparison_below, sides_below, list_inside, query_lower}
use Rattle.report.proofs.FormFacts.{operands_free, among_free, free_below, Listing, project, unlisted, listing}

-- the lists of the relations start one after another
pub relation_starts : (relations : List ℕ) (r s : ℕ) → r ≤ s → relation_start relations r ≤ relation_start relations s
relation_starts relations r =
    le_ind (λ (s : ℕ). relation_start relations r ≤ relation_start relations s) (le_refl (relation_start relations r)) (λ s h ih. omega arith)

-- how many forms each table has, and how many words
pub record Counts (T : Tables) : Type 0 where
  pub some_expression : 1 ≤ expression_count T
  pub some_query : 1 ≤ query_count T
  pub most0 : expression_count T ≤ 256
  pub most1 : entry_count T ≤ 1024
  pub most2 : relation_count T ≤ 32
  pub most3 : comparison_count T ≤ 256
  pub most4 : query_count T ≤ 256
  pub words0 : length T.expressions ≡ expression_count T * 3
  pub words1 : length T.entries ≡ entry_count T * 2
  pub words2 : length T.relations ≡ relation_count T * 2
  pub words3 : length T.comparisons ≡ comparison_count T * 5
  pub words4 : length T.queries ≡ query_count T * 4

-- query form x is an operand of one form alone
pub record Taken (T : Tables) (x : ℕ) : Type 0 where
  pub by : ℕ
  pub above : x < by
  pub inside : by < query_count T
  pub operand : is_operand x (query T.queries by) ≡ true
  pub only : (p : ℕ) → p < query_count T → is_operand x (query T.queries p) ≡ true → p ≡ by

module _ {T : Tables} (F : Formed T) where
  -- the counts are in their ranges, and tables have no words beside their forms
  pub counts : Counts T
  counts = omega arith

  -- the report is a form of table 4
  pub report_in : report T < query_count T
  report_in = omega arith

  -- ---- each form

  -- each form of tables 3 and 4 fits
  pub comparison_at : (f : ℕ) → f < comparison_count T → ComparisonLower T.attributes (expression_count T) f (comparison T.comparisons f)
  comparison_at f h = comparison_lower T.attributes (expression_count T) f (comparison T.comparisons f) (F.comparisons_ok f h)

  pub query_at : (q : ℕ) → q < query_count T → QueryLower T q (query T.queries q)
  query_at q h = query_lower T q (query T.queries q) (F.queries_ok q h)

  -- the operands of a query form are free for it
  pub operands_at : (q : ℕ) → q < query_count T → OperandsFree (expression_count T) T.queries q (query_operands (query T.queries q))
  operands_at q h =
      operands_free (expression_count T) (relation_count T) (comparison_count T) T.entries (relations_end T) T.queries q (query T.queries q)
      (F.queries_ok q h)

  -- the operands of a comparison, and of a query form, are lower
  pub comparison_operands_lem : (f : ℕ) → f < comparison_count T → OperandsBelow f (comparison_operands (comparison T.comparisons f))
  comparison_operands_lem f h = comparison_below T.attributes (expression_count T) f (comparison T.comparisons f) (comparison_at f h)

  pub query_operands_lem : (q : ℕ) → q < query_count T → OperandsBelow q (query_operands (query T.queries q))
  query_operands_lem q h = free_below (expression_count T) T.queries q (query_operands (query T.queries q)) (operands_at q h)

  -- the attributes on the sides of a comparison are attributes of the tables
  pub comparison_sides_lem : (f : ℕ) → f < comparison_count T → SidesBelow T.attributes (sides_in T.comparisons f)
  comparison_sides_lem f h = sides_below T.attributes (expression_count T) f (comparison T.comparisons f) (comparison_at f h)

  -- ---- entries and relations

  entry_tests : (i : ℕ) → i < entry_count T
      → (ltb (entry_attribute T.entries i) T.attributes ≡ true) × (ltb (entry_expression T.entries i) (expression_count T) ≡ true)
  entry_tests i h = (and-eq-true_iff _ _).0 (F.entries_ok i h)

  -- an entry's attribute is one of the head's, so one of 64; its expression is in table 0
  pub entry_attribute_lem : (i : ℕ) → i < entry_count T → entry_attribute T.entries i < T.attributes
  entry_attribute_lem i h = ltb-true _ _ (entry_tests i h).0

  pub entry_narrow : (i : ℕ) → i < entry_count T → entry_attribute T.entries i < 64
  entry_narrow i h = let a = entry_attribute_lem i h in let m = F.narrow in omega arith

  pub entry_expression_lem : (i : ℕ) → i < entry_count T → entry_expression T.entries i < expression_count T
  entry_expression_lem i h = ltb-true _ _ (entry_tests i h).1

  relation_tests : (r : ℕ) → r < relation_count T
      → (ltb (relation_expression T.relations r) (expression_count T) ≡ true)
      × (list_fits T.entries (relation_start T.relations r) (relation_length T.relations r) ≡ true)
  relation_tests r h = (and-eq-true_iff _ _).0 (F.relations_ok r h)

  -- a relation's expression is in table 0, its list in table 1
  pub relation_expression_lem : (r : ℕ) → r < relation_count T → relation_expression T.relations r < expression_count T
  relation_expression_lem r h = ltb-true _ _ (relation_tests r h).0

  pub relation_list_lem : (r : ℕ) → r < relation_count T → relation_start T.relations r + relation_length T.relations r ≤ entry_count T
  relation_list_lem r h = list_inside T.entries _ _ (relation_tests r h).1

  -- ---- where the lists lie

  -- they all start within table 1, or at its end
  pub relation_within : (r : ℕ) → r ≤ relation_count T → relation_start T.relations r ≤ entry_count T
  relation_within zero h = omega arith
  relation_within (suc r) h = relation_list_lem r h

  project_next : (q : ℕ) (x : Query) → QueryLower T q x → project_start T q ≤ entry_count T → project_start T q + project_length x ≤ entry_count T
  project_next q x l h = go (listing x)
    where
      go : Listing x → project_start T q + project_length x ≤ entry_count T
      go (project a b e) = rw e (rw e at l).0
      go (unlisted e) = omega arith

  pub project_within : (q : ℕ) → q ≤ query_count T → project_start T q ≤ entry_count T
  project_within zero h = let r = relation_within (relation_count T) (le_refl _) in omega arith
  project_within (suc q) h =
      let n = project_next q (query T.queries q) (query_at q h) (project_within q (omega arith)) in
      omega arith

  -- and end there
  pub project_inside : (q : ℕ) → q < query_count T → project_start T q + project_length (query T.queries q) ≤ entry_count T
  project_inside q h = let n = project_within (suc q) h in omega arith

  -- the lists take all the entries, and no more
  pub lists_end_lem : lists_end T ≡ entry_count T
  lists_end_lem = let l = project_within (query_count T) (le_refl _) in let u = F.all_used in omega arith

  -- ---- operands

  operand_free : (q x : ℕ) → q < query_count T → is_operand x (query T.queries q) ≡ true → Free T.queries q x
  operand_free q x h o = among_free (expression_count T) T.queries q (query_operands (query T.queries q)) (operands_at q h) x o

  -- an operand is lower
  pub operand_lower : (q x : ℕ) → q < query_count T → is_operand x (query T.queries q) ≡ true → x < q
  operand_lower q x h o = (operand_free q x h o).lower

  -- no form is an operand of two
  pub operand_once : (p q x : ℕ) → p < query_count T → q < query_count T → is_operand x (query T.queries p) ≡ true
      → is_operand x (query T.queries q) ≡ true → p ≡ q
  operand_once p q x h k o r = let a = apart p q k o r in let b = apart q p h r o in omega arith
    where
      apart : (p q : ℕ) → q < query_count T → is_operand x (query T.queries p) ≡ true → is_operand x (query T.queries q) ≡ true → p < q → ⊥
      apart p q k o r l = false≢true (sym ((operand_free q x k r).untaken p l) ∙ o)

  -- each form but the last is an operand of exactly one
  pub taken_once : (x : ℕ) → x < report T → Taken T x
  taken_once x h =
      let s = some_at (λ p. is_operand x (query T.queries p)) (query_count T) (F.all_taken x h) in
      record {
        by = s.0;
        above = operand_lower s.0 x s.1 s.2;
        inside = s.1;
        operand = s.2;
        only = λ p l o. operand_once p s.0 x l s.1 o s.2;
      }
