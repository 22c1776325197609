-- The laws of FormFacts the other way: a form, or a list, of which those facts hold fits.
use Prim.Native.Nat.{ℕ, ◌+◌, ◌/◌, ◌<◌, ◌≤◌}
use mathlib.Core.Path.{◌≡◌, refl, ap, ap₂}
use mathlib.Core.Bool.{true, ◌&&◌, not}
use mathlib.Core.List.{List}
use borrow.Author.Tests.{lt-ltb, le-leb, ne_eqb}
use lib.ListN.{length}
use lib.Dec.{ltb}
use Rattle.sets.proofs.SearchLaws.{none_some}
use Rattle.report.specs.Tables.{Tables, query, expression_count, relation_count, comparison_count, project_start}
use Rattle.report.specs.FormChecks.{expression_fits, comparison_fits, is_operand, taken_below, free, free_pair, list_fits, query_fits_in}
use Rattle.report.specs.Formed.{ExpressionLower, ComparisonLower, Free, FreePair, QueryLower}
use Rattle.report.specs.declared.Expression.{Expression}
use Rattle.report.specs.declared.Comparison.{Comparison}
use Rattle.report.specs.declared.Query.{Query}

lower_both : {a b f : ℕ} → (a < f) × (b < f) → (ltb a f && ltb b f) ≡ true
lower_both {a} {b} {f} l = ap₂ ◌&&◌ (lt-ltb a f l.0) (lt-ltb b f l.1)

-- one expression
pub expression_fits_lem : (n f : ℕ) (e : Expression) → ExpressionLower n f e → expression_fits n f e ≡ true
expression_fits_lem n f Expression.Malformed l = absurd l
expression_fits_lem n f Expression.False l = refl
expression_fits_lem n f Expression.True l = refl
expression_fits_lem n f (Expression.Feature a) l = lt-ltb a n l
expression_fits_lem n f (Expression.Not a) l = lt-ltb a f l
expression_fits_lem n f (Expression.And a b) l = lower_both l
expression_fits_lem n f (Expression.Or a b) l = lower_both l
expression_fits_lem n f (Expression.ExactlyOne a b) l = ap₂ ◌&&◌ (ap₂ ◌&&◌ (le-leb 1 b l.0) (le-leb b 10 l.1)) (le-leb (a + b) n l.2)

-- one comparison
pub comparison_fits_lem : (m e f : ℕ) (x : Comparison) → ComparisonLower m e f x → comparison_fits m e f x ≡ true
comparison_fits_lem m e f Comparison.Malformed l = absurd l
comparison_fits_lem m e f Comparison.Never l = refl
comparison_fits_lem m e f Comparison.Always l = refl
comparison_fits_lem m e f (Comparison.Constant o a b k) l = ap₂ ◌&&◌ (le-leb o 5 l.0) (lt-ltb a m l.1)
comparison_fits_lem m e f (Comparison.Attribute o a b) l = ap₂ ◌&&◌ (ap₂ ◌&&◌ (le-leb o 5 l.0) (lt-ltb a m l.1)) (lt-ltb b m l.2)
comparison_fits_lem m e f (Comparison.Not a) l = lt-ltb a f l
comparison_fits_lem m e f (Comparison.And a b) l = lower_both l
comparison_fits_lem m e f (Comparison.Or a b) l = lower_both l
comparison_fits_lem m e f (Comparison.Choice a b d) l = ap₂ ◌&&◌ (ap₂ ◌&&◌ (lt-ltb a e l.0) (lt-ltb b f l.1)) (lt-ltb d f l.2)

-- one list
pub list_fits_lem : (entries : List ℕ) (start count : ℕ) → start + count ≤ length entries / 2 → list_fits entries start count ≡ true
list_fits_lem entries start count = le-leb (start + count) (length entries / 2)

module _ {queries : List ℕ} {q : ℕ} where
  -- one operand, and two
  pub free_fits : {x : ℕ} → Free queries q x → free (taken_below queries q) q x ≡ true
  free_fits {x} l = ap₂ ◌&&◌ (lt-ltb x q l.lower) (ap not (none_some (λ p. is_operand x (query queries p)) q l.untaken))

  pub pair_fits : {x y : ℕ} → FreePair queries q x y → free_pair (taken_below queries q) q x y ≡ true
  pair_fits {x} {y} l = ap₂ ◌&&◌ (ap₂ ◌&&◌ (free_fits l.first) (free_fits l.second)) (ap not (ne_eqb x y l.apart))

-- one query form
pub query_fits : (T : Tables) (q : ℕ) (x : Query) → QueryLower T q x → query_fits_in T q x ≡ true
query_fits T q Query.Malformed l = absurd l
query_fits T q Query.Empty l = refl
query_fits T q (Query.Relation a) l = lt-ltb a (relation_count T) l
query_fits T q (Query.Select a b) l = ap₂ ◌&&◌ (lt-ltb a (comparison_count T) l.0) (free_fits l.1)
query_fits T q (Query.Project a b) l = ap₂ ◌&&◌ (list_fits_lem T.entries (project_start T q) a l.0) (free_fits l.1)
query_fits T q (Query.Choice a b d) l = ap₂ ◌&&◌ (lt-ltb a (expression_count T) l.0) (pair_fits l.1)
query_fits T q (Query.Product a b) l = pair_fits l
query_fits T q (Query.Union a b) l = pair_fits l
query_fits T q (Query.Intersection a b) l = pair_fits l
