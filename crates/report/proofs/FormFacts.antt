-- What a form or a list that fits (specs/FormChecks) is (specs/Formed): which numbers are below which, instead of tests.
use Prim.Native.Nat.{ℕ, ◌+◌, ◌/◌, ◌<◌, ◌≤◌}
use mathlib.Core.Path.{◌≡◌, refl}
use mathlib.Core.Bool.{Bool, true, false, ◌&&◌, ◌||◌, not, and-eq-true_iff, false≢true}
use mathlib.Core.List.{List}
use native.Mathlib.Omega.{arith}
use borrow.Author.Tests.{ltb-true, leb-true, eqb-true, eqb-false, not-true}
use lib.ListN.{length}
use lib.Dec.{leb, ltb, eqb}
use Rattle.sets.proofs.SearchLaws.{some_none}
use Rattle.report.specs.Tables.{Tables, query, expression_count, project_length, project_start}
use Rattle.report.specs.Operands.{comparison_operands, query_operands, is_among, comparison_sides}
use Rattle.report.specs.FormChecks.{range_fits, expression_fits, comparison_fits, is_operand, taken_below, free, free_pair, list_fits}
use Rattle.report.specs.FormChecks.{query_fits_at, query_fits_in}
use Rattle.report.specs.Formed.{ExpressionLower, ComparisonLower, OperandsBelow, SidesBelow, Free, FreePair, OperandsFree, QueryLower}
use Rattle.report.specs.declared.Expression.{Expression}
use Rattle.report.specs.declared.Comparison.{Comparison}
use Rattle.report.specs.declared.Query.{Query}
use Rattle.report.specs.declared.Operands.{Operands}

both_lower : (a b f : ℕ) → (ltb a f && ltb b f) ≡ true → (a < f) × (b < f)
both_lower a b f e = let p = (and-eq-true_iff _ _).0 e in (ltb-true a f p.0, ltb-true b f p.1)

-- ---- one expression

range_lower : (n first count : ℕ) → range_fits n first count ≡ true → (1 ≤ count) × (count ≤ 10) × (first + count ≤ n)
range_lower n first count t =
    let p = (and-eq-true_iff _ (leb (first + count) n)).0 t in
    let q = (and-eq-true_iff _ _).0 p.0 in
    (leb-true 1 count q.0, leb-true count 10 q.1, leb-true (first + count) n p.1)

pub expression_lower : (n f : ℕ) (e : Expression) → expression_fits n f e ≡ true → ExpressionLower n f e
expression_lower n f Expression.Malformed t = false≢true t
expression_lower n f Expression.False t = tt
expression_lower n f Expression.True t = tt
expression_lower n f (Expression.Feature a) t = ltb-true a n t
expression_lower n f (Expression.Not a) t = ltb-true a f t
expression_lower n f (Expression.And a b) t = both_lower a b f t
expression_lower n f (Expression.Or a b) t = both_lower a b f t
expression_lower n f (Expression.ExactlyOne a b) t = range_lower n a b t

-- ---- one comparison

pub comparison_lower : (m e f : ℕ) (x : Comparison) → comparison_fits m e f x ≡ true → ComparisonLower m e f x
comparison_lower m e f Comparison.Malformed t = false≢true t
comparison_lower m e f Comparison.Never t = tt
comparison_lower m e f Comparison.Always t = tt
comparison_lower m e f (Comparison.Constant o a b k) t = let p = (and-eq-true_iff _ _).0 t in (leb-true o 5 p.0, ltb-true a m p.1)
comparison_lower m e f (Comparison.Attribute o a b) t =
    let p = (and-eq-true_iff _ (ltb b m)).0 t in
    let q = (and-eq-true_iff _ _).0 p.0 in
    (leb-true o 5 q.0, ltb-true a m q.1, ltb-true b m p.1)
comparison_lower m e f (Comparison.Not a) t = ltb-true a f t
comparison_lower m e f (Comparison.And a b) t = both_lower a b f t
comparison_lower m e f (Comparison.Or a b) t = both_lower a b f t
comparison_lower m e f (Comparison.Choice a b d) t =
    let p = (and-eq-true_iff _ (ltb d f)).0 t in
    let q = (and-eq-true_iff _ _).0 p.0 in
    (ltb-true a e q.0, ltb-true b f q.1, ltb-true d f p.1)

-- the operands of a comparison that fits are lower
pub comparison_below : (m e f : ℕ) (x : Comparison) → ComparisonLower m e f x → OperandsBelow f (comparison_operands x)
comparison_below m e f Comparison.Malformed l = tt
comparison_below m e f Comparison.Never l = tt
comparison_below m e f Comparison.Always l = tt
comparison_below m e f (Comparison.Constant o a b k) l = tt
comparison_below m e f (Comparison.Attribute o a b) l = tt
comparison_below m e f (Comparison.Not a) l = l
comparison_below m e f (Comparison.And a b) l = l
comparison_below m e f (Comparison.Or a b) l = l
comparison_below m e f (Comparison.Choice a b d) l = (l.1, l.2)

-- and the attributes on its sides are below the number of attributes
pub sides_below : (m e f : ℕ) (x : Comparison) → ComparisonLower m e f x → SidesBelow m (comparison_sides x)
sides_below m e f Comparison.Malformed l = tt
sides_below m e f Comparison.Never l = tt
sides_below m e f Comparison.Always l = tt
sides_below m e f (Comparison.Constant o a b k) l = l.1
sides_below m e f (Comparison.Attribute o a b) l = (l.1, l.2)
sides_below m e f (Comparison.Not a) l = tt
sides_below m e f (Comparison.And a b) l = tt
sides_below m e f (Comparison.Or a b) l = tt
sides_below m e f (Comparison.Choice a b d) l = tt

-- ---- one list

pub list_inside : (entries : List ℕ) (start count : ℕ) → list_fits entries start count ≡ true → start + count ≤ length entries / 2
list_inside entries start count = leb-true _ _

-- ---- one query form

module _ (queries : List ℕ) (q : ℕ) where
  -- what the tests of one operand, and of two, say
  pub is_free : (x : ℕ) → free (taken_below queries q) q x ≡ true → Free queries q x
  is_free x t =
      let p = (and-eq-true_iff _ _).0 t in
      record { lower = ltb-true x q p.0; untaken = some_none (λ p. is_operand x (query queries p)) q (not-true (taken_below queries q x) p.1) }

  pub is_free_pair : (x y : ℕ) → free_pair (taken_below queries q) q x y ≡ true → FreePair queries q x y
  is_free_pair x y t =
      let p = (and-eq-true_iff _ (not (eqb x y))).0 t in
      let r = (and-eq-true_iff _ _).0 p.0 in
      record { first = is_free x r.0; second = is_free y r.1; apart = eqb-false x y (not-true _ p.1) }

module _ (T : Tables) where
  pub query_lower : (q : ℕ) (x : Query) → query_fits_in T q x ≡ true → QueryLower T q x
  query_lower q Query.Malformed t = false≢true t
  query_lower q Query.Empty t = tt
  query_lower q (Query.Relation a) t = ltb-true a _ t
  query_lower q (Query.Select a b) t = let p = (and-eq-true_iff _ _).0 t in (ltb-true a _ p.0, is_free T.queries q b p.1)
  query_lower q (Query.Project a b) t =
      let p = (and-eq-true_iff (list_fits T.entries (project_start T q) a) (free (taken_below T.queries q) q b)).0 t in
      (list_inside T.entries (project_start T q) a p.0, is_free T.queries q b p.1)
  query_lower q (Query.Choice a b d) t =
      let p = (and-eq-true_iff (ltb a (expression_count T)) (free_pair (taken_below T.queries q) q b d)).0 t in
      (ltb-true a _ p.0, is_free_pair T.queries q b d p.1)
  query_lower q (Query.Product a b) t = is_free_pair T.queries q a b t
  query_lower q (Query.Union a b) t = is_free_pair T.queries q a b t
  query_lower q (Query.Intersection a b) t = is_free_pair T.queries q a b t

-- ---- the operands of a query form

-- those of one that fits are free for it. There are e expressions, r relations and p comparisons, as in query_fits_at
module _ (e r p : ℕ) (entries : List ℕ) (start : ℕ) (queries : List ℕ) (q : ℕ) where
  pub operands_free : (x : Query) → query_fits_at e r p entries start queries q x ≡ true → OperandsFree e queries q (query_operands x)
  operands_free Query.Malformed t = tt
  operands_free Query.Empty t = tt
  operands_free (Query.Relation a) t = tt
  operands_free (Query.Select a b) t = is_free queries q b ((and-eq-true_iff (ltb a p) _).0 t).1
  operands_free (Query.Project a b) t = is_free queries q b ((and-eq-true_iff (list_fits entries _ a) _).0 t).1
  operands_free (Query.Choice a b d) t =
      let s = (and-eq-true_iff (ltb a e) (free_pair (taken_below queries q) q b d)).0 t in
      (ltb-true a e s.0, is_free_pair queries q b d s.1)
  operands_free (Query.Product a b) t = is_free_pair queries q a b t
  operands_free (Query.Union a b) t = is_free_pair queries q a b t
  operands_free (Query.Intersection a b) t = is_free_pair queries q a b t

module _ (n : ℕ) (queries : List ℕ) (q : ℕ) where
  of_pair : (a b : ℕ) → FreePair queries q a b → (x : ℕ) → (eqb x a || eqb x b) ≡ true → Free queries q x
  of_pair a b l x o = go (eqb x a) refl o
    where
      go : (t : Bool) → eqb x a ≡ t → (t || eqb x b) ≡ true → Free queries q x
      go true e o = rw (eqb-true x a e) l.first
      go false e o = rw (eqb-true x b o) l.second

  -- each of them is free
  pub among_free : (o : Operands) → OperandsFree n queries q o → (x : ℕ) → is_among x o ≡ true → Free queries q x
  among_free Operands.Nothing l x m = absurd (false≢true m)
  among_free (Operands.One a) l x m = rw (eqb-true x a m) l
  among_free (Operands.Both a b) l x m = of_pair a b l x m
  among_free (Operands.Choice e a b) l x m = of_pair a b l.1 x m

  -- and lower
  pub free_below : (o : Operands) → OperandsFree n queries q o → OperandsBelow q o
  free_below Operands.Nothing l = tt
  free_below (Operands.One a) l = l.lower
  free_below (Operands.Both a b) l = (l.first.lower, l.second.lower)
  free_below (Operands.Choice e a b) l = (l.1.first.lower, l.1.second.lower)

-- operands below q are below whatever is not lower
pub below_more : {q n : ℕ} → q ≤ n → (o : Operands) → OperandsBelow q o → OperandsBelow n o
below_more h Operands.Nothing l = tt
below_more h (Operands.One a) l = omega arith
below_more h (Operands.Both a b) l = (omega arith, omega arith)
below_more h (Operands.Choice e a b) l = (omega arith, omega arith)

-- ---- project forms

-- a query form is a project, or lists no entries
pub data Listing (y : Query) : Type 0 where
  project : (a b : ℕ) → y ≡ Query.Project a b → Listing y
  unlisted : project_length y ≡ 0 → Listing y

pub listing : (y : Query) → Listing y
listing Query.Malformed = unlisted refl
listing Query.Empty = unlisted refl
listing (Query.Relation a) = unlisted refl
listing (Query.Select a b) = unlisted refl
listing (Query.Project a b) = project a b refl
listing (Query.Choice a b d) = unlisted refl
listing (Query.Product a b) = unlisted refl
listing (Query.Union a b) = unlisted refl
listing (Query.Intersection a b) = unlisted refl
