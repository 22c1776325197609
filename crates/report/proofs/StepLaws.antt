-- One step of each meaning: where a form's operands are lower, its value is the rule's over the values of all forms.
use Prim.Native.Nat.{ℕ, ◌<◌}
use mathlib.Core.Path.{◌≡◌, refl, ap, ap₂}
use mathlib.Core.Bool.{Bool, true, false, cond, ◌&&◌, ◌||◌, not}
use mathlib.Core.List.{List}
use lib.Dec.{eqb}
use lib.Bits.{bit_and, bit_or}
use Rattle.report.specs.Tables.{Tables, expression, comparison, query, project_start}
use Rattle.report.specs.Tables.{comparison_count, query_count}
use Rattle.report.specs.Operands.{comparison_operands, query_operands}
use Rattle.report.specs.Expressions.{truth_of, holds}
use Rattle.report.specs.Typing.{at, onward, passes_on, leads, project_set, gathered_of, gathered, set_rule, set_of}
use Rattle.report.specs.Configuring.{target_of, comparison_target, query_target}
use Rattle.report.specs.PlainAlgebra.{PlainComparison, PlainQuery}
use Rattle.report.specs.ConfiguredReport.{plain_comparison_of, plain_comparison_at, kept_attributes, plain_staying, plain_query_of, plain_query_at}
use Rattle.report.specs.Formed.{Formed, ExpressionLower, OperandsBelow}
use Rattle.report.specs.declared.Expression.{Expression}
use Rattle.report.specs.declared.Comparison.{Comparison}
use Rattle.report.specs.declared.Query.{Query}
use Rattle.report.specs.declared.Operands.{Operands}
use Rattle.report.specs.declared.Reading.{Reading}
use Rattle.report.proofs.ValueLaws.{value_step}
use Rattle.report.proofs.FormedFacts.{comparison_operands_lem, query_operands_lem}

-- the alternative that a choice takes is one of two lower ones
pub taken_below : (t : Bool) {b d n : ℕ} → (b < n) × (d < n) → cond t b d < n
taken_below true l = l.0
taken_below false l = l.1

-- ---- each rule reads operands alone: over f and g, which agree below n, it gives the same

module _ {A : Type 0} (n : ℕ) (f g : ℕ → A) (same : (k : ℕ) → k < n → f k ≡ g k) where
  -- a rule that joins two operands
  two : {B : Type 0} (op : A → A → B) {a b : ℕ} → (a < n) × (b < n) → op (f a) (f b) ≡ op (g a) (g b)
  two op {a} {b} l = ap₂ op (same a l.0) (same b l.1)

module _ (n : ℕ) (f g : ℕ → Bool) (same : (k : ℕ) → k < n → f k ≡ g k) where
  truth_local : (m c : ℕ) (x : Expression) → ExpressionLower m n x → truth_of c f x ≡ truth_of c g x
  truth_local m c Expression.Malformed l = refl
  truth_local m c Expression.False l = refl
  truth_local m c Expression.True l = refl
  truth_local m c (Expression.Feature a) l = refl
  truth_local m c (Expression.Not a) l = ap not (same a l)
  truth_local m c (Expression.And a b) l = two n f g same ◌&&◌ l
  truth_local m c (Expression.Or a b) l = two n f g same ◌||◌ l
  truth_local m c (Expression.ExactlyOne a b) l = refl

module _ (T : Tables) (c n : ℕ) where
  module _ (f g : ℕ → ℕ) (same : (k : ℕ) → k < n → f k ≡ g k) where
    gathered_local : (own : ℕ) (o : Operands) → OperandsBelow n o → gathered_of T c f own o ≡ gathered_of T c g own o
    gathered_local own Operands.Nothing l = refl
    gathered_local own (Operands.One a) l = same a l
    gathered_local own (Operands.Both a b) l = two n f g same bit_or l
    gathered_local own (Operands.Choice e a b) l = same _ (taken_below (at T c e) l)

    target_local : (o : Operands) → OperandsBelow n o → target_of T c f n o ≡ target_of T c g n o
    target_local Operands.Nothing l = refl
    target_local (Operands.One a) l = refl
    target_local (Operands.Both a b) l = refl
    target_local (Operands.Choice e a b) l = same _ (taken_below (at T c e) l)

    set_local : (x : Query) → OperandsBelow n (query_operands x) → set_rule T c f n x ≡ set_rule T c g n x
    set_local Query.Malformed l = refl
    set_local Query.Empty l = refl
    set_local (Query.Relation a) l = refl
    set_local (Query.Select a b) l = same b l
    set_local (Query.Project a b) l = ap (bit_and (project_set T c n a)) (same b l)
    set_local (Query.Choice a b d) l = same _ (taken_below (at T c a) l)
    set_local (Query.Product a b) l = two n f g same bit_or l
    set_local (Query.Union a b) l = same a l.0
    set_local (Query.Intersection a b) l = same a l.0

  module _ (f g : ℕ → PlainComparison) (same : (k : ℕ) → k < n → f k ≡ g k) where
    plain_comparison_local : (x : Comparison) → OperandsBelow n (comparison_operands x) → plain_comparison_of T c f x ≡ plain_comparison_of T c g x
    plain_comparison_local Comparison.Malformed l = refl
    plain_comparison_local Comparison.Never l = refl
    plain_comparison_local Comparison.Always l = refl
    plain_comparison_local (Comparison.Constant o a b k) l = refl
    plain_comparison_local (Comparison.Attribute o a b) l = refl
    plain_comparison_local (Comparison.Not a) l = ap PlainComparison.negation (same a l)
    plain_comparison_local (Comparison.And a b) l = two n f g same PlainComparison.both l
    plain_comparison_local (Comparison.Or a b) l = two n f g same PlainComparison.either l
    plain_comparison_local (Comparison.Choice a b d) l = same _ (taken_below (at T c a) l)

  module _ (f g : ℕ → Bool) (same : (k : ℕ) → k < n → f k ≡ g k) where
    onward_local : (o : Operands) → OperandsBelow n o → onward T c f o ≡ onward T c g o
    onward_local Operands.Nothing l = refl
    onward_local (Operands.One a) l = same a l
    onward_local (Operands.Both a b) l = two n f g same ◌||◌ l
    onward_local (Operands.Choice e a b) l = same _ (taken_below (at T c e) l)

  module _ (f g : ℕ → PlainQuery) (same : (k : ℕ) → k < n → f k ≡ g k) where
    plain_query_local : (R : Reading) (x : Query) → OperandsBelow n (query_operands x) → plain_query_of T c R f n x ≡ plain_query_of T c R g n x
    plain_query_local R Query.Malformed l = refl
    plain_query_local R Query.Empty l = refl
    plain_query_local R (Query.Relation a) l = refl
    plain_query_local R (Query.Select a b) l = ap (PlainQuery.select (plain_comparison_at T c a)) (same b l)
    plain_query_local R (Query.Project a b) l =
        ap (λ (t : PlainQuery). PlainQuery.project (kept_attributes T c (plain_staying T c R t) (project_start T n) a) t) (same b l)
    plain_query_local R (Query.Choice a b d) l = same _ (taken_below (at T c a) l)
    plain_query_local R (Query.Product a b) l = two n f g same PlainQuery.product l
    plain_query_local R (Query.Union a b) l = two n f g same PlainQuery.union l
    plain_query_local R (Query.Intersection a b) l = two n f g same PlainQuery.intersection l

-- ---- the step of each meaning, of one form

-- an expression that fits, whatever stands in the rest of its table. It does not matter for how many features, n, it fits
pub holds_step : (n : ℕ) (expressions : List ℕ) (c f : ℕ) → ExpressionLower n f (expression expressions f)
    → holds expressions c f ≡ truth_of c (holds expressions c) (expression expressions f)
unfolding holds
holds_step n expressions c f l =
    value_step false (λ at e. truth_of c at (expression expressions e)) f (λ g h s. truth_local f g h s n c (expression expressions f) l)

module _ (T : Tables) (c f : ℕ) (l : OperandsBelow f (comparison_operands (comparison T.comparisons f))) where
  -- a comparison whose operands are lower: what is gathered of it, where a reference to it leads, the plain comparison that it is
  pub gathered_step : (own : Comparison → ℕ)
      → gathered T c own f
      ≡ gathered_of T c (gathered T c own) (own (comparison T.comparisons f)) (comparison_operands (comparison T.comparisons f))
  unfolding gathered
  gathered_step own =
      value_step 0 (λ set k. gathered_of T c set (own (comparison T.comparisons k)) (comparison_operands (comparison T.comparisons k))) f
      (λ g h s. gathered_local T c f g h s (own (comparison T.comparisons f)) (comparison_operands (comparison T.comparisons f)) l)

  pub comparison_target_step : comparison_target T c f ≡ target_of T c (comparison_target T c) f (comparison_operands (comparison T.comparisons f))
  unfolding comparison_target
  comparison_target_step =
      value_step 0 (λ target k. target_of T c target k (comparison_operands (comparison T.comparisons k))) f
      (λ g h s. target_local T c f g h s (comparison_operands (comparison T.comparisons f)) l)

  pub plain_comparison_step : plain_comparison_at T c f ≡ plain_comparison_of T c (plain_comparison_at T c) (comparison T.comparisons f)
  unfolding plain_comparison_at
  plain_comparison_step =
      value_step PlainComparison.never (λ tree k. plain_comparison_of T c tree (comparison T.comparisons k)) f
      (λ g h s. plain_comparison_local T c f g h s (comparison T.comparisons f) l)

module _ (T : Tables) (c q : ℕ) (l : OperandsBelow q (query_operands (query T.queries q))) where
  -- a query form whose operands are lower: its set, what it leads to, where a reference to it leads, the plain query that it is
  pub set_step : set_of T c q ≡ set_rule T c (set_of T c) q (query T.queries q)
  unfolding set_of
  set_step =
      value_step 0 (λ set k. set_rule T c set k (query T.queries k)) q
      (λ g h s. set_local T c q g h s (query T.queries q) l)

  pub leads_step : (x : ℕ) → leads T c x q ≡ (eqb x q || passes_on T c (leads T c x) (query T.queries q))
  unfolding leads
  leads_step x =
      value_step false (λ marked k. eqb x k || passes_on T c marked (query T.queries k)) q
      (λ g h s. ap (λ (t : Bool). eqb x q || t) (onward_local T c q g h s (query_operands (query T.queries q)) l))

  pub query_target_step : query_target T c q ≡ target_of T c (query_target T c) q (query_operands (query T.queries q))
  unfolding query_target
  query_target_step =
      value_step 0 (λ target k. target_of T c target k (query_operands (query T.queries k))) q
      (λ g h s. target_local T c q g h s (query_operands (query T.queries q)) l)

  pub plain_query_step : (R : Reading) → plain_query_at T c R q ≡ plain_query_of T c R (plain_query_at T c R) q (query T.queries q)
  unfolding plain_query_at
  plain_query_step R =
      value_step PlainQuery.empty (λ tree k. plain_query_of T c R tree k (query T.queries k)) q
      (λ g h s. plain_query_local T c q g h s R (query T.queries q) l)

-- ---- the same of a form of accepted tables

module _ {T : Tables} (F : Formed T) (c : ℕ) where
  module _ (f : ℕ) (h : f < comparison_count T) where
    -- table 3
    pub gathered_in : (own : Comparison → ℕ)
        → gathered T c own f
        ≡ gathered_of T c (gathered T c own) (own (comparison T.comparisons f)) (comparison_operands (comparison T.comparisons f))
    gathered_in = gathered_step T c f (comparison_operands_lem F f h)

    pub comparison_target_in : comparison_target T c f ≡ target_of T c (comparison_target T c) f (comparison_operands (comparison T.comparisons f))
    comparison_target_in = comparison_target_step T c f (comparison_operands_lem F f h)

    pub plain_comparison_in : plain_comparison_at T c f ≡ plain_comparison_of T c (plain_comparison_at T c) (comparison T.comparisons f)
    plain_comparison_in = plain_comparison_step T c f (comparison_operands_lem F f h)

  module _ (q : ℕ) (h : q < query_count T) where
    -- table 4
    pub set_in : set_of T c q ≡ set_rule T c (set_of T c) q (query T.queries q)
    set_in = set_step T c q (query_operands_lem F q h)

    pub leads_in : (x : ℕ) → leads T c x q ≡ (eqb x q || passes_on T c (leads T c x) (query T.queries q))
    leads_in = leads_step T c q (query_operands_lem F q h)

    pub query_target_in : query_target T c q ≡ target_of T c (query_target T c) q (query_operands (query T.queries q))
    query_target_in = query_target_step T c q (query_operands_lem F q h)

    pub plain_query_in : (R : Reading) → plain_query_at T c R q ≡ plain_query_of T c R (plain_query_at T c R) q (query T.queries q)
    plain_query_in = plain_query_step T c q (query_operands_lem F q h)
