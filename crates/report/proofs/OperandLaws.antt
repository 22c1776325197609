-- A comparison or a query form by its operands: it is a choice, or plain; and where a reference to it leads.
use Prim.Native.Nat.{ℕ}
use mathlib.Core.Path.{◌≡◌, refl, sym, ap}
use mathlib.Core.Bool.{false, false≢true}
use Rattle.report.specs.Tables.{Tables}
use Rattle.report.specs.Operands.{comparison_operands, query_operands, is_choice}
use Rattle.report.specs.Configuring.{target_of}
use Rattle.report.specs.declared.Comparison.{Comparison}
use Rattle.report.specs.declared.Query.{Query}
use Rattle.report.specs.declared.Operands.{Operands}

pub data View (o : Operands) : Type 0 where
  choice : (e a b : ℕ) → o ≡ Operands.Choice e a b → View o
  plain : is_choice o ≡ false → View o

pub view : (o : Operands) → View o
view Operands.Nothing = plain refl
view (Operands.One a) = plain refl
view (Operands.Both a b) = plain refl
view (Operands.Choice e a b) = choice e a b refl

-- a reference to a plain form stays
pub plain_target : (T : Tables) (c : ℕ) (target : ℕ → ℕ) (f : ℕ) (o : Operands) → is_choice o ≡ false → target_of T c target f o ≡ f
plain_target T c target f Operands.Nothing p = refl
plain_target T c target f (Operands.One a) p = refl
plain_target T c target f (Operands.Both a b) p = refl
plain_target T c target f (Operands.Choice e a b) p = absurd (false≢true (sym p))

-- ---- a form whose operands are those of a choice is that choice

module _ {e a b : ℕ} where
  pub choice_comparison : (x : Comparison) → comparison_operands x ≡ Operands.Choice e a b → x ≡ Comparison.Choice e a b
  choice_comparison Comparison.Malformed h = absurd (false≢true (ap is_choice h))
  choice_comparison Comparison.Never h = absurd (false≢true (ap is_choice h))
  choice_comparison Comparison.Always h = absurd (false≢true (ap is_choice h))
  choice_comparison (Comparison.Constant o i j k) h = absurd (false≢true (ap is_choice h))
  choice_comparison (Comparison.Attribute o i j) h = absurd (false≢true (ap is_choice h))
  choice_comparison (Comparison.Not i) h = absurd (false≢true (ap is_choice h))
  choice_comparison (Comparison.And i j) h = absurd (false≢true (ap is_choice h))
  choice_comparison (Comparison.Or i j) h = absurd (false≢true (ap is_choice h))
  choice_comparison (Comparison.Choice i j k) h = cc

  pub choice_query : (y : Query) → query_operands y ≡ Operands.Choice e a b → y ≡ Query.Choice e a b
  choice_query Query.Malformed h = absurd (false≢true (ap is_choice h))
  choice_query Query.Empty h = absurd (false≢true (ap is_choice h))
  choice_query (Query.Relation i) h = absurd (false≢true (ap is_choice h))
  choice_query (Query.Select i j) h = absurd (false≢true (ap is_choice h))
  choice_query (Query.Project i j) h = absurd (false≢true (ap is_choice h))
  choice_query (Query.Choice i j k) h = cc
  choice_query (Query.Product i j) h = absurd (false≢true (ap is_choice h))
  choice_query (Query.Union i j) h = absurd (false≢true (ap is_choice h))
  choice_query (Query.Intersection i j) h = absurd (false≢true (ap is_choice h))
