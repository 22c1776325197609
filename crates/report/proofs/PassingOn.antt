-- One query form: to which forms it passes a configuration c on.
use Prim.Native.Nat.{ℕ}
use mathlib.Core.Path.{◌≡◌, refl, sym, ap}
use mathlib.Core.Logic.{⊎_elim, ◌⊎◌, inl, inr}
use mathlib.Core.Bool.{Bool, true, false, cond, ◌||◌, false≢true}
use borrow.Author.Tests.{eqb-true, eq-eqb}
use lib.Dec.{eqb}
use Rattle.report.specs.Tables.{Tables}
use Rattle.report.specs.Operands.{query_operands, is_among, is_choice}
use Rattle.report.specs.FormChecks.{is_operand}
use Rattle.report.specs.Typing.{at, taken, onward, passes_on}
use Rattle.report.specs.declared.Query.{Query}
use Rattle.report.specs.declared.Operands.{Operands}

-- ---- one of two

pub or_either : (t u : Bool) → (t || u) ≡ true → (t ≡ true) ⊎ (u ≡ true)
or_either true u e = inl refl
or_either false u e = inr e

pub or_first : (t u : Bool) → t ≡ true → (t || u) ≡ true
or_first t u e = ap (λ (x : Bool). x || u) e

pub or_second : (t u : Bool) → u ≡ true → (t || u) ≡ true
or_second true u e = refl
or_second false u e = e

pub same_number : (x : ℕ) → eqb x x ≡ true
same_number x = eq-eqb x x refl

-- ---- one form: to what it passes c on

module _ (T : Tables) (c : ℕ) where
  -- a query form passes c on to form x
  abbrev pub passes_to : ℕ → Query → Bool
  passes_to x y = passes_on T c (eqb x) y

  -- a form passes c on to a marked form exactly where it passes it on to some form that is marked
  pub record PassedTo (marked : ℕ → Bool) (y : Query) : Type 0 where
    pub form : ℕ
    pub passed : passes_to form y ≡ true
    pub is_marked : marked form ≡ true

  module _ (marked : ℕ → Bool) where
    pub passed_to : (y : Query) → passes_on T c marked y ≡ true → PassedTo marked y
    passed_to y m = let r = go (query_operands y) m in record { form = r.0; passed = r.1; is_marked = r.2 }
      where
        go : (o : Operands) → onward T c marked o ≡ true → (x : ℕ) × (onward T c (eqb x) o ≡ true) × (marked x ≡ true)
        go Operands.Nothing m = absurd (false≢true m)
        go (Operands.One a) m = (a, same_number a, m)
        go (Operands.Both a b) m =
            ⊎_elim (λ k. (a, or_first _ _ (same_number a), k)) (λ k. (b, or_second (eqb b a) _ (same_number b), k)) (or_either (marked a) (marked b) m)
        go (Operands.Choice e a b) m = (taken T c e a b, same_number (taken T c e a b), m)

    module _ (x : ℕ) (m : marked x ≡ true) where
      is_marked_lem : (b : ℕ) → eqb x b ≡ true → marked b ≡ true
      is_marked_lem b e = rw (← eqb-true x b e) m

      pub to_passed : (y : Query) → passes_to x y ≡ true → passes_on T c marked y ≡ true
      to_passed y = go (query_operands y)
        where
          go : (o : Operands) → onward T c (eqb x) o ≡ true → onward T c marked o ≡ true
          go Operands.Nothing k = k
          go (Operands.One a) k = is_marked_lem a k
          go (Operands.Both a b) k =
              ⊎_elim (λ l. or_first _ _ (is_marked_lem a l)) (λ l. or_second (marked a) _ (is_marked_lem b l)) (or_either (eqb x a) (eqb x b) k)
          go (Operands.Choice e a b) k = is_marked_lem (taken T c e a b) k

  -- a form passes c on to operands alone: a plain one to all of them, a choice to the alternative that it takes
  pub passed_operand : (x : ℕ) (y : Query) → passes_to x y ≡ true → is_operand x y ≡ true
  passed_operand x y = go (query_operands y)
    where
      alternative : (t : Bool) (a b : ℕ) → eqb x (cond t a b) ≡ true → (eqb x a || eqb x b) ≡ true
      alternative true a b k = or_first _ _ k
      alternative false a b k = or_second (eqb x a) _ k

      go : (o : Operands) → onward T c (eqb x) o ≡ true → is_among x o ≡ true
      go Operands.Nothing k = k
      go (Operands.One a) k = k
      go (Operands.Both a b) k = k
      go (Operands.Choice e a b) k = alternative (at T c e) a b k

  pub operand_passed : (x : ℕ) (y : Query) → is_choice (query_operands y) ≡ false → passes_to x y ≡ is_operand x y
  operand_passed x y = go (query_operands y)
    where
      go : (o : Operands) → is_choice o ≡ false → onward T c (eqb x) o ≡ is_among x o
      go Operands.Nothing p = refl
      go (Operands.One a) p = refl
      go (Operands.Both a b) p = refl
      go (Operands.Choice e a b) p = absurd (false≢true (sym p))
