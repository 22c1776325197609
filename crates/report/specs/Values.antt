-- A value for each form of a table, made from the values of the forms below it. A form that others share is worked out once.
use Rattle.std.specs.Prelude.{ℕ, zero, suc, List, [], ◌∷◌, ◌++◌, get_or}

-- `step at k` is the value of form k, where `at` gives the values of lower forms. A form that is not lower has the value d: the form checks
-- refuse a table in which that would matter
module _ {A : Type 0} (d : A) (step : (ℕ → A) → ℕ → A) where
  -- the values of forms 0 to n - 1
  abbrev pub values_below : ℕ → List A
  values_below zero = []
  values_below (suc n) = let t = values_below n in t ++ (step (λ k. get_or t k d) n ∷ [])

  -- the value of form n
  abbrev pub value : ℕ → A
  value n = let t = values_below n in step (λ k. get_or t k d) n
