-- Laws of a value for each form (specs/Values), for any type of values.
use Prim.Native.Nat.{ℕ, zero, suc, ◌+◌, ◌<◌}
use mathlib.Core.Path.{◌≡◌, refl, sym, ap, ap₂, ◌∙◌, fun_ext, subst₂}
use mathlib.Core.Logic.{⊎_elim}
use mathlib.Core.List.{List, [], ◌∷◌, ◌++◌, map, map-append}
use native.Mathlib.Nat.{eq-or-lt_of_le, le_of_suc-le-suc, not-suc-le-zero, lt_of_lt_of_le, lt-suc_self}
use native.Mathlib.Numerals.{add-one}
use native.Mathlib.Decide.{dec_lt}
use native.Mathlib.Omega.{arith}
use lib.ListN.{length, get_or, length-append, get_or-append, get_or-map, get_or-eq_default}
use lib.Seq.{get_or_at}
use Rattle.report.specs.Values.{value, values_below}

-- course-of-values induction
pub strong : (P : ℕ → Type 0) → ((n : ℕ) → ((k : ℕ) → k < n → P k) → P n) → (n : ℕ) → P n
strong P step n = below (suc n) n (lt-suc_self n)
  where
    below : (m k : ℕ) → k < m → P k
    below zero k h = absurd (not-suc-le-zero h)
    below (suc m) k h = step k (λ j l. below m j (lt_of_lt_of_le l (le_of_suc-le-suc h)))

module _ {A : Type 0} (d : A) (step : (ℕ → A) → ℕ → A) where
  length_values : (n : ℕ) → length (values_below d step n) ≡ n
  length_values zero = refl
  length_values (suc n) = length-append (values_below d step n) _ ∙ ap (λ (m : ℕ). m + 1) (length_values n) ∙ add-one n

  -- the values below n are read back as they were made
  pub values_at : (n k : ℕ) → k < n → get_or (values_below d step n) k d ≡ value d step k
  values_at zero k h = absurd (not-suc-le-zero h)
  values_at (suc n) k h =
      ⊎_elim
      (λ (e : k ≡ n). get_or_at (values_below d step n) _ [] d k (length_values n ∙ sym e) ∙ ap (value d step) (sym e))
      (λ (l : k < n). get_or-append (values_below d step n) _ d k (omega (arith, length_values n)) ∙ values_at n k l)
      (eq-or-lt_of_le (le_of_suc-le-suc h))

  -- one step: where the rule reads lower forms only, a form's value is the rule's over the values of all forms
  pub value_step : (n : ℕ) → ((f g : ℕ → A) → ((k : ℕ) → k < n → f k ≡ g k) → step f n ≡ step g n) → value d step n ≡ step (value d step) n
  value_step n local = local (λ k. get_or (values_below d step n) k d) (value d step) (values_at n)

-- Where h takes each step of one rule to the step of another, it takes the values of the one to those of the other. It asks nothing of the tables
module _ {A B : Type 0} (h : A → B) (d : A) (step : (ℕ → A) → ℕ → A) (step' : (ℕ → B) → ℕ → B)
    (same : (f : ℕ → A) (n : ℕ) → h (step f n) ≡ step' (λ k. h (f k)) n)
  where
    read_map : (l : List A) (n : ℕ) → h (step (λ k. get_or l k d) n) ≡ step' (λ k. get_or (map h l) k (h d)) n
    read_map l n = same (λ k. get_or l k d) n ∙ ap (λ (f : ℕ → B). step' f n) (fun_ext (λ k. sym (get_or-map h l k d)))

    values_map : (n : ℕ) → map h (values_below d step n) ≡ values_below (h d) step' n
    values_map zero = refl
    values_map (suc n) =
        map-append h (values_below d step n) _
        ∙ ap₂ ◌++◌ (values_map n)
        (ap (λ (b : B). b ∷ []) (read_map (values_below d step n) n ∙ ap (λ (l : List B). step' (λ k. get_or l k (h d)) n) (values_map n)))

    pub value-map : (n : ℕ) → h (value d step n) ≡ value (h d) step' n
    value-map n = read_map (values_below d step n) n ∙ ap (λ (l : List B). step' (λ k. get_or l k (h d)) n) (values_map n)

-- A value and a family of others stand in a relation wherever each step keeps it. It asks nothing of the tables either
module _ {A B I : Type 0} (R : A → (I → B) → Type 0) (d : A) (step : (ℕ → A) → ℕ → A) (e : B) (step' : I → (ℕ → B) → ℕ → B) (none : R d (λ i. e))
    (next : (f : ℕ → A) (g : I → ℕ → B) → ((k : ℕ) → R (f k) (λ i. g i k)) → (n : ℕ) → R (step f n) (λ i. step' i (g i) n))
  where
    pub value_related : (n : ℕ) → R (value d step n) (λ i. value e (step' i) n)
    value_related =
        strong (λ n. R (value d step n) (λ i. value e (step' i) n))
        (λ n ih.
        next (λ k. get_or (values_below d step n) k d) (λ i k. get_or (values_below e (step' i) n) k e) (λ k. read n k (ih k) (dec_lt k n)) n)
      where
        related : {x x' : A} {y y' : I → B} → x ≡ x' → ((i : I) → y i ≡ y' i) → R x' y' → R x y
        related p q = subst₂ R (sym p) (sym (fun_ext q))

        read : (n k : ℕ) → (k < n → R (value d step k) (λ i. value e (step' i) k)) → Dec (k < n)
            → R (get_or (values_below d step n) k d) (λ i. get_or (values_below e (step' i) n) k e)
        read n k ih (yes h) = related (values_at d step n k h) (λ i. values_at e (step' i) n k h) (ih h)
        read n k ih (no h) =
            related (get_or-eq_default (values_below d step n) d (omega (arith, length_values d step n)))
            (λ i. get_or-eq_default (values_below e (step' i) n) e (omega (arith, length_values e (step' i) n))) none
