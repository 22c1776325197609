-- Lists given by a rule for each place.
use Rattle.std.specs.Prelude.{ℕ, zero, suc, ◌<◌, ◌≤◌, ◌≡◌, Bool, cond, List, [], ◌∷◌, ◌++◌, length, get_or}

module _ {A : Type 0} where
  -- the n elements f 0, f 1, ..
  abbrev pub table : ℕ → (ℕ → A) → List A
  table zero f = []
  table (suc n) f = f 0 ∷ table n (λ i. f (suc i))

  -- the n lists f 0, f 1, .., one after another
  abbrev pub concat : ℕ → (ℕ → List A) → List A
  concat zero f = []
  concat (suc n) f = concat n f ++ f n

  -- of the n lists block 0, block 1, .. those that are kept, one after another. What k is the block of gets the new number count_below keep k
  abbrev pub kept : (ℕ → Bool) → (ℕ → List A) → ℕ → List A
  kept keep block n = concat n (λ k. cond (keep k) (block k) [])

-- the first `count` numbers of a list are those of f
pub record NumbersAre (count : ℕ) (f : ℕ → ℕ) (numbers : List ℕ) : Type 0 where
  pub room : count ≤ length numbers
  pub each : (k : ℕ) → k < count → get_or numbers k 0 ≡ f k
