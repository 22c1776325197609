-- Searches and counts over the numbers below a bound. The definitions of the rules are written with these.
use Rattle.std.specs.Prelude.{ℕ, zero, suc, ◌+◌, ◌<◌, ◌≡◌, Bool, true, false, cond, not, Option, Some, None}

-- the lowest of the n numbers from `from` on at which the test holds
abbrev pub seek : (ℕ → Bool) → ℕ → ℕ → Option ℕ
seek test zero from = None
seek test (suc n) from = elim (test from) [ true ↦ Some from | false ↦ seek test n (suc from) ]

-- the lowest number below n at which the test holds
abbrev pub lowest : (ℕ → Bool) → ℕ → Option ℕ
lowest test n = seek test n 0

-- k is the lowest number below n at which the test holds
pub record First (test : ℕ → Bool) (n k : ℕ) : Type 0 where
  pub below : k < n
  pub holds : test k ≡ true
  pub before : (j : ℕ) → j < k → test j ≡ false

abbrev pub is_found : Option ℕ → Bool
is_found (Some k) = true
is_found None = false

-- the number that was found; 0 stands for nothing
abbrev pub found_or_0 : Option ℕ → ℕ
found_or_0 (Some k) = k
found_or_0 None = 0

-- the test holds at some number below n
abbrev pub some_below : (ℕ → Bool) → ℕ → Bool
some_below test n = is_found (lowest test n)

-- the test holds at every number below n
abbrev pub all_below : (ℕ → Bool) → ℕ → Bool
all_below test n = not (some_below (λ k. not (test k)) n)

-- at how many numbers below n the test holds
abbrev pub count_below : (ℕ → Bool) → ℕ → ℕ
count_below test zero = 0
count_below test (suc n) = count_below test n + cond (test n) 1 0

-- the number that has rank k among those kept
pub record Nth (keep : ℕ → Bool) (n k : ℕ) : Type 0 where
  pub old : ℕ
  pub below : old < n
  pub passed : keep old ≡ true
  pub number : count_below keep old ≡ k
