-- Sets of small numbers as numbers: the set has k where bit k is 1. Two sets are equal where the numbers are.
-- Union, intersection and symmetric difference are the library's bit_or, bit_and and bit_xor.
use Rattle.std.specs.Prelude.{ℕ, zero, suc, ◌+◌, ◌*◌, ◌/◌, ◌%◌, ◌^◌, Bool, true, false, ◌&&◌, eqb, leb}
use Rattle.std.specs.Int.Bits.{bit_and, bit_xor}
use Rattle.sets.specs.Search.{lowest, some_below, count_below, found_or_0}

-- bit k of n is 1
abbrev pub bit : ℕ → ℕ → Bool
bit n k = eqb (n / 2 ^ k % 2) 1

abbrev pub digit : Bool → ℕ
digit true = 1
digit false = 0

-- the number below 2 ^ k whose bit j is 1 where test j holds
unfoldable pub bits_of : ℕ → (ℕ → Bool) → ℕ
bits_of zero test = 0
bits_of (suc k) test = bits_of k (λ j. test (suc j)) * 2 + digit (test 0)

-- the members of x that y lacks
abbrev pub difference : ℕ → ℕ → ℕ
difference x y = bit_xor x (bit_and x y)

-- every member of x is one of y
abbrev pub subset : ℕ → ℕ → Bool
subset x y = eqb (difference x y) 0

-- the lowest member of a set of numbers below 64; 0 stands for none
abbrev pub lowest_member : ℕ → ℕ
lowest_member x = found_or_0 (lowest (bit x) 64)

-- how many members a set of numbers below 64 has
abbrev pub member_count : ℕ → ℕ
member_count x = count_below (bit x) 64

-- a set of numbers below 64 has a member at or above m
abbrev pub has_from : ℕ → ℕ → Bool
has_from x m = some_below (λ a. leb m a && bit x a) 64
