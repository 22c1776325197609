-- Rows: sets of configurations as lists of 64-bit words, for any number of words and of features.
use Rattle.std.specs.Prelude.{ℕ, ◌+◌, ◌-◌, ◌*◌, ◌/◌, ◌%◌, ◌^◌, ◌<◌, ◌≤◌, ◌≡◌, Bool, ◌&&◌, not, List, ◌++◌, length, get_or, take, drop, ltb, Option}
use Rattle.std.specs.Int.Bits.{bit_and, bit_or}
use Rattle.sets.specs.Search.{seek, lowest, some_below, count_below}
use Rattle.sets.specs.Lists.{table}
use Rattle.sets.specs.Bits.{bit, bits_of, difference}

-- configuration c is bit c mod 64 of the row's word c div 64
abbrev pub row_bit : List ℕ → ℕ → Bool
row_bit words c = bit (get_or words (c / 64) 0) (c % 64)

-- word w of the row that has the configurations of which p holds
abbrev pub word_of : (ℕ → Bool) → ℕ → ℕ
word_of p w = bits_of 64 (λ j. p (w * 64 + j))

-- the row of `words` words that has, of the configurations below 64 × words, those of which p holds
abbrev pub row_of : ℕ → (ℕ → Bool) → List ℕ
row_of words p = table words (word_of p)

-- p, of the configurations of n features: 0 to 2 ^ n - 1
abbrev pub within : ℕ → (ℕ → Bool) → ℕ → Bool
within n p c = ltb c (2 ^ n) && p c

-- word by word
abbrev pub zip : (ℕ → ℕ → ℕ) → ℕ → List ℕ → List ℕ → List ℕ
zip f words s t = table words (λ i. f (get_or s i 0) (get_or t i 0))

-- the configurations that either has, that both have, that the first has and the second lacks
abbrev pub row_join : ℕ → List ℕ → List ℕ → List ℕ
row_join = zip bit_or

abbrev pub row_intersect : ℕ → List ℕ → List ℕ → List ℕ
row_intersect = zip bit_and

abbrev pub row_minus : ℕ → List ℕ → List ℕ → List ℕ
row_minus = zip difference

-- the row has no configuration
abbrev pub row_is_empty : ℕ → List ℕ → Bool
row_is_empty words row = not (some_below (row_bit row) (words * 64))

-- the lowest configuration that the row has
abbrev pub row_lowest : ℕ → List ℕ → Option ℕ
row_lowest words row = lowest (row_bit row) (words * 64)

-- the lowest that is not below `from`
abbrev pub row_lowest_from : ℕ → List ℕ → ℕ → Option ℕ
row_lowest_from words row from = seek (row_bit row) (words * 64 - from) from

-- how many configurations the row has
abbrev pub row_count : ℕ → List ℕ → ℕ
row_count words row = count_below (row_bit row) (words * 64)

-- rows of `width` words, one after another in a longer list: that of number a, and the list with another in its place
abbrev pub row_in : ℕ → List ℕ → ℕ → List ℕ
row_in width words a = table width (λ i. get_or words (a * width + i) 0)

abbrev pub with_row : ℕ → List ℕ → ℕ → List ℕ → List ℕ
with_row width words a row = take (a * width) words ++ row ++ drop (a * width + width) words

-- the first `count` of such rows are those of f
pub record RowsAre (width count : ℕ) (f : ℕ → List ℕ) (words : List ℕ) : Type 0 where
  pub room : count * width ≤ length words
  pub each : (k : ℕ) → k < count → row_in width words k ≡ f k
