-- docs/FORMAT.md, "Harbour file" and "Print": bytes, numbers and lines. A text is a list of bytes.
use Rattle.std.specs.Prelude.{ℕ, zero, suc, ◌+◌, ◌-◌, ◌*◌, ◌/◌, ◌%◌, Bool, true, false, ◌&&◌, List, [], ◌∷◌, ◌++◌, leb, ltb, eqb}
use Prim.Native.String.{String}
use Prim.Native.Char.{code}

-- the bytes of a text of plain characters
abbrev pub bytes : String → List ℕ
bytes String.[] = []
bytes (String.◌∷◌ c s) = code c ∷ bytes s

-- a number below 10 is one digit; of any other the last digit stands after those of its tenth part
abbrev pub digits_or : Bool → ℕ → List ℕ → List ℕ
digits_or true n front = (48 + n) ∷ []
digits_or false n front = front ++ ((48 + n % 10) ∷ [])

-- the digits of n, where at most `more` stand before the last
abbrev pub digits : ℕ → ℕ → List ℕ
digits zero n = (48 + n) ∷ []
digits (suc more) n = let front = digits more (n / 10) in digits_or (ltb n 10) n front

-- A number in decimal, without leading zeros. No number has more than n digits before its last (proofs/TextLaws: decimal-step)
unfoldable pub decimal : ℕ → List ℕ
decimal n = digits n n

-- numbers, each after one space
abbrev pub spaced : List ℕ → List ℕ
spaced [] = []
spaced (n ∷ ns) = 32 ∷ decimal n ++ spaced ns

-- an open bracket, a word, its numbers, a close bracket
abbrev pub bracket : List ℕ → List ℕ → List ℕ
bracket word ns = 40 ∷ word ++ spaced ns ++ (41 ∷ [])

-- the same as a line, which ends in a line feed
abbrev pub line : List ℕ → List ℕ → List ℕ
line word ns = bracket word ns ++ (10 ∷ [])

abbrev pub same : List ℕ → List ℕ → Bool
same [] [] = true
same [] (y ∷ ys) = false
same (x ∷ xs) [] = false
same (x ∷ xs) (y ∷ ys) = eqb x y && same xs ys

-- ---- the numbers in a text: the values of its runs of digits

abbrev pub is_digit : ℕ → Bool
is_digit b = leb 48 b && leb b 57

-- a run of digits that goes on: `value` is that of its digits so far. `in_run` tells whether the byte before was a digit
abbrev pub numbers_from : Bool → ℕ → List ℕ → List ℕ
numbers_from false value [] = []
numbers_from true value [] = value ∷ []
numbers_from false value (b ∷ rest) = elim (is_digit b) [ true ↦ numbers_from true (b - 48) rest | false ↦ numbers_from false 0 rest ]
numbers_from true value (b ∷ rest) =
    elim (is_digit b) [ true ↦ numbers_from true (value * 10 + (b - 48)) rest | false ↦ value ∷ numbers_from false 0 rest ]

unfoldable pub numbers_in : List ℕ → List ℕ
numbers_in = numbers_from false 0
