-- Laws of sets as numbers, for any number of bits.
use Rattle.std.specs.Prelude.{Some}
use Prim.Native.Nat.{ℕ, zero, suc, ◌+◌, ◌-◌, ◌*◌, ◌/◌, ◌%◌, ◌^◌, ◌<◌, ◌≤◌, min, max}
use mathlib.Core.Path.{◌≡◌, refl, sym, ap, ap₂, ◌∙◌}
use mathlib.Core.Bool.{Bool, true, false, cond, not, ◌&&◌, ◌||◌, xor, and-true, and-false, or-false, or_assoc as or_assoc_bool, and-eq-true_iff, false≢true}
use mathlib.Core.Logic.{◌≢◌, ◌↔◌}
use native.Mathlib.Nat.{div-one, mod-lt, zero-lt-suc, pow-suc, pow-succ', div-div-eq-div-mul, div-eq_of_lt, zero-div, sub-zero, div-add-mod', one-mul}
use native.Mathlib.Nat.{le_of_suc-le-suc, not-suc-le-zero, lt_of_lt_of_le, lt_of_le_of_lt, div-le_self}
use native.Mathlib.Decide.{dec_lt, ℕ_discrete}
use native.Mathlib.Omega.{arith}
use lib.Dec.{eqb, ltb, leb, eqb-suc-suc, eqb-suc-zero, eqb-zero-suc}
use lib.Arith.{digits_div, digits_mod, lt-one}
use lib.Pow.{pow_pos, pow_mono, pow-lt, ones_lt, shr-shr, high, shl_exact}
use lib.Bits.{bit_and, bit_or, bit_xor, differ, block_half, block_odd, and_step, or_step, xor_step}
use lib.Bits.{and_lt, or_lt, xor_lt, and_le_l, and_le_r, xor_self, or_add_and, xor_add_and}
use lib.Count.{count_trailing_zeros, under, ones, ones_step}
use borrow.Author.Tests.{lt-ltb, le-ltb, le-leb, leb-true, eq-eqb, ne_eqb}
use Rattle.sets.specs.Search.{lowest, some_below, count_below, found_or_0, First}
use Rattle.sets.specs.Bits.{bit, digit, bits_of, difference, subset, lowest_member}
use Rattle.sets.proofs.SearchLaws.{at_lowest, some_at, at_some, count_head, count_same}

-- ---- one digit

digit_lt : (b : Bool) → digit b < 2
digit_lt true = omega arith
digit_lt false = omega arith

eqb-digit : (b : Bool) → eqb (digit b) 1 ≡ b
eqb-digit true = refl
eqb-digit false = refl

pub digit-eqb : (x : ℕ) → x < 2 → digit (eqb x 1) ≡ x
digit-eqb zero h = refl
digit-eqb (suc zero) h = refl
digit-eqb (suc (suc x)) h = omega arith

-- ---- the lowest bit, and the others

pub bit_zero : (n : ℕ) → bit n 0 ≡ eqb (n % 2) 1
bit_zero n = ap (λ (x : ℕ). eqb (x % 2) 1) (div-one n)

pub bit_suc : (n i : ℕ) → bit n (suc i) ≡ bit (n / 2) i
bit_suc n i = ap (λ (x : ℕ). eqb (x % 2) 1) (ap (λ (p : ℕ). n / p) (pow-succ' 2 i) ∙ sym (div-div-eq-div-mul n 2 (2 ^ i)))

low : (n : ℕ) → n % 2 ≡ digit (bit n 0)
low n = sym (ap digit (bit_zero n) ∙ digit-eqb (n % 2) (mod-lt n (zero-lt-suc 1)))

-- of a number that is given by both
module _ (n r : ℕ) (b : Bool) (e : n ≡ r * 2 + digit b) where
  half_of : n / 2 ≡ r
  half_of = ap (λ (x : ℕ). x / 2) e ∙ digits_div r (digit_lt b)

  low_of : bit n 0 ≡ b
  low_of = bit_zero n ∙ ap (λ (x : ℕ). eqb (x % 2) 1) e ∙ ap (λ (x : ℕ). eqb x 1) (digits_mod r (digit_lt b)) ∙ eqb-digit b

half_below : (k n : ℕ) → n < 2 ^ suc k → n / 2 < 2 ^ k
half_below k n h = omega (arith, pow-suc 2 k)

-- ---- 0, a number below 2 ^ k, and 2 ^ a

pub bit_none : (i : ℕ) → bit 0 i ≡ false
bit_none i = ap (λ (x : ℕ). eqb (x % 2) 1) (zero-div (2 ^ i))

pub bit_above : (k x i : ℕ) → x < 2 ^ k → k ≤ i → bit x i ≡ false
bit_above k x i h l = ap (λ (y : ℕ). eqb (y % 2) 1) (div-eq_of_lt (lt_of_lt_of_le h (pow_mono l)))

pub bit_pow : (a i : ℕ) → bit (2 ^ a) i ≡ eqb i a
bit_pow zero zero = refl
bit_pow zero (suc i) = bit_suc 1 i ∙ bit_none i ∙ sym (eqb-suc-zero i)
bit_pow (suc a) zero = low_of (2 ^ suc a) (2 ^ a) false (omega (arith, pow-suc 2 a)) ∙ sym (eqb-zero-suc a)
bit_pow (suc a) (suc i) =
    bit_suc (2 ^ suc a) i ∙ ap (λ (x : ℕ). bit x i) (half_of (2 ^ suc a) (2 ^ a) false (omega (arith, pow-suc 2 a))) ∙ bit_pow a i
    ∙ sym (eqb-suc-suc i a)

-- a number with k more bits below it: those of the second below k, and those of the first from there on
pub bit_low : (a k r i : ℕ) → i < k → bit (a * 2 ^ k + r) i ≡ bit r i
bit_low a zero r i h = absurd (not-suc-le-zero h)
bit_low a (suc k) r zero h = bit_zero (a * 2 ^ suc k + r) ∙ ap (λ (x : ℕ). eqb x 1) (block_odd a k r) ∙ sym (bit_zero r)
bit_low a (suc k) r (suc i) h =
    bit_suc (a * 2 ^ suc k + r) i ∙ ap (λ (x : ℕ). bit x i) (block_half a k r) ∙ bit_low a k (r / 2) i (le_of_suc-le-suc h) ∙ sym (bit_suc r i)

pub bit_high : (a k r i : ℕ) → r < 2 ^ k → k ≤ i → bit (a * 2 ^ k + r) i ≡ bit a (i - k)
bit_high a k r i h l =
    let e : i ≡ k + (i - k) = omega arith in
    ap (bit (a * 2 ^ k + r)) e
    ∙ ap (λ (x : ℕ). eqb (x % 2) 1) (sym (shr-shr (a * 2 ^ k + r) k (i - k)) ∙ ap (λ (x : ℕ). x / 2 ^ (i - k)) (high a k h))

-- ---- the number with given bits

pub bit-bits_of : (k : ℕ) (p : ℕ → Bool) (i : ℕ) → i < k → bit (bits_of k p) i ≡ p i
unfolding bits_of
bit-bits_of zero p i h = absurd (not-suc-le-zero h)
bit-bits_of (suc k) p zero h = low_of (bits_of (suc k) p) (bits_of k (λ j. p (suc j))) (p 0) refl
bit-bits_of (suc k) p (suc i) h =
    bit_suc (bits_of (suc k) p) i ∙ ap (λ (x : ℕ). bit x i) (half_of (bits_of (suc k) p) (bits_of k (λ j. p (suc j))) (p 0) refl)
    ∙ bit-bits_of k (λ j. p (suc j)) i (le_of_suc-le-suc h)

pub bits_of_lt : (k : ℕ) (p : ℕ → Bool) → bits_of k p < 2 ^ k
unfolding bits_of
bits_of_lt zero p = omega arith
bits_of_lt (suc k) p = omega (arith, pow-suc 2 k, bits_of_lt k (λ j. p (suc j)), digit_lt (p 0))

pub bits_of_same : (k : ℕ) (p q : ℕ → Bool) → ((i : ℕ) → i < k → p i ≡ q i) → bits_of k p ≡ bits_of k q
unfolding bits_of
bits_of_same zero p q h = refl
bits_of_same (suc k) p q h =
    ap₂ (λ (x : ℕ) (b : Bool). x * 2 + digit b)
    (bits_of_same k (λ j. p (suc j)) (λ j. q (suc j)) (λ j g. h (suc j) (omega arith))) (h 0 (omega arith))

-- a number is made of its bits
pub bits_of-bit : (k n : ℕ) → n < 2 ^ k → bits_of k (bit n) ≡ n
unfolding bits_of
bits_of-bit zero n h = sym (lt-one h)
bits_of-bit (suc k) n h =
    ap₂ (λ (x y : ℕ). x * 2 + y)
    (bits_of_same k (λ j. bit n (suc j)) (bit (n / 2)) (λ j g. bit_suc n j) ∙ bits_of-bit k (n / 2) (half_below k n h)) (sym (low n))
    ∙ div-add-mod' n 2

-- so two numbers with the same bits are equal
pub bits_of_is : (k x : ℕ) (p : ℕ → Bool) → x < 2 ^ k → ((i : ℕ) → i < k → bit x i ≡ p i) → bits_of k p ≡ x
bits_of_is k x p h e = sym (bits_of_same k (bit x) p e) ∙ bits_of-bit k x h

pub bits_same : (k x y : ℕ) → x < 2 ^ k → y < 2 ^ k → ((i : ℕ) → i < k → bit x i ≡ bit y i) → x ≡ y
bits_same k x y h l e = sym (bits_of_is k x (bit y) h e) ∙ bits_of-bit k y l

pub zero_bits : (k x : ℕ) → x < 2 ^ k → ((i : ℕ) → i < k → bit x i ≡ false) → x ≡ 0
zero_bits k x h e = bits_same k x 0 h (pow_pos k) (λ i l. e i l ∙ sym (bit_none i))

below_pow : (n : ℕ) → n < 2 ^ n
below_pow zero = omega arith
below_pow (suc n) = omega (arith, pow-suc 2 n, below_pow n)

pub bits_equal : (x y : ℕ) → ((i : ℕ) → bit x i ≡ bit y i) → x ≡ y
bits_equal x y e =
    bits_same (x + y) x y (lt_of_lt_of_le (below_pow x) (pow_mono (omega arith))) (lt_of_lt_of_le (below_pow y) (pow_mono (omega arith)))
    (λ i l. e i)

-- ---- the operations, bit by bit

-- an operation on numbers that goes through them digit by digit, lowest first, does so bit by bit
module _ (op f : ℕ → ℕ → ℕ) (on : Bool → Bool → Bool)
    (step : (a b : ℕ) → op a b ≡ op (a / 2) (b / 2) * 2 + f (a % 2) (b % 2))
    (both : f 1 1 ≡ digit (on true true)) (first : f 1 0 ≡ digit (on true false))
    (second : f 0 1 ≡ digit (on false true)) (neither : f 0 0 ≡ digit (on false false)) where
  digits : (p q : Bool) → f (digit p) (digit q) ≡ digit (on p q)
  digits true true = both
  digits true false = first
  digits false true = second
  digits false false = neither

  split : (a b : ℕ) → op a b ≡ op (a / 2) (b / 2) * 2 + digit (on (bit a 0) (bit b 0))
  split a b = step a b ∙ ap (λ (x : ℕ). op (a / 2) (b / 2) * 2 + x) (ap₂ f (low a) (low b) ∙ digits (bit a 0) (bit b 0))

  bit_op : (a b i : ℕ) → bit (op a b) i ≡ on (bit a i) (bit b i)
  bit_op a b zero = low_of (op a b) (op (a / 2) (b / 2)) (on (bit a 0) (bit b 0)) (split a b)
  bit_op a b (suc i) =
      bit_suc (op a b) i ∙ ap (λ (x : ℕ). bit x i) (half_of (op a b) (op (a / 2) (b / 2)) (on (bit a 0) (bit b 0)) (split a b))
      ∙ bit_op (a / 2) (b / 2) i ∙ sym (ap₂ on (bit_suc a i) (bit_suc b i))

pub bit-and : (a b i : ℕ) → bit (bit_and a b) i ≡ (bit a i && bit b i)
bit-and = bit_op bit_and min ◌&&◌ and_step refl refl refl refl

pub bit-or : (a b i : ℕ) → bit (bit_or a b) i ≡ (bit a i || bit b i)
bit-or = bit_op bit_or max ◌||◌ or_step refl refl refl refl

pub bit-xor : (a b i : ℕ) → bit (bit_xor a b) i ≡ xor (bit a i) (bit b i)
unfolding xor
bit-xor = bit_op bit_xor differ xor xor_step refl refl refl refl

pub bit-difference : (a b i : ℕ) → bit (difference a b) i ≡ (bit a i && not (bit b i))
bit-difference a b i = bit-xor a (bit_and a b) i ∙ ap (xor (bit a i)) (bit-and a b i) ∙ less (bit a i) (bit b i)
  where
    less : (p q : Bool) → xor p (p && q) ≡ (p && not q)
    less true true = unfold xor in refl
    less true false = unfold xor in refl
    less false q = unfold xor in refl

pub difference_none : (a : ℕ) → difference a 0 ≡ a
difference_none a = bits_equal (difference a 0) a (λ i. bit-difference a 0 i ∙ ap (λ (t : Bool). bit a i && not t) (bit_none i) ∙ and-true (bit a i))

pub none_difference : (b : ℕ) → difference 0 b ≡ 0
none_difference b = bits_equal (difference 0 b) 0 (λ i. bit-difference 0 b i ∙ ap (λ (t : Bool). t && not (bit b i)) (bit_none i) ∙ sym (bit_none i))

pub difference_lt : (k a b : ℕ) → a < 2 ^ k → difference a b < 2 ^ k
difference_lt k a b h = xor_lt k a (bit_and a b) h (lt_of_le_of_lt (and_le_l a b) h)

-- of two numbers with given bits
module _ (k : ℕ) (p q : ℕ → Bool) where
  op_bits_of : (op : ℕ → ℕ → ℕ) (on : Bool → Bool → Bool) → ((a b i : ℕ) → bit (op a b) i ≡ on (bit a i) (bit b i))
      → (bits_of k p < 2 ^ k → bits_of k q < 2 ^ k → op (bits_of k p) (bits_of k q) < 2 ^ k)
      → op (bits_of k p) (bits_of k q) ≡ bits_of k (λ j. on (p j) (q j))
  op_bits_of op on law bound =
      sym (bits_of_is k (op (bits_of k p) (bits_of k q)) (λ j. on (p j) (q j)) (bound (bits_of_lt k p) (bits_of_lt k q))
      (λ i h. law (bits_of k p) (bits_of k q) i ∙ ap₂ on (bit-bits_of k p i h) (bit-bits_of k q i h)))

  pub and-bits_of : bit_and (bits_of k p) (bits_of k q) ≡ bits_of k (λ j. p j && q j)
  and-bits_of = op_bits_of bit_and ◌&&◌ bit-and (and_lt k (bits_of k p) (bits_of k q))

  pub or-bits_of : bit_or (bits_of k p) (bits_of k q) ≡ bits_of k (λ j. p j || q j)
  or-bits_of = op_bits_of bit_or ◌||◌ bit-or (or_lt k (bits_of k p) (bits_of k q))

  pub difference-bits_of : difference (bits_of k p) (bits_of k q) ≡ bits_of k (λ j. p j && not (q j))
  difference-bits_of = op_bits_of difference (λ a b. a && not b) bit-difference (λ h l. difference_lt k (bits_of k p) (bits_of k q) h)

-- the members below k that a set lacks
pub not-bits_of : (k : ℕ) (p : ℕ → Bool) → 2 ^ k - 1 - bits_of k p ≡ bits_of k (λ j. not (p j))
unfolding bits_of
not-bits_of zero p = refl
not-bits_of (suc k) p = omega (arith, pow-suc 2 k, not-bits_of k (λ j. p (suc j)), bits_of_lt k (λ j. p (suc j)), flip (p 0))
  where
    flip : (b : Bool) → digit b + digit (not b) ≡ 1
    flip true = refl
    flip false = refl

pub bit_not : (k b i : ℕ) → b < 2 ^ k → i < k → bit (2 ^ k - 1 - b) i ≡ not (bit b i)
bit_not k b i h l =
    ap (λ (x : ℕ). bit (2 ^ k - 1 - x) i) (sym (bits_of-bit k b h)) ∙ ap (λ (x : ℕ). bit x i) (not-bits_of k (bit b))
    ∙ bit-bits_of k (λ j. not (bit b j)) i l

-- ---- no bit, every bit, the bits below m, one bit

pub bits_of_none : (k : ℕ) (p : ℕ → Bool) → ((i : ℕ) → i < k → p i ≡ false) → bits_of k p ≡ 0
bits_of_none k p h = bits_of_is k 0 p (pow_pos k) (λ i l. bit_none i ∙ sym (h i l))

pub bit_ones : (m i : ℕ) → bit (2 ^ m - 1) i ≡ ltb i m
bit_ones m i = go (dec_lt i m)
  where
    go : Dec (i < m) → bit (2 ^ m - 1) i ≡ ltb i m
    go (yes l) =
        ap (λ (x : ℕ). bit x i) (sym (sub-zero (2 ^ m - 1))) ∙ bit_not m 0 i (pow_pos m) l ∙ ap not (bit_none i) ∙ sym (lt-ltb i m l)
    go (no l) = bit_above m (2 ^ m - 1) i (ones_lt m) (omega arith) ∙ sym (le-ltb i m (omega arith))

pub bits_of_all : (k : ℕ) (p : ℕ → Bool) → ((i : ℕ) → i < k → p i ≡ true) → bits_of k p ≡ 2 ^ k - 1
bits_of_all k p h = bits_of_is k (2 ^ k - 1) p (ones_lt k) (λ i l. bit_ones k i ∙ lt-ltb i k l ∙ sym (h i l))

pub bits_of_below : (k m : ℕ) → m ≤ k → bits_of k (λ j. ltb j m) ≡ 2 ^ m - 1
bits_of_below k m h = bits_of_is k (2 ^ m - 1) (λ j. ltb j m) (lt_of_lt_of_le (ones_lt m) (pow_mono h)) (λ i l. bit_ones m i)

pub bits_of_one : (k a : ℕ) → a < k → bits_of k (λ j. eqb j a) ≡ 2 ^ a
bits_of_one k a h = bits_of_is k (2 ^ a) (λ j. eqb j a) (pow-lt h) (λ i l. bit_pow a i)

-- ---- equations of sets

pub or_assoc : (a b c : ℕ) → bit_or (bit_or a b) c ≡ bit_or a (bit_or b c)
or_assoc a b c =
    bits_equal (bit_or (bit_or a b) c) (bit_or a (bit_or b c))
    (λ i. bit-or (bit_or a b) c i ∙ ap (λ (t : Bool). t || bit c i) (bit-or a b i) ∙ or_assoc_bool (bit a i) (bit b i) (bit c i)
    ∙ ap (λ (t : Bool). bit a i || t) (sym (bit-or b c i)) ∙ sym (bit-or a (bit_or b c) i))

-- a set with an attribute that is in it is the set itself
pub or_member : (x a : ℕ) → bit x a ≡ true → bit_or x (2 ^ a) ≡ x
or_member x a e = bits_equal (bit_or x (2 ^ a)) x (λ i. bit-or x (2 ^ a) i ∙ ap (λ (t : Bool). bit x i || t) (bit_pow a i) ∙ go i (ℕ_discrete i a))
  where
    go : (i : ℕ) → Dec (i ≡ a) → (bit x i || eqb i a) ≡ bit x i
    go i (yes s) = rw (s, e) refl
    go i (no s) = rw (ne_eqb i a s) (or-false (bit x i))

-- sets are equal exactly where their symmetric difference is empty
pub xor_same : (x y : ℕ) → bit_xor x y ≡ 0 → x ≡ y
xor_same x y e = omega (arith, xor_add_and x y, and_le_l x y, and_le_r x y)

pub xor_zero : (x y : ℕ) → eqb (bit_xor x y) 0 ≡ eqb x y
xor_zero x y = go (ℕ_discrete x y)
  where
    go : Dec (x ≡ y) → eqb (bit_xor x y) 0 ≡ eqb x y
    go (yes e) = eq-eqb (bit_xor x y) 0 (ap (λ (z : ℕ). bit_xor z y) e ∙ xor_self y) ∙ sym (eq-eqb x y e)
    go (no e) = ne_eqb (bit_xor x y) 0 (λ z. e (xor_same x y z)) ∙ sym (ne_eqb x y e)

-- a union is empty where both sets are
pub or_none : (x y : ℕ) → eqb (bit_or x y) 0 ≡ (eqb x 0 && eqb y 0)
or_none x y = go (ℕ_discrete x 0)
  where
    go : Dec (x ≡ 0) → eqb (bit_or x y) 0 ≡ (eqb x 0 && eqb y 0)
    go (yes e) = ap (λ (z : ℕ). eqb (bit_or z y) 0) e ∙ sym (ap (λ (t : Bool). t && eqb y 0) (eq-eqb x 0 e))
    go (no e) =
        ne_eqb (bit_or x y) 0 (λ z. e (omega (arith, or_add_and x y, and_le_l x y, and_le_r x y)))
        ∙ sym (ap (λ (t : Bool). t && eqb y 0) (ne_eqb x 0 e))

-- x is a subset of y: their difference is empty, every bit of x is one of y, their intersection is x
pub subset-bit : (x y : ℕ) → difference x y ≡ 0 → (i : ℕ) → bit x i ≡ true → bit y i ≡ true
subset-bit x y e i t = go (bit y i) refl
  where
    go : (b : Bool) → bit y i ≡ b → bit y i ≡ true
    go true h = h
    go false h =
        let f = ap (λ (z : ℕ). bit z i) (sym e) ∙ bit-difference x y i in
        absurd (false≢true (sym (bit_none i) ∙ f ∙ ap₂ (λ (p q : Bool). p && not q) t h))

pub subset-and : (x y : ℕ) → difference x y ≡ 0 → bit_and x y ≡ x
subset-and x y e = sym (xor_same x (bit_and x y) e)

-- a set x without its member a
module _ (x a : ℕ) (member : bit x a ≡ true) where
  -- all of x is in y where a is, and the rest
  pub subset_without : (y : ℕ) → subset x y ≡ (bit y a && subset (difference x (2 ^ a)) y)
  subset_without y = go (bit y a) refl
    where
      same : bit y a ≡ true → (i : ℕ) → Dec (i ≡ a) → (bit x i && not (bit y i)) ≡ ((bit x i && not (eqb i a)) && not (bit y i))
      same e i (yes s) = rw (s, e, eq-eqb a a, member) refl
      same e i (no s) = rw (ne_eqb i a s, and-true) refl

      go : (b : Bool) → bit y a ≡ b → subset x y ≡ (b && subset (difference x (2 ^ a)) y)
      go true e =
          ap (λ (z : ℕ). eqb z 0)
          (bits_equal (difference x y) (difference (difference x (2 ^ a)) y)
          (λ i. bit-difference x y i ∙ same e i (ℕ_discrete i a)
          ∙ sym
          (bit-difference (difference x (2 ^ a)) y i
          ∙ ap (λ (t : Bool). t && not (bit y i)) (bit-difference x (2 ^ a) i ∙ ap (λ (t : Bool). bit x i && not t) (bit_pow a i)))))
      go false e =
          ne_eqb (difference x y) 0
          (λ z. false≢true
          (sym (bit_none a) ∙ ap (λ (n : ℕ). bit n a) (sym z) ∙ bit-difference x y a ∙ ap₂ (λ (p q : Bool). p && not q) member e))

  -- the rest is less, as a number
  pub without_less : difference x (2 ^ a) < x
  without_less =
      let one : bit (bit_and x (2 ^ a)) a ≡ true = bit-and x (2 ^ a) a ∙ ap₂ ◌&&◌ member (bit_pow a a ∙ eq-eqb a a refl) in
      let again : bit_and x (bit_and x (2 ^ a)) ≡ bit_and x (2 ^ a) =
      bits_equal (bit_and x (bit_and x (2 ^ a))) (bit_and x (2 ^ a))
      (λ i. bit-and x (bit_and x (2 ^ a)) i ∙ ap (◌&&◌ (bit x i)) (bit-and x (2 ^ a) i) ∙ twice (bit x i) (bit (2 ^ a) i) ∙ sym (bit-and x (2 ^ a) i)) in
      omega (arith, xor_add_and x (bit_and x (2 ^ a)), positive (bit_and x (2 ^ a)) one)
    where
      twice : (p q : Bool) → (p && (p && q)) ≡ (p && q)
      twice true q = refl
      twice false q = refl

      positive : (z : ℕ) → bit z a ≡ true → 0 < z
      positive z e = go (ℕ_discrete z 0)
        where
          go : Dec (z ≡ 0) → 0 < z
          go (yes s) = absurd (false≢true (sym (bit_none a) ∙ ap (λ (n : ℕ). bit n a) (sym s) ∙ e))
          go (no s) = omega arith

-- a set of numbers below k has a member at or above m (`has_from`, where k is 64)
pub from_member : (k x m : ℕ) → x < 2 ^ k → (some_below (λ a. leb m a && bit x a) k ≡ true) ↔ ((a : ℕ) × (m ≤ a) × (bit x a ≡ true))
from_member k x m h = (
  λ e.
      let s = some_at (λ a. leb m a && bit x a) k e in
      let p = (and-eq-true_iff (leb m s.0) (bit x s.0)).0 s.2 in
      (s.0, leb-true m s.0 p.0, p.1),
  λ q. go q.0 q.1 q.2 (dec_lt q.0 k),
)
  where
    go : (a : ℕ) → m ≤ a → bit x a ≡ true → Dec (a < k) → some_below (λ i. leb m i && bit x i) k ≡ true
    go a l e (yes b) = at_some (λ i. leb m i && bit x i) k a b (ap₂ ◌&&◌ (le-leb m a l) e)
    go a l e (no b) = absurd (false≢true (sym (bit_above k x a h (omega arith)) ∙ e))

-- ---- the machine's shift and counts

-- 1 shifted left by a in a word of k bits
pub shl_one : (k a : ℕ) → a < k → (1 * 2 ^ a) % 2 ^ k ≡ 2 ^ a
shl_one k a h = shl_exact 1 a k (omega arith) (omega arith) ∙ one-mul (2 ^ a)

-- shifted right by m, a number has the bits from m on, and is 0 where there are none
pub bit_shifted : (x m i : ℕ) → bit (x / 2 ^ m) i ≡ bit x (m + i)
bit_shifted x m i = ap (λ (y : ℕ). eqb (y % 2) 1) (shr-shr x m i)

pub shifted_from : (k x m : ℕ) → x < 2 ^ k → not (eqb (x / 2 ^ m) 0) ≡ some_below (λ a. leb m a && bit x a) k
shifted_from k x m h = go (some_below (λ a. leb m a && bit x a) k) refl
  where
    go : (b : Bool) → some_below (λ a. leb m a && bit x a) k ≡ b → not (eqb (x / 2 ^ m) 0) ≡ b
    go true e =
        let s = (from_member k x m h).0 e in
        let above : m + (s.0 - m) ≡ s.0 = let l = s.1 in omega arith in
        let one : bit (x / 2 ^ m) (s.0 - m) ≡ true = bit_shifted x m (s.0 - m) ∙ ap (bit x) above ∙ s.2 in
        ap not (ne_eqb (x / 2 ^ m) 0 (λ z. false≢true (sym (bit_none (s.0 - m)) ∙ ap (λ (y : ℕ). bit y (s.0 - m)) (sym z) ∙ one)))
    go false e =
        ap not
        (eq-eqb (x / 2 ^ m) 0
        (zero_bits k (x / 2 ^ m) (lt_of_le_of_lt (div-le_self x (2 ^ m)) h) (λ i l. bit_shifted x m i ∙ none i (bit x (m + i)) refl)))
      where
        none : (i : ℕ) (t : Bool) → bit x (m + i) ≡ t → t ≡ false
        none i true s = absurd (false≢true (sym e ∙ (from_member k x m h).1 (m + i, omega arith, s)))
        none i false s = refl

-- trailing_zeros is the lowest bit that is 1
pub trailing_first : (k x : ℕ) → x < 2 ^ k → x ≢ 0 → First (bit x) k (count_trailing_zeros k x)
unfolding count_trailing_zeros
trailing_first zero x h e = absurd (e (lt-one h))
trailing_first (suc k) x h e = go (x % 2) (count_trailing_zeros k (x / 2)) refl (trailing_first k (x / 2) (half_below k x h))
  where
    go : (d t : ℕ) → x % 2 ≡ d → (x / 2 ≢ 0 → First (bit (x / 2)) k t) → First (bit x) (suc k) (under d t)
    go zero t l ih =
        let r = ih (λ z. e (omega arith)) in
        record {
          below = omega arith;
          holds = bit_suc x t ∙ r.holds;
          before = elim [ zero ↦ λ g. bit_zero x ∙ ap (λ (d : ℕ). eqb d 1) l | suc j ↦ λ g. bit_suc x j ∙ r.before j (le_of_suc-le-suc g) ];
        }
    go (suc d) t l ih =
        let one : x % 2 ≡ 1 = omega arith in
        record { below = omega arith; holds = bit_zero x ∙ ap (λ (d : ℕ). eqb d 1) one; before = λ j g. absurd (not-suc-le-zero g) }

-- of a number shifted right by m: it is among the k - m bits that are left
pub shifted_first : (k x m : ℕ) → x < 2 ^ k → x / 2 ^ m ≢ 0 → First (bit (x / 2 ^ m)) (k - m) (count_trailing_zeros k (x / 2 ^ m))
shifted_first k x m h e = record { below = go (dec_lt (count_trailing_zeros k (x / 2 ^ m)) (k - m)); holds = r.holds; before = r.before }
  where
    r : First (bit (x / 2 ^ m)) k (count_trailing_zeros k (x / 2 ^ m))
    r = trailing_first k (x / 2 ^ m) (lt_of_le_of_lt (div-le_self x (2 ^ m)) h) e

    go : Dec (count_trailing_zeros k (x / 2 ^ m) < k - m) → count_trailing_zeros k (x / 2 ^ m) < k - m
    go (yes l) = l
    go (no l) =
        absurd (false≢true
        (sym (bit_above k x (m + count_trailing_zeros k (x / 2 ^ m)) h (omega arith)) ∙ sym (bit_shifted x m (count_trailing_zeros k (x / 2 ^ m))) ∙ r.holds))

pub trailing_lowest : (k x : ℕ) → x < 2 ^ k → x ≢ 0 → lowest (bit x) k ≡ Some (count_trailing_zeros k x)
trailing_lowest k x h e = at_lowest (bit x) k (count_trailing_zeros k x) (trailing_first k x h e)

pub trailing_member : (x : ℕ) → x < 2 ^ 64 → x ≢ 0 → lowest_member x ≡ count_trailing_zeros 64 x
trailing_member x h e = ap found_or_0 (trailing_lowest 64 x h e)

-- count_ones is how many bits are 1
pub ones_count : (k n : ℕ) → n < 2 ^ k → ones n ≡ count_below (bit n) k
unfolding ones
ones_count zero n h = ap ones (lt-one h)
ones_count (suc k) n h =
    ones_step n
    ∙ ap₂ ◌+◌ (low n ∙ same (bit n 0))
    (ones_count k (n / 2) (half_below k n h) ∙ count_same (bit (n / 2)) (λ j. bit n (suc j)) k (λ j g. sym (bit_suc n j)))
    ∙ sym (count_head (bit n) k)
  where
    same : (b : Bool) → digit b ≡ cond b 1 0
    same true = refl
    same false = refl

-- ---- a loop that joins member after member

-- the numbers below a of which the test holds, and a besides if it holds of a
pub one_more : (test : ℕ → Bool) (a i x : ℕ) → bit x i ≡ (ltb i a && test i)
    → bit (cond (test a) (bit_or x (2 ^ a)) x) i ≡ (ltb i (a + 1) && test i)
one_more test a i x e = choose (test a) ∙ place (dec_lt i a) (ℕ_discrete i a)
  where
    choose : (t : Bool) → bit (cond t (bit_or x (2 ^ a)) x) i ≡ ((ltb i a && test i) || (eqb i a && t))
    choose true = bit-or x (2 ^ a) i ∙ ap₂ ◌||◌ e (bit_pow a i ∙ sym (and-true (eqb i a)))
    choose false = e ∙ sym (ap (λ (t : Bool). (ltb i a && test i) || t) (and-false (eqb i a)) ∙ or-false (ltb i a && test i))

    place : Dec (i < a) → Dec (i ≡ a) → ((ltb i a && test i) || (eqb i a && test a)) ≡ (ltb i (a + 1) && test i)
    place (yes l) d = rw (lt-ltb i a l, ne_eqb i a (omega arith), lt-ltb i (a + 1) (omega arith)) (or-false (test i))
    place (no l) (yes d) = rw (le-ltb i a (omega arith), eq-eqb i a d, lt-ltb i (a + 1) (omega arith), d)
    place (no l) (no d) = rw (le-ltb i a (omega arith), ne_eqb i a d, le-ltb i (a + 1) (omega arith))

-- those below k are the bits of a number below 2 ^ k
pub all_below : (test : ℕ → Bool) (k x : ℕ) → ((i : ℕ) → bit x i ≡ (ltb i k && test i)) → x ≡ bits_of k test
all_below test k x e = bits_equal x (bits_of k test) (λ i. e i ∙ own i (dec_lt i k))
  where
    own : (i : ℕ) → Dec (i < k) → (ltb i k && test i) ≡ bit (bits_of k test) i
    own i (yes l) = rw (lt-ltb i k l) (sym (bit-bits_of k test i l))
    own i (no l) = rw (le-ltb i k (omega arith)) (sym (bit_above k (bits_of k test) i (bits_of_lt k test) (omega arith)))
