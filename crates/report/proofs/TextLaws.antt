-- Laws of specs/Text: decimals, the numbers in a line, and that a line says its word and its numbers.
use Prim.Native.Nat.{ℕ, zero, suc, ◌+◌, ◌-◌, ◌*◌, ◌/◌, ◌%◌, ◌^◌, ◌≤◌, ◌<◌}
use mathlib.Core.Path.{◌≡◌, refl, sym, ap, ap₂, ◌∙◌}
use mathlib.Core.Logic.{◌↔◌}
use mathlib.Core.Bool.{Bool, true, false, ◌&&◌, false≢true}
use mathlib.Core.List.{List, [], ◌∷◌, ◌++◌, append_assoc, append-nil, tail}
use native.Mathlib.Nat.{div-add-mod', mod-lt, pow-suc, le_of_suc-le-suc, not-suc-le-zero}
use native.Mathlib.Decide.{dec_lt}
use native.Mathlib.Omega.{arith}
use lib.ListN.{length, get_or, length-append}
use lib.Dec.{leb, ltb, eqb}
use borrow.Author.Tests.{lt-ltb, le-ltb, ltb-false, leb-true, le-leb, lt-leb, eq-eqb, eqb-true, ne_eqb}
use Rattle.report.specs.Text.{digits, digits_or, decimal, spaced, line, same, is_digit, numbers_from, numbers_in}
use Rattle.report.proofs.ValueLaws.{strong}

-- ---- tests of every element of a list

-- two tests together
pub both : {a b : Bool} → a ≡ true → b ≡ true → (a && b) ≡ true
both p q = rw (p, q)

pub both_true : (a b : Bool) → (a && b) ≡ true → (a ≡ true) × (b ≡ true)
both_true true b e = (refl, e)
both_true false b e = absurd (false≢true e)

-- the test holds of every element
abbrev pub every : {A : Type 0} → (A → Bool) → List A → Bool
every test [] = true
every test (x ∷ xs) = test x && every test xs

module _ {A : Type 0} (test : A → Bool) where
  -- of lists one after another
  pub every_append : (xs ys : List A) → every test xs ≡ true → every test ys ≡ true → every test (xs ++ ys) ≡ true
  every_append [] ys p q = q
  every_append (x ∷ xs) ys p q = let h = both_true (test x) (every test xs) p in both h.0 (every_append xs ys h.1 q)

  -- it holds at each place, and is shown so
  pub every_at : (d : A) (xs : List A) → every test xs ≡ true → (i : ℕ) → i < length xs → test (get_or xs i d) ≡ true
  every_at d [] e i h = absurd (not-suc-le-zero h)
  every_at d (x ∷ xs) e zero h = (both_true (test x) (every test xs) e).0
  every_at d (x ∷ xs) e (suc i) h = every_at d xs (both_true (test x) (every test xs) e).1 i (le_of_suc-le-suc h)

  pub at_every : (d : A) (xs : List A) → ((i : ℕ) → i < length xs → test (get_or xs i d) ≡ true) → every test xs ≡ true
  at_every d [] h = refl
  at_every d (x ∷ xs) h = both (h 0 (omega arith)) (at_every d xs (λ i l. h (suc i) (omega arith)))

  -- a test that follows
  pub every_so : (other : A → Bool) → ((x : A) → test x ≡ true → other x ≡ true) → (xs : List A) → every test xs ≡ true → every other xs ≡ true
  every_so other h [] e = refl
  every_so other h (x ∷ xs) e = let g = both_true (test x) (every test xs) e in both (h x g.0) (every_so other h xs g.1)

-- ---- decimals

tenth_less : (n k : ℕ) → 10 ≤ n → n ≤ suc k → n / 10 ≤ k
tenth_less n k h g = omega (arith, div-add-mod' n 10)

digits_small : (k n : ℕ) → n < 10 → digits k n ≡ (48 + n) ∷ []
digits_small zero n h = refl
digits_small (suc k) n h = rw (lt-ltb n 10 h)

-- every bound that is at least the number gives its digits
digits_same : (k m n : ℕ) → n ≤ k → n ≤ m → digits k n ≡ digits m n
digits_same zero m n h g = sym (digits_small m n (omega arith))
digits_same (suc k) zero n h g = digits_small (suc k) n (omega arith)
digits_same (suc k) (suc m) n h g = go (λ q. digits_same k m (n / 10) (tenth_less n k q h) (tenth_less n m q g)) (ltb n 10) refl
  where
    go : (10 ≤ n → digits k (n / 10) ≡ digits m (n / 10)) → (b : Bool) → ltb n 10 ≡ b
        → digits_or b n (digits k (n / 10)) ≡ digits_or b n (digits m (n / 10))
    go later true e = refl
    go later false e = rw (later (ltb-false n 10 e))

-- one digit
pub decimal_small : (n : ℕ) → n < 10 → decimal n ≡ (48 + n) ∷ []
unfolding decimal
decimal_small n h = digits_small n n h

-- the last digit stands after the decimal of the tenth part: the bound in `digits` is always enough
pub decimal_step : (n : ℕ) → 10 ≤ n → decimal n ≡ decimal (n / 10) ++ ((48 + n % 10) ∷ [])
unfolding decimal
decimal_step zero h = absurd (omega arith)
decimal_step (suc m) h =
    let e : digits m (suc m / 10) ≡ digits (suc m / 10) (suc m / 10) =
    digits_same m (suc m / 10) (suc m / 10) (tenth_less (suc m) m h (omega arith)) (omega arith) in
    rw (le-ltb (suc m) 10 h, e)

-- induction on the digits of a number
pub decimal_ind : (P : ℕ → List ℕ → Type 0) → ((n : ℕ) → n < 10 → P n ((48 + n) ∷ []))
    → ((n : ℕ) → 10 ≤ n → P (n / 10) (decimal (n / 10)) → P n (decimal (n / 10) ++ ((48 + n % 10) ∷ []))) → (n : ℕ) → P n (decimal n)
decimal_ind P one more = strong (λ n. P n (decimal n)) (λ n before. go n before (dec_lt n 10))
  where
    go : (n : ℕ) → ((k : ℕ) → k < n → P k (decimal k)) → Dec (n < 10) → P n (decimal n)
    go n before (yes l) = rw (decimal_small n l) (one n l)
    go n before (no l) =
        let h : 10 ≤ n = omega arith in
        rw (decimal_step n h) (more n h (before (n / 10) (omega (arith, div-add-mod' n 10))))

-- 48 and a value below 10 is a digit
pub digit_of : (n : ℕ) → n < 10 → is_digit (48 + n) ≡ true
digit_of n h = both (le-leb 48 (48 + n) (omega arith)) (le-leb (48 + n) 57 (omega arith))

-- every byte is a digit
pub decimal-digits : (n : ℕ) → every is_digit (decimal n) ≡ true
decimal-digits =
    decimal_ind (λ n ds. every is_digit ds ≡ true) (λ n h. both (digit_of n h) refl)
    (λ n h before. every_append is_digit (decimal (n / 10)) _ before (both (digit_of (n % 10) (mod-lt n (omega arith))) refl))

-- there is at least one
pub decimal-not_empty : (n : ℕ) → 0 < length (decimal n)
decimal-not_empty =
    decimal_ind (λ n ds. 0 < length ds) (λ n h. omega arith) (λ n h before. omega (arith, length-append (decimal (n / 10)) ((48 + n % 10) ∷ [])))

-- a number below the k-th power of 10 has at most k digits
pub decimal-length : (n k : ℕ) → 0 < k → n < 10 ^ k → length (decimal n) ≤ k
decimal-length = decimal_ind (λ n ds. (k : ℕ) → 0 < k → n < 10 ^ k → length ds ≤ k) (λ n h k p l. omega arith) more
  where
    more : (n : ℕ) → 10 ≤ n → ((k : ℕ) → 0 < k → n / 10 < 10 ^ k → length (decimal (n / 10)) ≤ k)
        → (k : ℕ) → 0 < k → n < 10 ^ k → length (decimal (n / 10) ++ ((48 + n % 10) ∷ [])) ≤ k
    more n h before zero p l = absurd (omega arith)
    more n h before (suc zero) p l = absurd (omega arith)
    more n h before (suc (suc k)) p l =
        let b = before (suc k) (omega arith) (omega (arith, pow-suc 10 (suc k), div-add-mod' n 10)) in
        omega (arith, length-append (decimal (n / 10)) ((48 + n % 10) ∷ []))

-- ---- the numbers in a text

-- a decimal is read back: what follows goes on from its value
pub decimal_value : (n v : ℕ) (rest : List ℕ) → numbers_from false v (decimal n ++ rest) ≡ numbers_from true n rest
decimal_value = decimal_ind (λ n ds. (v : ℕ) (rest : List ℕ) → numbers_from false v (ds ++ rest) ≡ numbers_from true n rest) one more
  where
    one : (n : ℕ) → n < 10 → (v : ℕ) (rest : List ℕ) → numbers_from false v ((48 + n) ∷ rest) ≡ numbers_from true n rest
    one n h v rest = let e : 48 + n - 48 ≡ n = omega arith in rw (digit_of n h, numbers_from) (rw e)

    more : (n : ℕ) → 10 ≤ n → ((v : ℕ) (rest : List ℕ) → numbers_from false v (decimal (n / 10) ++ rest) ≡ numbers_from true (n / 10) rest)
        → (v : ℕ) (rest : List ℕ) → numbers_from false v (decimal (n / 10) ++ ((48 + n % 10) ∷ []) ++ rest) ≡ numbers_from true n rest
    more n h before v rest =
        let e : n / 10 * 10 + (48 + n % 10 - 48) ≡ n = omega (arith, div-add-mod' n 10) in
        ap (numbers_from false v) (append_assoc (decimal (n / 10)) ((48 + n % 10) ∷ []) rest)
        ∙ before v ((48 + n % 10) ∷ rest)
        ∙ rw (digit_of (n % 10) (mod-lt n (omega arith)), numbers_from) (rw e)

-- a run of digits ends at any other byte
run_ends : (n b : ℕ) (rest : List ℕ) → is_digit b ≡ false → numbers_from true n (b ∷ rest) ≡ n ∷ numbers_from false 0 (b ∷ rest)
run_ends n b rest e = rw (e, numbers_from)

-- numbers, each after a space, are read back; a byte follows that is no digit
spaced_value : (ns : List ℕ) (b : ℕ) (rest : List ℕ) → is_digit b ≡ false
    → numbers_from false 0 (spaced ns ++ (b ∷ rest)) ≡ ns ++ numbers_from false 0 (b ∷ rest)
spaced_value [] b rest e = refl
spaced_value (n ∷ ns) b rest e =
    ap (numbers_from false 0) (append_assoc (decimal n) (spaced ns) (b ∷ rest))
    ∙ decimal_value n 0 (spaced ns ++ (b ∷ rest))
    ∙ after ns
    ∙ ap (λ (l : List ℕ). n ∷ l) (spaced_value ns b rest e)
  where
    after : (ms : List ℕ) → numbers_from true n (spaced ms ++ (b ∷ rest)) ≡ n ∷ numbers_from false 0 (spaced ms ++ (b ∷ rest))
    after [] = run_ends n b rest e
    after (m ∷ ms) = refl

-- ---- words and lines

-- a word is of small letters
abbrev pub is_letter : ℕ → Bool
is_letter b = leb 97 b && leb b 122

abbrev pub is_word : List ℕ → Bool
is_word = every is_letter

-- a letter is no other byte
pub other_byte : (b c : ℕ) → is_letter b ≡ true → is_letter c ≡ false → eqb b c ≡ false
other_byte b c h e = ne_eqb b c (λ q. false≢true (sym e ∙ rw (← q) h))

letter_no_digit : (b : ℕ) → is_letter b ≡ true → is_digit b ≡ false
letter_no_digit b h =
    let l = leb-true 97 b (both_true (leb 97 b) (leb b 122) h).0 in
    rw (le-leb 48 b (omega arith)) (lt-leb b 57 (omega arith))

-- the bytes of a line one after another
pub line_bytes : (word ns : List ℕ) → line word ns ≡ 40 ∷ (word ++ (spaced ns ++ (41 ∷ 10 ∷ [])))
line_bytes word ns = simp append_assoc

word_value : (word rest : List ℕ) → is_word word ≡ true → numbers_from false 0 (word ++ rest) ≡ numbers_from false 0 rest
word_value [] rest e = refl
word_value (b ∷ bs) rest e =
    let h = both_true (is_letter b) (is_word bs) e in
    rw (letter_no_digit b h.0, numbers_from) (word_value bs rest h.1)

-- the numbers in a line are those that it was made of
pub line_numbers : (word ns : List ℕ) → is_word word ≡ true → numbers_in (line word ns) ≡ ns
unfolding numbers_in
line_numbers word ns e =
    ap (numbers_from false 0) (line_bytes word ns)
    ∙ word_value word (spaced ns ++ (41 ∷ 10 ∷ [])) e
    ∙ spaced_value ns 41 (10 ∷ []) refl
    ∙ append-nil ns

-- the bytes up to the first that is no letter
abbrev letters : List ℕ → List ℕ
letters [] = []
letters (b ∷ bs) = elim (is_letter b) [ true ↦ b ∷ letters bs | false ↦ [] ]

letters_word : (word rest : List ℕ) (b : ℕ) → is_word word ≡ true → is_letter b ≡ false → letters (word ++ (b ∷ rest)) ≡ word
letters_word [] rest b e f = rw (f, letters)
letters_word (x ∷ xs) rest b e f =
    let h = both_true (is_letter x) (is_word xs) e in
    rw (h.0, letters) (ap (λ (l : List ℕ). x ∷ l) (letters_word xs rest b h.1 f))

line_word : (word ns : List ℕ) → is_word word ≡ true → letters (tail (line word ns)) ≡ word
line_word word ns e = ap (λ (l : List ℕ). letters (tail l)) (line_bytes word ns) ∙ go ns
  where
    go : (ms : List ℕ) → letters (word ++ (spaced ms ++ (41 ∷ 10 ∷ []))) ≡ word
    go [] = letters_word word (10 ∷ []) 41 e refl
    go (m ∷ ms) = letters_word word _ 32 e refl

-- a line says its word and its numbers
pub line_same : (v w ms ns : List ℕ) → is_word v ≡ true → is_word w ≡ true → line v ms ≡ line w ns → (v ≡ w) × (ms ≡ ns)
line_same v w ms ns p q e = (
  sym (line_word v ms p) ∙ ap (λ (l : List ℕ). letters (tail l)) e ∙ line_word w ns q,
  sym (line_numbers v ms p) ∙ ap numbers_in e ∙ line_numbers w ns q,
)

-- ---- the test of equality

-- the test is right
pub same_iff : (xs ys : List ℕ) → (same xs ys ≡ true) ↔ (xs ≡ ys)
same_iff xs ys = (to xs ys, λ e. rw (← e) (own xs))
  where
    to : (xs ys : List ℕ) → same xs ys ≡ true → xs ≡ ys
    to [] [] e = refl
    to [] (y ∷ ys) e = absurd (false≢true e)
    to (x ∷ xs) [] e = absurd (false≢true e)
    to (x ∷ xs) (y ∷ ys) e =
        let h = both_true (eqb x y) (same xs ys) e in
        ap₂ (λ (z : ℕ) (zs : List ℕ). z ∷ zs) (eqb-true x y h.0) (to xs ys h.1)

    own : (xs : List ℕ) → same xs xs ≡ true
    own [] = refl
    own (x ∷ xs) = both (eq-eqb x x refl) (own xs)
