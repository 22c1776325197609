-- What the scanner of specs/Scanning finds of a number: exactly its decimal.
use Prim.Native.Nat.{ℕ, suc, ◌+◌, ◌-◌, ◌*◌, ◌/◌, ◌%◌, ◌≤◌, ◌<◌}
use Rattle.std.specs.Prelude.{Result, Ok}
use Rattle.reading.specs.declared.Broken.{Broken}
use mathlib.Core.Path.{◌≡◌, refl, sym, ap, ap₂, ◌∙◌}
use mathlib.Core.Bool.{Bool, true, false}
use mathlib.Core.List.{List, [], ◌∷◌, ◌++◌, append_assoc, append-nil}
use native.Mathlib.Nat.{div-add-mod', mod-lt}
use native.Mathlib.Omega.{arith}
use lib.ListN.{length, length-append}
use lib.Dec.{leb, ltb}
use borrow.Author.Tests.{lt-ltb, ltb-true, leb-true, le-leb}
use Rattle.report.specs.Text.{decimal, is_digit}
use Rattle.report.proofs.TextLaws.{both, both_true, decimal_small, decimal_step, decimal_ind, digit_of}
use Rattle.reading.specs.Scanning.{broken, on_number, next_digit, more_digits, first_digit}
use Rattle.reading.proofs.ScanLaws.{goes_on}

-- ---- one digit more

-- the digit d after those of v
decimal_more : (v d : ℕ) → 0 < v → d < 10 → decimal (v * 10 + d) ≡ decimal v ++ ((48 + d) ∷ [])
decimal_more v d h l =
    let m : (v * 10 + d) % 10 < 10 = mod-lt (v * 10 + d) (omega arith) in
    let q : (v * 10 + d) / 10 ≡ v = omega (arith, div-add-mod' (v * 10 + d) 10) in
    let r : (v * 10 + d) % 10 ≡ d = omega (arith, div-add-mod' (v * 10 + d) 10) in
    decimal_step (v * 10 + d) (omega arith) ∙ ap₂ (λ (x y : ℕ). decimal x ++ ((48 + y) ∷ [])) q r

-- a digit is 48 and its value, which is below 10
digit_value : (b : ℕ) → is_digit b ≡ true → (48 + (b - 48) ≡ b) × (b - 48 < 10)
digit_value b e =
    let h = both_true (leb 48 b) (leb b 57) e in
    let l = leb-true 48 b h.0 in
    let u = leb-true b 57 h.1 in
    (omega arith, omega arith)

module _ (v at b : ℕ) (rest : List ℕ) where
  -- a byte that is no digit ends the number
  number_ends : is_digit b ≡ false → more_digits v at (b ∷ rest) ≡ Ok (v, at)
  unfolding more_digits next_digit
  number_ends e = rw e

  -- a digit that it cannot have breaks it
  number_over : is_digit b ≡ true → goes_on v b ≡ false → more_digits v at (b ∷ rest) ≡ broken at
  unfolding more_digits next_digit
  number_over e f = rw (e, f)

  -- any other digit goes on with it
  number_more : is_digit b ≡ true → goes_on v b ≡ true → more_digits v at (b ∷ rest) ≡ more_digits (v * 10 + (b - 48)) (suc at) rest
  unfolding more_digits next_digit
  number_more e f = rw (e, f)

-- ---- a number that was read is spelled there

-- The text goes on with digits that make the decimal of v that of w, and p is the position after them
record Continued (v w at p : ℕ) (text : List ℕ) : Type 0 where
  more : List ℕ
  rest : List ℕ
  value : decimal w ≡ decimal v ++ more
  holds : text ≡ more ++ rest
  place : p ≡ at + length more
  small : w ≤ 65535

module _ (w p : ℕ) where
  -- the number ends here
  continued_none : (text : List ℕ) (v at : ℕ) → v ≤ 65535 → ◌≡◌ {A = Result (ℕ × ℕ) Broken} (Ok (v, at)) (Ok (w, p)) → Continued v w at p text
  continued_none text v at h e =
      let a : v ≡ w = ap (λ (n : Result (ℕ × ℕ) Broken). on_number n (λ x q. x) (λ q. q)) e in
      let b : at ≡ p = ap (λ (n : Result (ℕ × ℕ) Broken). on_number n (λ x q. q) (λ q. q)) e in
      record {
        more = [];
        rest = text;
        value = ap decimal (sym a) ∙ sym (append-nil (decimal v));
        holds = refl;
        place = omega arith;
        small = omega arith;
      }

  -- what was read on from a value is spelled on from its decimal
  continued : (text : List ℕ) (v at : ℕ) → v ≤ 65535 → more_digits v at text ≡ Ok (w, p) → Continued v w at p text
  unfolding more_digits
  continued [] v at h e = continued_none [] v at h e
  continued (b ∷ rest) v at h e = step (λ x l f. continued rest x (suc at) l f) (is_digit b) (goes_on v b) refl refl
    where
      step : ((x : ℕ) → x ≤ 65535 → more_digits x (suc at) rest ≡ Ok (w, p) → Continued x w (suc at) p rest)
          → (d f : Bool) → is_digit b ≡ d → goes_on v b ≡ f → Continued v w at p (b ∷ rest)
      step later false f i j = continued_none (b ∷ rest) v at h (sym (number_ends v at b rest i) ∙ e)
      step later true false i j =
          let s = number_over v at b rest i j in cc
      step later true true i j =
          let x = v * 10 + (b - 48) in
          let k = both_true (ltb 0 v) (leb x 65535) j in
          let c = later x (leb-true x 65535 k.1) (sym (number_more v at b rest i j) ∙ e) in
          let d = digit_value b i in
          record {
            more = b ∷ c.more;
            rest = c.rest;
            value =
                c.value
                ∙ ap (λ (l : List ℕ). l ++ c.more) (decimal_more v (b - 48) (ltb-true 0 v k.0) d.1)
                ∙ append_assoc (decimal v) ((48 + (b - 48)) ∷ []) c.more
                ∙ ap (λ (y : ℕ). decimal v ++ (y ∷ c.more)) d.0;
            holds = ap (λ (l : List ℕ). b ∷ l) c.holds;
            place = omega (arith, c.place);
            small = c.small;
          }

-- The text starts with the decimal of w, and p is the position after it
pub record NumberRead (w at p : ℕ) (text : List ℕ) : Type 0 where
  pub rest : List ℕ
  pub holds : text ≡ decimal w ++ rest
  pub place : p ≡ at + length (decimal w)
  pub small : w ≤ 65535

-- a number that was read is one of at most 65535, and its decimal stands there
pub number_read : (text : List ℕ) (w at p : ℕ) → first_digit at text ≡ Ok (w, p) → NumberRead w at p text
unfolding first_digit
number_read [] w at p e = cc
number_read (b ∷ rest) w at p e = go (is_digit b) refl
  where
    go : (d : Bool) → is_digit b ≡ d → NumberRead w at p (b ∷ rest)
    go false i =
        let s : first_digit at (b ∷ rest) ≡ broken at = rw i in cc
    go true i =
        let s : first_digit at (b ∷ rest) ≡ more_digits (b - 48) (suc at) rest = rw i in
        let d = digit_value b i in
        let c = continued w p rest (b - 48) (suc at) (omega (arith, d.1)) (sym s ∙ e) in
        let f : decimal w ≡ b ∷ c.more =
        c.value ∙ ap (λ (l : List ℕ). l ++ c.more) (decimal_small (b - 48) d.1) ∙ ap (λ (x : ℕ). x ∷ c.more) d.0 in
        record {
          rest = c.rest;
          holds = ap (λ (l : List ℕ). b ∷ l) c.holds ∙ ap (λ (l : List ℕ). l ++ c.rest) (sym f);
          place = omega (arith, c.place, ap length f);
          small = c.small;
        }

-- ---- a number that is spelled is read

-- after the decimal of n its value goes on
digits_found : (n : ℕ) → n ≤ 65535 → (at : ℕ) (rest : List ℕ) → first_digit at (decimal n ++ rest) ≡ more_digits n (at + length (decimal n)) rest
unfolding first_digit
digits_found =
    decimal_ind (λ n ds. n ≤ 65535 → (at : ℕ) (rest : List ℕ) → first_digit at (ds ++ rest) ≡ more_digits n (at + length ds) rest) one more
  where
    one : (n : ℕ) → n < 10 → n ≤ 65535 → (at : ℕ) (rest : List ℕ) → first_digit at ((48 + n) ∷ rest) ≡ more_digits n (at + 1) rest
    one n h s at rest =
        let e : 48 + n - 48 ≡ n = omega arith in
        let f : suc at ≡ at + 1 = omega arith in
        rw (digit_of n h) (ap₂ (λ (x y : ℕ). more_digits x y rest) e f)

    more : (n : ℕ) → 10 ≤ n
        → (n / 10 ≤ 65535 → (at : ℕ) (rest : List ℕ)
        → first_digit at (decimal (n / 10) ++ rest) ≡ more_digits (n / 10) (at + length (decimal (n / 10))) rest)
        → n ≤ 65535 → (at : ℕ) (rest : List ℕ)
        → first_digit at (decimal (n / 10) ++ ((48 + n % 10) ∷ []) ++ rest)
        ≡ more_digits n (at + length (decimal (n / 10) ++ ((48 + n % 10) ∷ []))) rest
    more n h before s at rest =
        let q = div-add-mod' n 10 in
        let m : n % 10 < 10 = mod-lt n (omega arith) in
        let e : n / 10 * 10 + (48 + n % 10 - 48) ≡ n = omega arith in
        let f : suc (at + length (decimal (n / 10))) ≡ at + length (decimal (n / 10) ++ ((48 + n % 10) ∷ [])) =
        omega (arith, length-append (decimal (n / 10)) ((48 + n % 10) ∷ [])) in
        ap (first_digit at) (append_assoc (decimal (n / 10)) ((48 + n % 10) ∷ []) rest)
        ∙ before (omega arith) at ((48 + n % 10) ∷ rest)
        ∙ number_more (n / 10) (at + length (decimal (n / 10))) (48 + n % 10) rest (digit_of (n % 10) m)
        (both (lt-ltb 0 (n / 10) (omega arith)) (le-leb (n / 10 * 10 + (48 + n % 10 - 48)) 65535 (omega arith)))
        ∙ ap₂ (λ (x y : ℕ). more_digits x y rest) e f

-- the decimal of a number of at most 65535 is read, where no digit follows
pub number_found : (n at b : ℕ) (rest : List ℕ) → n ≤ 65535 → is_digit b ≡ false
    → first_digit at (decimal n ++ (b ∷ rest)) ≡ Ok (n, at + length (decimal n))
number_found n at b rest h e = digits_found n h at (b ∷ rest) ∙ number_ends n (at + length (decimal n)) b rest e
