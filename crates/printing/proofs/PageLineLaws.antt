-- One line of the page: the pieces that it is written in, and how long they are.
use Prim.Native.Nat.{ℕ, zero, suc, ◌+◌, ◌-◌, ◌*◌, ◌/◌, ◌%◌, ◌≤◌, ◌<◌, ◌^◌, max}
use mathlib.Core.Path.{◌≡◌, refl, sym, ap, ◌∙◌}
use mathlib.Core.List.{List, [], ◌∷◌, ◌++◌, append_assoc}
use native.Mathlib.Nat.{div-add-mod', pow-suc}
use native.Mathlib.Numerals.{add-one}
use native.Mathlib.Omega.{arith}
use borrow.Rule.Slice.PartMut.{put_mid}
use lib.ListN.{length, set, replicate, length-append}
use Rattle.sets.specs.Lists.{table}
use Rattle.sets.specs.Bits.{bit, member_count}
use Rattle.sets.specs.Writing.{Room, WrittenAt}
use Rattle.sets.proofs.ListLaws.{table-length, table_suc}
use Rattle.sets.proofs.SearchLaws.{count_le}
use Rattle.sets.proofs.WritingLaws.{and_then, one_written, part_written, same_length}
use Rattle.report.specs.Text.{decimal}
use Rattle.report.proofs.TextLaws.{decimal_ind, decimal-length}
use Rattle.printing.specs.Page.{aligned, mark, marks, page_line}

-- ---- how many digits a number has

ten_powers : (k : ℕ) → 0 < 10 ^ k
ten_powers zero = omega arith
ten_powers (suc k) = omega (arith, pow-suc 10 k, ten_powers k)

-- a number that is the k-th power of 10 or more has more than k digits; 0 has one digit, as 1 has
digits_least : (n k : ℕ) → 10 ^ k ≤ max n 1 → k < length (decimal n)
digits_least = decimal_ind (λ n ds. (k : ℕ) → 10 ^ k ≤ max n 1 → k < length ds) one more
  where
    one : (n : ℕ) → n < 10 → (k : ℕ) → 10 ^ k ≤ max n 1 → k < 1
    one n h zero l = omega arith
    one n h (suc k) l = omega (arith, pow-suc 10 k, ten_powers k)

    more : (n : ℕ) → 10 ≤ n → ((k : ℕ) → 10 ^ k ≤ max (n / 10) 1 → k < length (decimal (n / 10)))
        → (k : ℕ) → 10 ^ k ≤ max n 1 → k < length (decimal (n / 10) ++ ((48 + n % 10) ∷ []))
    more n h before zero l = omega (arith, length-append (decimal (n / 10)) ((48 + n % 10) ∷ []))
    more n h before (suc k) l =
        let b = before k (omega (arith, pow-suc 10 k, div-add-mod' n 10)) in
        omega (arith, length-append (decimal (n / 10)) ((48 + n % 10) ∷ []))

pub digits_counted : (n k : ℕ) → 10 ^ k ≤ max n 1 → max n 1 < 10 * 10 ^ k → k + 1 ≡ length (decimal n)
digits_counted n k l h = omega (arith, digits_least n k l, decimal-length n (suc k) (omega arith) (omega (arith, pow-suc 10 k)))

-- ---- a loop that writes the n numbers f 0, f 1, .. from `at` on, one a turn

-- i of them are written
pub record TableWriting (n : ℕ) (f : ℕ → ℕ) (first : List ℕ) (at : ℕ) (out : List ℕ) (i : ℕ) : Type 0 where
  pub written : WrittenAt (table i f) first at out (at + i)

module _ {n : ℕ} {f : ℕ → ℕ} {first : List ℕ} {at : ℕ} where
  module _ {out : List ℕ} {i : ℕ} (w : TableWriting n f first at out i) where
    -- there is a place for the next number
    pub table_place : Room (table n f) first at → i < n → at + i < length out
    table_place room h = omega (arith, room.fits, table-length n f, same_length w.written)

    pub table_more : {v : ℕ} → v ≡ f i → TableWriting n f first at (set out (at + i) v) (i + 1)
    table_more {v} e =
        let p : at + i + 1 ≡ at + (i + 1) = omega arith in
        record { written = rw (add-one i, table_suc i f) (rw (← e, ← add-one i, ← p) (and_then w.written (one_written out (at + i) v))) }

    pub table_all : n ≤ i → i ≤ n → WrittenAt (table n f) first at out (at + n)
    table_all h l = let e : i ≡ n = omega arith in rw e at w.written

-- ---- the pieces

-- the spaces before the digits: the part of so many places that is filled with them
spaces : (count : ℕ) → replicate {A = ℕ} count 32 ≡ table count (λ i. 32)
spaces zero = refl
spaces (suc count) = ap (λ (l : List ℕ). 32 ∷ l) (spaces count)

pub spaces_written : (count n : ℕ) {out part : List ℕ} {at : ℕ} → Room (table count (λ i. 32)) out at → count ≡ n → part ≡ replicate n 32
    → WrittenAt (table count (λ i. 32)) out at (put_mid at n out part) (at + count)
spaces_written count n r e f =
    let l = table-length {A = ℕ} count (λ i. 32) in
    rw l at (part_written n r (f ∙ ap (λ (k : ℕ). replicate k 32) (sym e) ∙ spaces count) (l ∙ e))

pub aligned_pieces : (width n : ℕ) → aligned width n ≡ table (width - length (decimal n)) (λ i. 32) ++ decimal n
unfolding aligned
aligned_pieces width n = refl

pub aligned_spaces : (width n : ℕ) {digits : ℕ} → digits ≡ length (decimal n) → aligned width n ≡ table (width - digits) (λ i. 32) ++ decimal n
aligned_spaces width n e = rw e (aligned_pieces width n)

pub marks-table : (s : ℕ) → marks s ≡ table 64 (λ a. mark (bit s a))
unfolding marks
marks-table s = refl

-- the line, with n for the number of columns
pub line_pieces : (c s : ℕ) {n : ℕ} → n ≡ member_count s
    → page_line c s ≡ aligned 4 c ++ ((32 ∷ []) ++ (marks s ++ ((32 ∷ []) ++ (aligned 2 n ++ (10 ∷ [])))))
unfolding page_line
line_pieces c s e = rw e (simp append_assoc)

-- ---- how long they are

pub aligned-length : (width n : ℕ) → length (decimal n) ≤ width → length (aligned width n) ≡ width
aligned-length width n h =
    omega (
      arith,
      ap length (aligned_pieces width n),
      length-append (table (width - length (decimal n)) (λ i. 32)) (decimal n),
      table-length {A = ℕ} (width - length (decimal n)) (λ i. 32),
    )

pub marks-length : (s : ℕ) → length (marks s) ≡ 64
marks-length s = ap length (marks-table s) ∙ table-length 64 (λ a. mark (bit s a))

-- a configuration has at most 4 digits, and the number of columns at most 2
pub configuration_digits : (c : ℕ) → c < 1024 → length (decimal c) ≤ 4
configuration_digits c h = decimal-length c 4 (omega arith) (omega arith)

pub number_digits : (s : ℕ) {n : ℕ} → n ≡ member_count s → length (decimal n) ≤ 2
number_digits s e = rw e (decimal-length (member_count s) 2 (omega arith) (omega (arith, count_le (bit s) 64)))

-- "exactly 72 characters and a line feed"
pub line-length : (c s : ℕ) → c < 1024 → length (page_line c s) ≡ 73
line-length c s h =
    ap length (line_pieces c s refl)
    ∙ omega (
      arith,
      length-append (aligned 4 c) ((32 ∷ []) ++ (marks s ++ ((32 ∷ []) ++ (aligned 2 (member_count s) ++ (10 ∷ []))))),
      aligned-length 4 c (configuration_digits c h),
      length-append (marks s) ((32 ∷ []) ++ (aligned 2 (member_count s) ++ (10 ∷ []))),
      marks-length s,
      length-append (aligned 2 (member_count s)) (10 ∷ []),
      aligned-length 2 (member_count s) (number_digits s refl),
    )
