-- Laws of rows joined into rows that lie one after another.
use Prim.Native.Nat.{ℕ, ◌+◌, ◌*◌, ◌/◌, ◌%◌, ◌^◌, ◌<◌, ◌≤◌}
use mathlib.Core.Path.{◌≡◌, refl, sym, ap, ap₂, ◌∙◌, subst}
use mathlib.Core.Bool.{Bool, true, false, ◌&&◌, ◌||◌, or_assoc}
use mathlib.Core.List.{List}
use native.Mathlib.Decide.{ℕ_discrete}
use native.Mathlib.Omega.{arith}
use borrow.Author.Tests.{ne_eqb, eq-eqb}
use lib.Dec.{eqb}
use lib.Bits.{bit_or, or_lt}
use lib.ListN.{length, get_or}
use Rattle.sets.specs.Lists.{table}
use Rattle.sets.specs.Bits.{bit}
use Rattle.sets.specs.Rows.{row_bit, word_of, row_of, row_join, row_in, with_row}
use Rattle.sets.proofs.ListLaws.{table_at, table-length, table_same}
use Rattle.sets.proofs.BitLaws.{bits_of_same}
use Rattle.sets.proofs.RowLaws.{IsRow, row_bit-row_of, row_of_same, row_of-row_bit, row_bit_join, with_row-length, with_row_same, with_row_other}
use Rattle.reach.specs.Reach.{joined}

-- ---- words and bits of the row in which they lie

word_in : (l : List ℕ) (i : ℕ) → get_or l i 0 ≡ get_or (row_in 16 l (i / 16)) (i % 16) 0
word_in l i =
    let e : i ≡ i / 16 * 16 + i % 16 = omega arith in
    ap (λ (x : ℕ). get_or l x 0) e ∙ sym (table_at 16 (λ k. get_or l (i / 16 * 16 + k) 0) 0 (i % 16) (omega arith))

pub bit_in : (l : List ℕ) (i : ℕ) → row_bit l i ≡ row_bit (row_in 16 l (i / 1024)) (i % 1024)
bit_in l i =
    let e : i / 64 ≡ i / 1024 * 16 + i % 1024 / 64 = omega arith in
    let f : i % 64 ≡ i % 1024 % 64 = omega arith in
    ap₂ (λ (x y : ℕ). bit (get_or l x 0) y) e f
    ∙ ap (λ (w : ℕ). bit w (i % 1024 % 64)) (sym (table_at 16 (λ k. get_or l (i / 1024 * 16 + k) 0) 0 (i % 1024 / 64) (omega arith)))

-- ---- a row joined in

or_none : (b d : Bool) → b ≡ (b || (d && false))
or_none true d = refl
or_none false true = refl
or_none false false = refl

or_all : (b d : Bool) → (b || d) ≡ (b || (d && true))
or_all true d = refl
or_all false true = refl
or_all false false = refl

table_fits : (n : ℕ) (f : ℕ → ℕ) → ((i : ℕ) → i < n → f i < 2 ^ 64) → (i : ℕ) → i < n → get_or (table n f) i 0 < 2 ^ 64
table_fits n f b i h = rw (table_at n f 0 i h) (b i h)

module _ (out reach : List ℕ) (form : ℕ) (room : form * 16 + 16 ≤ length out) (fits : (i : ℕ) → get_or out i 0 < 2 ^ 64)
    (fit : (i : ℕ) → get_or reach i 0 < 2 ^ 64)
  where
    abbrev made : List ℕ
    made = row_join 16 (row_in 16 out form) reach

    abbrev after : List ℕ
    after = with_row 16 out form made

    made_fits : (k : ℕ) → k < 16 → get_or made k 0 < 2 ^ 64
    made_fits =
        table_fits 16 (λ i. bit_or (get_or (row_in 16 out form) i 0) (get_or reach i 0))
        (λ i h. or_lt 64 (get_or (row_in 16 out form) i 0) (get_or reach i 0)
        (table_fits 16 (λ k. get_or out (form * 16 + k) 0) (λ k g. fits (form * 16 + k)) i h) (fit i))

    -- row `form` is the join, every other row is as before
    here : (x : ℕ) → x ≡ form → row_in 16 after x ≡ made
    here x e = ap (row_in 16 after) e ∙ with_row_same 16 out form made refl room

    other : (x : ℕ) → (x ≡ form → ⊥) → row_in 16 after x ≡ row_in 16 out x
    other x e = with_row_other 16 out form made refl room x e

    after_row : IsRow (length out) after
    after_row = record { size = with_row-length 16 out form made refl room; fits = λ i h. go i (ℕ_discrete (i / 16) form) }
      where
        go : (i : ℕ) → Dec (i / 16 ≡ form) → get_or after i 0 < 2 ^ 64
        go i (yes e) =
            subst (λ (x : ℕ). x < 2 ^ 64) (sym (word_in after i ∙ ap (λ (r : List ℕ). get_or r (i % 16) 0) (here (i / 16) e)))
            (made_fits (i % 16) (omega arith))
        go i (no e) =
            subst (λ (x : ℕ). x < 2 ^ 64)
            (sym (word_in after i ∙ ap (λ (r : List ℕ). get_or r (i % 16) 0) (other (i / 16) e) ∙ sym (word_in out i))) (fits i)

    abbrev joins : ℕ → Bool
    joins i = row_bit out i || (row_bit reach (i % 1024) && eqb (i / 1024) form)

    after_bit : (i : ℕ) → Dec (i / 1024 ≡ form) → row_bit after i ≡ joins i
    after_bit i (yes e) =
        bit_in after i ∙ ap (λ (r : List ℕ). row_bit r (i % 1024)) (here (i / 1024) e)
        ∙ row_bit_join 16 (row_in 16 out form) reach (i % 1024) (omega arith)
        ∙ ap (λ (b : Bool). b || row_bit reach (i % 1024)) (ap (λ (x : ℕ). row_bit (row_in 16 out x) (i % 1024)) (sym e) ∙ sym (bit_in out i))
        ∙ or_all (row_bit out i) (row_bit reach (i % 1024))
        ∙ ap (λ (b : Bool). row_bit out i || (row_bit reach (i % 1024) && b)) (sym (eq-eqb (i / 1024) form e))
    after_bit i (no e) =
        bit_in after i ∙ ap (λ (r : List ℕ). row_bit r (i % 1024)) (other (i / 1024) e) ∙ sym (bit_in out i)
        ∙ or_none (row_bit out i) (row_bit reach (i % 1024))
        ∙ ap (λ (b : Bool). row_bit out i || (row_bit reach (i % 1024) && b)) (sym (ne_eqb (i / 1024) form e))

    -- storing the join of row `form` with `reach`
    pub join_here : with_row 16 out form (row_join 16 (row_in 16 out form) reach) ≡ joined out reach (λ c x. eqb x form)
    unfolding joined
    join_here =
        row_of-row_bit (length out) after after_row
        ∙ row_of_same (length out) (row_bit after) joins (λ i h. after_bit i (ℕ_discrete (i / 1024) form))

-- ---- one join after another

pub join_same : (out reach : List ℕ) (p q : ℕ → ℕ → Bool) → ((c x : ℕ) → c < 1024 → p c x ≡ q c x) → joined out reach p ≡ joined out reach q
unfolding joined
join_same out reach p q h =
    row_of_same (length out) (λ i. row_bit out i || (row_bit reach (i % 1024) && p (i % 1024) (i / 1024)))
    (λ i. row_bit out i || (row_bit reach (i % 1024) && q (i % 1024) (i / 1024)))
    (λ i g. ap (λ (b : Bool). row_bit out i || (row_bit reach (i % 1024) && b)) (h (i % 1024) (i / 1024) (omega arith)))

module _ (out one two reach : List ℕ) (p q r : ℕ → ℕ → Bool) where
  abbrev first : ℕ → Bool
  first i = row_bit out i || (row_bit one (i % 1024) && p (i % 1024) (i / 1024))

  abbrev second : ℕ → Bool
  second i = row_bit two (i % 1024) && q (i % 1024) (i / 1024)

  -- two joins are one
  pub join_join : ((c x : ℕ) → c < 1024 → ((row_bit one c && p c x) || (row_bit two c && q c x)) ≡ (row_bit reach c && r c x))
      → joined (joined out one p) two q ≡ joined out reach r
  unfolding joined
  join_join h =
      ap (λ (n : ℕ). row_of n (λ i. row_bit (row_of (length out) first) i || second i)) (table-length (length out) (word_of first))
      ∙ row_of_same (length out) (λ i. row_bit (row_of (length out) first) i || second i)
      (λ i. row_bit out i || (row_bit reach (i % 1024) && r (i % 1024) (i / 1024)))
      (λ i g. ap (λ (b : Bool). b || second i) (row_bit-row_of (length out) first i g)
      ∙ or_assoc (row_bit out i) (row_bit one (i % 1024) && p (i % 1024) (i / 1024)) (second i)
      ∙ ap (λ (b : Bool). row_bit out i || b) (h (i % 1024) (i / 1024) (omega arith)))

-- ---- row x of a long row

pub row_of_lem : (words : ℕ) (p : ℕ → ℕ → Bool) (x : ℕ) → x * 16 + 16 ≤ words
    → row_in 16 (row_of words (λ i. p (i % 1024) (i / 1024))) x ≡ row_of 16 (λ c. p c x)
row_of_lem words p x h = table_same 16 (λ i. get_or (row_of words whole) (x * 16 + i) 0) (word_of (λ c. p c x)) word
  where
    whole : ℕ → Bool
    whole i = p (i % 1024) (i / 1024)

    each : (i j : ℕ) → i < 16 → j < 64 → whole ((x * 16 + i) * 64 + j) ≡ p (i * 64 + j) x
    each i j g k =
        let c = (x * 16 + i) * 64 + j in
        let e1 : c % 1024 ≡ i * 64 + j = omega arith in
        let e2 : c / 1024 ≡ x = omega arith in
        ap₂ p e1 e2

    word : (i : ℕ) → i < 16 → get_or (row_of words whole) (x * 16 + i) 0 ≡ word_of (λ c. p c x) i
    word i g =
        table_at words (word_of whole) 0 (x * 16 + i) (omega (arith, h))
        ∙ bits_of_same 64 (λ j. whole ((x * 16 + i) * 64 + j)) (λ j. p (i * 64 + j) x) (λ j k. each i j g k)
