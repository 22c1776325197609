-- Laws of rows, for any number of words and of features.
use Rattle.std.specs.Prelude.{Some, None}
use Prim.Native.Nat.{ℕ, zero, suc, ◌+◌, ◌-◌, ◌*◌, ◌/◌, ◌%◌, ◌^◌, ◌<◌, ◌≤◌}
use mathlib.Core.Path.{◌≡◌, refl, sym, ap, ap₂, ◌∙◌}
use mathlib.Core.Bool.{Bool, true, false, cond, not, ◌&&◌, ◌||◌, and-true, and-false, or-false, false≢true}
use mathlib.Core.List.{List, [], ◌∷◌, ◌++◌, append_assoc}
use mathlib.Core.Logic.{◌≢◌, ⊎_elim}
use native.Mathlib.Nat.{not-suc-le-zero, le_of_suc-le-suc, le_refl, eq-or-lt_of_le, div-add-mod', zero-mul, suc-mul, mul-le-mul_right}
use native.Mathlib.Decide.{dec_lt, ℕ_discrete}
use native.Mathlib.Numerals.{add-one}
use native.Mathlib.Omega.{arith}
use lib.Dec.{eqb, ltb}
use lib.Bits.{bit_and, bit_or, or_add_and, and_le_l, and_le_r}
use lib.Count.{count_trailing_zeros, ones}
use lib.ListN.{length, get_or, set, take, drop, replicate, length-append, length-drop, length-replicate, get_or-replicate, take-append-drop, get_or-append}
use lib.Seq.{length-take-le, get_or-append-add, get_or-take, get_or-drop, drop-drop}
use borrow.Author.Tests.{lt-ltb, le-ltb, eq-eqb, ne_eqb, not-true}
use Rattle.sets.specs.Search.{seek, lowest, some_below, count_below, First}
use Rattle.sets.specs.Lists.{table, concat}
use Rattle.sets.specs.Bits.{bit, bits_of, difference}
use Rattle.sets.specs.Rows.{row_bit, word_of, row_of, within, zip, row_join, row_intersect, row_minus, row_is_empty}
use Rattle.sets.specs.Rows.{row_lowest, row_lowest_from, row_count, row_in, with_row, RowsAre}
use Rattle.sets.proofs.SearchLaws.{least_seek, nothing_seek, seek_same, lowest_same, some_same, some_none, none_some, count_same, count_add}
use Rattle.sets.proofs.ListLaws.{table-length, table_at, table_same, table_of, table-set, concat-length, concat_at, concat_step}
use Rattle.sets.proofs.BitLaws.{bit_none, bit_low, bit_high, bit-and, bit-or, bit-difference, bit-bits_of, zero_bits}
use Rattle.sets.proofs.BitLaws.{bit_shifted, shifted_first, ones_count}
use Rattle.sets.proofs.BitLaws.{bits_of_lt, bits_of_same, bits_of_is, bits_of_one, bits_of_none, bits_of_all, bits_of_below}
use Rattle.sets.proofs.BitLaws.{and-bits_of, or-bits_of, difference-bits_of}

-- ---- a row and its bits

-- so many words, each of 64 bits
pub record IsRow (words : ℕ) (l : List ℕ) : Type 0 where
  pub size : length l ≡ words
  pub fits : (i : ℕ) → i < words → get_or l i 0 < 2 ^ 64

pub row_bit_word : (l : List ℕ) (w j : ℕ) → j < 64 → row_bit l (w * 64 + j) ≡ bit (get_or l w 0) j
row_bit_word l w j h =
    let e : (w * 64 + j) / 64 ≡ w = omega arith in
    let f : (w * 64 + j) % 64 ≡ j = omega arith in
    ap₂ (λ (x y : ℕ). bit (get_or l x 0) y) e f

-- the row of a test has a configuration where the test holds of it
pub row_bit-row_of : (n : ℕ) (p : ℕ → Bool) (c : ℕ) → c < n * 64 → row_bit (row_of n p) c ≡ p c
row_bit-row_of n p c h =
    ap (λ (x : ℕ). bit x (c % 64)) (table_at n (word_of p) 0 (c / 64) (omega arith)) ∙ bit-bits_of 64 (λ j. p (c / 64 * 64 + j)) (c % 64) (omega arith)
    ∙ ap p (div-add-mod' c 64)

pub row_of_same : (n : ℕ) (p q : ℕ → Bool) → ((c : ℕ) → c < n * 64 → p c ≡ q c) → row_of n p ≡ row_of n q
row_of_same n p q h =
    table_same n (word_of p) (word_of q)
    (λ w g. bits_of_same 64 (λ j. p (w * 64 + j)) (λ j. q (w * 64 + j)) (λ j k. h (w * 64 + j) (omega arith)))

pub row_of_row : (n : ℕ) (p : ℕ → Bool) → IsRow n (row_of n p)
row_of_row n p = record {
  size = table-length n (word_of p);
  fits = λ i h. rw (table_at n (word_of p) 0 i h) (bits_of_lt 64 (λ j. p (i * 64 + j)));
}

-- words of 64 bits are the row of their bits
pub row_of-row_bit : (n : ℕ) (l : List ℕ) → IsRow n l → l ≡ row_of n (row_bit l)
row_of-row_bit n l r =
    table_of 0 n (word_of (row_bit l)) l r.size
    (λ i g. sym (bits_of_is 64 (get_or l i 0) (λ j. row_bit l (i * 64 + j)) (r.fits i g) (λ j k. sym (row_bit_word l i j k))))

-- ---- the configurations of n features

module _ (n : ℕ) (p : ℕ → Bool) where
  pub within_in : (c : ℕ) → c < 2 ^ n → within n p c ≡ p c
  within_in c h = ap (λ (t : Bool). t && p c) (lt-ltb c (2 ^ n) h)

  pub within_out : (c : ℕ) → 2 ^ n ≤ c → within n p c ≡ false
  within_out c h = ap (λ (t : Bool). t && p c) (le-ltb c (2 ^ n) h)

  pub bit-within : (w c : ℕ) → c < 2 ^ n → c < w * 64 → row_bit (row_of w (within n p)) c ≡ p c
  bit-within w c h l = row_bit-row_of w (within n p) c l ∙ within_in c h

-- ---- union, intersection, difference: of the rows of tests, and of any words

module _ (f : ℕ → ℕ → ℕ) (on : Bool → Bool → Bool) where
  zip-row_of : ((k : ℕ) (p q : ℕ → Bool) → f (bits_of k p) (bits_of k q) ≡ bits_of k (λ j. on (p j) (q j)))
      → (w : ℕ) (p q : ℕ → Bool) → zip f w (row_of w p) (row_of w q) ≡ row_of w (λ c. on (p c) (q c))
  zip-row_of law w p q =
      table_same w (λ i. f (get_or (row_of w p) i 0) (get_or (row_of w q) i 0)) (word_of (λ c. on (p c) (q c)))
      (λ i h. ap₂ f (table_at w (word_of p) 0 i h) (table_at w (word_of q) 0 i h) ∙ law 64 (λ j. p (i * 64 + j)) (λ j. q (i * 64 + j)))

  row_bit-zip : ((a b i : ℕ) → bit (f a b) i ≡ on (bit a i) (bit b i))
      → (w : ℕ) (s t : List ℕ) (c : ℕ) → c < w * 64 → row_bit (zip f w s t) c ≡ on (row_bit s c) (row_bit t c)
  row_bit-zip law w s t c h =
      ap (λ (x : ℕ). bit x (c % 64)) (table_at w (λ i. f (get_or s i 0) (get_or t i 0)) 0 (c / 64) (omega arith))
      ∙ law (get_or s (c / 64) 0) (get_or t (c / 64) 0) (c % 64)

  -- an operation that makes nothing out of nothing stays among the configurations of n features
  zip-within : ((k : ℕ) (p q : ℕ → Bool) → f (bits_of k p) (bits_of k q) ≡ bits_of k (λ j. on (p j) (q j))) → on false false ≡ false
      → (w n : ℕ) (p q : ℕ → Bool) → zip f w (row_of w (within n p)) (row_of w (within n q)) ≡ row_of w (within n (λ c. on (p c) (q c)))
  zip-within law none w n p q =
      zip-row_of law w (within n p) (within n q)
      ∙ row_of_same w (λ c. on (within n p c) (within n q c)) (within n (λ c. on (p c) (q c))) (λ c h. go c (ltb c (2 ^ n)))
    where
      go : (c : ℕ) (t : Bool) → on (t && p c) (t && q c) ≡ (t && on (p c) (q c))
      go c true = refl
      go c false = none

pub join_row_of : (w : ℕ) (p q : ℕ → Bool) → row_join w (row_of w p) (row_of w q) ≡ row_of w (λ c. p c || q c)
join_row_of = zip-row_of bit_or ◌||◌ or-bits_of

pub intersect_row_of : (w : ℕ) (p q : ℕ → Bool) → row_intersect w (row_of w p) (row_of w q) ≡ row_of w (λ c. p c && q c)
intersect_row_of = zip-row_of bit_and ◌&&◌ and-bits_of

pub minus_row_of : (w : ℕ) (p q : ℕ → Bool) → row_minus w (row_of w p) (row_of w q) ≡ row_of w (λ c. p c && not (q c))
minus_row_of = zip-row_of difference (λ a b. a && not b) difference-bits_of

module _ (w : ℕ) (s t : List ℕ) (c : ℕ) (h : c < w * 64) where
  pub row_bit_join : row_bit (row_join w s t) c ≡ (row_bit s c || row_bit t c)
  row_bit_join = row_bit-zip bit_or ◌||◌ bit-or w s t c h

  pub row_bit_intersect : row_bit (row_intersect w s t) c ≡ (row_bit s c && row_bit t c)
  row_bit_intersect = row_bit-zip bit_and ◌&&◌ bit-and w s t c h

  pub row_bit_minus : row_bit (row_minus w s t) c ≡ (row_bit s c && not (row_bit t c))
  row_bit_minus = row_bit-zip difference (λ a b. a && not b) bit-difference w s t c h

-- the same of the configurations of n features
module _ (w n : ℕ) (p q : ℕ → Bool) where
  pub join_within : row_join w (row_of w (within n p)) (row_of w (within n q)) ≡ row_of w (within n (λ c. p c || q c))
  join_within = zip-within bit_or ◌||◌ or-bits_of refl w n p q

  pub intersect_within : row_intersect w (row_of w (within n p)) (row_of w (within n q)) ≡ row_of w (within n (λ c. p c && q c))
  intersect_within = zip-within bit_and ◌&&◌ and-bits_of refl w n p q

  pub minus_within : row_minus w (row_of w (within n p)) (row_of w (within n q)) ≡ row_of w (within n (λ c. p c && not (q c)))
  minus_within = zip-within difference (λ a b. a && not b) difference-bits_of refl w n p q

-- what p lacks of all of them
pub complement_within : (w n : ℕ) (p : ℕ → Bool)
    → row_minus w (row_of w (within n (λ c. true))) (row_of w (within n p)) ≡ row_of w (within n (λ c. not (p c)))
complement_within w n p = minus_within w n (λ c. true) p

-- ---- the words of the configurations below m

pub within_all : (n c : ℕ) → within n (λ d. true) c ≡ ltb c (2 ^ n)
within_all n c = and-true (ltb c (2 ^ n))

pub none_within : (w n : ℕ) → row_of w (λ c. false) ≡ row_of w (within n (λ c. false))
none_within w n = row_of_same w (λ c. false) (within n (λ c. false)) (λ c h. sym (and-false (ltb c (2 ^ n))))

module _ (m w : ℕ) where
  pub below_none : m ≤ w * 64 → word_of (λ c. ltb c m) w ≡ 0
  below_none h = bits_of_none 64 (λ j. ltb (w * 64 + j) m) (λ j g. le-ltb (w * 64 + j) m (omega arith))

  pub below_all : w * 64 + 64 ≤ m → word_of (λ c. ltb c m) w ≡ 2 ^ 64 - 1
  below_all h = bits_of_all 64 (λ j. ltb (w * 64 + j) m) (λ j g. lt-ltb (w * 64 + j) m (omega arith))

  pub below_some : w * 64 ≤ m → m - w * 64 ≤ 64 → word_of (λ c. ltb c m) w ≡ 2 ^ (m - w * 64) - 1
  below_some h k =
      bits_of_same 64 (λ j. ltb (w * 64 + j) m) (λ j. ltb j (m - w * 64)) (λ j g. go j (dec_lt j (m - w * 64))) ∙ bits_of_below 64 (m - w * 64) k
    where
      go : (j : ℕ) → Dec (j < m - w * 64) → ltb (w * 64 + j) m ≡ ltb j (m - w * 64)
      go j (yes l) = lt-ltb (w * 64 + j) m (omega arith) ∙ sym (lt-ltb j (m - w * 64) l)
      go j (no l) = le-ltb (w * 64 + j) m (omega arith) ∙ sym (le-ltb j (m - w * 64) (omega arith))

-- ---- the words of the configurations where feature i is on

-- below feature 6 every word is the same
unfoldable pub masks : List ℕ
masks =
    0xAAAA_AAAA_AAAA_AAAA ∷ 0xCCCC_CCCC_CCCC_CCCC ∷ 0xF0F0_F0F0_F0F0_F0F0
    ∷ 0xFF00_FF00_FF00_FF00 ∷ 0xFFFF_0000_FFFF_0000 ∷ 0xFFFF_FFFF_0000_0000 ∷ []

masks_bits : masks ≡ table 6 (λ i. bits_of 64 (λ j. bit j i))
unfolding masks bits_of
masks_bits = refl

pub feature_low : (i w : ℕ) → i < 6 → get_or masks i 0 ≡ word_of (λ c. bit c i) w
feature_low i w h =
    ap (λ (l : List ℕ). get_or l i 0) masks_bits ∙ table_at 6 (λ i. bits_of 64 (λ j. bit j i)) 0 i h
    ∙ bits_of_same 64 (λ j. bit j i) (λ j. bit (w * 64 + j) i) (λ j g. sym (bit_low w 6 j i h))

-- from feature 6 on a word has all or none
module _ (i w : ℕ) (h : 6 ≤ i) where
  pub feature_on : bit w (i - 6) ≡ true → word_of (λ c. bit c i) w ≡ 2 ^ 64 - 1
  feature_on e = bits_of_all 64 (λ j. bit (w * 64 + j) i) (λ j g. bit_high w 6 j i g h ∙ e)

  pub feature_off : bit w (i - 6) ≡ false → word_of (λ c. bit c i) w ≡ 0
  feature_off e = bits_of_none 64 (λ j. bit (w * 64 + j) i) (λ j g. bit_high w 6 j i g h ∙ e)

-- ---- one configuration more: q has what p has, and c besides if t

module _ (p q : ℕ → Bool) (c : ℕ) (t : Bool) (here : q c ≡ (p c || t)) (other : (d : ℕ) → d ≢ c → q d ≡ p d) where
  bit_more : cond t (2 ^ (c % 64)) 0 ≡ bits_of 64 (λ j. t && eqb j (c % 64))
  bit_more = go t
    where
      go : (u : Bool) → cond u (2 ^ (c % 64)) 0 ≡ bits_of 64 (λ j. u && eqb j (c % 64))
      go true = sym (bits_of_one 64 (c % 64) (omega arith))
      go false = sym (bits_of_none 64 (λ j. false) (λ j h. refl))

  word_more : bit_or (word_of p (c / 64)) (cond t (2 ^ (c % 64)) 0) ≡ word_of q (c / 64)
  word_more =
      ap (bit_or (word_of p (c / 64))) bit_more ∙ or-bits_of 64 (λ j. p (c / 64 * 64 + j)) (λ j. t && eqb j (c % 64))
      ∙ bits_of_same 64 (λ j. p (c / 64 * 64 + j) || (t && eqb j (c % 64))) (λ j. q (c / 64 * 64 + j)) (λ j h. go j (ℕ_discrete j (c % 64)))
    where
      go : (j : ℕ) → Dec (j ≡ c % 64) → (p (c / 64 * 64 + j) || (t && eqb j (c % 64))) ≡ q (c / 64 * 64 + j)
      go j (yes e) =
          let f : c / 64 * 64 + j ≡ c = omega arith in
          rw (f, eq-eqb j (c % 64) e, and-true t) (sym here)
      go j (no e) =
          rw (ne_eqb j (c % 64) e, and-false t) (or-false (p (c / 64 * 64 + j)) ∙ sym (other (c / 64 * 64 + j) (λ f. e (omega arith))))

  pub row_more : (n : ℕ) → c < n * 64
      → set (row_of n p) (c / 64) (bit_or (get_or (row_of n p) (c / 64) 0) (cond t (2 ^ (c % 64)) 0)) ≡ row_of n q
  row_more n h =
      table-set n (word_of p) (word_of q) (c / 64) _ (omega arith)
      (ap (λ (x : ℕ). bit_or x (cond t (2 ^ (c % 64)) 0)) (table_at n (word_of p) 0 (c / 64) (omega arith)) ∙ word_more)
      (λ i d. bits_of_same 64 (λ j. p (i * 64 + j)) (λ j. q (i * 64 + j)) (λ j l. sym (other (i * 64 + j) (λ e. d (omega arith)))))

-- ---- no configuration

pub empty_row_of : (w : ℕ) (p : ℕ → Bool) → row_is_empty w (row_of w p) ≡ not (some_below p (w * 64))
empty_row_of w p = ap not (some_same (row_bit (row_of w p)) p (w * 64) (row_bit-row_of w p))

pub row_bit_none : (l : List ℕ) (c : ℕ) → get_or l (c / 64) 0 ≡ 0 → row_bit l c ≡ false
row_bit_none l c e = ap (λ (x : ℕ). bit x (c % 64)) e ∙ bit_none (c % 64)

-- every word is 0
abbrev pub ZeroWords : ℕ → List ℕ → Type 0
ZeroWords n l = (i : ℕ) → i < n → get_or l i 0 ≡ 0

pub zero_empty : (n : ℕ) (l : List ℕ) → ZeroWords n l → row_is_empty n l ≡ true
zero_empty n l h = ap not (none_some (row_bit l) (n * 64) (λ c g. row_bit_none l c (h (c / 64) (omega arith))))

pub empty_zero : (n : ℕ) (l : List ℕ) → IsRow n l → row_is_empty n l ≡ true → ZeroWords n l
empty_zero n l r e i h =
    zero_bits 64 (get_or l i 0) (r.fits i h)
    (λ j g. sym (row_bit_word l i j g) ∙ some_none (row_bit l) (n * 64) (not-true (some_below (row_bit l) (n * 64)) e) (i * 64 + j) (omega arith))

-- all words joined: 0 exactly where each is
unfoldable pub joined : ℕ → List ℕ → ℕ
joined zero l = 0
joined (suc n) l = bit_or (joined n l) (get_or l n 0)

pub joined_more : (n : ℕ) (l : List ℕ) → joined (n + 1) l ≡ bit_or (joined n l) (get_or l n 0)
unfolding joined
joined_more n l = ap (λ (k : ℕ). joined k l) (add-one n)

pub joined_zero : (n : ℕ) (l : List ℕ) → joined n l ≡ 0 → ZeroWords n l
unfolding joined
joined_zero zero l e i h = absurd (not-suc-le-zero h)
joined_zero (suc n) l e i h = ⊎_elim (λ (d : i ≡ n). rw d parts.1) (joined_zero n l parts.0 i) (eq-or-lt_of_le (le_of_suc-le-suc h))
  where
    parts : (joined n l ≡ 0) × (get_or l n 0 ≡ 0)
    parts = omega (arith, e, or_add_and (joined n l) (get_or l n 0), and_le_l (joined n l) (get_or l n 0), and_le_r (joined n l) (get_or l n 0))

pub zero_joined : (n : ℕ) (l : List ℕ) → ZeroWords n l → joined n l ≡ 0
unfolding joined
zero_joined zero l h = refl
zero_joined (suc n) l h = ap₂ bit_or (zero_joined n l (λ i g. h i (omega arith))) (h n (le_refl (suc n)))

pub empty_joined : (n : ℕ) (l : List ℕ) → IsRow n l → row_is_empty n l ≡ eqb (joined n l) 0
empty_joined n l r = go (row_is_empty n l) refl
  where
    go : (b : Bool) → row_is_empty n l ≡ b → b ≡ eqb (joined n l) 0
    go true e = sym (eq-eqb (joined n l) 0 (zero_joined n l (empty_zero n l r e)))
    go false e = sym (ne_eqb (joined n l) 0 (λ z. false≢true (sym e ∙ zero_empty n l (joined_zero n l z))))

-- ---- a row and row a of rows one after another: what they have in common, word by word

module _ (n : ℕ) (s rows : List ℕ) (a : ℕ) where
  common_word : (w : ℕ) → w < n → get_or (row_intersect n s (row_in n rows a)) w 0 ≡ bit_and (get_or s w 0) (get_or rows (a * n + w) 0)
  common_word w h =
      table_at n (λ i. bit_and (get_or s i 0) (get_or (row_in n rows a) i 0)) 0 w h
      ∙ ap (bit_and (get_or s w 0)) (table_at n (λ i. get_or rows (a * n + i) 0) 0 w h)

  common_row : IsRow n s → IsRow n (row_intersect n s (row_in n rows a))
  common_row r = record {
    size = table-length n (λ i. bit_and (get_or s i 0) (get_or (row_in n rows a) i 0));
    fits = λ i h. let f = r.fits i h in omega (arith, common_word i h, and_le_l (get_or s i 0) (get_or rows (a * n + i) 0));
  }

  -- they have a configuration in common where a word of both is not 0
  pub meet_at : IsRow n s → (w : ℕ) → w < n → bit_and (get_or s w 0) (get_or rows (a * n + w) 0) ≢ 0
      → row_is_empty n (row_intersect n s (row_in n rows a)) ≡ false
  meet_at r w h e = go (row_is_empty n (row_intersect n s (row_in n rows a))) refl
    where
      go : (b : Bool) → row_is_empty n (row_intersect n s (row_in n rows a)) ≡ b → b ≡ false
      go true q = absurd (e (sym (common_word w h) ∙ empty_zero n (row_intersect n s (row_in n rows a)) (common_row r) q w h))
      go false q = refl

  pub meet_none : ((w : ℕ) → w < n → bit_and (get_or s w 0) (get_or rows (a * n + w) 0) ≡ 0) → row_is_empty n (row_intersect n s (row_in n rows a)) ≡ true
  meet_none f = zero_empty n (row_intersect n s (row_in n rows a)) (λ w h. common_word w h ∙ f w h)

-- ---- the lowest configuration, and the lowest that is not below `from`

pub lowest-row_of : (w : ℕ) (p : ℕ → Bool) → row_lowest w (row_of w p) ≡ lowest p (w * 64)
lowest-row_of w p = lowest_same (row_bit (row_of w p)) p (w * 64) (row_bit-row_of w p)

pub from_row_of : (w : ℕ) (p : ℕ → Bool) (from : ℕ) → row_lowest_from w (row_of w p) from ≡ seek p (w * 64 - from) from
from_row_of w p from = seek_same (row_bit (row_of w p)) p (w * 64 - from) from (λ c h u. row_bit-row_of w p c (omega arith))

-- what the word of configuration c has from c on
abbrev pub rest : List ℕ → ℕ → ℕ
rest l c = get_or l (c / 64) 0 / 2 ^ (c % 64)

rest_bit : (l : List ℕ) (c k : ℕ) → c ≤ k → k < (c / 64 + 1) * 64 → row_bit l k ≡ bit (rest l c) (k - c)
rest_bit l c k h g =
    let e : k / 64 ≡ c / 64 = omega arith in
    let f : k % 64 ≡ c % 64 + (k - c) = omega arith in
    ap₂ (λ (x y : ℕ). bit (get_or l x 0) y) e f ∙ sym (bit_shifted (get_or l (c / 64) 0) (c % 64) (k - c))

-- a search from `from` on has come to c: the row has no configuration between
pub record Passed (l : List ℕ) (from c : ℕ) : Type 0 where
  pub after : from ≤ c
  pub none : (k : ℕ) → from ≤ k → k < c → row_bit l k ≡ false

module _ {l : List ℕ} {from c : ℕ} (P : Passed l from c) where
  -- the word of c has nothing from c on: it is passed
  pub passed_word : rest l c ≡ 0 → Passed l from ((c / 64 + 1) * 64)
  passed_word e = record { after = omega (arith, P.after); none = λ k h g. go k h g (dec_lt k c) }
    where
      go : (k : ℕ) → from ≤ k → k < (c / 64 + 1) * 64 → Dec (k < c) → row_bit l k ≡ false
      go k h g (yes b) = P.none k h b
      go k h g (no b) = rest_bit l c k (omega arith) g ∙ ap (λ (x : ℕ). bit x (k - c)) e ∙ bit_none (k - c)

  module _ (n : ℕ) where
    -- it has something: the lowest is found at the trailing zeros
    pub found_at : c < n * 64 → get_or l (c / 64) 0 < 2 ^ 64 → rest l c ≢ 0 → row_lowest_from n l from ≡ Some (c + count_trailing_zeros 64 (rest l c))
    found_at g f e =
        least_seek (row_bit l) (n * 64 - from) from (c + t) (record {
          within = (omega (arith, P.after), omega (arith, P.after, r.below));
          holds = rest_bit l c (c + t) (omega arith) (omega (arith, r.below)) ∙ ap (bit (rest l c)) back ∙ r.holds;
          before = λ k h b. go k h b (dec_lt k c);
        })
      where
        t : ℕ
        t = count_trailing_zeros 64 (rest l c)

        r : First (bit (rest l c)) (64 - c % 64) t
        r = shifted_first 64 (get_or l (c / 64) 0) (c % 64) f e

        back : c + t - c ≡ t
        back = omega arith

        go : (k : ℕ) → from ≤ k → k < c + t → Dec (k < c) → row_bit l k ≡ false
        go k h b (yes d) = P.none k h d
        go k h b (no d) = rest_bit l c k (omega arith) (omega (arith, r.below)) ∙ r.before (k - c) (omega arith)

    -- every word is passed
    pub found_nothing : n * 64 ≤ c → row_lowest_from n l from ≡ None
    found_nothing g = nothing_seek (row_bit l) (n * 64 - from) from (λ k h u. P.none k h (omega arith))

-- ---- how many configurations

-- one word more: its ones
pub count_word : (n : ℕ) (l : List ℕ) → get_or l n 0 < 2 ^ 64 → row_count (n + 1) l ≡ row_count n l + ones (get_or l n 0)
count_word n l h =
    let e : (n + 1) * 64 ≡ n * 64 + 64 = omega arith in
    ap (count_below (row_bit l)) e ∙ count_add (row_bit l) (n * 64) 64
    ∙ ap (λ (x : ℕ). row_count n l + x)
    (count_same (λ j. row_bit l (n * 64 + j)) (bit (get_or l n 0)) 64 (row_bit_word l n) ∙ sym (ones_count 64 (get_or l n 0) h))

-- ---- rows one after another in a longer list

-- a row that was stored is read again
pub row_in-concat : (w n : ℕ) (f : ℕ → List ℕ) (rest : List ℕ) → ((i : ℕ) → i < n → length (f i) ≡ w)
    → (a : ℕ) → a < n → row_in w (concat n f ++ rest) a ≡ f a
row_in-concat w n f rest wide a h =
    sym (table_of 0 w (λ i. get_or (concat n f ++ rest) (a * w + i) 0) (f a) (wide a h)
    (λ i g. sym (get_or-append (concat n f) rest 0 (a * w + i) (omega (arith, mul-le-mul_right w h, suc-mul a w, concat-length f w n wide))
    ∙ concat_at f w n wide 0 a i h g)))

-- rows that were stored are those of f
pub rows_are : (w n : ℕ) (f : ℕ → List ℕ) → ((i : ℕ) → i < n → length (f i) ≡ w) → (rest : List ℕ) {words : List ℕ} → words ≡ concat n f ++ rest
    → RowsAre w n f words
rows_are w n f wide rest e = record {
  room = let l = ap length e ∙ length-append (concat n f) rest in let s = concat-length f w n wide in omega arith;
  each = λ k h. ap (λ (s : List ℕ). row_in w s k) e ∙ row_in-concat w n f rest wide k h;
}

-- a row is a part of the list
row_in_part : (w : ℕ) (l : List ℕ) (a : ℕ) → a * w + w ≤ length l → row_in w l a ≡ take w (drop (a * w) l)
row_in_part w l a h =
    sym (table_of 0 w (λ i. get_or l (a * w + i) 0) (take w (drop (a * w) l)) (length-take-le w (drop (a * w) l) (omega (arith, length-drop (a * w) l)))
    (λ i g. get_or-take w (drop (a * w) l) i 0 g ∙ get_or-drop (a * w) l i 0))

-- a row of zeros is empty
pub row_in_zeros : (w n a : ℕ) → a * w + w ≤ n → row_in w (replicate n 0) a ≡ replicate w 0
row_in_zeros w n a h =
    sym (table_of 0 w (λ i. get_or (replicate n 0) (a * w + i) 0) (replicate w 0) (length-replicate {A = ℕ} w 0)
    (λ i l. get_or-replicate w i 0 0 l ∙ sym (get_or-replicate n (a * w + i) 0 0 (omega arith))))

-- rows that are those of f: they stand at the start, and the rest of the list follows them
pub rows_all : (w n : ℕ) (f : ℕ → List ℕ) {words : List ℕ} → RowsAre w n f words → words ≡ concat n f ++ drop (n * w) words
rows_all w zero f {words} R = ap (λ (k : ℕ). drop k words) (sym (zero-mul w))
rows_all w (suc n) f {words} R =
    let h : n * w + w ≤ length words = omega (arith, R.room, suc-mul n w) in
    rows_all w n f (record { room = omega arith; each = λ k l. R.each k (omega arith) })
    ∙ ap (λ (s : List ℕ). concat n f ++ s)
    (sym (take-append-drop w (drop (n * w) words))
    ∙ ap₂ ◌++◌ (sym (row_in_part w words n h) ∙ R.each n (le_refl (suc n)))
    (drop-drop w (n * w) words ∙ ap (λ (k : ℕ). drop k words) (sym (suc-mul n w))))
    ∙ sym (append_assoc (concat n f) (f n) (drop (suc n * w) words))

-- one turn of a loop that stores row after row over l
pub with_row_more : (w : ℕ) (f : ℕ → List ℕ) (a : ℕ) (l : List ℕ) → ((i : ℕ) → i < a → length (f i) ≡ w)
    → with_row w (concat a f ++ drop (a * w) l) a (f a) ≡ concat (a + 1) f ++ drop ((a + 1) * w) l
with_row_more w f a l wide = concat_step f w a wide l

-- row a in the place where it stands already
pub with_row_again : (w : ℕ) (l : List ℕ) (a : ℕ) {row : List ℕ} → a * w + w ≤ length l → row_in w l a ≡ row → l ≡ with_row w l a row
with_row_again w l a room same =
    let rest = drop (a * w) l in
    sym (ap₂ (λ (r s : List ℕ). take (a * w) l ++ r ++ s) (sym same ∙ row_in_part w l a room) (sym (drop-drop w (a * w) l))
    ∙ append_assoc (take (a * w) l) (take w rest) (drop w rest) ∙ ap (λ (s : List ℕ). take (a * w) l ++ s) (take-append-drop w rest)
    ∙ take-append-drop (a * w) l)

-- another row in the place of row a: that one is read there, and every other as before
module _ (w : ℕ) (l : List ℕ) (a : ℕ) (row : List ℕ) (size : length row ≡ w) (room : a * w + w ≤ length l) where
  front : length (take (a * w) l) ≡ a * w
  front = length-take-le (a * w) l (omega arith)

  front_row : length (take (a * w) l ++ row) ≡ a * w + w
  front_row = length-append (take (a * w) l) row ∙ ap₂ ◌+◌ front size

  pub with_row-length : length (with_row w l a row) ≡ length l
  with_row-length = omega (arith, length-append (take (a * w) l ++ row) (drop (a * w + w) l), front_row, length-drop (a * w + w) l)

  pub with_row_same : row_in w (with_row w l a row) a ≡ row
  with_row_same =
      sym (table_of 0 w (λ i. get_or (with_row w l a row) (a * w + i) 0) row size
      (λ i h. sym (get_or-append (take (a * w) l ++ row) (drop (a * w + w) l) 0 (a * w + i) (omega (arith, front_row))
      ∙ ap (λ (k : ℕ). get_or (take (a * w) l ++ row) (k + i) 0) (sym front) ∙ get_or-append-add (take (a * w) l) row i 0)))

  before : (k : ℕ) → k < a * w → get_or (with_row w l a row) k 0 ≡ get_or l k 0
  before k h =
      get_or-append (take (a * w) l ++ row) (drop (a * w + w) l) 0 k (omega (arith, front_row))
      ∙ get_or-append (take (a * w) l) row 0 k (omega (arith, front)) ∙ get_or-take (a * w) l k 0 h

  after : (k : ℕ) → a * w + w ≤ k → get_or (with_row w l a row) k 0 ≡ get_or l k 0
  after k h =
      let e : k ≡ length (take (a * w) l ++ row) + (k - (a * w + w)) = omega (arith, front_row) in
      let d : a * w + w + (k - (a * w + w)) ≡ k = omega arith in
      ap (λ (x : ℕ). get_or (with_row w l a row) x 0) e ∙ get_or-append-add (take (a * w) l ++ row) (drop (a * w + w) l) (k - (a * w + w)) 0
      ∙ get_or-drop (a * w + w) l (k - (a * w + w)) 0 ∙ ap (λ (x : ℕ). get_or l x 0) d

  pub with_row_other : (b : ℕ) → b ≢ a → row_in w (with_row w l a row) b ≡ row_in w l b
  with_row_other b e =
      table_same w (λ i. get_or (with_row w l a row) (b * w + i) 0) (λ i. get_or l (b * w + i) 0) (λ i h. go i h (dec_lt b a))
    where
      go : (i : ℕ) → i < w → Dec (b < a) → get_or (with_row w l a row) (b * w + i) 0 ≡ get_or l (b * w + i) 0
      go i h (yes k) = before (b * w + i) (omega (arith, mul-le-mul_right w k, suc-mul b w))
      go i h (no k) = let m : a < b = omega arith in after (b * w + i) (omega (arith, mul-le-mul_right w m, suc-mul a w))
