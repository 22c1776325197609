-- Laws of the column rows, made of the report's sets at the permitted configurations, one configuration after another.
use Prim.Native.Nat.{ℕ, ◌+◌, ◌*◌, ◌/◌, ◌%◌, ◌^◌, ◌<◌, ◌≤◌}
use mathlib.Core.Path.{◌≡◌, refl, sym, ap, ap₂, ◌∙◌, subst}
use mathlib.Core.Bool.{Bool, true, false, cond, ◌&&◌, ◌||◌, and-false, or-true, false≢true}
use mathlib.Core.List.{List, [], ◌∷◌}
use mathlib.Core.Logic.{◌≢◌}
use native.Mathlib.Nat.{lt_of_lt_of_le}
use native.Mathlib.Decide.{dec_lt}
use native.Mathlib.Omega.{arith}
use lib.Bits.{bit_or}
use lib.Dec.{ltb}
use lib.ListN.{length, get_or, set, replicate, length-set, length-replicate}
use Rattle.std.proofs.lemmas.List.{get_or_default}
use borrow.Author.Tests.{lt-ltb, le-ltb}
use Rattle.sets.specs.Search.{count_below}
use Rattle.sets.specs.Lists.{kept}
use Rattle.sets.specs.Bits.{bit}
use Rattle.sets.specs.Rows.{row_of, with_row}
use Rattle.sets.proofs.SearchLaws.{count_lt, count_le, count_one, nth}
use Rattle.sets.proofs.ListLaws.{kept_word}
use Rattle.sets.proofs.BitLaws.{bit-or}
use Rattle.sets.proofs.RowLaws.{row_of_same, row_more, with_row_more}
use Rattle.report.specs.Tables.{Tables, report}
use Rattle.report.specs.Expressions.{permitted}
use Rattle.report.specs.Typing.{set_of}
use Rattle.report.specs.ColumnRows.{has_column, column_row}
use Rattle.expression_rows.proofs.RowsFilling.{RowsFilling}
use Rattle.report.proofs.TypingLaws.{column_wide}
use Rattle.expression_rows.proofs.ColumnLaws.{no_row}
use Rattle.column_rows.specs.declared.SetAt.{SetAt}
use Rattle.column_rows.specs.GatheredSets.{permitted_at, report_set, permitted_in_all, SetsGathered, SomeGathered, ShownAnywhere}

-- ---- the permitted configurations by their numbers

module _ (T : Tables) where
  pub permitted_at_lem : (c : ℕ) → c < 1024 → permitted T c ≡ true → permitted_at T (count_below (permitted T) c) ≡ c
  unfolding permitted_at
  permitted_at_lem c h e =
      let k : count_below (permitted T) c ≡ count_below (permitted T) c * 1 + 0 = omega arith in
      ap (λ (i : ℕ). get_or (kept (permitted T) (λ d. d ∷ []) 1024) i 0) k
      ∙ kept_word (permitted T) (λ d. d ∷ []) 1 1024 (λ i l p. refl) 0 c 0 h e (omega arith)

  most_permitted : permitted_in_all T ≤ 1024
  unfolding permitted_in_all
  most_permitted = count_le (permitted T) 1024

  -- number k is that of one of them
  is_permitted : (k : ℕ) → k < permitted_in_all T
      → (permitted_at T k < 1024) × (permitted T (permitted_at T k) ≡ true) × (count_below (permitted T) (permitted_at T k) ≡ k)
  unfolding permitted_in_all
  is_permitted k h =
      let n = nth (permitted T) 1024 k h in
      let e : permitted_at T k ≡ n.old = ap (permitted_at T) (sym n.number) ∙ permitted_at_lem n.old n.below n.passed in
      rw e (n.below, n.passed, n.number)

  -- ---- the row of attribute a

  module _ (a : ℕ) where
    -- c is permitted under a number below k, and the report's set at c has a
    abbrev has_below : ℕ → ℕ → Bool
    has_below k c = ltb (count_below (permitted T) c) k && has_column T a c

    row_none : replicate 16 0 ≡ row_of 16 (has_below 0)
    row_none =
        sym (row_of_same 16 (has_below 0) (λ c. false)
        (λ c h. ap (λ (t : Bool). t && has_column T a c) (le-ltb (count_below (permitted T) c) 0 (omega arith))) ∙ no_row)

    -- with number k besides
    row_next : (k : ℕ) → k < permitted_in_all T
        → set (row_of 16 (has_below k)) (permitted_at T k / 64)
        (bit_or (get_or (row_of 16 (has_below k)) (permitted_at T k / 64) 0) (cond (bit (report_set T k) a) (2 ^ (permitted_at T k % 64)) 0))
        ≡ row_of 16 (has_below (k + 1))
    row_next k h =
        row_more (has_below k) (has_below (k + 1)) c (bit (report_set T k) a) here (λ d n. other d n (permitted T d) refl) 16 r.0
      where
        c : ℕ
        c = permitted_at T k

        r : (c < 1024) × (permitted T c ≡ true) × (count_below (permitted T) c ≡ k)
        r = is_permitted k h

        here : has_below (k + 1) c ≡ (has_below k c || bit (report_set T k) a)
        here = rw (r.2, r.1, lt-ltb k (k + 1) (omega arith), le-ltb k k (omega arith))

        rank : (d : ℕ) → d ≢ c → permitted T d ≡ true → Dec (count_below (permitted T) d < k)
            → ltb (count_below (permitted T) d) (k + 1) ≡ ltb (count_below (permitted T) d) k
        rank d n e (yes l) =
            lt-ltb (count_below (permitted T) d) (k + 1) (omega arith) ∙ sym (lt-ltb (count_below (permitted T) d) k l)
        rank d n e (no l) =
            let u : count_below (permitted T) d ≡ k → ⊥ = λ f. n (count_one (permitted T) d c e r.1 (f ∙ sym r.2)) in
            le-ltb (count_below (permitted T) d) (k + 1) (omega (arith, u)) ∙ sym (le-ltb (count_below (permitted T) d) k (omega arith))

        other : (d : ℕ) → d ≢ c → (t : Bool) → permitted T d ≡ t → has_below (k + 1) d ≡ has_below k d
        other d n true e = ap (λ (t : Bool). t && has_column T a d) (rank d n e (dec_lt (count_below (permitted T) d) k))
        other d n false e =
            rw e (and-false (ltb (count_below (permitted T) d) (k + 1)) ∙ sym (and-false (ltb (count_below (permitted T) d) k)))

    -- with all numbers it is the column row
    row_all : (k : ℕ) → permitted_in_all T ≤ k → row_of 16 (has_below k) ≡ column_row T a
    unfolding permitted_in_all
    row_all k h = row_of_same 16 (has_below k) (has_column T a) (λ c l. go c l (permitted T c) refl)
      where
        go : (c : ℕ) → c < 1024 → (t : Bool) → permitted T c ≡ t → has_below k c ≡ has_column T a c
        go c l true e =
            ap (λ (t : Bool). t && has_column T a c) (lt-ltb (count_below (permitted T) c) k (lt_of_lt_of_le (count_lt (permitted T) c 1024 l e) h))
        go c l false e = rw e (and-false (ltb (count_below (permitted T) c) k))

-- ---- the loop over the permitted configurations that makes the row: those numbered below k have been gone through

pub record RowMaking (a : ℕ) (gathered : List SetAt) (words : List ℕ) (k : ℕ) : Type 0 where
  pub size : length words ≡ 16
  pub made : (T : Tables) → SetsGathered T gathered → words ≡ row_of 16 (has_below T a k)

module _ {gathered : List SetAt} {k : ℕ} (h : k < length gathered) where
  numbered : {T : Tables} → SetsGathered T gathered → k < permitted_in_all T
  numbered G = subst (λ (n : ℕ). k < n) G.all h

  -- the word of the configuration is there
  pub making_place : SomeGathered gathered → (d : SetAt) → (get_or gathered k d).configuration / 64 < 16
  making_place A d =
      let e = (A.gathers.each k d h).permits in
      let l = (is_permitted A.tables k (numbered A.gathers)).0 in
      omega arith

  pub making_more : {a : ℕ} {words : List ℕ} → RowMaking a gathered words k → (d : SetAt) {shown : ℕ}
      → shown ≡ cond (bit (get_or gathered k d).set.bits a) (2 ^ ((get_or gathered k d).configuration % 64)) 0
      → RowMaking a gathered
      (set words ((get_or gathered k d).configuration / 64) (bit_or (get_or words ((get_or gathered k d).configuration / 64) 0) shown)) (k + 1)
  making_more {a} {words} S d e = record {
    size = length-set words _ _ ∙ S.size;
    made = λ T G. let g = G.each k d h in rw (e, g.permits, g.shown, S.made T G) (row_next T a k (numbered G));
  }

module _ {a : ℕ} {gathered : List SetAt} where
  pub making_none : RowMaking a gathered (replicate 16 0) 0
  making_none = record { size = length-replicate {A = ℕ} 16 0; made = λ T G. row_none T a }

  pub making_all : {words : List ℕ} {k : ℕ} → RowMaking a gathered words k → length gathered ≤ k → (T : Tables) → SetsGathered T gathered
      → words ≡ column_row T a
  making_all {words} {k} S h T G = S.made T G ∙ row_all T a k (subst (λ (n : ℕ). n ≤ k) G.all h)

-- ---- the attributes that any of the sets has: those of the sets below k have been looked at

pub record Joining (gathered : List SetAt) (shown k : ℕ) : Type 0 where
  pub has : (j a : ℕ) (d : SetAt) → j < k → bit (get_or gathered j d).set.bits a ≡ true → bit shown a ≡ true

pub joining_more : {gathered : List SetAt} {shown k : ℕ} → Joining gathered shown k → k < length gathered → (e : SetAt) {joined : ℕ}
    → joined ≡ bit_or shown (get_or gathered k e).set.bits → Joining gathered joined (k + 1)
joining_more {gathered} {shown} {k} S h e {joined} is = record { has = λ j a d l t. go j a d l t (dec_lt j k) }
  where
    s : ℕ
    s = (get_or gathered k e).set.bits

    either : (a : ℕ) → (bit shown a || bit s a) ≡ true → bit joined a ≡ true
    either a t = ap (λ (x : ℕ). bit x a) is ∙ bit-or shown s a ∙ t

    go : (j a : ℕ) (d : SetAt) → j < k + 1 → bit (get_or gathered j d).set.bits a ≡ true → Dec (j < k) → bit joined a ≡ true
    go j a d l t (yes m) = either a (ap (λ (b : Bool). b || bit s a) (S.has j a d m t))
    go j a d l t (no m) =
        let i : k ≡ j = omega arith in
        let same : get_or gathered k e ≡ get_or gathered j d = get_or_default gathered k e d h ∙ ap (λ (x : ℕ). get_or gathered x d) i in
        either a (ap (λ (b : Bool). bit shown a || b) (ap (λ (x : SetAt). bit x.set.bits a) same ∙ t) ∙ or-true (bit shown a))

-- an attribute that no set has has an empty row
pub column_empty : {T : Tables} {gathered : List SetAt} {shown : ℕ} → SetsGathered T gathered
    → ShownAnywhere gathered shown → (a : ℕ) → bit shown a ≡ false → column_row T a ≡ replicate 16 0
unfolding permitted_in_all
column_empty {T} {gathered} {shown} G H a e =
    row_of_same 16 (has_column T a) (λ c. false) (λ c l. go c l (permitted T c) refl (bit (set_of T c (report T)) a) refl) ∙ no_row
  where
    nothing : SetAt
    nothing = record { configuration = 0; set = record { bits = 0 } }

    go : (c : ℕ) → c < 1024 → (t : Bool) → permitted T c ≡ t → (b : Bool) → bit (set_of T c (report T)) a ≡ b → has_column T a c ≡ false
    go c l false p b q = ap (λ (t : Bool). t && bit (set_of T c (report T)) a) p
    go c l true p false q = ap₂ ◌&&◌ p q
    go c l true p true q =
        let k = count_below (permitted T) c in
        let m : k < length gathered = subst (λ (n : ℕ). k < n) (sym G.all) (count_lt (permitted T) c 1024 l p) in
        let s : (get_or gathered k nothing).set.bits ≡ set_of T c (report T) =
        (G.each k nothing m).shown ∙ ap (λ (d : ℕ). set_of T d (report T)) (permitted_at_lem T c l p) in
        absurd (false≢true (sym e ∙ H.has k a nothing m (ap (λ (x : ℕ). bit x a) s ∙ q)))

-- ---- the loop over the attributes that stores their rows: one more

pub columns_more : {Reads : Tables → Type 0} {items : ℕ} {lent columns : List ℕ} {a : ℕ}
    → RowsFilling Reads (λ T x k. column_row T k) 0 items lent columns a → a < items → {after : List ℕ} → length after ≡ length columns
    → ((T : Tables) → Reads T → after ≡ with_row 16 columns a (column_row T a)) → RowsFilling Reads (λ T x k. column_row T k) 0 items lent after (a + 1)
columns_more {lent} {a} S h same stored = record {
  most = omega arith;
  size = same ∙ S.size;
  filled = λ T R.
      stored T R ∙ ap (λ (l : List ℕ). with_row 16 l a (column_row T a)) (S.filled T R)
      ∙ with_row_more 16 (column_row T) a lent (λ i l. column_wide T i);
}
