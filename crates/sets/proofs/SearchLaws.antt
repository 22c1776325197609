-- Laws of searches and counts over the numbers below a bound.
use Rattle.std.specs.Prelude.{Option, Some, None}
use Prim.Native.Nat.{ℕ, zero, suc, ◌+◌, ◌<◌, ◌≤◌}
use mathlib.Core.Path.{◌≡◌, refl, sym, ap, ap₂, ◌∙◌}
use mathlib.Core.Bool.{Bool, true, false, cond, not, ◌&&◌, ◌||◌, and-eq-true_iff, or-true, false≢true}
use mathlib.Core.Logic.{⊎_elim, ◌≢◌}
use native.Mathlib.Nat.{eq-or-lt_of_le, le_refl, add-zero, suc-add, not-suc-le-zero, le_of_suc-le-suc}
use native.Mathlib.Numerals.{add-one, unary_clauses}
use native.Mathlib.Decide.{le_ind, dec_lt}
use native.Mathlib.Omega.{arith}
use borrow.Author.Tests.{not-true, not-false, eqb-true, eq-eqb}
use lib.Dec.{eqb}
use Rattle.sets.specs.Search.{seek, lowest, First, is_found, some_below, all_below, count_below, Nth}

-- two truths of which each follows from the other
pub same_truth : (a b : Bool) → (a ≡ true → b ≡ true) → (b ≡ true → a ≡ true) → a ≡ b
same_truth true b f g = sym (f refl)
same_truth false true f g = g refl
same_truth false false f g = refl

-- ---- the search from `from` on

-- k is the lowest of the n numbers from `from` on at which the test holds
pub record Least (test : ℕ → Bool) (from n k : ℕ) : Type 0 where
  pub within : (from ≤ k) × (k < from + n)
  pub holds : test k ≡ true
  pub before : (j : ℕ) → from ≤ j → j < k → test j ≡ false

module _ (test : ℕ → Bool) where
  -- one step: the test holds at `from`, or it does not
  pub seek_here : (n from : ℕ) → test from ≡ true → seek test (suc n) from ≡ Some from
  seek_here n from e = rw (e, seek)

  pub seek_skip : (n from : ℕ) → test from ≡ false → seek test (suc n) from ≡ seek test n (suc from)
  seek_skip n from e = rw (e, seek)

  -- a search finds nothing exactly where the test holds at none of the numbers
  pub seek_nothing : (n from : ℕ) → seek test n from ≡ None → (k : ℕ) → from ≤ k → k < from + n → test k ≡ false
  seek_nothing zero from e k l h = absurd (omega arith)
  seek_nothing (suc n) from e k l h = go (test from) refl (λ r q. seek_nothing n (suc from) r k q (omega arith))
    where
      go : (b : Bool) → test from ≡ b → (seek test n (suc from) ≡ None → from < k → test k ≡ false) → test k ≡ false
      go true t later = absurd (let s = seek_here n from t in let z : ◌≡◌ {A = ℕ} 0 1 = cc in omega arith)
      go false t later = ⊎_elim (λ q. rw (← q) t) (λ q. later (sym (seek_skip n from t) ∙ e) q) (eq-or-lt_of_le l)

  pub nothing_seek : (n from : ℕ) → ((k : ℕ) → from ≤ k → k < from + n → test k ≡ false) → seek test n from ≡ None
  nothing_seek zero from h = refl
  nothing_seek (suc n) from h =
      seek_skip n from (h from (omega arith) (omega arith)) ∙ nothing_seek n (suc from) (λ k l u. h k (omega arith) (omega arith))

  -- it finds a number exactly where that is the lowest at which the test holds
  pub seek_least : (n from k : ℕ) → seek test n from ≡ Some k → Least test from n k
  seek_least zero from k e = absurd (let z : ◌≡◌ {A = ℕ} 0 1 = cc in omega arith)
  seek_least (suc n) from k e = go (test from) refl (seek_least n (suc from) k)
    where
      go : (b : Bool) → test from ≡ b → (seek test n (suc from) ≡ Some k → Least test (suc from) n k) → Least test from (suc n) k
      go true t later =
          let s = seek_here n from t in
          let q : from ≡ k = cc in
          record { within = (omega arith, omega arith); holds = rw (← q) t; before = λ j l h. absurd (omega arith) }
      go false t later =
          let r = later (sym (seek_skip n from t) ∙ e) in
          record {
            within = (omega arith, omega arith);
            holds = r.holds;
            before = λ j l h. ⊎_elim (λ (q : from ≡ j). rw (← q) t) (λ q. r.before j q h) (eq-or-lt_of_le l);
          }

  pub least_seek : (n from k : ℕ) → Least test from n k → seek test n from ≡ Some k
  least_seek zero from k r = absurd (omega arith)
  least_seek (suc n) from k r = ⊎_elim here (later (least_seek n (suc from) k)) (eq-or-lt_of_le r.within.0)
    where
      here : from ≡ k → seek test (suc n) from ≡ Some k
      here q = seek_here n from (rw q r.holds) ∙ rw q

      later : (Least test (suc from) n k → seek test n (suc from) ≡ Some k) → from < k → seek test (suc n) from ≡ Some k
      later ih q =
          seek_skip n from (r.before from (omega arith) q)
          ∙ ih (record { within = (q, omega arith); holds = r.holds; before = λ j l h. r.before j (omega arith) h })

  -- the same of the search from 0 on
  module _ (n : ℕ) where
    pub lowest_nothing : lowest test n ≡ None → (k : ℕ) → k < n → test k ≡ false
    lowest_nothing e k h = seek_nothing n 0 e k (omega arith) (omega arith)

    pub nothing_lowest : ((k : ℕ) → k < n → test k ≡ false) → lowest test n ≡ None
    nothing_lowest h = nothing_seek n 0 (λ k l u. h k (omega arith))

    pub lowest_at : (k : ℕ) → lowest test n ≡ Some k → First test n k
    lowest_at k e = let r = seek_least n 0 k e in record { below = omega arith; holds = r.holds; before = λ j h. r.before j (omega arith) h }

    pub at_lowest : (k : ℕ) → First test n k → lowest test n ≡ Some k
    at_lowest k r =
        least_seek n 0 k (record { within = (omega arith, omega arith); holds = r.holds; before = λ j l h. r.before j h })

    -- ---- the test holds at some number below n, at none of them

    pub some_at : some_below test n ≡ true → (k : ℕ) × (k < n) × (test k ≡ true)
    some_at = go (lowest test n) refl
      where
        go : (x : Option ℕ) → lowest test n ≡ x → is_found x ≡ true → (k : ℕ) × (k < n) × (test k ≡ true)
        go (Some k) e t = let r = lowest_at k e in (k, r.below, r.holds)
        go None e t = absurd (false≢true t)

    pub some_none : some_below test n ≡ false → (k : ℕ) → k < n → test k ≡ false
    some_none = go (lowest test n) refl
      where
        go : (x : Option ℕ) → lowest test n ≡ x → is_found x ≡ false → (k : ℕ) → k < n → test k ≡ false
        go (Some k) e t = absurd (false≢true (sym t))
        go None e t = lowest_nothing e

    pub none_some : ((k : ℕ) → k < n → test k ≡ false) → some_below test n ≡ false
    none_some h = ap is_found (nothing_lowest h)

    pub at_some : (k : ℕ) → k < n → test k ≡ true → some_below test n ≡ true
    at_some k h t = go (some_below test n) refl
      where
        go : (b : Bool) → some_below test n ≡ b → some_below test n ≡ true
        go true e = e
        go false e = absurd (false≢true (sym (some_none e k h) ∙ t))

  -- one number more
  pub some_below_suc : (n : ℕ) → some_below test (suc n) ≡ (some_below test n || test n)
  some_below_suc n = go (some_below test n) (test n) refl refl
    where
      go : (b c : Bool) → some_below test n ≡ b → test n ≡ c → some_below test (suc n) ≡ (b || c)
      go true c e t = let r = some_at n e in at_some (suc n) r.0 (omega arith) r.2
      go false true e t = at_some (suc n) n (le_refl (suc n)) t
      go false false e t =
          none_some (suc n) (λ k h. ⊎_elim (λ (q : k ≡ n). rw q t) (some_none n e k) (eq-or-lt_of_le (le_of_suc-le-suc h)))

-- the test holds at every number below n
module _ (test : ℕ → Bool) (n : ℕ) where
  pub all_at : all_below test n ≡ true → (k : ℕ) → k < n → test k ≡ true
  all_at e k h = not-false (test k) (some_none (λ j. not (test j)) n (not-true (some_below (λ j. not (test j)) n) e) k h)

  pub at_all : ((k : ℕ) → k < n → test k ≡ true) → all_below test n ≡ true
  at_all h = ap not (none_some (λ j. not (test j)) n (λ k l. ap not (h k l)))

-- a test that fails from m on may be looked for below m alone
module _ (test : ℕ → Bool) (m n : ℕ) (more : m ≤ n) (out : (k : ℕ) → m ≤ k → test k ≡ false) where
  pub lowest_narrow : lowest test n ≡ lowest test m
  lowest_narrow = go (lowest test m) refl
    where
      none : lowest test m ≡ None → (k : ℕ) → Dec (k < m) → test k ≡ false
      none e k (yes l) = lowest_nothing test m e k l
      none e k (no l) = out k (omega arith)

      go : (x : Option ℕ) → lowest test m ≡ x → lowest test n ≡ x
      go (Some k) e =
          let r = lowest_at test m k e in
          at_lowest test n k (record { below = let b = r.below in omega arith; holds = r.holds; before = r.before })
      go None e = nothing_lowest test n (λ k l. none e k (dec_lt k m))

  pub some_narrow : some_below test n ≡ some_below test m
  some_narrow = ap is_found lowest_narrow

-- ---- tests that agree below the bound

module _ (f g : ℕ → Bool) where
  pub seek_same : (n from : ℕ) → ((k : ℕ) → from ≤ k → k < from + n → f k ≡ g k) → seek f n from ≡ seek g n from
  seek_same zero from h = refl
  seek_same (suc n) from h =
      ap₂ (λ (b : Bool) (r : Option ℕ). elim b as (λ x. Option ℕ) [ true ↦ Some from | false ↦ r ]) (h from (omega arith) (omega arith))
      (seek_same n (suc from) (λ k l u. h k (omega arith) (omega arith)))

  module _ (n : ℕ) (h : (k : ℕ) → k < n → f k ≡ g k) where
    pub lowest_same : lowest f n ≡ lowest g n
    lowest_same = seek_same n 0 (λ k l u. h k (omega arith))

    pub some_same : some_below f n ≡ some_below g n
    some_same = ap is_found lowest_same

  pub count_same : (n : ℕ) → ((k : ℕ) → k < n → f k ≡ g k) → count_below f n ≡ count_below g n
  count_same zero h = refl
  count_same (suc n) h =
      ap₂ (λ (x : ℕ) (b : Bool). x + cond b 1 0) (count_same n (λ k l. h k (omega arith))) (h n (le_refl (suc n)))

-- ---- counts

-- the test holds at the first number or not, and at the others
pub count_head : (test : ℕ → Bool) (n : ℕ) → count_below test (suc n) ≡ cond (test 0) 1 0 + count_below (λ j. test (suc j)) n
count_head test zero = omega arith
count_head test (suc n) = omega (arith, count_head test n)

-- the first m numbers, and n more
pub count_add : (test : ℕ → Bool) (m n : ℕ) → count_below test (m + n) ≡ count_below test m + count_below (λ j. test (m + j)) n
count_add test m zero = simp unary_clauses
count_add test m (suc n) = simp unary_clauses (omega (arith, count_add test m n))

-- g holds where f does, and at a besides
pub count_besides : (f g : ℕ → Bool) (a n : ℕ) → a < n → f a ≡ false → g a ≡ true → ((i : ℕ) → i ≢ a → g i ≡ f i)
    → count_below g n ≡ suc (count_below f n)
count_besides f g a zero h p q same = absurd (not-suc-le-zero h)
count_besides f g a (suc n) h p q same = ⊎_elim last (λ (l : a < n). lower l (count_besides f g a n l p q same)) (eq-or-lt_of_le (le_of_suc-le-suc h))
  where
    last : a ≡ n → count_below g (suc n) ≡ suc (count_below f (suc n))
    last e =
        ap₂ (λ (k : ℕ) (t : Bool). k + cond t 1 0) (count_same g f n (λ k l. same k (λ d. absurd (omega arith)))) (ap g (sym e) ∙ q)
        ∙ add-one (count_below f n) ∙ ap suc (sym (ap (λ (t : Bool). count_below f n + cond t 1 0) (ap f (sym e) ∙ p) ∙ add-zero (count_below f n)))

    lower : a < n → count_below g n ≡ suc (count_below f n) → count_below g (suc n) ≡ suc (count_below f (suc n))
    lower l ih = ap₂ (λ (k : ℕ) (t : Bool). k + cond t 1 0) ih (same n (λ d. absurd (omega arith))) ∙ suc-add (count_below f n) _

module _ (keep : ℕ → Bool) where
  -- one number more
  pub count_yes : (n : ℕ) → keep n ≡ true → count_below keep (suc n) ≡ suc (count_below keep n)
  count_yes n e = ap (λ (t : Bool). count_below keep n + cond t 1 0) e ∙ add-one (count_below keep n)

  pub count_no : (n : ℕ) → keep n ≡ false → count_below keep (suc n) ≡ count_below keep n
  count_no n e = ap (λ (t : Bool). count_below keep n + cond t 1 0) e ∙ add-zero (count_below keep n)

  -- a count grows with the bound, by at most one for each number
  pub count_mono : (i n : ℕ) → i ≤ n → count_below keep i ≤ count_below keep n
  count_mono i n h = le_ind (λ (m : ℕ). count_below keep i ≤ count_below keep m) (le_refl (count_below keep i)) (λ m l ih. omega arith) n h

  pub count_lt : (i n : ℕ) → i < n → keep i ≡ true → count_below keep i < count_below keep n
  count_lt i n h k = let m = count_mono (suc i) n h in let e = count_yes i k in omega arith

  pub count_le : (n : ℕ) → count_below keep n ≤ n
  count_le zero = omega arith
  count_le (suc n) = go (keep n) (count_le n)
    where
      go : (t : Bool) → count_below keep n ≤ n → count_below keep n + cond t 1 0 ≤ suc n
      go true h = omega arith
      go false h = omega arith

  -- where none from i on is kept the count stays
  pub count_none : (i n : ℕ) → i ≤ n → ((x : ℕ) → i ≤ x → x < n → keep x ≡ false) → count_below keep n ≡ count_below keep i
  count_none i n h =
      le_ind (λ (m : ℕ). ((x : ℕ) → i ≤ x → x < m → keep x ≡ false) → count_below keep m ≡ count_below keep i) (λ f. refl)
      (λ m l ih f. count_no m (f m l (le_refl (suc m))) ∙ ih (λ x a b. f x a (omega arith))) n h

  -- ranks keep the order of the numbers kept, so each is of one number
  pub count_before : (i j : ℕ) → keep j ≡ true → count_below keep j < count_below keep i → j < i
  count_before i j q h = go (dec_lt j i)
    where
      go : Dec (j < i) → j < i
      go (yes l) = l
      go (no l) = absurd (let m = count_mono i j (omega arith) in omega arith)

  pub count_one : (i j : ℕ) → keep i ≡ true → keep j ≡ true → count_below keep i ≡ count_below keep j → i ≡ j
  count_one i j p q e =
      let a : i < j → ⊥ = λ l. let m = count_lt i j l p in omega arith in
      let b : j < i → ⊥ = λ l. let m = count_lt j i l q in omega arith in
      omega (arith, a, b)

  -- every number below the count is the rank of a number kept
  pub nth : (n k : ℕ) → k < count_below keep n → Nth keep n k
  nth zero k h = absurd (not-suc-le-zero h)
  nth (suc n) k h = go (keep n) refl (nth n k) (dec_lt k (count_below keep n))
    where
      step : Nth keep n k → Nth keep (suc n) k
      step r = record { old = r.old; below = let b = r.below in omega arith; passed = r.passed; number = r.number }

      go : (t : Bool) → keep n ≡ t → (k < count_below keep n → Nth keep n k) → Dec (k < count_below keep n) → Nth keep (suc n) k
      go t e ih (yes l) = step (ih l)
      go true e ih (no l) = record { old = n; below = le_refl (suc n); passed = e; number = let y = count_yes n e in omega arith }
      go false e ih (no l) = absurd (let y = count_no n e in omega arith)

-- ---- exactly one

-- k is the one number below n at which the test holds
pub record Sole (test : ℕ → Bool) (n k : ℕ) : Type 0 where
  pub below : k < n
  pub holds : test k ≡ true
  pub alone : (j : ℕ) → j < n → test j ≡ true → j ≡ k

module _ (test : ℕ → Bool) (n : ℕ) where
  pub count_sole : count_below test n ≡ 1 → (k : ℕ) × Sole test n k
  count_sole e =
      let r = nth test n 0 (omega arith) in (
        r.old,
        record {
          below = r.below;
          holds = r.passed;
          alone =
              λ j l t. count_one test j r.old t r.passed (let h = count_lt test j n l t in let z = r.number in omega arith);
        },
      )

  pub sole_count : {k : ℕ} → Sole test n k → count_below test n ≡ 1
  sole_count {k} s =
      count_none test (suc k) n s.below (λ x h l. other x l (λ d. absurd (omega arith)))
      ∙ count_yes test k s.holds
      ∙ ap suc (count_none test 0 k (omega arith) (λ x h l. other x (let b = s.below in omega arith) (λ d. absurd (omega arith))))
    where
      other : (x : ℕ) → x < n → x ≢ k → test x ≡ false
      other x l d = go (test x) refl
        where
          go : (t : Bool) → test x ≡ t → t ≡ false
          go true e = absurd (d (s.alone x l e))
          go false e = refl

  -- this number, and no other below n
  abbrev pub is_sole : ℕ → Bool
  is_sole k = test k && all_below (λ j. eqb j k || not (test j)) n

  is_sole_lem : {k : ℕ} → k < n → is_sole k ≡ true → Sole test n k
  is_sole_lem {k} l e =
      let p = (and-eq-true_iff (test k) (all_below (λ j. eqb j k || not (test j)) n)).0 e in
      record {
        below = l;
        holds = p.0;
        alone = λ j h t. go j t (eqb j k) refl (all_at (λ i. eqb i k || not (test i)) n p.1 j h);
      }
    where
      go : (j : ℕ) → test j ≡ true → (b : Bool) → eqb j k ≡ b → (b || not (test j)) ≡ true → j ≡ k
      go j t true q o = eqb-true j k q
      go j t false q o = absurd (false≢true (sym (ap not t) ∙ o))

  sole_is : {k : ℕ} → Sole test n k → is_sole k ≡ true
  sole_is {k} s = ap₂ ◌&&◌ s.holds (at_all (λ j. eqb j k || not (test j)) n (λ j l. go j l (test j) refl))
    where
      go : (j : ℕ) → j < n → (t : Bool) → test j ≡ t → (eqb j k || not (test j)) ≡ true
      go j l true e = ap (λ (b : Bool). b || not (test j)) (eq-eqb j k (s.alone j l e))
      go j l false e = ap (λ (b : Bool). eqb j k || not b) e ∙ or-true (eqb j k)

  -- a count of one: some number is the one
  pub count_some : eqb (count_below test n) 1 ≡ some_below is_sole n
  count_some =
      same_truth (eqb (count_below test n) 1) (some_below is_sole n)
      (λ e. let r = count_sole (eqb-true (count_below test n) 1 e) in at_some is_sole n r.0 r.1.below (sole_is r.1))
      (λ e. let r = some_at is_sole n e in eq-eqb (count_below test n) 1 (sole_count (is_sole_lem r.1 r.2)))
