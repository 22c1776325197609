-- Laws of lists given by a rule for each place, for any number of places and any width.
use Prim.Native.Nat.{ℕ, zero, suc, ◌+◌, ◌*◌, ◌<◌, ◌≤◌}
use mathlib.Core.Path.{◌≡◌, refl, sym, ap, ap₂, ◌∙◌}
use mathlib.Core.Bool.{Bool, true, false, cond}
use mathlib.Core.List.{List, [], ◌∷◌, ◌++◌, map, append-nil, append_assoc}
use mathlib.Core.Logic.{⊎_elim, ◌≢◌}
use native.Mathlib.Nat.{le_of_suc-le-suc, not-suc-le-zero, le_refl, eq-or-lt_of_le, zero-mul, suc-mul}
use native.Mathlib.Numerals.{add-one}
use native.Mathlib.Decide.{le_ind, ℕ_discrete}
use native.Mathlib.Omega.{arith}
use lib.ListN.{length, get_or, set, take, drop, length-set, length-append, get_or-append}
use lib.Seq.{ext_get_or, get_or-set_same, get_or-set_other, get_or-append-add, take_at, drop-append-add, drop-drop, drop-cons, set_at}
use denote.Param.Members.{Mut, Called}
use Rattle.std.specs.Array.{IsFromFnResult, IsFromFnResultFrom}
use Rattle.sets.specs.Search.{count_below}
use Rattle.sets.specs.Lists.{table, concat, kept, NumbersAre}
use Rattle.sets.proofs.SearchLaws.{count_yes, count_no}

module _ {A : Type 0} where
  -- ---- tables: their length, their elements, and when two are equal

  pub table-length : (n : ℕ) (f : ℕ → A) → length (table n f) ≡ n
  table-length zero f = refl
  table-length (suc n) f = ap suc (table-length n (λ i. f (suc i)))

  pub table_at : (n : ℕ) (f : ℕ → A) (d : A) (i : ℕ) → i < n → get_or (table n f) i d ≡ f i
  table_at zero f d i h = absurd (not-suc-le-zero h)
  table_at (suc n) f d zero h = refl
  table_at (suc n) f d (suc i) h = table_at n (λ i. f (suc i)) d i (le_of_suc-le-suc h)

  pub table_same : (n : ℕ) (f g : ℕ → A) → ((i : ℕ) → i < n → f i ≡ g i) → table n f ≡ table n g
  table_same zero f g h = refl
  table_same (suc n) f g h =
      ap₂ (λ (x : A) (l : List A). x ∷ l) (h 0 (omega arith)) (table_same n (λ i. f (suc i)) (λ i. g (suc i)) (λ i k. h (suc i) (omega arith)))

  -- a list is the table of its elements
  pub table_of : (d : A) (n : ℕ) (f : ℕ → A) (l : List A) → length l ≡ n → ((i : ℕ) → i < n → get_or l i d ≡ f i) → l ≡ table n f
  table_of d n f l e h =
      ext_get_or d l (table n f) (e ∙ sym (table-length n f)) (λ i g. h i (omega arith) ∙ sym (table_at n f d i (omega arith)))

  -- another element at one place makes another table
  pub table-set : (n : ℕ) (f g : ℕ → A) (k : ℕ) (v : A) → k < n → v ≡ g k → ((i : ℕ) → i ≢ k → f i ≡ g i) → set (table n f) k v ≡ table n g
  table-set n f g k v h e o =
      table_of v n g (set (table n f) k v) (length-set (table n f) k v ∙ table-length n f) (λ i b. go i b (ℕ_discrete i k))
    where
      go : (i : ℕ) → i < n → Dec (i ≡ k) → get_or (set (table n f) k v) i v ≡ g i
      go i b (yes d) =
          ap (λ (x : ℕ). get_or (set (table n f) k v) x v) d ∙ get_or-set_same (table n f) k v v (omega (arith, table-length n f)) ∙ e ∙ ap g (sym d)
      go i b (no d) = get_or-set_other (table n f) k i v v d ∙ table_at n f v i b ∙ o i d

  -- the last element
  pub table_suc : (n : ℕ) (f : ℕ → A) → table (suc n) f ≡ table n f ++ (f n ∷ [])
  table_suc zero f = refl
  table_suc (suc n) f = ap (λ (l : List A). f 0 ∷ l) (table_suc n (λ i. f (suc i)))

  -- one turn of a loop that fills l element by element
  pub table_more : (n : ℕ) (f : ℕ → A) (l : List A) → n < length l → set (table n f ++ drop n l) n (f n) ≡ table (n + 1) f ++ drop (n + 1) l
  table_more n f l h =
      ap (λ (s : List A). set (table n f ++ s) n (f n)) (drop-cons l n (f n) h)
      ∙ set_at (table n f) (get_or l n (f n)) (drop (suc n) l) (f n) n (table-length n f)
      ∙ sym (ap (λ (k : ℕ). table k f ++ drop k l) (add-one n) ∙ ap (λ (s : List A). s ++ drop (suc n) l) (table_suc n f)
      ∙ append_assoc (table n f) (f n ∷ []) (drop (suc n) l))

  -- what each call of a closure that stays as it is gives holds of the elements of the array that its calls made
  made_from : {F : Type 0} {g : Mut F (ℕ × Unit {0}) A} {f : F} (l : List A) (R : ℕ → A → Type 0)
      → ((i : ℕ) (x : A) (q : F) → Called g f (i, tt) x q → (q ≡ f) × R i x)
      → (d : A) (i n : ℕ) → IsFromFnResultFrom g f l i n → (k : ℕ) → i ≤ k → k < i + n → R k (get_or l k d)
  made_from l R step d i zero m k a b = absurd (omega arith)
  made_from {F = F} {g = g} {f = f} l R step d i (suc n) m k a b =
      let s = step i m.1 m.0 m.3 in
      ⊎_elim (λ (e : i ≡ k). rw (← e, m.2.1 d) s.1)
      (λ (u : i < k). made_from {g = g} {f = f} l R step d (i + 1) n (rw s.0 at m.4) k (omega arith) (omega arith)) (eq-or-lt_of_le a)

  module _ {F : Type 0} {g : Mut F (ℕ × Unit {0}) A} {f : F} {l : List A} {n : ℕ} where
    pub made_at : IsFromFnResult g f l n → (R : ℕ → A → Type 0) → ((i : ℕ) (x : A) (q : F) → Called g f (i, tt) x q → (q ≡ f) × R i x)
        → (d : A) (k : ℕ) → k < n → R k (get_or l k d)
    made_at m R step d k h = made_from {g = g} {f = f} l R step d 0 n m.each k (omega arith) (omega arith)

    -- so the array is a table
    pub made_table : (d : A) → IsFromFnResult g f l n → (t : ℕ → A) → ((i : ℕ) (x : A) (q : F) → Called g f (i, tt) x q → (q ≡ f) × (x ≡ t i))
        → l ≡ table n t
    made_table d m t step = table_of d n t l m.long (λ k h. made_at m (λ i x. x ≡ t i) step d k h)

  -- ---- lists one after another: where they are equal, one more, and how their length grows

  pub concat_same : (n : ℕ) (f g : ℕ → List A) → ((i : ℕ) → i < n → f i ≡ g i) → concat n f ≡ concat n g
  concat_same zero f g h = refl
  concat_same (suc n) f g h = ap₂ ◌++◌ (concat_same n f g (λ i k. h i (omega arith))) (h n (le_refl (suc n)))

  -- the first, and then the others
  pub concat_first : (n : ℕ) (f : ℕ → List A) → concat (suc n) f ≡ f 0 ++ concat n (λ i. f (suc i))
  concat_first zero f = sym (append-nil (f 0))
  concat_first (suc n) f = ap (λ (l : List A). l ++ f (suc n)) (concat_first n f) ∙ append_assoc (f 0) (concat n (λ i. f (suc i))) (f (suc n))

  module _ (f : ℕ → List A) where
    size_suc : (n : ℕ) → length (concat (suc n) f) ≡ length (concat n f) + length (f n)
    size_suc n = length-append (concat n f) (f n)

    pub concat_grows : (i n : ℕ) → i ≤ n → length (concat i f) ≤ length (concat n f)
    concat_grows i n h =
        le_ind (λ (m : ℕ). length (concat i f) ≤ length (concat m f)) (le_refl (length (concat i f))) (λ m l ih. omega (arith, size_suc m)) n h

    -- the elements of list i stand after those of the lists before it
    pub concat_in : (d : A) (n i j : ℕ) → i < n → j < length (f i) → get_or (concat n f) (length (concat i f) + j) d ≡ get_or (f i) j d
    concat_in d zero i j h l = absurd (not-suc-le-zero h)
    concat_in d (suc n) i j h l = ⊎_elim same (λ (m : i < n). lower m (concat_in d n i j m l)) (eq-or-lt_of_le (le_of_suc-le-suc h))
      where
        same : i ≡ n → get_or (concat (suc n) f) (length (concat i f) + j) d ≡ get_or (f i) j d
        same e = ap (λ (x : ℕ). get_or (concat (suc x) f) (length (concat i f) + j) d) (sym e) ∙ get_or-append-add (concat i f) (f i) j d

        lower : i < n → get_or (concat n f) (length (concat i f) + j) d ≡ get_or (f i) j d
            → get_or (concat (suc n) f) (length (concat i f) + j) d ≡ get_or (f i) j d
        lower m ih = get_or-append (concat n f) (f n) d (length (concat i f) + j) (omega (arith, concat_grows (suc i) n m, size_suc i)) ∙ ih

    -- one turn of a loop that stores list after list over l: list n goes to `at`, where those before it end, and takes w places
    pub concat_more : (n at w : ℕ) (l : List A) → length (concat n f) ≡ at
        → take at (concat n f ++ drop at l) ++ f n ++ drop (at + w) (concat n f ++ drop at l) ≡ concat (n + 1) f ++ drop (at + w) l
    concat_more n at w l e =
        ap₂ (λ (x y : List A). x ++ f n ++ y) (take_at (concat n f) (drop at l) at e)
        (ap (λ (k : ℕ). drop (k + w) (concat n f ++ drop at l)) (sym e) ∙ drop-append-add (concat n f) (drop at l) w ∙ drop-drop w at l)
        ∙ ap (λ (k : ℕ). concat k f ++ drop (at + w) l) (sym (add-one n))

    -- lists of one width w: their length together, and element j of list i
    module _ (w n : ℕ) (wide : (i : ℕ) → i < n → length (f i) ≡ w) where
      lengths : (m : ℕ) → m ≤ n → length (concat m f) ≡ m * w
      lengths zero h = sym (zero-mul w)
      lengths (suc m) h = size_suc m ∙ ap₂ ◌+◌ (lengths m (omega arith)) (wide m h) ∙ sym (suc-mul m w)

      pub concat-length : length (concat n f) ≡ n * w
      concat-length = lengths n (le_refl n)

      pub concat_at : (d : A) (i j : ℕ) → i < n → j < w → get_or (concat n f) (i * w + j) d ≡ get_or (f i) j d
      concat_at d i j h l =
          ap (λ (x : ℕ). get_or (concat n f) (x + j) d) (sym (lengths i (omega arith))) ∙ concat_in d n i j h (omega (arith, wide i h))

      -- one turn of the loop that stores them over l
      pub concat_step : (l : List A)
          → take (n * w) (concat n f ++ drop (n * w) l) ++ f n ++ drop (n * w + w) (concat n f ++ drop (n * w) l)
          ≡ concat (n + 1) f ++ drop ((n + 1) * w) l
      concat_step l =
          let next : n * w + w ≡ (n + 1) * w = sym (ap (λ (k : ℕ). k * w) (add-one n) ∙ suc-mul n w) in
          concat_more n (n * w) w l concat-length ∙ ap (λ (k : ℕ). concat (n + 1) f ++ drop k l) next

-- a function of each element
pub map-table : {A B : Type 0} (g : A → B) (n : ℕ) (f : ℕ → A) → map g (table n f) ≡ table n (λ i. g (f i))
map-table g zero f = refl
map-table g (suc n) f = ap (λ l. g (f 0) ∷ l) (map-table g n (λ i. f (suc i)))

-- ---- numbers that stand at the front of a list

-- numbers that were written are those of f
pub numbers_are : (count : ℕ) (f : ℕ → ℕ) (rest : List ℕ) {numbers : List ℕ} → numbers ≡ table count f ++ rest → NumbersAre count f numbers
numbers_are count f rest e = record {
  room = omega (arith, ap length e ∙ length-append (table count f) rest, table-length count f);
  each = λ k h.
      ap (λ (l : List ℕ). get_or l k 0) e ∙ get_or-append (table count f) rest 0 k (omega (arith, table-length count f)) ∙ table_at count f 0 k h;
}

-- a loop that writes `count` numbers over `lent`: those below k stand there. What they are numbers of is left open: for each X that the loop can
-- read, those of f X
pub record NumbersFilling {S : Type 0} (Reads : S → Type 0) (f : S → ℕ → ℕ) (count : ℕ) (lent numbers : List ℕ) (k : ℕ) : Type 0 where
  pub most : k ≤ count
  pub size : length numbers ≡ length lent
  pub filled : (X : S) → Reads X → numbers ≡ table k (f X) ++ drop k lent

module _ {S : Type 0} {Reads : S → Type 0} {f : S → ℕ → ℕ} {count : ℕ} {lent : List ℕ} where
  pub filling_none : NumbersFilling Reads f count lent lent 0
  filling_none = record { most = omega arith; size = refl; filled = λ X R. refl }

  module _ {numbers : List ℕ} {k : ℕ} (F : NumbersFilling Reads f count lent numbers k) where
    pub filling_below : {X : S} → Reads X → NumbersAre k (f X) numbers
    filling_below {X} R = numbers_are k (f X) (drop k lent) (F.filled X R)

    module _ (room : count ≤ length lent) (h : k < count) where
      -- there is a place for the next number
      pub filling_place : k < length numbers
      filling_place = let s = F.size in omega arith

      pub filling_more : {n : ℕ} → ((X : S) → Reads X → n ≡ f X k) → NumbersFilling Reads f count lent (set numbers k n) (k + 1)
      filling_more {n} e = record {
        most = omega arith;
        size = length-set numbers k n ∙ F.size;
        filled = λ X R. ap₂ (λ (l : List ℕ) (x : ℕ). set l k x) (F.filled X R) (e X R) ∙ table_more k (f X) lent (omega arith);
      }

    pub filling_all : count ≤ k → (X : S) → Reads X → {whole : ℕ} → count ≡ whole
        → numbers ≡ table whole (f X) ++ drop (length (table whole (f X))) lent
    filling_all h X R {whole} e =
        let m : k ≡ whole = (let l = F.most in omega arith) in
        F.filled X R ∙ ap₂ (λ (i j : ℕ). table i (f X) ++ drop j lent) m (m ∙ sym (table-length whole (f X)))

-- ---- what is kept of a row of lists, one after another

-- where the tests and the lists are equal
pub kept_same : {A : Type 0} (n : ℕ) {keep keep' : ℕ → Bool} {block block' : ℕ → List A} → ((k : ℕ) → k < n → keep k ≡ keep' k)
    → ((k : ℕ) → k < n → block k ≡ block' k) → kept keep block n ≡ kept keep' block' n
kept_same {A} n e f = concat_same n _ _ (λ k h. ap₂ (λ (t : Bool) (l : List A). cond t l []) (e k h) (f k h))

module _ {A : Type 0} (keep : ℕ → Bool) (block : ℕ → List A) where
  -- the list of k where it is kept, and the empty one where not
  abbrev part : ℕ → List A
  part k = cond (keep k) (block k) []

  part_yes : (k : ℕ) → keep k ≡ true → part k ≡ block k
  part_yes k e = ap (λ (t : Bool). cond t (block k) []) e

  -- one more list
  pub kept_yes : (n : ℕ) → keep n ≡ true → kept keep block (suc n) ≡ kept keep block n ++ block n
  kept_yes n e = ap (λ (l : List A). kept keep block n ++ l) (part_yes n e)

  pub kept_no : (n : ℕ) → keep n ≡ false → kept keep block (suc n) ≡ kept keep block n
  kept_no n e = ap (λ (t : Bool). kept keep block n ++ cond t (block n) []) e ∙ append-nil (kept keep block n)

  -- where none from i on is kept, what is kept stays
  pub kept_none : (i n : ℕ) → i ≤ n → ((x : ℕ) → i ≤ x → x < n → keep x ≡ false) → kept keep block n ≡ kept keep block i
  kept_none i n h =
      le_ind (λ (m : ℕ). ((x : ℕ) → i ≤ x → x < m → keep x ≡ false) → kept keep block m ≡ kept keep block i) (λ f. refl)
      (λ m l ih f. kept_no m (f m l (le_refl (suc m))) ∙ ih (λ x a b. f x a (omega arith))) n h

  pub kept_grows : (i n : ℕ) → i ≤ n → length (kept keep block i) ≤ length (kept keep block n)
  kept_grows = concat_grows part

  -- the elements of the list of i stand after those of the lists kept before it
  pub kept_at : (d : A) (n i j : ℕ) → i < n → keep i ≡ true → j < length (block i)
      → get_or (kept keep block n) (length (kept keep block i) + j) d ≡ get_or (block i) j d
  kept_at d n i j h k l =
      concat_in part d n i j h (omega (arith, ap length (part_yes i k))) ∙ ap (λ (s : List A). get_or s j d) (part_yes i k)

  -- lists of one width w: their length together
  module _ (w n : ℕ) (wide : (i : ℕ) → i < n → keep i ≡ true → length (block i) ≡ w) where
    pub kept-length : (m : ℕ) → m ≤ n → length (kept keep block m) ≡ count_below keep m * w
    kept-length zero h = sym (zero-mul w)
    kept-length (suc m) h = go (keep m) refl (kept-length m (omega arith))
      where
        go : (t : Bool) → keep m ≡ t → length (kept keep block m) ≡ count_below keep m * w
            → length (kept keep block (suc m)) ≡ count_below keep (suc m) * w
        go true e before =
            ap length (kept_yes m e) ∙ length-append (kept keep block m) (block m) ∙ ap₂ ◌+◌ before (wide m h e) ∙ sym (suc-mul (count_below keep m) w)
            ∙ ap (λ (x : ℕ). x * w) (sym (count_yes keep m e))
        go false e before = ap length (kept_no m e) ∙ before ∙ ap (λ (x : ℕ). x * w) (sym (count_no keep m e))

    -- an element of the list whose new number is that of i
    pub kept_word : (d : A) (i j : ℕ) → i < n → keep i ≡ true → j < w → get_or (kept keep block n) (count_below keep i * w + j) d ≡ get_or (block i) j d
    kept_word d i j h k l =
        ap (λ (x : ℕ). get_or (kept keep block n) (x + j) d) (sym (kept-length i (omega arith)))
        ∙ kept_at d n i j h k (omega (arith, wide i h k))
