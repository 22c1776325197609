-- A file made of forms, group after group, is read: it holds their numbers.
use Prim.Native.Nat.{ℕ, zero, suc, ◌+◌, ◌-◌, ◌*◌, ◌≤◌, ◌<◌}
use mathlib.Core.Path.{◌≡◌, refl, sym, ap, ap₂, ◌∙◌, subst, subst₂}
use mathlib.Core.Logic.{◌⊎◌, inl, inr, ⊎_elim}
use mathlib.Core.Bool.{Bool, true, false, cond, ◌&&◌}
use mathlib.Core.List.{List, [], ◌∷◌, ◌++◌, append_assoc, append-nil, flatten, map, map-append}
use native.Mathlib.Nat.{le_of_suc-le-suc, not-suc-le-zero, le_refl, le_trans, le_of_eq, eq-or-lt_of_le}
use native.Mathlib.Nat.{mul-le-mul_right, suc-mul, zero-mul, le_of_mul-le-mul_right}
use native.Mathlib.Decide.{dec_lt}
use native.Mathlib.Omega.{arith}
use lib.ListN.{length, get_or, length-append, length-map, get_or-append}
use lib.Seq.{get_or-append-add}
use lib.Dec.{eqb}
use borrow.Author.Tests.{eq-eqb, eqb-true, ne_eqb}
use Rattle.sets.specs.Search.{count_below}
use Rattle.sets.specs.Lists.{concat}
use Rattle.sets.proofs.SearchLaws.{count_lt}
use Rattle.sets.proofs.ListLaws.{table_same, concat_same}
use Rattle.report.specs.Text.{line, numbers_in}
use Rattle.report.specs.HarbourFile.{groups, lines_of, all_at_most, group_number, words_of, File, tables_from, at_least_one, file_lines, file_of}
use Rattle.report.proofs.TextLaws.{both_true, every, line_numbers}
use Rattle.report.proofs.LineLaws.{at_most_iff, lines_line, lines_none}
use Rattle.report.proofs.FileLaws.{group_at, group_word, group_wide, line_group, group_in, Good, good_iff, file_holds, file_short, words_count}

-- ---- lists one after another, from the first on

module _ {A : Type 0} where
  concat_head : (n : ℕ) (f : ℕ → List A) → concat (suc n) f ≡ f 0 ++ concat n (λ k. f (suc k))
  concat_head zero f = sym (append-nil (f 0))
  concat_head (suc n) f = ap (λ (l : List A). l ++ f (suc n)) (concat_head n f) ∙ append_assoc (f 0) (concat n (λ k. f (suc k))) (f (suc n))

  -- of the lists the one with number g
  module _ (f : ℕ → List A) (g : ℕ) where
    one : ℕ → List A
    one h = cond (eqb h g) (f h) []

    concat_none : (n : ℕ) → n ≤ g → concat n one ≡ []
    unfolding one
    concat_none zero h = refl
    concat_none (suc n) h = rw (concat_none n (omega arith), ne_eqb n g (λ e. omega arith))

    concat_one : (n : ℕ) → g < n → concat n one ≡ f g
    unfolding one
    concat_one zero h = absurd (not-suc-le-zero h)
    concat_one (suc n) h = ⊎_elim last (λ (l : g < n). earlier l (concat_one n l)) (eq-or-lt_of_le (le_of_suc-le-suc h))
      where
        last : g ≡ n → concat (suc n) one ≡ f g
        last e = rw (concat_none n (omega arith), eq-eqb n g (sym e)) (ap f (sym e))

        earlier : g < n → concat n one ≡ f g → concat (suc n) one ≡ f g
        earlier l e = rw (e, ne_eqb n g (λ q. omega arith)) (append-nil (f g))

map-concat : {A B : Type 0} (h : A → B) (n : ℕ) (f : ℕ → List A) → map h (concat n f) ≡ concat n (λ k. map h (f k))
map-concat h zero f = refl
map-concat h (suc n) f = map-append h (concat n f) (f n) ∙ ap (λ l. l ++ map h (f n)) (map-concat h n f)

-- ---- a file made of forms: of each group g a line for each of its lists of numbers

-- numbers of a line of group g
abbrev pub fits : ℕ → List ℕ → Bool
fits g ns = eqb (length ns) (group_at g).shape.width && all_at_most 65535 ns

-- the lines of group g, with these numbers
abbrev pub group_text : ℕ → List (List ℕ) → List ℕ
group_text g forms = flatten (map (line (group_at g).word) forms)

-- the numbers of the lines of group g
abbrev picked : ℕ → List (List ℕ) → List ℕ
picked g [] = []
picked g (l ∷ ls) = cond (eqb (group_number groups l) g) (numbers_in l) [] ++ picked g ls

words_picked : (g : ℕ) (lines : List (List ℕ)) → words_of (group_in lines) lines g ≡ picked g lines
words_picked g [] = refl
words_picked g (l ∷ ls) =
    concat_head (length ls) (λ k. cond (eqb (group_in (l ∷ ls) k) g) (numbers_in (get_or (l ∷ ls) k [])) [])
    ∙ ap (λ (x : List ℕ). cond (eqb (group_number groups l) g) (numbers_in l) [] ++ x) (words_picked g ls)

picked_append : (g : ℕ) (xs ys : List (List ℕ)) → picked g (xs ++ ys) ≡ picked g xs ++ picked g ys
picked_append g [] ys = refl
picked_append g (x ∷ xs) ys =
    ap (λ (l : List ℕ). cond (eqb (group_number groups x) g) (numbers_in x) [] ++ l) (picked_append g xs ys)
    ∙ sym (append_assoc (cond (eqb (group_number groups x) g) (numbers_in x) []) (picked g xs) (picked g ys))

-- the lines of one group's forms
module _ (h : ℕ) (small : h < length groups) where
  group_lines : (forms : List (List ℕ)) (rest : List ℕ)
      → lines_of (group_text h forms ++ rest) ≡ map (line (group_at h).word) forms ++ lines_of rest
  unfolding flatten
  group_lines [] rest = refl
  group_lines (ns ∷ forms) rest =
      ap lines_of (append_assoc (line (group_at h).word ns) (group_text h forms) rest)
      ∙ lines_line (group_at h).word ns (group_text h forms ++ rest) (group_word h)
      ∙ ap (λ (l : List (List ℕ)). line (group_at h).word ns ∷ l) (group_lines forms rest)

  line_fits : (ns : List ℕ) → fits h ns ≡ true → group_number groups (line (group_at h).word ns) ≡ h
  line_fits ns e =
      let b = both_true (eqb (length ns) (group_at h).shape.width) (all_at_most 65535 ns) e in
      line_group h ns small (eqb-true (length ns) (group_at h).shape.width b.0) ((at_most_iff 65535 ns).0 b.1)

  group_numbers : (forms : List (List ℕ)) → every (fits h) forms ≡ true
      → map (group_number groups) (map (line (group_at h).word) forms) ≡ map (λ ns. h) forms
  group_numbers [] e = refl
  group_numbers (ns ∷ forms) e =
      let b = both_true (fits h ns) (every (fits h) forms) e in
      ap₂ (λ (x : ℕ) (xs : List ℕ). x ∷ xs) (line_fits ns b.0) (group_numbers forms b.1)

  group_picked : (g : ℕ) (forms : List (List ℕ)) → every (fits h) forms ≡ true
      → picked g (map (line (group_at h).word) forms) ≡ cond (eqb h g) (flatten forms) []
  unfolding flatten
  group_picked g [] e = go (eqb h g)
    where
      go : (b : Bool) → ◌≡◌ {A = List ℕ} [] (cond b [] [])
      go true = refl
      go false = refl
  group_picked g (ns ∷ forms) e =
      let b = both_true (fits h ns) (every (fits h) forms) e in
      rw (line_fits ns b.0, line_numbers (group_at h).word ns (group_word h), group_picked g forms b.1) (go (eqb h g))
    where
      go : (b : Bool) → cond b ns [] ++ cond b (flatten forms) [] ≡ cond b (ns ++ flatten forms) []
      go true = refl
      go false = refl

  forms_length : (forms : List (List ℕ)) → every (fits h) forms ≡ true → length (flatten forms) ≡ length forms * (group_at h).shape.width
  unfolding flatten
  forms_length [] e = sym (zero-mul (group_at h).shape.width)
  forms_length (ns ∷ forms) e =
      let b = both_true (fits h ns) (every (fits h) forms) e in
      let c = both_true (eqb (length ns) (group_at h).shape.width) (all_at_most 65535 ns) b.0 in
      length-append ns (flatten forms)
      ∙ ap₂ ◌+◌ (eqb-true (length ns) (group_at h).shape.width c.0) (forms_length forms b.1)
      ∙ omega (arith, suc-mul (length forms) (group_at h).shape.width)

-- the places of a list that is made of blocks, block g of length (forms g) times g
module _ (forms : ℕ → List (List ℕ)) where
  abbrev blocks : ℕ → List ℕ
  blocks n = concat n (λ g. map (λ ns. g) (forms g))

  -- and past the last no group's, as `group_in` has it
  abbrev block_at : ℕ → ℕ → ℕ
  block_at n k = get_or (blocks n) k (length groups)

  abbrev Earlier : ℕ → ℕ → Type 0
  Earlier n k = (k < length (blocks n)) × (block_at (suc n) k ≡ block_at n k)

  last_block : (n k : ℕ) → k < length (blocks (suc n)) → Earlier n k ⊎ (block_at (suc n) k ≡ n)
  last_block n k h = go (dec_lt k (length (blocks n)))
    where
      same : (l : List (List ℕ)) (i : ℕ) → i < length (map (λ ns. n) l) → get_or (map (λ ns. n) l) i (length groups) ≡ n
      same [] i h = absurd (not-suc-le-zero h)
      same (x ∷ l) zero h = refl
      same (x ∷ l) (suc i) h = same l i (le_of_suc-le-suc h)

      go : Dec (k < length (blocks n)) → Earlier n k ⊎ (block_at (suc n) k ≡ n)
      go (yes l) = inl (l, get_or-append (blocks n) (map (λ ns. n) (forms n)) (length groups) k l)
      go (no l) =
          let e : k ≡ length (blocks n) + (k - length (blocks n)) = omega arith in
          inr
          (ap (λ (x : ℕ). block_at (suc n) x) e
          ∙ get_or-append-add (blocks n) (map (λ ns. n) (forms n)) (k - length (blocks n)) (length groups)
          ∙ same (forms n) (k - length (blocks n)) (omega (arith, length-append (blocks n) (map (λ ns. n) (forms n)))))

  blocks_known : (n k : ℕ) → k < length (blocks n) → block_at n k < n
  blocks_known zero k h = absurd (not-suc-le-zero h)
  blocks_known (suc n) k h =
      ⊎_elim (λ (l : Earlier n k). let b = blocks_known n k l.0 in omega (arith, l.1))
      (λ e. omega arith) (last_block n k h)

  blocks_order : (n j k : ℕ) → j < k → k < length (blocks n) → block_at n j ≤ block_at n k
  blocks_order zero j k l h = absurd (not-suc-le-zero h)
  blocks_order (suc n) j k l h =
      ⊎_elim
      (λ (b : Earlier n k).
      let e = get_or-append (blocks n) (map (λ ns. n) (forms n)) (length groups) j (omega (arith, b.0)) in
      let i = blocks_order n j k l b.0 in
      omega (arith, b.1))
      (λ (e : block_at (suc n) k ≡ n). let b = blocks_known (suc n) j (omega arith) in omega arith) (last_block n k h)

-- tables of the same words are the same
pub tables_same : (u v : ℕ → List ℕ) → ((g : ℕ) → g < length groups → u g ≡ v g) → tables_from u ≡ tables_from v
tables_same u v h = ap (λ (l : List (List ℕ)). tables_from (λ g. get_or l g [])) (table_same (length groups) u v h)

-- Forms that fit: as many numbers as the form has words, each at most 65535, no more than the range, and a head
pub record Forms (forms : ℕ → List (List ℕ)) : Type 0 where
  pub fit : (g : ℕ) → g < length groups → every (fits g) (forms g) ≡ true
  pub range : (g : ℕ) → g < length groups → length (forms g) ≤ (group_at g).shape.most
  pub head : 0 < length (forms 0)

-- the text: the lines of all groups
abbrev pub forms_text : (ℕ → List (List ℕ)) → List ℕ
forms_text forms = concat (length groups) (λ g. group_text g (forms g))

module _ (forms : ℕ → List (List ℕ)) (F : Forms forms) where
  abbrev lines_to : ℕ → List (List ℕ)
  lines_to n = concat n (λ g. map (line (group_at g).word) (forms g))

  abbrev all_lines : List (List ℕ)
  all_lines = lines_to (length groups)

  -- the groups of all lines
  abbrev all_blocks : List ℕ
  all_blocks = blocks forms (length groups)

  text_lines : (n : ℕ) → n ≤ length groups → (rest : List ℕ) → lines_of (concat n (λ g. group_text g (forms g)) ++ rest) ≡ lines_to n ++ lines_of rest
  text_lines zero h rest = refl
  text_lines (suc n) h rest =
      ap lines_of (append_assoc (concat n (λ g. group_text g (forms g))) (group_text n (forms n)) rest)
      ∙ text_lines n (omega arith) (group_text n (forms n) ++ rest)
      ∙ ap (λ (l : List (List ℕ)). lines_to n ++ l) (group_lines n h (forms n) rest)
      ∙ sym (append_assoc (lines_to n) (map (line (group_at n).word) (forms n)) (lines_of rest))

  line-groups : map (group_number groups) all_lines ≡ all_blocks
  line-groups =
      map-concat (group_number groups) (length groups) (λ g. map (line (group_at g).word) (forms g))
      ∙ concat_same (length groups) (λ g. map (group_number groups) (map (line (group_at g).word) (forms g))) (λ g. map (λ ns. g) (forms g))
      (λ g h. group_numbers g h (forms g) (F.fit g h))

  picked_to : (g n : ℕ) → n ≤ length groups → picked g (lines_to n) ≡ concat n (λ h. cond (eqb h g) (flatten (forms h)) [])
  picked_to g zero h = refl
  picked_to g (suc n) h =
      picked_append g (lines_to n) (map (line (group_at n).word) (forms n))
      ∙ ap₂ ◌++◌ (picked_to g n (omega arith)) (group_picked n h g (forms n) (F.fit n h))

  words_back : (g : ℕ) → g < length groups → words_of (group_in all_lines) all_lines g ≡ flatten (forms g)
  unfolding one
  words_back g h =
      words_picked g all_lines ∙ picked_to g (length groups) (le_refl (length groups)) ∙ concat_one (λ h. flatten (forms h)) g (length groups) h

  group_count : (g : ℕ) → g < length groups → count_below (λ k. eqb (group_in all_lines k) g) (length all_lines) ≤ (group_at g).shape.most
  group_count g h =
      le_of_mul-le-mul_right {k = (group_at g).shape.width}
      (le_trans
      (le_of_eq (sym (words_count all_lines g h) ∙ ap length (words_back g h) ∙ forms_length g h (forms g) (F.fit g h)))
      (mul-le-mul_right (group_at g).shape.width (F.range g h)))
      (group_wide g h)

  group_at_lem : (k : ℕ) → group_in all_lines k ≡ block_at forms (length groups) k
  group_at_lem k = ap (λ (l : List ℕ). get_or l k (length groups)) line-groups

  in_blocks : (k : ℕ) → k < length all_lines → k < length all_blocks
  in_blocks k h = subst (λ (n : ℕ). k < n) (sym (length-map all_lines (group_number groups)) ∙ ap length line-groups) h

  -- the first line is the head
  first_head : group_in all_lines 0 ≡ 0
  first_head =
      group_at_lem 0
      ∙ ap (λ (l : List ℕ). get_or l 0 (length groups)) (concat_head (length groups - 1) (λ g. map (λ ns. g) (forms g)))
      ∙ go (forms 0) F.head _
    where
      go : (l : List (List ℕ)) → 0 < length l → (rest : List ℕ) → get_or (map (λ ns. 0) l ++ rest) 0 (length groups) ≡ 0
      go [] h rest = absurd (not-suc-le-zero h)
      go (x ∷ l) h rest = refl

  good : (k : ℕ) → k < length all_lines → Good (group_in all_lines) k
  good k h =
      let b = in_blocks k h in
      let known : group_in all_lines k < length groups =
      subst (λ (x : ℕ). x < length groups) (sym (group_at_lem k)) (blocks_known forms (length groups) k b) in
      record {
        known = known;
        order = λ j l. subst₂ (λ (x y : ℕ). x ≤ y) (sym (group_at_lem j)) (sym (group_at_lem k)) (blocks_order forms (length groups) j k l b);
        room =
            le_trans
            (count_lt (λ j. eqb (group_in all_lines j) (group_in all_lines k)) k (length all_lines) h (eq-eqb (group_in all_lines k) _ refl))
            (group_count (group_in all_lines k) known);
        head = λ e. ap (group_in all_lines) e ∙ first_head;
      }

  lines_some : (k : ℕ) → k < at_least_one (length all_lines) → k < length all_lines
  lines_some k h = go (length all_lines) some h
    where
      some : 0 < length all_lines
      some =
          subst (λ (l : List (List ℕ)). 0 < length l) (sym (concat_head (length groups - 1) (λ g. map (line (group_at g).word) (forms g))))
          (subst (λ (n : ℕ). 0 < n) (sym (length-append (map (line (group_at 0).word) (forms 0)) _))
          (let e = length-map (forms 0) (line (group_at 0).word) in let f = F.head in omega arith))

      go : (n : ℕ) → 0 < n → k < at_least_one n → k < n
      go zero p q = absurd (not-suc-le-zero p)
      go (suc n) p q = q

  -- a file made of forms that fit is read, and holds their numbers
  pub forms_read : length (forms_text forms) ≤ 65536 → file_of (forms_text forms) ≡ File.holds (tables_from (λ g. flatten (forms g)))
  forms_read short =
      file_short (forms_text forms) short
      ∙ ap file_lines (ap lines_of (sym (append-nil (forms_text forms))) ∙ text_lines (length groups) (le_refl (length groups)) []
      ∙ ap (λ (l : List (List ℕ)). all_lines ++ l) lines_none ∙ append-nil all_lines)
      ∙ (file_holds all_lines (tables_from (λ g. flatten (forms g)))).1
      (λ k h. (good_iff (group_in all_lines) k).1 (good k (lines_some k h)), tables_same _ (λ g. flatten (forms g)) words_back)
