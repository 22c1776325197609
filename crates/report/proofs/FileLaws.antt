-- Laws of specs/HarbourFile, its files: the group of a line, the first bad line, the words of a table.
use Rattle.std.specs.Prelude.{Option, Some, None}
use Prim.Native.Nat.{ℕ, zero, suc, ◌*◌, ◌≤◌, ◌<◌, min}
use mathlib.Core.Path.{◌≡◌, refl, sym, ap, ap₂, ◌∙◌}
use mathlib.Core.Logic.{◌↔◌}
use mathlib.Core.Bool.{Bool, true, false, not, ◌&&◌, ◌||◌, false≢true}
use mathlib.Core.List.{List, [], ◌∷◌, map}
use native.Mathlib.Nat.{le_of_suc-le-suc, not-suc-le-zero, le_refl}
use native.Mathlib.Decide.{dec_lt}
use native.Mathlib.Omega.{arith}
use lib.ListN.{length, get_or, replicate, get_or-eq_default, get_or-map}
use lib.Dec.{leb, ltb, eqb}
use borrow.Author.Tests.{lt-ltb, le-ltb, ltb-true, leb-true, le-leb, lt-leb, leb-false, eq-eqb, eqb-true, not-true, not-false}
use Rattle.sets.specs.Search.{lowest, all_below, count_below, First}
use Rattle.sets.proofs.SearchLaws.{lowest_nothing, nothing_lowest, lowest_at, at_lowest, all_at, at_all}
use Rattle.sets.proofs.ListLaws.{kept-length}
use Rattle.report.specs.Tables.{Tables, shape_of}
use Rattle.report.specs.Text.{line, same, numbers_in}
use Rattle.report.specs.HarbourFile.{Group, group_of, groups, lines_of, is_line_of, group_number, is_bad, words_of}
use Rattle.report.specs.HarbourFile.{File, kinds_or, tables_from, file_or, at_least_one, file_lines, file_of}
use Rattle.report.proofs.TextLaws.{every_at, is_word, line_same, same_iff}
use Rattle.report.proofs.LineLaws.{line_of_iff, line_of_numbers}

-- ---- the group of a line

-- group g, and a group without a word past the last
abbrev pub group_at : ℕ → Group
group_at g = get_or groups g (group_of [] (shape_of 0 0 0))

-- every group's word is one
pub group_word : (g : ℕ) → is_word (group_at g).word ≡ true
group_word g = go (dec_lt g (length groups))
  where
    go : Dec (g < length groups) → is_word (group_at g).word ≡ true
    go (yes h) = every_at (λ (x : Group). is_word x.word) (group_of [] (shape_of 0 0 0)) groups refl g h
    go (no h) = ap (λ (x : Group). is_word x.word) (get_or-eq_default groups (group_of [] (shape_of 0 0 0)) {n = g} (omega arith))

-- its forms have words
pub group_wide : (g : ℕ) → g < length groups → 0 < (group_at g).shape.width
group_wide g h =
    ltb-true 0 (group_at g).shape.width (every_at (λ (x : Group). ltb 0 x.shape.width) (group_of [] (shape_of 0 0 0)) groups refl g h)

-- and no two words are the same
abbrev differ : ℕ → ℕ → Bool
differ i j = eqb i j || not (same (group_at i).word (group_at j).word)

words_differ : (i j : ℕ) → i < length groups → j < length groups → (group_at i).word ≡ (group_at j).word → i ≡ j
words_differ i j p q e =
    go (eqb i j) refl (all_at (differ i) (length groups) (all_at (λ k. all_below (differ k) (length groups)) (length groups) refl i p) j q)
  where
    go : (b : Bool) → eqb i j ≡ b → (b || not (same (group_at i).word (group_at j).word)) ≡ true → i ≡ j
    go true f h = eqb-true i j f
    go false f h =
        absurd (false≢true (sym (not-true (same (group_at i).word (group_at j).word) h) ∙ (same_iff (group_at i).word (group_at j).word).1 e))

-- a text is a line of one group at most
pub one_group : (text : List ℕ) (i j : ℕ) → i < length groups → j < length groups → is_line_of (group_at i) text ≡ true
    → is_line_of (group_at j) text ≡ true → i ≡ j
one_group text i j p q e f =
    let l = (line_of_iff (group_at i) text (group_word i)).0 e in
    let m = (line_of_iff (group_at j) text (group_word j)).0 f in
    words_differ i j p q
    (line_same (group_at i).word (group_at j).word l.numbers m.numbers (group_word i) (group_word j) (sym l.spelled ∙ m.spelled)).0

module _ (d : Group) (text : List ℕ) where
  number_here : (g : Group) (gs : List Group) → is_line_of g text ≡ true → group_number (g ∷ gs) text ≡ 0
  number_here g gs e = rw (e, group_number)

  number_later : (g : Group) (gs : List Group) → is_line_of g text ≡ false → group_number (g ∷ gs) text ≡ suc (group_number gs text)
  number_later g gs e = rw (e, group_number)

  -- the number is that of the first group whose line it is, or past the last
  number_first : (gs : List Group) (i : ℕ) → i ≤ length gs → (i < length gs → is_line_of (get_or gs i d) text ≡ true)
      → ((j : ℕ) → j < i → is_line_of (get_or gs j d) text ≡ false) → group_number gs text ≡ i
  number_first [] i h e before = omega arith
  number_first (g ∷ gs) zero h e before = number_here g gs (e (omega arith))
  number_first (g ∷ gs) (suc i) h e before =
      number_later g gs (before 0 (omega arith))
      ∙ ap suc (number_first gs i (le_of_suc-le-suc h) (λ l. e (omega arith)) (λ j l. before (suc j) (omega arith)))

  number_at : (gs : List Group) (i : ℕ) → group_number gs text ≡ i → i < length gs → is_line_of (get_or gs i d) text ≡ true
  number_at [] i e h = absurd (not-suc-le-zero h)
  number_at (g ∷ gs) i e h = go (is_line_of g text) refl (number_at gs) i e h
    where
      go : (b : Bool) → is_line_of g text ≡ b → ((i : ℕ) → group_number gs text ≡ i → i < length gs → is_line_of (get_or gs i d) text ≡ true)
          → (i : ℕ) → group_number (g ∷ gs) text ≡ i → i < suc (length gs) → is_line_of (get_or (g ∷ gs) i d) text ≡ true
      go true f later zero q l = f
      go true f later (suc i) q l = absurd (let z = number_here g gs f in omega arith)
      go false f later zero q l = absurd (let z = number_later g gs f in omega arith)
      go false f later (suc i) q l = later i (let z = number_later g gs f in omega arith) (le_of_suc-le-suc l)

-- a line has the number of the group that it is a line of
pub group_iff : (text : List ℕ) (g : ℕ) → g < length groups → (group_number groups text ≡ g) ↔ (is_line_of (group_at g) text ≡ true)
group_iff text g h = (
  λ e. number_at (group_of [] (shape_of 0 0 0)) text groups g e h,
  λ e. number_first (group_of [] (shape_of 0 0 0)) text groups g (omega arith) (λ l. e) (before e),
)
  where
    before : is_line_of (group_at g) text ≡ true → (j : ℕ) → j < g → is_line_of (group_at j) text ≡ false
    before e j l = go (is_line_of (group_at j) text) refl
      where
        go : (b : Bool) → is_line_of (group_at j) text ≡ b → is_line_of (group_at j) text ≡ false
        go true f = absurd (let z = one_group text j g (omega arith) h f e in omega arith)
        go false f = f

-- the line that a group's word and fitting numbers make
pub line_group : (g : ℕ) (ns : List ℕ) → g < length groups → length ns ≡ (group_at g).shape.width → ((i : ℕ) → i < length ns → get_or ns i 0 ≤ 65535)
    → group_number groups (line (group_at g).word ns) ≡ g
line_group g ns h c s =
    (group_iff (line (group_at g).word ns) g h).1
    ((line_of_iff (group_at g) (line (group_at g).word ns) (group_word g)).1 (record { numbers = ns; count = c; small = s; spelled = refl }))

-- ---- the files that are not looked into

-- a longer file gives 0
pub file_long : (text : List ℕ) → 65536 < length text → file_of text ≡ File.unread 0
unfolding file_of
file_long text h = rw (lt-ltb 65536 (length text) h, file_of)

-- any other is read line by line
pub file_short : (text : List ℕ) → length text ≤ 65536 → file_of text ≡ file_lines (lines_of text)
unfolding file_of
file_short text h = rw (le-ltb 65536 (length text) h, file_of)

-- ---- the first bad line

-- the group of each line of a file, as `file_lines` takes it
abbrev pub group_in : List (List ℕ) → ℕ → ℕ
group_in lines k = get_or (map (group_number groups) lines) k (length groups)

-- Line k is not bad: it is of a group; lines before it are of no later group; there is room for it; the first is a head
pub record Good (group : ℕ → ℕ) (k : ℕ) : Type 0 where
  pub known : group k < length groups
  pub order : (j : ℕ) → j < k → group j ≤ group k
  pub room : count_below (λ j. eqb (group j) (group k)) k < (group_at (group k)).shape.most
  pub head : k ≡ 0 → group k ≡ 0

either_false : (a b : Bool) → (a || b) ≡ false → (a ≡ false) × (b ≡ false)
either_false true b e = absurd (false≢true (sym e))
either_false false b e = (refl, e)

-- the test of a line's place is right
pub good_iff : (group : ℕ → ℕ) (k : ℕ) → (is_bad group k ≡ false) ↔ Good group k
good_iff group k = (to, from)
  where
    unknown : Bool
    unknown = leb (length groups) (group k)

    before : Bool
    before = all_below (λ j. leb (group j) (group k)) k

    full : Bool
    full = leb (group_at (group k)).shape.most (count_below (λ j. eqb (group j) (group k)) k)

    headless : Bool → Bool
    headless first = first && not (eqb (group k) 0)

    to : is_bad group k ≡ false → Good group k
    to e =
        let h = either_false (unknown || not before || full) (headless (eqb k 0)) e in
        let i = either_false (unknown || not before) full h.0 in
        let j = either_false unknown (not before) i.0 in
        record {
          known = leb-false (length groups) (group k) j.0;
          order = λ x l. leb-true (group x) (group k) (all_at (λ y. leb (group y) (group k)) k (not-false before j.1) x l);
          room = leb-false (group_at (group k)).shape.most (count_below (λ y. eqb (group y) (group k)) k) i.1;
          head = λ q. eqb-true (group k) 0 (not-false (eqb (group k) 0) (ap headless (sym (eq-eqb k 0 q)) ∙ h.1));
        }

    no_head : Good group k → (first : Bool) → eqb k 0 ≡ first → headless first ≡ false
    no_head r true e = ap not (eq-eqb (group k) 0 (r.head (eqb-true k 0 e)))
    no_head r false e = refl

    from : Good group k → is_bad group k ≡ false
    from r =
        ap₂ ◌||◌
        (ap₂ ◌||◌
        (ap₂ ◌||◌ (lt-leb (length groups) (group k) r.known)
        (ap not (at_all (λ j. leb (group j) (group k)) k (λ j l. le-leb (group j) (group k) (r.order j l)))))
        (lt-leb (group_at (group k)).shape.most (count_below (λ j. eqb (group j) (group k)) k) r.room))
        (no_head r (eqb k 0) refl)

or_unread : (f : Option ℕ) (T : Tables) (k : ℕ) → file_or f T ≡ File.unread (suc k) → f ≡ Some k
or_unread (Some j) T k e = let q : j ≡ k = cc in ap Some q
or_unread None T k e = absurd (let z : ◌≡◌ {A = ℕ} 0 1 = cc in omega arith)

or_holds : (f : Option ℕ) (T U : Tables) → file_or f T ≡ File.holds U → (f ≡ None) × (T ≡ U)
or_holds (Some j) T U e = absurd (let z : ◌≡◌ {A = ℕ} 0 1 = cc in omega arith)
or_holds None T U e = (refl, (cc))

module _ (lines : List (List ℕ)) where
  -- the file is not read: the number that it gives is that of its first bad line, from 1
  pub file_unread : (k : ℕ) → (file_lines lines ≡ File.unread (suc k)) ↔ First (is_bad (group_in lines)) (at_least_one (length lines)) k
  unfolding file_lines
  file_unread k = (
    λ e. lowest_at (is_bad (group_in lines)) (at_least_one (length lines)) k (or_unread _ (tables_from (words_of (group_in lines) lines)) k e),
    λ r. rw (at_lowest (is_bad (group_in lines)) (at_least_one (length lines)) k r),
  )

  -- it is read: no line is bad, and the tables are the numbers of its lines
  pub file_holds : (T : Tables) → (file_lines lines ≡ File.holds T)
      ↔ (((k : ℕ) → k < at_least_one (length lines) → is_bad (group_in lines) k ≡ false) × (tables_from (words_of (group_in lines) lines) ≡ T))
  unfolding file_lines
  file_holds T = (
    λ e. let h = or_holds (lowest (is_bad (group_in lines)) (at_least_one (length lines))) (tables_from (words_of (group_in lines) lines)) T e in
        (lowest_nothing (is_bad (group_in lines)) (at_least_one (length lines)) h.0, h.1),
    λ h. ap₂ file_or (nothing_lowest (is_bad (group_in lines)) (at_least_one (length lines)) h.0) h.1,
  )

-- ---- the words of a table

-- the group of a line is that of its text
pub group_of_lem : (lines : List (List ℕ)) (k : ℕ) → group_in lines k ≡ group_number groups (get_or lines k [])
unfolding numbers_in
group_of_lem lines k = get_or-map (group_number groups) lines k []

module _ (lines : List (List ℕ)) (g : ℕ) (h : g < length groups) where
  -- a line of group g has as many numbers as its form has words
  pub group_width : (k : ℕ) → group_in lines k ≡ g → length (numbers_in (get_or lines k [])) ≡ (group_at g).shape.width
  group_width k e =
      let l = (line_of_iff (group_at g) (get_or lines k []) (group_word g)).0 ((group_iff (get_or lines k []) g h).0 (sym (group_of_lem lines k) ∙ e)) in
      ap length (line_of_numbers (group_at g) (get_or lines k []) (group_word g) l) ∙ l.count

  -- so the words are whole forms, one for each line of the group
  pub words_count : length (words_of (group_in lines) lines g)
      ≡ count_below (λ k. eqb (group_in lines k) g) (length lines) * (group_at g).shape.width
  words_count =
      kept-length (λ k. eqb (group_in lines k) g) (λ k. numbers_in (get_or lines k [])) (group_at g).shape.width (length lines)
      (λ i l e. group_width i (eqb-true (group_in lines i) g e)) (length lines) (le_refl (length lines))

-- ---- the kind table

-- where the file has no kind lines every kind is 0
pub kinds_none : (m : ℕ) (kinds : List ℕ) → length kinds ≡ 0 → kinds_or m kinds ≡ replicate (min m 64) 0
kinds_none m [] e = refl
kinds_none m (k ∷ kinds) e = absurd (omega arith)

-- where it has some, or needs none, they are the kinds
pub kinds_stand : (m : ℕ) (kinds : List ℕ) → (length kinds ≡ 0 → m ≡ 0) → kinds_or m kinds ≡ kinds
kinds_stand m [] h = ap (λ (n : ℕ). replicate (min n 64) 0) (h refl)
kinds_stand m (k ∷ kinds) h = refl
