-- The steps of reading the lines of a group, the groups and a file.
use Prim.Native.Nat.{ℕ, suc, ◌+◌, ◌-◌, ◌*◌, ◌≤◌, ◌<◌}
use mathlib.Core.Path.{◌≡◌, refl, sym, ap, subst, ◌∙◌}
use mathlib.Core.Bool.{Bool, cond}
use mathlib.Core.List.{List, [], ◌∷◌, ◌++◌, append_assoc, append-nil}
use native.Mathlib.Nat.{le_refl, suc-mul, mul-le-mul_right}
use native.Mathlib.Numerals.{add-one}
use native.Mathlib.Omega.{arith}
use lib.ListN.{length, get_or, take, drop, set, length-append, take-append-drop}
use lib.Seq.{sets, sets-eq, take-set-le, take_at, drop_at, drop-drop, take-append_seam, length-take-le, get_or-take}
use lib.Dec.{ltb}
use borrow.Author.Tests.{eq-eqb, ne_eqb, lt-ltb, le-ltb}
use Rattle.report.specs.Configuring.{written}
use Rattle.report.specs.HarbourFile.{kinds_or}
use Rattle.report.proofs.FileLaws.{kinds_stand}
use Rattle.std.specs.Prelude.{Result, Ok, Err}
use Rattle.reading.specs.declared.Broken.{Broken}
use Rattle.reading.specs.Scanning.{on_step, line_at, Stored}
use Rattle.reading.proofs.LineSteps.{line_width, stored_same}
use Rattle.harbour_file.specs.declared.Place.{Place}
use Rattle.harbour_file.specs.Reading.{Part, part_of, with_line, group_lines_from, part_from, kind_part, parts_from}
use Rattle.harbour_file.specs.Reading.{file_parts, part_at, last_part, file_from, read_file}
use Rattle.harbour_file.specs.Filing.{lines_left, group_left, kinds_left, GroupRoom, GroupTaken}
use Rattle.harbour_file.specs.Filing.{FileWords, file_words, groups_left, file_left, Filed, Starts}

-- ---- the words of a line, stored after those before them

-- what stands before a store is kept
take_kept : (vs l : List ℕ) (n i : ℕ) → n ≤ i → take n (sets l i vs) ≡ take n l
take_kept [] l n i h = refl
take_kept (v ∷ vs) l n i h = take_kept vs (set l i v) n (suc i) (omega arith) ∙ take-set-le n l i v h

-- a store of `width` numbers, and what stands before and after them
module _ (vs l : List ℕ) (i width : ℕ) (e : length vs ≡ width) (h : i + width ≤ length l) where
  first_length : length (take i l ++ vs) ≡ i + width
  first_length = length-append (take i l) vs ∙ rw (length-take-le i l (omega arith), e)

  take_stored : take (i + width) (sets l i vs) ≡ take i l ++ vs
  take_stored =
      ap (take (i + width)) (sets-eq vs l i (omega arith)) ∙ take_at (take i l ++ vs) (drop (i + length vs) l) (i + width) first_length

  -- `first` are the words before any store
  drop_stored : (first : List ℕ) → drop i l ≡ drop i first → drop (i + width) (sets l i vs) ≡ drop (i + width) first
  drop_stored first rest =
      ap (drop (i + width)) (sets-eq vs l i (omega arith))
      ∙ drop_at (take i l ++ vs) (drop (i + length vs) l) (i + width) first_length
      ∙ ap (λ (n : ℕ). drop (i + n) l) e
      ∙ sym (drop-drop width i l) ∙ ap (drop width) rest ∙ drop-drop width i first

-- words that stand at the start of a table, and all others as they were
stands : (lent : List ℕ) {table words : List ℕ} {n : ℕ} → length words ≡ n → take n table ≡ words → drop n table ≡ drop n lent
    → table ≡ written words lent
stands lent {table} {words} {n} l e rest =
    sym (take-append-drop n table) ∙ (λ i. e i ++ rest i) ∙ ap (λ (k : ℕ). words ++ drop k lent) (sym l)

-- words written where they stand change nothing
written_again : {table words : List ℕ} → Starts table words → written words table ≡ table
written_again {table} {words} e = ap (λ (ws : List ℕ). ws ++ drop (length words) table) (sym e) ∙ take-append-drop (length words) table

-- ---- the lines of a group: k of them were read, up to `at`, and their words are the first `to` of out

pub record LinesRead (s word : List ℕ) (width most start line : ℕ) (first out : List ℕ) (k at to : ℕ) : Type 0 where
  pub within : k ≤ most
  pub words : to ≡ k * width
  pub room : GroupRoom width most line out
  pub long : length out ≡ length first
  pub rest : drop to out ≡ drop to first
  pub same : group_lines_from s word width most start line ≡ with_line (take to out) (group_lines_from s word width (most - k) at (line + k))

pub lines_none : (s word : List ℕ) (start : ℕ) {width most line : ℕ} {first : List ℕ} → GroupRoom width most line first
    → LinesRead s word width most start line first first 0 start 0
lines_none s word start {most} {line} r =
    let e : most - 0 ≡ most = omega arith in
    let f : line + 0 ≡ line = omega arith in
    record { within = omega arith; words = omega arith; room = r; long = refl; rest = refl; same = rw (e, f) }

module _ {s word : List ℕ} {width most start line : ℕ} {first out : List ℕ} {k at to : ℕ}
    (g : LinesRead s word width most start line first out k at to) where
  pub lines_room : k < most → to + width ≤ length out
  lines_room h = omega (arith, g.words, g.room.words, suc-mul k width, mul-le-mul_right {m = suc k} {n = most} width h)

  one_less : k < most → most - k ≡ suc (most - (k + 1))
  one_less h = omega arith

  -- what is left where these numbers were stored of the line at which the lines end
  lines_left_lem : {broken : List ℕ} → group_lines_from s word width most start line ≡ part_of (take to out) at (line + k) → length (take to out) ≡ to
      → cond (ltb (line + k) (line + most)) (line_at s word width at).numbers [] ≡ broken
      → lines_left s word width most start line first ≡ sets out to broken
  unfolding lines_left
  lines_left_lem z l b =
      ap (λ (p : Part).
      sets (written p.words first) (length p.words) (cond (ltb p.line (line + most)) (line_at s word width p.at).numbers [])) z
      ∙ (λ i. sets (sym (stands first l refl g.rest) i) (l i) (b i))

  -- no more lines follow
  lines_end : {broken after : List ℕ} → group_lines_from s word width (most - k) at (line + k) ≡ part_of [] at (line + k)
      → cond (ltb (line + k) (line + most)) (line_at s word width at).numbers [] ≡ broken → after ≡ sets out to broken
      → GroupTaken (group_lines_from s word width most start line) (lines_left s word width most start line first) (line + most)
      (record { at = at; line = line + k; end = to }) after
  lines_end {broken} {after} e b w =
      let m : k * width ≤ most * width = mul-le-mul_right {m = k} {n = most} width g.within in
      let z : group_lines_from s word width most start line ≡ part_of (take to out) at (line + k) = g.same ∙ rw (e, append-nil) in
      let l : length (take to out) ≡ to = length-take-le to out (omega (arith, g.words, g.room.words, m)) in
      rw z (record { place = refl; number = refl; few = omega (arith, g.within); long = sym l; stored = w ∙ sym (lines_left_lem z l b) })

  module _ {answer : Result ℕ Broken} {after : List ℕ} (h : k < most) (stored : Stored (line_at s word width at) answer out to after) where
    pub lines_more : {p : ℕ} → answer ≡ Ok p → LinesRead s word width most start line first after (k + 1) p (to + width)
    unfolding group_lines_from
    lines_more {p} e =
        let f : (line_at s word width at).step ≡ Ok p = sym stored.step ∙ e in
        let w : take (to + width) after ≡ take to out ++ (line_at s word width at).numbers =
        ap (take (to + width)) stored.words
        ∙ take_stored (line_at s word width at).numbers out to width (line_width s word width at p f) (lines_room h) in
        let n : line + (k + 1) ≡ suc (line + k) = omega arith in
        record {
          within = omega arith;
          words = omega (arith, g.words, suc-mul k width, add-one k);
          room = record { words = omega (arith, g.room.words, stored_same stored); lines = g.room.lines };
          long = stored_same stored ∙ g.long;
          rest =
              ap (drop (to + width)) stored.words
              ∙ drop_stored (line_at s word width at).numbers out to width (line_width s word width at p f) (lines_room h) first g.rest;
          same = g.same ∙ rw (one_less h, f, w, n, append_assoc);
        }

    pub lines_stop : {b : Broken} → answer ≡ Err b
        → GroupTaken (group_lines_from s word width most start line) (lines_left s word width most start line first) (line + most)
        (record { at = at; line = line + k; end = to }) after
    unfolding group_lines_from
    lines_stop {b} e =
        let f : (line_at s word width at).step ≡ Err b = sym stored.step ∙ e in
        lines_end (rw (one_less h, f))
        (ap (λ (t : Bool). cond t (line_at s word width at).numbers []) (lt-ltb (line + k) (line + most) (omega arith))) stored.words

  pub lines_all : most ≤ k → GroupTaken (group_lines_from s word width most start line) (lines_left s word width most start line first) (line + most)
      (record { at = at; line = line + most; end = to }) out
  unfolding group_lines_from
  lines_all h =
      let e : most - k ≡ 0 = omega arith in
      let n : most ≡ k = omega (arith, g.within) in
      let taken : GroupTaken (group_lines_from s word width most start line) (lines_left s word width most start line first) (line + most)
      (record { at = at; line = line + k; end = to }) out =
      lines_end (rw e) (ap (λ (t : Bool). cond t (line_at s word width at).numbers []) (le-ltb (line + k) (line + most) (omega arith))) refl in
      subst (λ (j : ℕ). GroupTaken (group_lines_from s word width most start line) (lines_left s word width most start line first) (line + most)
      (record { at = at; line = line + j; end = to }) out) (sym n) taken

-- the words of a group's lines stand at the start of what is left
pub lines_start : (s word : List ℕ) (width most at n : ℕ) (lent : List ℕ)
    → Starts (lines_left s word width most at n lent) (group_lines_from s word width most at n).words
unfolding lines_left
lines_start s word width most at n lent =
    let p = group_lines_from s word width most at n in
    let ws : List ℕ = p.words in
    take_kept (cond (ltb p.line (n + most)) (line_at s word width p.at).numbers []) (written ws lent) (length ws) (length ws) (le_refl (length ws))
    ∙ take-append_seam ws (drop (length ws) lent)

-- of a group of one line at most: it was read, or there is none
module _ (s word : List ℕ) (width at n : ℕ) where
  abbrev one_or_none : Result ℕ Broken → Part
  one_or_none step = on_step step (λ p. with_line (line_at s word width at).numbers (part_of [] p (suc n))) (λ p. part_of [] at n)

  one_line : (length (group_lines_from s word width 1 at n).words ≡ 0 → ⊥) → length (group_lines_from s word width 1 at n).words ≡ width
  unfolding group_lines_from
  one_line some = go (line_at s word width at).step refl some
    where
      go : (step : Result ℕ Broken) → (line_at s word width at).step ≡ step → (length (one_or_none step).words ≡ 0 → ⊥) → length (one_or_none step).words ≡ width
      go (Ok p) e some = ap length (append-nil (line_at s word width at).numbers) ∙ line_width s word width at p e
      go (Err b) e some = absurd (some refl)

-- ---- the kind lines

module _ (m : ℕ) {part : Part} {left : List ℕ} {most : ℕ} {answer : Place} {kinds : List ℕ} (t : GroupTaken part left most answer kinds) where
  -- lines were read, and stand at the start
  pub kinds_some : (answer.end ≡ 0 → ⊥) → Starts left part.words
      → GroupTaken (kind_part m part) (written (kinds_or m part.words) left) most answer kinds
  kinds_some n start =
      let e : kinds_or m part.words ≡ part.words = kinds_stand m part.words (λ z. absurd (n (t.long ∙ z))) in
      record {
        place = t.place;
        number = t.number;
        few = t.few;
        long = rw e t.long;
        stored = t.stored ∙ sym (written_again start) ∙ ap (λ (ws : List ℕ). written ws left) (sym e);
      }

-- ---- the head: where it was read, its words stand in the first three

module _ (s : List ℕ) (some : length (part_at (file_parts s) 0).words ≡ 0 → ⊥) where
  head_width : length (part_at (file_parts s) 0).words ≡ 3
  unfolding file_parts parts_from
  head_width = one_line s _ 3 0 1 some

  head_start : (lent : List ℕ) → Starts (group_left s 0 0 1 lent) (part_at (file_parts s) 0).words
  unfolding file_parts parts_from
  head_start lent = lines_start s _ _ _ 0 1 lent

  pub head_word : (lent : List ℕ) (i : ℕ) → i < 3 → get_or (group_left s 0 0 1 lent) i 0 ≡ get_or (part_at (file_parts s) 0).words i 0
  head_word lent i l =
      sym (get_or-take (length (part_at (file_parts s) 0).words) (group_left s 0 0 1 lent) i 0 (omega (arith, head_width)))
      ∙ ap (λ (ws : List ℕ). get_or ws i 0) (head_start lent)

-- ---- the groups: each starts where the one before it ends

follows : (next : ℕ → ℕ → Part) (left : ℕ → ℕ → List ℕ) {p : Part} {l : List ℕ} {m m' : ℕ} {r r' : Place} {o o' : List ℕ} → GroupTaken p l m r o
    → GroupTaken (next r.at r.line) (left r.at r.line) m' r' o'
    → GroupTaken (next p.at p.line) (left p.at p.line) m' r' o'
follows next left f g = rw (← f.place, ← f.number) g

module _ (s : List ℕ) (lent : FileWords) (m : ℕ) {m0 m1 m2 m3 m4 m5 m6 : ℕ} {h x e r c q k : Place}
    {head expressions entries relations comparisons queries kinds : List ℕ}
    (f0 : GroupTaken (part_from s 0 0 1) (group_left s 0 0 1 lent.head) m0 h head)
    (f1 : GroupTaken (part_from s 1 h.at h.line) (group_left s 1 h.at h.line lent.expressions) m1 x expressions)
    (f2 : GroupTaken (part_from s 2 x.at x.line) (group_left s 2 x.at x.line lent.entries) m2 e entries)
    (f3 : GroupTaken (part_from s 3 e.at e.line) (group_left s 3 e.at e.line lent.relations) m3 r relations)
    (f4 : GroupTaken (part_from s 4 r.at r.line) (group_left s 4 r.at r.line lent.comparisons) m4 c comparisons)
    (f5 : GroupTaken (part_from s 5 c.at c.line) (group_left s 5 c.at c.line lent.queries) m5 q queries)
    (f6 : GroupTaken (kind_part m (part_from s 6 q.at q.line)) (kinds_left m s q.at q.line lent.kinds) m6 k kinds)
    (own : m ≡ get_or head 1 0) where
  -- the part of group g, and what is left in the words lent for the group after it
  abbrev part : ℕ → Part
  part = part_at (file_parts s)

  abbrev after : ℕ → List ℕ → List ℕ
  after g = group_left s (suc g) (part g).at (part g).line

  g0 : GroupTaken (part 0) (group_left s 0 0 1 lent.head) m0 h head
  unfolding file_parts parts_from
  g0 = f0

  g1 : GroupTaken (part 1) (after 0 lent.expressions) m1 x expressions
  unfolding file_parts parts_from
  g1 = follows (part_from s 1) (λ at n. group_left s 1 at n lent.expressions) g0 f1

  g2 : GroupTaken (part 2) (after 1 lent.entries) m2 e entries
  unfolding file_parts parts_from
  g2 = follows (part_from s 2) (λ at n. group_left s 2 at n lent.entries) g1 f2

  g3 : GroupTaken (part 3) (after 2 lent.relations) m3 r relations
  unfolding file_parts parts_from
  g3 = follows (part_from s 3) (λ at n. group_left s 3 at n lent.relations) g2 f3

  g4 : GroupTaken (part 4) (after 3 lent.comparisons) m4 c comparisons
  unfolding file_parts parts_from
  g4 = follows (part_from s 4) (λ at n. group_left s 4 at n lent.comparisons) g3 f4

  g5 : GroupTaken (part 5) (after 4 lent.queries) m5 q queries
  unfolding file_parts parts_from
  g5 = follows (part_from s 5) (λ at n. group_left s 5 at n lent.queries) g4 f5

  g6 : GroupTaken (kind_part m (part 6)) (kinds_left m s (part 5).at (part 5).line lent.kinds) m6 k kinds
  unfolding file_parts parts_from
  g6 = follows (λ at n. kind_part m (part_from s 6 at n)) (λ at n. kinds_left m s at n lent.kinds) g5 f6

  -- what is left, whatever is answered
  all_left : file_words head expressions entries relations comparisons queries kinds ≡ groups_left s lent
  unfolding groups_left
  all_left =
      let kinds_left_lem : kinds ≡ kinds_left (get_or (group_left s 0 0 1 lent.head) 1 0) s (part 5).at (part 5).line lent.kinds =
      g6.stored
      ∙ ap (λ (n : ℕ). kinds_left n s (part 5).at (part 5).line lent.kinds) (own ∙ ap (λ (ws : List ℕ). get_or ws 1 0) g0.stored) in
      λ i. file_words (g0.stored i) (g1.stored i) (g2.stored i) (g3.stored i) (g4.stored i) (g5.stored i) (kinds_left_lem i)

  pub filed_headless : h.end ≡ 0
      → Filed (file_from s (file_parts s)) (groups_left s lent) (Err (record { number = 1 })) (file_words head expressions entries relations comparisons queries kinds)
  filed_headless n = record {
    answers = rw (eq-eqb (length (part 0).words) 0 (sym g0.long ∙ n)) refl;
    stored = all_left;
  }

  module _ (n : h.end ≡ 0 → ⊥) where
    some : length (part 0).words ≡ 0 → ⊥
    some z = n (g0.long ∙ z)

    -- the kinds by the number of attributes that was read
    kinds_long : k.end ≡ length (kinds_or (get_or (part 0).words 1 0) (part 6).words)
    kinds_long =
        g6.long
        ∙ ap (λ (i : ℕ). length (kinds_or i (part 6).words))
        (own ∙ ap (λ (ws : List ℕ). get_or ws 1 0) g0.stored ∙ head_word s some lent.head 1 (omega arith))

    pub filed_whole : k.at ≡ length s
        → Filed (file_from s (file_parts s)) (groups_left s lent)
        (Ok (record {
          expressions = x.end;
          entries = e.end;
          relations = r.end;
          comparisons = c.end;
          queries = q.end;
          kinds = k.end;
        }))
        (file_words head expressions entries relations comparisons queries kinds)
    filed_whole l = record {
      answers =
          rw (
            ne_eqb (length (part 0).words) 0 some,
            eq-eqb (last_part (file_parts s)).at (length s) (sym g6.place ∙ l),
            g1.long,
            g2.long,
            g3.long,
            g4.long,
            g5.long,
            kinds_long,
          );
      stored = all_left;
    }

    pub filed_stopped : (k.at ≡ length s → ⊥)
        → Filed (file_from s (file_parts s)) (groups_left s lent) (Err (record { number = k.line }))
        (file_words head expressions entries relations comparisons queries kinds)
    filed_stopped l = record {
      answers =
          rw (
            ne_eqb (length (part 0).words) 0 some,
            ne_eqb (last_part (file_parts s)).at (length s) (λ z. l (g6.place ∙ z)),
          )
          (ap (λ (n : ℕ). Err (record { number = n })) g6.number);
      stored = all_left;
    }

-- ---- a file

pub short_file : (s : List ℕ) → length s ≤ 65536 → read_file s ≡ file_from s (file_parts s)
unfolding read_file
short_file s l = rw (le-ltb 65536 (length s) l)

pub long_left : (s : List ℕ) (lent : FileWords) → 65536 < length s → file_left s lent ≡ lent
unfolding file_left
long_left s lent l = rw (lt-ltb 65536 (length s) l)

pub short_left : (s : List ℕ) (lent : FileWords) → length s ≤ 65536 → file_left s lent ≡ groups_left s lent
unfolding file_left
short_left s lent l = rw (le-ltb 65536 (length s) l)
