-- Laws of specs/HarbourFile, its lines: what a line of a group is, and which lines a text has.
use Prim.Native.Nat.{ℕ, zero, suc, ◌≤◌, ◌<◌}
use mathlib.Core.Path.{◌≡◌, refl, sym, ap, ◌∙◌}
use mathlib.Core.Logic.{◌↔◌}
use mathlib.Core.Bool.{Bool, true, false, cond, not, ◌&&◌, false≢true}
use mathlib.Core.List.{List, [], ◌∷◌, ◌++◌, append_assoc, append-nil, flatten}
use native.Mathlib.Nat.{le_of_suc-le-suc, not-suc-le-zero}
use native.Mathlib.Omega.{arith}
use lib.ListN.{length, get_or}
use lib.Dec.{leb, eqb}
use borrow.Author.Tests.{leb-true, le-leb, eq-eqb, eqb-true, ne_eqb, not-true}
use Rattle.report.specs.Text.{decimal, spaced, bracket, line, same, is_digit, numbers_in}
use Rattle.report.specs.HarbourFile.{Group, lines_from, lines_of, all_at_most, is_line_of}
use Rattle.report.proofs.TextLaws.{both, both_true, every, every_append, every_at, at_every, every_so}
use Rattle.report.proofs.TextLaws.{decimal-digits, is_letter, is_word, other_byte, line_numbers, same_iff}

-- ---- one line

-- the test of the numbers' size is right
pub at_most_iff : (most : ℕ) (ns : List ℕ) → (all_at_most most ns ≡ true) ↔ ((i : ℕ) → i < length ns → get_or ns i 0 ≤ most)
at_most_iff most ns = (
  λ e i h. leb-true (get_or ns i 0) most (every_at (λ n. leb n most) 0 ns (sym (test ns) ∙ e) i h),
  λ h. test ns ∙ at_every (λ n. leb n most) 0 ns (λ i l. le-leb (get_or ns i 0) most (h i l)),
)
  where
    test : (ns : List ℕ) → all_at_most most ns ≡ every (λ n. leb n most) ns
    test [] = refl
    test (n ∷ ns) = ap (λ (b : Bool). leb n most && b) (test ns)

-- A line of the group, as docs/FORMAT.md says it: the text of as many numbers as the form has words, each at most 65535
pub record LineOf (g : Group) (text : List ℕ) : Type 0 where
  pub numbers : List ℕ
  pub count : length numbers ≡ g.shape.width
  pub small : (i : ℕ) → i < length numbers → get_or numbers i 0 ≤ 65535
  pub spelled : text ≡ line g.word numbers

module _ (g : Group) (text : List ℕ) (w : is_word g.word ≡ true) where
  -- the numbers are those in the text
  pub line_of_numbers : (l : LineOf g text) → numbers_in text ≡ l.numbers
  line_of_numbers l = ap numbers_in l.spelled ∙ line_numbers g.word l.numbers w

  -- the test of a line is right
  pub line_of_iff : (is_line_of g text ≡ true) ↔ LineOf g text
  line_of_iff = (to, from)
    where
      to : is_line_of g text ≡ true → LineOf g text
      to e =
          let ns = numbers_in text in
          let h = both_true (eqb (length ns) g.shape.width && all_at_most 65535 ns) (same text (line g.word ns)) e in
          let k = both_true (eqb (length ns) g.shape.width) (all_at_most 65535 ns) h.0 in
          record {
            numbers = ns;
            count = eqb-true (length ns) g.shape.width k.0;
            small = (at_most_iff 65535 ns).0 k.1;
            spelled = (same_iff text (line g.word ns)).0 h.1;
          }

      from : LineOf g text → is_line_of g text ≡ true
      from l =
          rw (line_of_numbers l)
          (both (both (eq-eqb (length l.numbers) g.shape.width l.count) ((at_most_iff 65535 l.numbers).1 l.small))
          ((same_iff text (line g.word l.numbers)).1 l.spelled))

-- ---- lines

-- a byte that is no line feed
abbrev pub no_feed : ℕ → Bool
no_feed b = not (eqb b 10)

module _ (begun : List ℕ) (b : ℕ) (rest : List ℕ) where
  line_ends : eqb b 10 ≡ true → lines_from begun (b ∷ rest) ≡ (begun ++ (b ∷ [])) ∷ lines_from [] rest
  line_ends e = rw (e, lines_from)

  line_goes_on : eqb b 10 ≡ false → lines_from begun (b ∷ rest) ≡ lines_from (begun ++ (b ∷ [])) rest
  line_goes_on e = rw (e, lines_from)

-- the lines one after another are the text
pub lines_join : (text : List ℕ) → flatten (lines_of text) ≡ text
unfolding lines_of flatten
lines_join = from []
  where
    from : (begun text : List ℕ) → flatten (lines_from begun text) ≡ begun ++ text
    from [] [] = refl
    from (x ∷ begun) [] = refl
    from begun (b ∷ rest) = go (from (begun ++ (b ∷ [])) rest) (from [] rest) (eqb b 10) refl
      where
        go : flatten (lines_from (begun ++ (b ∷ [])) rest) ≡ begun ++ (b ∷ []) ++ rest → flatten (lines_from [] rest) ≡ rest
            → (t : Bool) → eqb b 10 ≡ t → flatten (lines_from begun (b ∷ rest)) ≡ begun ++ (b ∷ rest)
        go on new true e = ap flatten (line_ends begun b rest e) ∙ ap (λ (l : List ℕ). begun ++ (b ∷ []) ++ l) new ∙ append_assoc begun (b ∷ []) rest
        go on new false e = ap flatten (line_goes_on begun b rest e) ∙ on ∙ append_assoc begun (b ∷ []) rest

-- Line i of some lines: bytes that are no line feeds, and a line feed. Only the last line may lack it, and then it is not empty
pub record LineAt (lines : List (List ℕ)) (i : ℕ) : Type 0 where
  pub front : List ℕ
  pub fed : Bool
  pub plain : every no_feed front ≡ true
  pub whole : get_or lines i [] ≡ front ++ cond fed (10 ∷ []) []
  pub last : fed ≡ false → suc i ≡ length lines
  pub some : fed ≡ false → 0 < length front

abbrev EachLine : List (List ℕ) → Type 0
EachLine lines = (i : ℕ) → i < length lines → LineAt lines i

-- every line of a text is so
pub lines_at : (text : List ℕ) (i : ℕ) → i < length (lines_of text) → LineAt (lines_of text) i
unfolding lines_of
lines_at text = from [] text refl
  where
    from : (begun text : List ℕ) → every no_feed begun ≡ true → (i : ℕ) → i < length (lines_from begun text) → LineAt (lines_from begun text) i
    from [] [] p i h = absurd (not-suc-le-zero h)
    from (x ∷ begun) [] p zero h =
        record { front = x ∷ begun; fed = false; plain = p; whole = sym (append-nil (x ∷ begun)); last = λ e. refl; some = λ e. omega arith }
    from (x ∷ begun) [] p (suc i) h = absurd (omega arith)
    from begun (b ∷ rest) p i h = go (from (begun ++ (b ∷ [])) rest) (from [] rest refl) (eqb b 10) refl i h
      where
        first : eqb b 10 ≡ true → EachLine (lines_from [] rest) → EachLine ((begun ++ (b ∷ [])) ∷ lines_from [] rest)
        first e new zero h =
            record {
              front = begun;
              fed = true;
              plain = p;
              whole = ap (λ (x : ℕ). begun ++ (x ∷ [])) (eqb-true b 10 e);
              last = λ q. absurd (false≢true (sym q));
              some = λ q. absurd (false≢true (sym q));
            }
        first e new (suc i) h =
            let l = new i (le_of_suc-le-suc h) in
            record { front = l.front; fed = l.fed; plain = l.plain; whole = l.whole; last = λ q. ap suc (l.last q); some = l.some }

        go : (every no_feed (begun ++ (b ∷ [])) ≡ true → EachLine (lines_from (begun ++ (b ∷ [])) rest)) → EachLine (lines_from [] rest)
            → (t : Bool) → eqb b 10 ≡ t → EachLine (lines_from begun (b ∷ rest))
        go on new true e = rw (line_ends begun b rest e) (first e new)
        go on new false e = rw (line_goes_on begun b rest e) (on (every_append no_feed begun (b ∷ []) p (rw e)))

-- bytes without a line feed, and one after them, are the first line
pub first_line : (front rest : List ℕ) → every no_feed front ≡ true → lines_of (front ++ (10 ∷ rest)) ≡ (front ++ (10 ∷ [])) ∷ lines_of rest
unfolding lines_of
first_line front rest = from [] front
  where
    from : (begun front : List ℕ) → every no_feed front ≡ true
        → lines_from begun (front ++ (10 ∷ rest)) ≡ (begun ++ (front ++ (10 ∷ []))) ∷ lines_from [] rest
    from begun [] p = refl
    from begun (b ∷ front) p =
        let h = both_true (no_feed b) (every no_feed front) p in
        line_goes_on begun b (front ++ (10 ∷ rest)) (not-true (eqb b 10) h.0)
        ∙ from (begun ++ (b ∷ [])) front h.1
        ∙ ap (λ (l : List ℕ). l ∷ lines_from [] rest) (append_assoc begun (b ∷ []) (front ++ (10 ∷ [])))

spaced_plain : (ns : List ℕ) → every no_feed (spaced ns) ≡ true
spaced_plain [] = refl
spaced_plain (n ∷ ns) =
    every_append no_feed (decimal n) (spaced ns) (every_so is_digit no_feed no_feed_lem (decimal n) (decimal-digits n)) (spaced_plain ns)
  where
    no_feed_lem : (b : ℕ) → is_digit b ≡ true → no_feed b ≡ true
    no_feed_lem b h = let l = leb-true 48 b (both_true (leb 48 b) (leb b 57) h).0 in ap not (ne_eqb b 10 (λ q. omega arith))

-- a line that a word and numbers make is a line of the text
pub lines_line : (word ns rest : List ℕ) → is_word word ≡ true → lines_of (line word ns ++ rest) ≡ line word ns ∷ lines_of rest
lines_line word ns rest w =
    ap lines_of (append_assoc (bracket word ns) (10 ∷ []) rest)
    ∙ first_line (bracket word ns) rest
    (every_append no_feed (word ++ spaced ns) (41 ∷ [])
    (every_append no_feed word (spaced ns) (every_so is_letter no_feed (λ b h. ap not (other_byte b 10 h refl)) word w) (spaced_plain ns)) refl)

-- an empty text has no lines
pub lines_none : lines_of [] ≡ []
unfolding lines_of
lines_none = refl
