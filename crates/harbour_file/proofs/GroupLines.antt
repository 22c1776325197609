-- Reading the lines of one group from a position, said of the lines of the text: they are the lines of that group which stand there.
use Prim.Native.Nat.{ℕ, zero, suc, ◌+◌, ◌≤◌, ◌<◌}
use mathlib.Core.Path.{◌≡◌, refl, sym, ap, ◌∙◌}
use mathlib.Core.Logic.{⊎_elim}
use mathlib.Core.List.{List, [], ◌∷◌, ◌++◌, append_assoc, append-nil, flatten, map}
use native.Mathlib.Nat.{le_refl, eq-or-lt_of_le}
use native.Mathlib.Decide.{dec_lt}
use native.Mathlib.Omega.{arith}
use lib.ListN.{length, drop, get_or, length-append, length-drop, get_or-eq_default, length-map}
use lib.Seq.{drop-cons}
use lib.Dec.{eqb}
use borrow.Author.Tests.{eq-eqb}
use Rattle.sets.specs.Lists.{kept}
use Rattle.sets.proofs.ListLaws.{kept_yes}
use Rattle.report.specs.Text.{line, numbers_in}
use Rattle.report.specs.HarbourFile.{groups, lines_of, group_number}
use Rattle.report.proofs.TextLaws.{line_numbers}
use Rattle.report.proofs.LineLaws.{at_most_iff, line_of_iff, lines_join, lines_line}
use Rattle.report.proofs.FileLaws.{group_at, group_word, group_wide, group_iff, line_group, group_in, group_of_lem}
use Rattle.reading.specs.Scanning.{Line, line_at}
use Rattle.std.specs.Prelude.{Result, Ok, Err}
use Rattle.reading.specs.declared.Broken.{Broken}
use Rattle.reading.specs.Scanning.{broken}
use Rattle.reading.proofs.SpelledLines.{spelled_at, line_read, line_found}
use Rattle.harbour_file.specs.Reading.{Part, part_of, with_line, group_lines_from}

-- a line of a group is there: what is past the last line is of none
past_last : (lines : List (List ℕ)) (k : ℕ) → group_in lines k < length groups → k < length lines
past_last lines k h = go (dec_lt k (length lines))
  where
    go : Dec (k < length lines) → k < length lines
    go (yes l) = l
    go (no l) =
        let e : group_in lines k ≡ length groups =
        get_or-eq_default (map (group_number groups) lines) (length groups) {n = k} (omega (arith, length-map lines (group_number groups))) in
        absurd (omega arith)

-- the numbers of the lines of group g among the first n lines
abbrev pub kept_to : List (List ℕ) → ℕ → ℕ → List ℕ
kept_to lines g n = kept (λ k. eqb (group_in lines k) g) (λ k. numbers_in (get_or lines k [])) n

module _ (s : List ℕ) where
  -- The text from a position on is the lines from line k on
  pub record From (at k : ℕ) : Type 0 where
    pub bound : at ≤ length s
    pub few : k ≤ length (lines_of s)
    pub lines : lines_of (drop at s) ≡ drop k (lines_of s)

  -- so it is at the start
  pub from_start : From 0 0
  from_start = record { bound = omega arith; few = omega arith; lines = refl }

  -- the line that a group's scanner reads at a position
  abbrev pub line_in : ℕ → ℕ → Line
  line_in g at = line_at s (40 ∷ (group_at g).word) (group_at g).shape.width at

  -- Line k is of group g, it has these numbers, and the next line stands at p
  record LineTaken (g k p : ℕ) (ns : List ℕ) : Type 0 where
    next : From p (suc k)
    group : group_in (lines_of s) k ≡ g
    numbers : numbers_in (get_or (lines_of s) k []) ≡ ns
    long : length ns ≡ (group_at g).shape.width

  module _ (g : ℕ) (known : g < length groups) where
    -- a line that is read is line k of the text, and of the group
    line_taken : (at k p : ℕ) → From at k → (line_in g at).step ≡ Ok p → LineTaken g k p (line_in g at).numbers
    line_taken at k p f e =
        let word = (group_at g).word in
        let ns = (line_in g at).numbers in
        let r = line_read s word (group_at g).shape.width at p e in
        let d : drop k (lines_of s) ≡ line word ns ∷ lines_of (drop p s) =
        sym f.lines ∙ ap lines_of r.holds.holds ∙ lines_line word ns (drop p s) (group_word g) in
        let there : k < length (lines_of s) = omega (arith, length-drop k (lines_of s), ap length d) in
        let c = drop-cons (lines_of s) k [] there in
        let l : get_or (lines_of s) k [] ≡ line word ns = cc in
        let m : lines_of (drop p s) ≡ drop (suc k) (lines_of s) = cc in
        record {
          next = record {
            bound =
                omega (
                  arith,
                  f.bound,
                  r.holds.place,
                  length-drop at s,
                  length-drop p s,
                  ap length r.holds.holds,
                  length-append (line word ns) (drop p s),
                );
            few = there;
            lines = m;
          };
          group =
              group_of_lem (lines_of s) k ∙ ap (group_number groups) l ∙ line_group g ns known r.long ((at_most_iff 65535 ns).0 r.small);
          numbers = ap numbers_in l ∙ line_numbers word ns (group_word g);
          long = r.long;
        }

    -- where none is read, line k is not of the group
    line_refused : (at k p : ℕ) → From at k → (line_in g at).step ≡ broken p → group_in (lines_of s) k ≡ g → ⊥
    unfolding flatten
    line_refused at k p f e q =
        let word = (group_at g).word in
        let text = get_or (lines_of s) k [] in
        let there = past_last (lines_of s) k (omega arith) in
        let r = (line_of_iff (group_at g) text (group_word g)).0 ((group_iff text g known).0 (sym (group_of_lem (lines_of s) k) ∙ q)) in
        let ns = r.numbers in
        let d : drop at s ≡ line word ns ++ flatten (drop (suc k) (lines_of s)) =
        sym (lines_join (drop at s)) ∙ ap flatten (f.lines ∙ drop-cons (lines_of s) k [] there)
        ∙ ap (λ (l : List ℕ). l ++ flatten (drop (suc k) (lines_of s))) r.spelled in
        let a = spelled_at s at (at + length (line word ns)) (line word ns) (flatten (drop (suc k) (lines_of s))) d refl in
        let c : (line_at s (40 ∷ word) (length ns) at).step ≡ Ok (at + length (line word ns)) =
        ap (λ (l : Line). l.step)
        (line_found s word ns at (at + length (line word ns)) (record { long = refl; small = (at_most_iff 65535 ns).1 r.small; holds = a })) in
        let w : (line_at s (40 ∷ word) (length ns) at).step ≡ broken p =
        ap (λ (n : ℕ). (line_at s (40 ∷ word) n at).step) r.count ∙ e in
        let z : ◌≡◌ {A = ℕ} 0 1 = cc in
        omega arith

  -- From line k on the lines up to `end` are of group g, at most `most`; the part has their numbers and ends there. The line after them is
  -- not of the group, unless the group has as many as it may
  pub record Took (g most k : ℕ) (part : Part) : Type 0 where
    pub end : ℕ
    pub from : From part.at end
    pub number : part.line ≡ suc end
    pub low : k ≤ end
    pub high : end ≤ k + most
    pub each : (j : ℕ) → k ≤ j → j < end → group_in (lines_of s) j ≡ g
    pub stop : end < k + most → group_in (lines_of s) end ≡ g → ⊥
    pub words : kept_to (lines_of s) g end ≡ kept_to (lines_of s) g k ++ part.words
    pub some : k < end → 0 < length part.words

  -- the lines that a group's scanner reads from a position, at most `most`
  abbrev pub lines_in : ℕ → ℕ → ℕ → ℕ → Part
  lines_in g most at n = group_lines_from s (40 ∷ (group_at g).word) (group_at g).shape.width most at n

  module _ (g : ℕ) (known : g < length groups) where
    -- no line is taken
    took_none : (most at k : ℕ) → From at k → (0 < most → group_in (lines_of s) k ≡ g → ⊥) → Took g most k (part_of [] at (suc k))
    took_none most at k f h = record {
      end = k;
      from = f;
      number = refl;
      low = le_refl k;
      high = omega arith;
      each = λ j l u. absurd (omega arith);
      stop = λ l. h (omega arith);
      words = sym (append-nil (kept_to (lines_of s) g k));
      some = λ l. absurd (omega arith);
    }

    -- a line, and what is taken after it
    took_more : (most k p : ℕ) (ns : List ℕ) (part : Part) → LineTaken g k p ns → Took g most (suc k) part
        → Took g (suc most) k (with_line ns part)
    took_more most k p ns part l t = record {
      end = t.end;
      from = t.from;
      number = t.number;
      low = omega (arith, t.low);
      high = omega (arith, t.high);
      each = λ j a u. ⊎_elim (λ (q : k ≡ j). ap (group_in (lines_of s)) (sym q) ∙ l.group) (λ (m : k < j). t.each j m u) (eq-or-lt_of_le a);
      stop = λ u. t.stop (omega arith);
      words =
          t.words
          ∙ ap (λ (x : List ℕ). x ++ part.words)
          (kept_yes (λ j. eqb (group_in (lines_of s) j) g) (λ j. numbers_in (get_or (lines_of s) j [])) k (eq-eqb (group_in (lines_of s) k) g l.group)
          ∙ ap (λ (x : List ℕ). kept_to (lines_of s) g k ++ x) l.numbers)
          ∙ append_assoc (kept_to (lines_of s) g k) ns part.words;
      some = λ u. omega (arith, length-append ns part.words, l.long, group_wide g known);
    }

    -- what the group's scanner reads is so
    pub took : (most at k : ℕ) → From at k → Took g most k (lines_in g most at (suc k))
    unfolding group_lines_from
    took zero at k f = took_none zero at k f (λ l. absurd (omega arith))
    took (suc most) at k f = go (line_in g at).step refl (λ p. took most p (suc k))
      where
        go : (x : Result ℕ Broken) → (line_in g at).step ≡ x → ((p : ℕ) → From p (suc k) → Took g most (suc k) (lines_in g most p (suc (suc k))))
            → Took g (suc most) k (lines_in g (suc most) at (suc k))
        go (Err b) e later =
            let c : lines_in g (suc most) at (suc k) ≡ part_of [] at (suc k) = rw e in
            rw c (took_none (suc most) at k f (λ l. line_refused g known at k b.at f e))
        go (Ok p) e later =
            let c : lines_in g (suc most) at (suc k) ≡ with_line (line_in g at).numbers (lines_in g most p (suc (suc k))) = rw e in
            let l = line_taken g known at k p f e in
            rw c (took_more most k p (line_in g at).numbers (lines_in g most p (suc (suc k))) l (later p l.next))
