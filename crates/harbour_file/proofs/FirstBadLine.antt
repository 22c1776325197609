-- Reading a file from its start, group by group, gives what docs/FORMAT.md says of it: its first bad line, or its tables.
use Prim.Native.Nat.{ℕ, zero, suc, ◌-◌, ◌<◌}
use mathlib.Core.Path.{◌≡◌, refl, sym, ap, ◌∙◌}
use mathlib.Core.Bool.{Bool, true, false, cond}
use mathlib.Core.List.{List, [], ◌∷◌, flatten}
use native.Mathlib.Nat.{not-suc-le-zero, zero-add}
use native.Mathlib.Decide.{dec_lt}
use native.Mathlib.Omega.{arith}
use lib.ListN.{length, drop, length-drop, drop_of_length-le}
use lib.Dec.{ltb, eqb}
use borrow.Author.Tests.{ltb-true, ltb-false, eqb-true, eqb-false, eq-eqb, ne_eqb}
use Rattle.report.specs.HarbourFile.{Group, groups, lines_of, is_bad, File, tables_from, at_least_one, file_lines, file_of}
use Rattle.report.proofs.LineLaws.{lines_join, lines_none}
use Rattle.report.proofs.FileLaws.{group_at, group_in, Good, good_iff, file_unread, file_holds, file_long, file_short}
use Rattle.report.proofs.FormLines.{tables_same}
use Rattle.harbour_file.specs.Reading.{Part, group_part, parts_from, file_parts, part_at, last_part, file_from, read_file}
use Rattle.harbour_file.proofs.GroupLines.{kept_to, from_start, Took, lines_in, took}
use Rattle.harbour_file.proofs.GroupParts.{Reached, reached_start, reached_more, AllRead, all_more, all_read}

-- what is not good is bad
bad_unless : (group : ℕ → ℕ) (k : ℕ) → (Good group k → ⊥) → is_bad group k ≡ true
bad_unless group k h = go (is_bad group k) refl
  where
    go : (b : Bool) → is_bad group k ≡ b → is_bad group k ≡ true
    go true e = e
    go false e = absurd (h ((good_iff group k).0 e))

-- where a file has lines, these are the ones to look at
looked_at : (n k : ℕ) → k < n → at_least_one n ≡ n
looked_at zero k h = absurd (not-suc-le-zero h)
looked_at (suc n) k h = refl

-- and the first is always looked at
first_looked_at : (n : ℕ) → 0 < at_least_one n
first_looked_at zero = omega arith
first_looked_at (suc n) = omega arith

module _ (s : List ℕ) where
  -- without a head line 1 is the first bad line
  no_head : (part : Part) (t : Took s 0 (group_at 0).shape.most 0 part) → t.end ≡ 0 → file_lines (lines_of s) ≡ File.unread 1
  no_head part t e =
      (file_unread (lines_of s) 0).1
      (record {
        below = first_looked_at (length (lines_of s));
        holds = bad_unless (group_in (lines_of s)) 0 (λ r. t.stop (omega arith) (ap (group_in (lines_of s)) e ∙ r.head refl));
        before = λ j l. absurd (not-suc-le-zero l);
      })

  module _ (at k : ℕ) (r : Reached s (length groups) at k) where
    -- the reading stops before the end of the text: there the first bad line stands
    stops_at : (at ≡ length s → ⊥) → file_lines (lines_of s) ≡ File.unread (suc k)
    unfolding flatten
    stops_at h =
        let there = some (dec_lt k (length (lines_of s))) in
        (file_unread (lines_of s) k).1
        (record {
          below = rw (looked_at (length (lines_of s)) k there) there;
          holds = bad_unless (group_in (lines_of s)) k (λ g. let b = r.next g in omega (arith, g.known));
          before = λ j l. (good_iff (group_in (lines_of s)) j).1 (r.good j l);
        })
      where
        some : Dec (k < length (lines_of s)) → k < length (lines_of s)
        some (yes l) = l
        some (no l) = absurd (h (omega (arith, r.from.bound, length-drop at s, ap length none)))
          where
            none : drop at s ≡ []
            none = sym (lines_join (drop at s)) ∙ ap flatten (r.from.lines ∙ drop_of_length-le (lines_of s) {i = k} (omega arith))

    -- it goes on to the end of the text: no line is left
    ends_at : at ≡ length s → k ≡ length (lines_of s)
    ends_at e =
        let d : drop k (lines_of s) ≡ [] =
        sym r.from.lines ∙ ap lines_of (drop_of_length-le s {i = at} (omega arith)) ∙ lines_none in
        omega (arith, r.from.few, length-drop k (lines_of s), ap length d)

    -- and then the file holds the words of its lines
    holds_all : at ≡ length s → (words : ℕ → List ℕ) → ((g : ℕ) → g < length groups → words g ≡ kept_to (lines_of s) g k)
        → file_lines (lines_of s) ≡ File.holds (tables_from words)
    holds_all e words h =
        let q = ends_at e in
        let some : k ≡ 0 → ⊥ = λ z. let n = r.head z in omega arith in
        (file_holds (lines_of s) (tables_from words)).1 (
          λ j l. (good_iff (group_in (lines_of s)) j).1 (r.good j (omega (arith, looked_at (length (lines_of s)) 0 (omega arith)))),
          tables_same _ words (λ g l. ap (kept_to (lines_of s) g) (sym q) ∙ sym (h g l)),
        )

  -- what the parts of all groups say is what the lines say
  parts_file : (parts : List Part) (a : AllRead s 0 0 0 parts)
      → cond (eqb (last_part parts).at (length s)) (File.holds (tables_from (λ g. (part_at parts g).words))) (File.unread (last_part parts).line)
      ≡ file_lines (lines_of s)
  parts_file parts a = go (eqb (last_part parts).at (length s)) refl
    where
      go : (b : Bool) → eqb (last_part parts).at (length s) ≡ b
          → cond b (File.holds (tables_from (λ g. (part_at parts g).words))) (File.unread (last_part parts).line) ≡ file_lines (lines_of s)
      go true e =
          sym
          (holds_all a.place a.end a.reached (sym (a.last (length groups - 1) refl).0 ∙ eqb-true (last_part parts).at (length s) e)
          (λ g. (part_at parts g).words) (λ g l. a.words g (omega arith) ∙ ap (λ (x : ℕ). kept_to (lines_of s) x a.end) (zero-add g)))
      go false e =
          ap File.unread (a.last (length groups - 1) refl).1
          ∙ sym
          (stops_at a.place a.end a.reached (λ q. eqb-false (last_part parts).at (length s) e ((a.last (length groups - 1) refl).0 ∙ q)))

  -- so it is where there is a head; where there is none line 1 is bad
  head_file : (part : Part) (rest : List Part) (t : Took s 0 (group_at 0).shape.most 0 part)
      → (0 < t.end → AllRead s 0 0 0 (part ∷ rest)) → file_from s (part ∷ rest) ≡ file_lines (lines_of s)
  head_file part rest t all = go t.end refl
    where
      go : (n : ℕ) → t.end ≡ n → file_from s (part ∷ rest) ≡ file_lines (lines_of s)
      go zero e =
          let none : eqb (length part.words) 0 ≡ true =
          eq-eqb (length part.words) 0 (sym (ap (λ (x : ℕ). length (kept_to (lines_of s) 0 x)) (sym e) ∙ ap length t.words)) in
          rw none (sym (no_head part t e))
      go (suc n) e =
          let some : eqb (length part.words) 0 ≡ false = ne_eqb (length part.words) 0 (λ q. let l = t.some (omega arith) in omega arith) in
          rw some (parts_file (part ∷ rest) (all (omega arith)))

  -- the head's part stands before the others
  parts_first : (g : Group) (gs : List Group) (at n : ℕ)
      → let p = group_part s g at n in parts_from s (g ∷ gs) at n ≡ p ∷ parts_from s gs p.at p.line
  unfolding parts_from
  parts_first g gs at n = refl

  -- reading group by group gives what the lines say
  pub file_from_lem : file_from s (file_parts s) ≡ file_lines (lines_of s)
  unfolding file_parts
  file_from_lem =
      ap (file_from s) (parts_first (group_at 0) (drop 1 groups) 0 1)
      ∙ head_file head rest t (λ some. all_more s 0 0 0 head rest known (reached_start s) t (others some))
    where
      known : 0 < length groups
      known = omega arith

      head : Part
      head = lines_in s 0 (group_at 0).shape.most 0 1

      rest : List Part
      rest = parts_from s (drop 1 groups) head.at head.line

      t : Took s 0 (group_at 0).shape.most 0 head
      t = took s 0 known (group_at 0).shape.most 0 0 (from_start s)

      others : 0 < t.end → AllRead s 1 head.at t.end rest
      others some =
          rw t.number
          (all_read s (drop 1 groups) 1 head.at t.end refl (omega arith) some (reached_more s 0 0 0 head known (reached_start s) t some))

-- What the code reads from the start, group by group, is what docs/FORMAT.md says of the file
pub file_read : (s : List ℕ) → read_file s ≡ file_of s
unfolding read_file
file_read s = go (ltb 65536 (length s)) refl
  where
    go : (b : Bool) → ltb 65536 (length s) ≡ b → cond b (File.unread 0) (file_from s (file_parts s)) ≡ file_of s
    go true e = sym (file_long s (ltb-true 65536 (length s) e))
    go false e = file_from_lem s ∙ sym (file_short s (ltb-false 65536 (length s) e))
