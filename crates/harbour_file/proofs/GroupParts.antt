-- Reading one group after another, said of the lines of the text: where it ends, and the words of each group.
use Prim.Native.Nat.{ℕ, zero, suc, ◌+◌, ◌≤◌, ◌<◌}
use mathlib.Core.Path.{◌≡◌, refl, sym, ap, ◌∙◌}
use mathlib.Core.List.{List, [], ◌∷◌, ◌++◌}
use native.Mathlib.Nat.{le_refl, not-suc-le-zero}
use native.Mathlib.Decide.{dec_lt}
use native.Mathlib.Omega.{arith}
use lib.ListN.{length, drop, get_or, length-drop}
use lib.Seq.{drop-cons}
use lib.Dec.{eqb}
use borrow.Author.Tests.{ne_eqb}
use Rattle.sets.proofs.ListLaws.{kept_none}
use Rattle.report.specs.Tables.{shape_of}
use Rattle.report.specs.Text.{numbers_in}
use Rattle.report.specs.HarbourFile.{Group, group_of, groups, lines_of}
use Rattle.report.proofs.FileLaws.{group_at, group_in, Good}
use Rattle.harbour_file.specs.Reading.{Part, parts_from, part_at}
use Rattle.harbour_file.proofs.GroupLines.{kept_to, From, from_start, Took, lines_in, took}
use Rattle.harbour_file.proofs.GroupRuns.{Run, run_groups, run_good, run_next}

-- group i, where the groups from i on are g and others
group_here : (i : ℕ) (g : Group) (gs : List Group) → drop i groups ≡ g ∷ gs → (i < length groups) × (g ≡ group_at i) × (drop (suc i) groups ≡ gs)
group_here i g gs e =
    let l : i < length groups = omega (arith, length-drop i groups, ap length e) in
    let c = drop-cons groups i (group_of [] (shape_of 0 0 0)) l in
    (l, (cc), (cc))

-- no group is left only past the last
groups_end : (i : ℕ) → drop i groups ≡ [] → i ≤ length groups → i ≡ length groups
groups_end i e h = omega (arith, length-drop i groups, ap length e)

module _ (s : List ℕ) where
  -- The groups before g have been read, up to line k, which stands at a position: the lines before it are good and of those groups, and if
  -- line k is good it is of none of them
  pub record Reached (g at k : ℕ) : Type 0 where
    pub from : From s at k
    pub good : (j : ℕ) → j < k → Good (group_in (lines_of s)) j
    pub earlier : (j : ℕ) → j < k → group_in (lines_of s) j < g
    pub next : Good (group_in (lines_of s)) k → g ≤ group_in (lines_of s) k
    pub head : k ≡ 0 → g ≡ 0

  -- so it is before the first group
  pub reached_start : Reached 0 0 0
  reached_start = record {
    from = from_start s;
    good = λ j l. absurd (not-suc-le-zero l);
    earlier = λ j l. absurd (not-suc-le-zero l);
    next = λ r. omega arith;
    head = λ e. refl;
  }

  module _ (g at k : ℕ) (part : Part) (known : g < length groups) (r : Reached g at k) (t : Took s g (group_at g).shape.most k part) where
    -- what a group takes is a run
    reached_run : Run (group_in (lines_of s)) g k t.end
    reached_run = record {
      known = known;
      low = t.low;
      high = t.high;
      earlier = r.earlier;
      each = t.each;
      stop = t.stop;
      next = r.next;
      head = r.head;
    }

    -- after one group more, where a line has been taken: a head, or lines before
    pub reached_more : 0 < t.end → Reached (suc g) part.at t.end
    reached_more some = record {
      from = t.from;
      good = λ j l. go j l (dec_lt j k);
      earlier = λ j l. let b = run_groups (group_in (lines_of s)) g k t.end reached_run j l in omega arith;
      next = run_next (group_in (lines_of s)) g k t.end reached_run;
      head = λ e. absurd (omega arith);
    }
      where
        go : (j : ℕ) → j < t.end → Dec (j < k) → Good (group_in (lines_of s)) j
        go j l (yes b) = r.good j b
        go j l (no b) = run_good (group_in (lines_of s)) g k t.end reached_run j (omega arith) l

    -- the words of the group are those of its lines
    own_words : part.words ≡ kept_to (lines_of s) g t.end
    own_words =
        sym (t.words
        ∙ ap (λ (l : List ℕ). l ++ part.words)
        (kept_none (λ j. eqb (group_in (lines_of s) j) g) (λ j. numbers_in (get_or (lines_of s) j [])) 0 k (omega arith)
        (λ j l u. ne_eqb (group_in (lines_of s) j) g (λ e. let b = r.earlier j u in omega arith))))

  -- From group i on all groups have been read, up to line `end`, which stands at `place`: part j is that of group i + j, and the last ends there
  pub record AllRead (i at k : ℕ) (parts : List Part) : Type 0 where
    pub place : ℕ
    pub end : ℕ
    pub reached : Reached (length groups) place end
    pub low : k ≤ end
    pub later : (j : ℕ) → k ≤ j → j < end → i ≤ group_in (lines_of s) j
    pub words : (j : ℕ) → i + j < length groups → (part_at parts j).words ≡ kept_to (lines_of s) (i + j) end
    pub last : (j : ℕ) → i + suc j ≡ length groups → ((part_at parts j).at ≡ place) × ((part_at parts j).line ≡ suc end)
    pub none : i ≡ length groups → (place ≡ at) × (end ≡ k)

  -- no group is left
  all_none : (i at k : ℕ) → i ≡ length groups → Reached i at k → AllRead i at k []
  all_none i at k q r = record {
    place = at;
    end = k;
    reached = rw q at r;
    low = le_refl k;
    later = λ j l u. absurd (omega arith);
    words = λ j l. absurd (omega arith);
    last = λ j e. absurd (omega arith);
    none = λ e. (refl, refl);
  }

  -- one group before others that have been read
  pub all_more : (i at k : ℕ) (part : Part) (parts : List Part) → i < length groups → Reached i at k → (t : Took s i (group_at i).shape.most k part)
      → AllRead (suc i) part.at t.end parts → AllRead i at k (part ∷ parts)
  all_more i at k part parts known r t a = record {
    place = a.place;
    end = a.end;
    reached = a.reached;
    low = omega (arith, t.low, a.low);
    later = λ j l u. go j l u (dec_lt j t.end);
    words = words;
    last = last;
    none = λ e. absurd (omega arith);
  }
    where
      go : (j : ℕ) → k ≤ j → j < a.end → Dec (j < t.end) → i ≤ group_in (lines_of s) j
      go j l u (yes b) = let e = t.each j l b in omega arith
      go j l u (no b) = let e = a.later j (omega arith) u in omega arith

      words : (j : ℕ) → i + j < length groups → (part_at (part ∷ parts) j).words ≡ kept_to (lines_of s) (i + j) a.end
      words zero l =
          let e : i ≡ i + 0 = omega arith in
          own_words i at k part known r t
          ∙ sym (kept_none (λ j. eqb (group_in (lines_of s) j) i) (λ j. numbers_in (get_or (lines_of s) j [])) t.end a.end a.low
          (λ j b u. ne_eqb (group_in (lines_of s) j) i (λ q. let m = a.later j b u in omega arith)))
          ∙ ap (λ (x : ℕ). kept_to (lines_of s) x a.end) e
      words (suc j) l =
          let e : suc i + j ≡ i + suc j = omega arith in
          a.words j (omega arith) ∙ ap (λ (x : ℕ). kept_to (lines_of s) x a.end) e

      last : (j : ℕ) → i + suc j ≡ length groups → ((part_at (part ∷ parts) j).at ≡ a.place) × ((part_at (part ∷ parts) j).line ≡ suc a.end)
      last zero e = let n = a.none (omega arith) in (sym n.0, t.number ∙ ap suc (sym n.1))
      last (suc j) e = a.last j (omega arith)

  -- the part of group i, and those of the groups after it
  all_step : (g : Group) (gs : List Group) (i at k : ℕ) → drop i groups ≡ g ∷ gs → 0 < k → Reached i at k
      → ((p m : ℕ) → drop (suc i) groups ≡ gs → suc i ≤ length groups → 0 < m → Reached (suc i) p m → AllRead (suc i) p m (parts_from s gs p (suc m)))
      → AllRead i at k (parts_from s (g ∷ gs) at (suc k))
  unfolding parts_from
  all_step g gs i at k e some r later =
      let h = group_here i g gs e in
      let t = took s i h.0 (group_at i).shape.most at k r.from in
      let part = lines_in s i (group_at i).shape.most at (suc k) in
      let positive : 0 < t.end = omega (arith, t.low) in
      let a = later part.at t.end h.2 h.0 positive (reached_more i at k part h.0 r t positive) in
      let b : AllRead (suc i) part.at t.end (parts_from s gs part.at part.line) = rw t.number a in
      rw h.1 (all_more i at k part (parts_from s gs part.at part.line) h.0 r t b)

  -- so reading from group i on ends as AllRead says
  pub all_read : (gs : List Group) (i at k : ℕ) → drop i groups ≡ gs → i ≤ length groups → 0 < k → Reached i at k
      → AllRead i at k (parts_from s gs at (suc k))
  unfolding parts_from
  all_read [] i at k e h some r = all_none i at k (groups_end i e h) r
  all_read (g ∷ gs) i at k e h some r = all_step g gs i at k e some r (all_read gs (suc i))
