-- A run of lines of one group after lines of earlier groups, by the numbers of their groups: each line is good, and what may follow.
use Prim.Native.Nat.{ℕ, ◌+◌, ◌≤◌, ◌<◌}
use mathlib.Core.Path.{◌≡◌, ◌∙◌}
use mathlib.Core.Logic.{⊎_elim}
use native.Mathlib.Nat.{le_refl, eq-or-lt_of_le}
use native.Mathlib.Decide.{le_ind, dec_lt}
use native.Mathlib.Omega.{arith}
use lib.ListN.{length}
use lib.Dec.{eqb}
use borrow.Author.Tests.{eq-eqb, ne_eqb}
use Rattle.sets.specs.Search.{count_below}
use Rattle.sets.proofs.SearchLaws.{count_none, count_yes}
use Rattle.report.specs.HarbourFile.{groups}
use Rattle.report.proofs.FileLaws.{group_at, Good}

-- Lines before k are of groups before g; from k up to `end`, at most as many as the group may have, they are of group g. The line at `end` is
-- not of the group, unless the group has as many as it may; a good line k is of no group before g; and the first group starts the file
pub record Run (group : ℕ → ℕ) (g k end : ℕ) : Type 0 where
  pub known : g < length groups
  pub low : k ≤ end
  pub high : end ≤ k + (group_at g).shape.most
  pub earlier : (j : ℕ) → j < k → group j < g
  pub each : (j : ℕ) → k ≤ j → j < end → group j ≡ g
  pub stop : end < k + (group_at g).shape.most → group end ≡ g → ⊥
  pub next : Good group k → g ≤ group k
  pub head : k ≡ 0 → g ≡ 0

module _ (group : ℕ → ℕ) (g k end : ℕ) (r : Run group g k end) where
  -- no line of the group stands before the run
  own_none : count_below (λ j. eqb (group j) g) k ≡ 0
  own_none =
      count_none (λ j. eqb (group j) g) 0 k (omega arith)
      (λ j l u. ne_eqb (group j) g (λ e. let b = r.earlier j u in omega arith))

  -- so up to line m of the run there are as many as lines from k on
  own_count : (m : ℕ) → k ≤ m → m ≤ end → count_below (λ j. eqb (group j) g) m + k ≡ m
  own_count m h =
      le_ind (λ (x : ℕ). x ≤ end → count_below (λ j. eqb (group j) g) x + k ≡ x) (λ u. omega (arith, own_none))
      (λ x l ih u.
      let c = count_yes (λ j. eqb (group j) g) x (eq-eqb (group x) g (r.each x l u)) in
      let b = ih (omega arith) in
      omega arith) m h

  -- up to the end of the run no line is of a later group
  pub run_groups : (j : ℕ) → j < end → group j ≤ g
  run_groups j h = go (dec_lt j k)
    where
      go : Dec (j < k) → group j ≤ g
      go (yes l) = let b = r.earlier j l in omega arith
      go (no l) = let e = r.each j (omega arith) h in omega arith

  -- every line of the run is good
  pub run_good : (j : ℕ) → k ≤ j → j < end → Good group j
  run_good j l u =
      let e = r.each j l u in
      let c = own_count j l (omega arith) in
      let room : count_below (λ i. eqb (group i) g) j < (group_at g).shape.most = omega (arith, r.high) in
      record {
        known = omega (arith, r.known);
        order = λ i h. let b = run_groups i (omega arith) in omega arith;
        room = rw e room;
        head = λ q. e ∙ r.head (omega arith);
      }

  -- a good line at its end is of a later group
  pub run_next : Good group end → g < group end
  run_next good =
      let least : g ≤ group end =
      ⊎_elim (λ (q : k ≡ end). rw (← q) (r.next (rw q good)))
      (λ (l : k < end). let o = good.order k l in let e = r.each k (le_refl k) l in omega arith)
      (eq-or-lt_of_le r.low) in
      let other : group end ≡ g → ⊥ =
      λ e. let c = own_count end r.low (le_refl end) in
      let room : count_below (λ i. eqb (group i) g) end < (group_at g).shape.most = rw e at good.room in
      r.stop (omega arith) e in
      omega arith
