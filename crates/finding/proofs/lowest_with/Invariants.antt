-- The invariant: the row, cut by what is left of the wanted attributes, is the first row, cut by all of them.
use Prim.Native.Nat.{ℕ, ◌^◌, ◌<◌}
use mathlib.Core.Path.{◌≡◌}
use Rattle.finding.specs.ColumnSearch.{shows_wanted}
use Rattle.finding.proofs.lowest_with.Given as goal

abbrev pub invariant-loop-a : goal.invariant-loop-a
invariant-loop-a l =
    (l.rest.bits < 2 ^ 64)
    × ((c : ℕ) → c < 1024 → shows_wanted l.having.words l.columns l.rest.bits c ≡ shows_wanted l.initial.having.words l.columns l.initial.rest.bits c)

abbrev pub decreases-loop-a : goal.decreases-loop-a
decreases-loop-a l = l.rest.bits
