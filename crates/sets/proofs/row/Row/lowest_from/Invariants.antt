-- The words passed have no configuration from `from` on; the first that has one has the lowest, at its trailing zeros.
use Prim.Native.Nat.{◌+◌, ◌*◌, ◌<◌}
use Rattle.sets.proofs.RowLaws.{Passed}
use Rattle.sets.proofs.row.Row.lowest_from.Given as goal

abbrev pub invariant-loop-w : goal.invariant-loop-w
invariant-loop-w l = record { inside : l.skipped < 64; passed : Passed l.fn.self.words l.from (l.w * 64 + l.skipped) }
