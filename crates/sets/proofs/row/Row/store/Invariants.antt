-- After w words the list is the one that came with those w in their places.
use mathlib.Core.Path.{◌≡◌}
use lib.Seq.{paste}
use Rattle.sets.proofs.row.Row.store.Given as goal

abbrev pub invariant-loop-w : goal.invariant-loop-w
invariant-loop-w l = l.rows ≡ paste l.initial.rows l.at l.fn.self.words l.w
