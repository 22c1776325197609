-- After so many words `any` is those words joined, which is 0 where each of them is.
use mathlib.Core.Path.{◌≡◌}
use Rattle.sets.proofs.RowLaws.{joined}
use Rattle.sets.proofs.row.Row.is_empty.Given as goal

abbrev pub invariant-loop-word : goal.invariant-loop-word
invariant-loop-word l = l.any ≡ joined l.word-index l.fn.self.words
