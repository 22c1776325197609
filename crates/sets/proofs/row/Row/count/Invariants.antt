-- After so many words `many` is the count of their ones.
use mathlib.Core.Path.{◌≡◌}
use Rattle.sets.specs.Rows.{row_count}
use Rattle.sets.proofs.row.Row.count.Given as goal

abbrev pub invariant-loop-word : goal.invariant-loop-word
invariant-loop-word l = l.many ≡ row_count l.word-index l.fn.self.words
