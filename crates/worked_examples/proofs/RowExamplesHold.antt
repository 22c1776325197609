-- Each case of the list gives what it says. By computation.
use mathlib.Core.Path.{refl}
use Rattle.report.specs.Examples.{Hold}
use Rattle.report.proofs.ExamplesHold.{computed, shared_rows, hold_shared}
use Rattle.worked_examples.specs.RowExamples.{row_examples}

pub row_examples_hold : Hold row_examples
unfolding computed shared_rows
row_examples_hold = hold_shared row_examples refl
