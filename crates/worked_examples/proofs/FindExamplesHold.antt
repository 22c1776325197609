-- Each case of the list gives what docs/FORMAT.md says. By computation.
use mathlib.Core.Path.{◌≡◌, refl}
use mathlib.Core.List.{map}
use Rattle.report.specs.Calls.{answer}
use Rattle.report.proofs.ExamplesHold.{computed}
use Rattle.finding.specs.Finding.{FindAnswer, finding, lowest_wanted, found_answer}
use Rattle.worked_examples.specs.FindExamples.{FindExample, find_examples}

abbrev found : FindExample → FindAnswer
found e = found_answer (answer e.of e.reading (finding e.wanted)) (lowest_wanted e.of e.wanted)

pub find_examples_hold : map found find_examples ≡ map (λ (e : FindExample). e.gives) find_examples
unfolding computed lowest_wanted
find_examples_hold = refl
