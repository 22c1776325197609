-- Each case of the lists gives what docs/FORMAT.md says. By computation.
use mathlib.Core.Path.{◌≡◌, refl}
use mathlib.Core.List.{[], ◌∷◌, ◌++◌, map}
use Rattle.report.specs.Text.{bytes}
use Rattle.report.specs.Calls.{answer}
use Rattle.report.specs.declared.Reading.{Reading}
use Rattle.report.proofs.ExamplesHold.{computed}
use Rattle.printing.specs.Page.{aligned, marks, page_line, page}
use Rattle.wall_page.specs.Page.{PageAnswer, line_count, writing_page, page_answer, page_after}
use Rattle.worked_examples.specs.PageExamples.{LineExample, line_examples, AnswerExample, answer_examples, BytesExample, bytes_examples, lent}

pub line_examples_hold :
    map (λ (e : LineExample). page_line e.configuration e.set) line_examples ≡ map (λ (e : LineExample). bytes e.gives ++ (10 ∷ [])) line_examples
unfolding computed page_line aligned marks
line_examples_hold = refl

abbrev answered : AnswerExample → PageAnswer
answered e = page_answer (answer e.of e.reading (writing_page e.room)) (line_count e.of)

pub answer_examples_hold : map answered answer_examples ≡ map (λ (e : AnswerExample). e.gives) answer_examples
unfolding computed line_count
answer_examples_hold = refl

pub bytes_examples_hold : map (λ (e : BytesExample). page_after e.of Reading.Strict (lent e.room)) bytes_examples ≡ map (λ (e : BytesExample). e.after) bytes_examples
unfolding computed page line_count page_line aligned marks
bytes_examples_hold = refl
