use mathlib.Core.Path.{ap, ◌∙◌}
use native.Mathlib.Omega.{arith}
use Rattle.sets.proofs.WritingLaws.{same_room, same_written}
use Rattle.printing.specs.Page.{mark}
use Rattle.printing.proofs.PageLineLaws.{table_place, table_more, table_all, marks-table}
use Rattle.printing.proofs.page.put_marks.Goals as goal

pub bounds-out-at : goal.bounds-out-at
bounds-out-at c =
    table_place c.loop-a.invariant (same_room (marks-table c.args.s.bits) c.requires) c.loop-a-test.true

pub loop-a-preserved : goal.loop-a-preserved
loop-a-preserved c =
    table_more c.loop-a.invariant (c.mark_of.ensures ∙ ap mark c.has.ensures)

pub returns : goal.returns
returns c =
    same_written (marks-table c.args.s.bits) (table_all c.loop-a.invariant c.loop-a-test.false (omega arith))
