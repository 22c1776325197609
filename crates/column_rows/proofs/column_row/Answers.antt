use Rattle.column_rows.proofs.ColumnLaws.{making_none, making_place, making_more, making_all}
use Rattle.column_rows.proofs.column_row.Goals as goal

pub loop-set_at-init : goal.loop-set_at-init
loop-set_at-init c = making_none

pub bounds-words-w : goal.bounds-words-w
bounds-words-w c = making_place c.loop-set_at-test.true c.requires.1 _

pub bounds-words-w-in-loop-set_at : goal.bounds-words-w-in-loop-set_at
bounds-words-w-in-loop-set_at c = making_place c.loop-set_at-test.true c.requires.1 _

pub loop-set_at-preserved : goal.loop-set_at-preserved
loop-set_at-preserved c = making_more c.loop-set_at-test.true c.loop-set_at.invariant _ c.shown_bit.ensures

pub returns : goal.returns
returns c = making_all c.loop-set_at.invariant c.loop-set_at-test.false
