use Rattle.printing.proofs.ColumnLaws.{showing_more, showing_all}
use Rattle.printing.proofs.columns.shown_at.Goals as goal

pub loop-a-preserved : goal.loop-a-preserved
loop-a-preserved c =
    showing_more _ _ c.loop-a.invariant c.loop-a-test.true c.requires.small c.with_if-found.ensures

pub returns : goal.returns
returns c = showing_all _ _ c.loop-a.invariant c.loop-a-test.false
