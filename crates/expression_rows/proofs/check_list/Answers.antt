use Rattle.expression_rows.proofs.CheckLaws.{listed_more, listed_here, listed_all}
use Rattle.std.proofs.Common.{ap}
use Rattle.std.specs.Prelude.{not}
use Rattle.expression_rows.proofs.check_list.Goals as goal

pub returns-then-not-meets : goal.returns-then-not-meets
returns-then-not-meets c =
    listed_here _ _ _ _ _ c.loop-i.invariant c.loop-i-test.true c.entry_expression-x.ensures.same c.meets.ensures _ (ap not c.if-not-meets.true)
    c.entry_attribute-a.ensures.same

pub loop-i-preserved : goal.loop-i-preserved
loop-i-preserved c =
    listed_more _ _ _ _ _ c.loop-i.invariant c.loop-i-test.true c.entry_expression-x.ensures.same c.meets.ensures (ap not c.if-not-meets.false)

pub returns : goal.returns
returns c = listed_all _ _ _ _ _ _ c.loop-i.invariant c.loop-i-test.false
