use Rattle.typing.proofs.RowSearch.{passed_more, passed_here, passed_all}
use Rattle.std.proofs.Common.{ap}
use Rattle.std.specs.Prelude.{not}
use Rattle.typing.proofs.lowest_row.Goals as goal

pub returns-then-not-is_empty : goal.returns-then-not-is_empty
returns-then-not-is_empty c =
    passed_here _ _ c.loop-q.invariant c.loop-q-test.true c.load-row.ensures c.is_empty.ensures (ap not c.if-not-is_empty.true)

pub loop-q-preserved : goal.loop-q-preserved
loop-q-preserved c =
    passed_more _ _ c.loop-q.invariant c.loop-q-test.true c.load-row.ensures c.is_empty.ensures (ap not c.if-not-is_empty.false)

pub returns : goal.returns
returns c = passed_all _ _ c.loop-q.invariant c.loop-q-test.false
