use Rattle.at_configuration.proofs.JoinedLaws.{joined_none, joined_more}
use Rattle.at_configuration.proofs.joined_at.Goals as goal

pub loop-i-init : goal.loop-i-init
loop-i-init c = joined_none c.empty-joined.ensures

pub loop-i-preserved : goal.loop-i-preserved
loop-i-preserved c =
    joined_more c.loop-i.invariant c.loop-i-test.true c.entry_attribute-a.ensures.same c.entry_holds-holds.ensures c.with_if-joined.ensures
