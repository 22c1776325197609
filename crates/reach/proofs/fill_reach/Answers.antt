use Rattle.reach.proofs.ReachRows.{ready_report, walk_reached}
use Rattle.reach.proofs.fill_reach.Goals as goal

pub walk-requires : goal.walk-requires
walk-requires c = ready_report c.requires

pub returns : goal.returns
returns c = λ T R. walk_reached R _ c.requires.clear c.walk.ensures
