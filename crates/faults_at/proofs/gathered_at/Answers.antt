use Rattle.at_configuration.proofs.HoldLaws.{rowed}
use Rattle.faults_at.proofs.ReadLaws.{either_is}
use Rattle.faults_at.proofs.GatheredLaws.{refers_below, refers_condition}
use Rattle.faults_at.proofs.gathered_at.Goals as goal

pub taken_at-requires : goal.taken_at-requires
taken_at-requires c =
    let A = c.requires.at in
    rowed A.reads (refers_condition A c.in-Choice.is)

pub returns-in-Choice : goal.returns-in-Choice
returns-in-Choice c = λ T f set A.
    let e = c.in-Choice.is in
    rw e
    (either_is A.below (rw e at (refers_below A)) A.reads (refers_condition A e) c.taken_at.ensures c.set_in-in-Choice.ensures)
