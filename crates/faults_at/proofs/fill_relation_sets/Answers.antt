use Rattle.faults_at.proofs.ListLaws.{related_more}
use Rattle.faults_at.proofs.fill_relation_sets.Goals as goal

pub loop-r-preserved : goal.loop-r-preserved
loop-r-preserved c =
    related_more c.loop-r.invariant c.loop-r-test.true c.relation_length-start.ensures.same c.requires c.relation_set-s.ensures
