use Rattle.faults_at.proofs.GatheredLaws.{gathering_some, gathering_more}
use Rattle.faults_at.proofs.fill_gathered.Goals as goal

pub gathered_at-s-requires : goal.gathered_at-s-requires
gathered_at-s-requires c =
    gathering_some c.loop-f.invariant c.requires c.loop-f-test.true c.decode_comparison-x.ensures c.comparison_operands.ensures

pub loop-f-preserved : goal.loop-f-preserved
loop-f-preserved c =
    gathering_more c.loop-f.invariant c.requires c.loop-f-test.true c.decode_comparison-x.ensures c.comparison_operands.ensures
    c.own_set-own.ensures c.gathered_at-s.ensures
