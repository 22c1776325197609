use native.Mathlib.Omega.{arith}
use Rattle.faults_at.proofs.SetLaws.{setting_some, setting_inside, setting_more}
use Rattle.faults_at.proofs.fill_sets.Goals as goal

pub set_at-s-requires : goal.set_at-s-requires
set_at-s-requires c =
    setting_some c.loop-q.invariant c.requires c.loop-q-test.true c.decode_query-x.ensures

pub overflow_add-start : goal.overflow_add-start
overflow_add-start c =
    let l = setting_inside c.loop-q.invariant c.requires c.loop-q-test.true c.decode_query-x.ensures c.project_length-start.ensures in
    omega arith

pub loop-q-preserved : goal.loop-q-preserved
loop-q-preserved c =
    setting_more c.loop-q.invariant c.requires c.loop-q-test.true c.decode_query-x.ensures c.project_length-start.ensures
    c.set_at-s.ensures
