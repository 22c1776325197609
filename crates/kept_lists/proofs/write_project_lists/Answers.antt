use Rattle.kept_lists.proofs.ProjectLaws.{projecting_rowed}
use Rattle.kept_lists.proofs.ProjectLaws.{projecting_room, projecting_more, projecting_all}
use Rattle.kept_lists.proofs.write_project_lists.Goals as goal

pub holds_at-reached-requires : goal.holds_at-reached-requires
holds_at-reached-requires c =
    projecting_rowed c.requires c.loop-q-test.true

pub write_list_if-p-requires : goal.write_list_if-p-requires
write_list_if-p-requires c =
    projecting_room c.loop-q.invariant c.loop-q-test.true c.decode_query-x.ensures c.project_length-n.ensures c.holds_at-reached.ensures
    c.of_bits-stays.ensures c.requires

pub loop-q-preserved : goal.loop-q-preserved
loop-q-preserved c =
    projecting_more c.loop-q.invariant c.loop-q-test.true c.decode_query-x.ensures c.project_length-n.ensures c.holds_at-reached.ensures
    c.of_bits-stays.ensures c.write_list_if-p.ensures

pub returns : goal.returns
returns c = projecting_all c.loop-q.invariant c.loop-q-test.false
