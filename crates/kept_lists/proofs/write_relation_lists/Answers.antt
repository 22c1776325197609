use Rattle.kept_lists.proofs.RelationLaws.{lists_room, lists_more, lists_all}
use Rattle.kept_lists.proofs.write_relation_lists.Goals as goal

pub write_list_if-p-requires : goal.write_list_if-p-requires
write_list_if-p-requires c =
    lists_room c.loop-r-test.true c.relation_length-n.ensures c.is_present-present.ensures c.loop-r.invariant
    c.all-all.ensures c.requires

pub loop-r-preserved : goal.loop-r-preserved
loop-r-preserved c =
    lists_more c.loop-r-test.true c.relation_length-n.ensures c.is_present-present.ensures c.loop-r.invariant
    c.all-all.ensures c.write_list_if-p.ensures

pub returns : goal.returns
returns c = λ T R. lists_all c.loop-r-test.false T R c.loop-r.invariant
