use Rattle.kept_lists.proofs.RelationLaws.{relating_list}
use Rattle.kept_lists.proofs.RelationLaws.{forms_room, forms_more, forms_all}
use Rattle.kept_lists.proofs.write_relation_forms.Goals as goal

pub kept_length-kept-requires : goal.kept_length-kept-requires
kept_length-kept-requires c =
    relating_list c.loop-r.invariant c.loop-r-test.true c.relation_length-n.ensures c.requires

pub write_pair-p-requires : goal.write_pair-p-requires
write_pair-p-requires c =
    forms_room c.loop-r-test.true c.relation_length-n.ensures c.is_present-present.ensures c.loop-r.invariant c.kept_length-kept.ensures
    c.requires

pub loop-r-preserved : goal.loop-r-preserved
loop-r-preserved c =
    forms_more c.loop-r-test.true c.relation_length-n.ensures c.is_present-present.ensures c.loop-r.invariant c.kept_length-kept.ensures
    c.write_pair-p.ensures

pub returns : goal.returns
returns c = λ T R. forms_all c.loop-r-test.false T R c.loop-r.invariant
