use Rattle.kept_lists.proofs.BlockLaws.{keeping_all, listing_none, listing_room, listing_more}
use Rattle.kept_lists.proofs.write_list.Goals as goal

pub loop-i-init : goal.loop-i-init
loop-i-init c = listing_none c.empty-kept.ensures

pub write_pair-p-requires : goal.write_pair-p-requires
write_pair-p-requires c =
    listing_room c.loop-i.invariant c.loop-i-test.true c.entry_attribute-a.ensures c.entry_holds-holds.ensures c.has.ensures
    c.has-stay.ensures c.requires

pub loop-i-preserved : goal.loop-i-preserved
loop-i-preserved c =
    listing_more c.loop-i.invariant c.loop-i-test.true c.entry_attribute-a.ensures c.entry_holds-holds.ensures c.has.ensures
    c.has-stay.ensures c.write_pair-p.ensures c.with_if-kept.ensures

pub returns : goal.returns
returns c = λ T offset. keeping_all (c.loop-i.invariant.written offset) c.loop-i-test.false T
