use Rattle.attribute_rows.proofs.GatheredLaws.{gathered_read, gathered_more}
use Rattle.attribute_rows.proofs.fill_gathered_rows.Goals as goal

pub gathered_row-r-requires : goal.gathered_row-r-requires
gathered_row-r-requires c =
    gathered_read c.args.what c.loop-f.invariant c.loop-f-test.true c.decode_comparison-x.ensures c.requires

pub loop-f-preserved : goal.loop-f-preserved
loop-f-preserved c =
    gathered_more c.args.what c.loop-f.invariant c.loop-f-test.true c.decode_comparison-x.ensures c.gathered_row-r.ensures
    c.store.auto.rows c.store.ensures
