use Rattle.attribute_rows.proofs.ListedLaws.{related_more}
use Rattle.attribute_rows.proofs.fill_relation_rows.Goals as goal

pub loop-r-preserved : goal.loop-r-preserved
loop-r-preserved c =
    related_more c.loop-r.invariant c.loop-r-test.true c.relation_length-start.ensures.same c.relation_row-row.ensures
    c.store.auto.rows c.store.ensures
