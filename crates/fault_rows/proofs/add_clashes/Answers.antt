use Rattle.fault_rows.proofs.ClashLaws.{adding_clash}
use Rattle.fault_rows.proofs.ClashLaws.{adding_more, adding_all}
use Rattle.fault_rows.proofs.add_clashes.Goals as goal

pub clash_row-second-requires : goal.clash_row-second-requires
clash_row-second-requires c =
    adding_clash c.loop-q.invariant c.loop-q-test.true c.decode_query-x.ensures c.requires

pub loop-q-preserved : goal.loop-q-preserved
loop-q-preserved c =
    adding_more c.loop-q.invariant c.loop-q-test.true c.decode_query-x.ensures c.load.ensures c.clash_row-second.ensures
    c.load-in-loop-q.ensures c.first_found-row.ensures c.store.auto.rows c.store.ensures

pub returns : goal.returns
returns c = adding_all c.loop-q.invariant c.loop-q-test.false
