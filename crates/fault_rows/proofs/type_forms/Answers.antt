use native.Mathlib.Omega.{arith}
use Rattle.fault_rows.proofs.TypeLaws.{typing_list, typing_item, typing_set}
use Rattle.fault_rows.proofs.TypeLaws.{typing_more, typing_all}
use Rattle.fault_rows.proofs.type_forms.Goals as goal

pub list_row-listed-requires : goal.list_row-listed-requires
list_row-listed-requires c =
    typing_list c.loop-q.invariant c.loop-q-test.true c.decode_query-x.ensures c.project_length-n.ensures c.requires

pub judge_item-requires : goal.judge_item-requires
judge_item-requires c =
    typing_item c.loop-q.invariant c.loop-q-test.true c.decode_query-x.ensures c.requires

pub set_row-row-requires : goal.set_row-row-requires
set_row-row-requires c =
    typing_set c.loop-q.invariant c.loop-q-test.true c.decode_query-x.ensures c.requires

pub overflow_add-start : goal.overflow_add-start
overflow_add-start c =
    let l = (typing_list c.loop-q.invariant c.loop-q-test.true c.decode_query-x.ensures c.project_length-n.ensures c.requires).reads.inside in
    omega arith

pub loop-q-preserved : goal.loop-q-preserved
loop-q-preserved c =
    typing_more c.loop-q.invariant c.loop-q-test.true c.decode_query-x.ensures c.project_length-n.ensures c.list_row-listed.ensures
    c.requires c.load.ensures c.judge_item.ensures c.judge_item.auto.fault_rows
    c.set_row-row.ensures c.store.auto.rows c.store.ensures

pub returns : goal.returns
returns c = typing_all c.loop-q.invariant c.loop-q-test.false
