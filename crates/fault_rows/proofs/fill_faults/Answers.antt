use Rattle.fault_rows.proofs.FailLaws.{arrays_clear, arrays_kept}
use Rattle.fault_rows.proofs.FailLaws.{failing_none, failing_forms, failing_more, failing_all}
use Rattle.fault_rows.proofs.fill_faults.Goals as goal

pub loop-a-init : goal.loop-a-init
loop-a-init c = (arrays_clear, failing_none c.requires)

pub type_forms-requires : goal.type_forms-requires
type_forms-requires c =
    failing_forms c.requires c.loop-a.invariant.1 c.loop-a.invariant.0 c.fill_gathered_rows.ensures c.fill_relation_rows.ensures
    c.loop-a-test.true

pub loop-a-preserved : goal.loop-a-preserved
loop-a-preserved c = (
  arrays_kept c.loop-a.invariant.0 c.fill_gathered_rows.auto.rows c.fill_relation_rows.auto.relation_rows
      c.type_forms.auto.form_rows,
  failing_more c.requires c.loop-a.invariant.1 c.loop-a.invariant.0 c.fill_gathered_rows.ensures c.fill_relation_rows.ensures
      c.loop-a-test.true c.type_forms.ensures c.type_forms.auto.fault_rows
      c.type_forms.auto.spared_sets
      c.store_column.auto.columns c.store_column.ensures,
)

pub returns : goal.returns
returns c =
    failing_all c.requires c.loop-a.invariant.1 c.loop-a-test.false
