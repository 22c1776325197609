use Rattle.fault_rows.proofs.FailLaws.{Arrays}
use Rattle.fault_rows.proofs.FailLaws.{Failing}
use Rattle.fault_rows.proofs.fill_faults.Given as goal

abbrev pub invariant-loop-a : goal.invariant-loop-a
invariant-loop-a l =
    Arrays l.named_rows l.relation_rows l.form_rows
    × Failing l.scope l.tables.expression_rows.now l.tables.relation_entries.now l.tables.project_entries.now l.tables.relations.now l.tables.comparisons.now l.tables.queries.now l.tables.kinds.now l.reach l.initial.fault_rows l.initial.spared_sets l.initial.columns l.fault_rows
    l.spared_sets l.columns l.a
