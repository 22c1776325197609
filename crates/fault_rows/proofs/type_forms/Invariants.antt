use Rattle.fault_rows.proofs.TypeLaws.{FormsTyping}
use Rattle.fault_rows.proofs.type_forms.Given as goal

abbrev pub invariant-loop-q : goal.invariant-loop-q
invariant-loop-q l =
    FormsTyping l.reading l.tables.expression_rows.now l.tables.project_entries.now l.tables.relations.now l.tables.queries.now l.reach l.named_rows l.relation_rows l.a l.initial.form_rows l.form_rows l.initial.fault_rows l.fault_rows
    l.initial.spared_sets l.spared_sets l.q l.start
