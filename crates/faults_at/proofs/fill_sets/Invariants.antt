use Rattle.faults_at.proofs.SetLaws.{QueriesFilling}
use Rattle.faults_at.proofs.fill_sets.Given as goal

abbrev pub invariant-loop-q : goal.invariant-loop-q
invariant-loop-q l = QueriesFilling l.tables.expression_rows.now l.tables.project_entries.now l.tables.queries.now l.relation_sets l.c l.initial.form_sets l.form_sets l.q l.start
