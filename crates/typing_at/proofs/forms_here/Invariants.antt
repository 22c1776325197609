use Rattle.typing_at.proofs.HereLaws.{FormsPassed}
use Rattle.typing_at.proofs.forms_here.Given as goal

abbrev pub invariant-loop-q : goal.invariant-loop-q
invariant-loop-q l = FormsPassed l.tables.expression_rows.now l.tables.project_entries.now l.tables.relations.now l.tables.queries.now l.reach l.spared_sets l.c l.sets.named.now l.sets.clashes.now l.sets.forms.now l.q l.start
