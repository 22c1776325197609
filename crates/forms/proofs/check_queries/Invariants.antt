use Rattle.forms.proofs.Queries.{QueriesPassed}
use Rattle.forms.proofs.check_queries.Given as goal

abbrev pub invariant-loop-q : goal.invariant-loop-q
invariant-loop-q l = QueriesPassed l.counts l.project_entries l.queries l.marks l.end l.q
