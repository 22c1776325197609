use Rattle.table_checks.proofs.FormLoops.{FormsPassed}
use Rattle.forms.specs.MarkedForms.{marked}
use Rattle.forms.proofs.check_untaken.Given as goal

abbrev pub invariant-loop-q : goal.invariant-loop-q
invariant-loop-q l = FormsPassed (marked l.marks) l.last l.q
