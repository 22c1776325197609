use Rattle.forms.proofs.Lists.{Summed}
use Rattle.forms.proofs.relations_end.Given as goal

abbrev pub invariant-loop-r : goal.invariant-loop-r
invariant-loop-r l = Summed l.relations l.end l.r
