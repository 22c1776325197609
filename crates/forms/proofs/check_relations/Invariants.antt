use Rattle.forms.proofs.Lists.{RelationsPassed}
use Rattle.forms.proofs.check_relations.Given as goal

abbrev pub invariant-loop-r : goal.invariant-loop-r
invariant-loop-r l = RelationsPassed l.e l.entries l.relations l.start l.r
