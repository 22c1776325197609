use Rattle.fault_rows.proofs.ClashLaws.{ClashesAdding}
use Rattle.fault_rows.proofs.add_clashes.Given as goal

abbrev pub invariant-loop-q : goal.invariant-loop-q
invariant-loop-q l = ClashesAdding l.queries l.reach l.clash_rows l.initial.fault_rows l.fault_rows l.q
