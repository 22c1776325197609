-- After k turns k lines have been read.
use Rattle.harbour_file.proofs.GroupSteps.{LinesRead}
use Rattle.harbour_file.proofs.read_lines.Given as goal

abbrev pub invariant-loop-k : goal.invariant-loop-k
invariant-loop-k l = LinesRead l.s l.word l.width l.most l.initial.at l.from.line l.initial.out l.out l.k l.at l.end
