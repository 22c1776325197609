use Rattle.harbour_file.proofs.GroupSteps.{lines_more, lines_stop, lines_all}
use Rattle.harbour_file.proofs.read_lines.Goals as goal

pub returns-in_default : goal.returns-in_default
returns-in_default c =
    lines_stop c.loop-k.invariant c.loop-k-test.true c.read_line.ensures c.in_default.is

pub loop-k-preserved : goal.loop-k-preserved
loop-k-preserved c =
    lines_more c.loop-k.invariant c.loop-k-test.true c.read_line.ensures c.in-Ok.is

pub returns : goal.returns
returns c = lines_all c.loop-k.invariant c.loop-k-test.false
