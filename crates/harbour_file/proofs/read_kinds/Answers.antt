-- The lines that were read; where there is none, the words that were cleared.
use Rattle.harbour_file.proofs.GroupSteps.{lines_start, kinds_some}
use Rattle.harbour_file.proofs.read_kinds.Goals as goal

pub returns-then-k-ne0 : goal.returns-then-k-ne0
returns-then-k-ne0 c =
    let a = c.args in
    kinds_some a.m c.read_lines-k.ensures c.if-k-ne0.true (lines_start a.s.now _ _ _ _ _ _)
