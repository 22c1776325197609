-- The groups one after another; then by whether there was a head and whether the text ends.
use Rattle.harbour_file.proofs.GroupSteps.{filed_headless, filed_whole, filed_stopped}
use Rattle.harbour_file.proofs.read_groups.Goals as goal

pub returns-then-h-eq0 : goal.returns-then-h-eq0
returns-then-h-eq0 c =
    filed_headless c.args.s.now _ _ c.read_head-h.ensures c.read_lines-x.ensures c.read_lines-e.ensures c.read_lines-r.ensures
    c.read_lines-c.ensures c.read_lines-q.ensures c.read_kinds-k.ensures c.from.ensures c.if-h-eq0.true

pub returns-then-k-s : goal.returns-then-k-s
returns-then-k-s c =
    filed_stopped c.args.s.now _ _ c.read_head-h.ensures c.read_lines-x.ensures c.read_lines-e.ensures c.read_lines-r.ensures
    c.read_lines-c.ensures c.read_lines-q.ensures c.read_kinds-k.ensures c.from.ensures c.if-h-eq0.false c.if-k-s.true

pub returns : goal.returns
returns c =
    filed_whole c.args.s.now _ _ c.read_head-h.ensures c.read_lines-x.ensures c.read_lines-e.ensures c.read_lines-r.ensures
    c.read_lines-c.ensures c.read_lines-q.ensures c.read_kinds-k.ensures c.from.ensures c.if-h-eq0.false c.if-k-s.false
