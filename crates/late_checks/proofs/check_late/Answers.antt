use Rattle.late_checks.proofs.LateLaws.{late_refuses, room_decides}
use Rattle.std.proofs.Common.{ap}
use Rattle.std.specs.Prelude.{not}
use Rattle.late_checks.proofs.check_late.Goals as goal

pub returns-then-not-is_permitted : goal.returns-then-not-is_permitted
returns-then-not-is_permitted c T R =
    let a = c.args in
    late_refuses R a.c a.lent c.is_permitted.ensures (ap not c.if-not-is_permitted.true)

pub returns : goal.returns
returns c T R =
    let a = c.args in
    room_decides R a.c a.lent c.is_permitted.ensures (ap not c.if-not-is_permitted.false)
    (c.check_room.ensures T R.source)
