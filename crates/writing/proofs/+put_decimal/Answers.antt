use Rattle.std.proofs.Common.{arith}
use Rattle.sets.proofs.WritingLaws.{room_first}
use Rattle.writing.proofs.Pieces.{tenth_falls, small_written, small_room, tenth_room, last_written, last_place}
use Rattle.writing.proofs.+put_decimal.Goals as goal

pub bounds-out-at : goal.bounds-out-at
bounds-out-at t c = let a = c.args in small_room a.out.now a.at a.n c.if-n-lt10.true c.requires

pub returns-then-n-lt10 : goal.returns-then-n-lt10
returns-then-n-lt10 t c = small_written _ _ _ c.if-n-lt10.true

pub put_decimal-p-requires : goal.put_decimal-p-requires
put_decimal-p-requires t c =
    let h = c.if-n-lt10.false in
    let a = c.args in
    (omega (arith, tenth_falls a.n h), room_first _ (tenth_room a.out.now a.at a.n h c.requires))

pub bounds-out-p : goal.bounds-out-p
bounds-out-p t c =
    let a = c.args in
    last_place a.out.now a.at a.n c.if-n-lt10.false c.requires c.put_decimal-p.ensures

pub overflow_add-result-2 : goal.overflow_add-result-2
overflow_add-result-2 t c =
    let a = c.args in
    omega (arith, last_place a.out.now a.at a.n c.if-n-lt10.false c.requires c.put_decimal-p.ensures)

pub returns : goal.returns
returns t c =
    let a = c.args in
    last_written a.out.now a.at a.n c.if-n-lt10.false c.put_decimal-p.ensures
