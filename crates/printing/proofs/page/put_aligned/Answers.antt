use Prim.Native.Nat.{◌+◌, ◌-◌, ◌≤◌}
use native.Mathlib.Omega.{arith}
use lib.ListN.{length}
use Rattle.std.proofs.Common.{rules}
use Rattle.sets.proofs.WritingLaws.{and_then, room_first, room_next, same_room, same_written}
use Rattle.printing.proofs.PageLineLaws.{aligned-length, aligned_spaces, spaces_written}
use Rattle.printing.proofs.page.put_aligned.Goals as goal

pub overflow_add-digits : goal.overflow_add-digits
overflow_add-digits c = omega (arith, aligned-length c.args.width c.args.n c.requires.digits)

pub slice_bounds-fill-end : goal.slice_bounds-fill-end
slice_bounds-fill-end c =
    let h : c.args.at + c.args.width ≤ length c.args.out.now = omega (arith, aligned-length c.args.width c.args.n c.requires.digits) in
    search rules

pub put_decimal-requires : goal.put_decimal-requires
put_decimal-requires c =
    let pieces = aligned_spaces c.args.width c.args.n c.digit_count.ensures in
    let r = same_room pieces c.requires.room in
    room_next r (spaces_written (c.args.width - c.digit_count.result) _ (room_first _ r) (omega arith) (search rules))

pub returns : goal.returns
returns c =
    let pieces = aligned_spaces c.args.width c.args.n c.digit_count.ensures in
    let r = same_room pieces c.requires.room in
    same_written pieces (and_then (spaces_written (c.args.width - c.digit_count.result) _ (room_first _ r) (omega arith) (search rules)) c.put_decimal.ensures)
