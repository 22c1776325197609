-- The configuration, a space, the marks, a space, their number, a line feed.
use mathlib.Core.Path.{refl}
use Rattle.sets.proofs.WritingLaws.{and_then, room_first, room_next, same_room, same_written}
use Rattle.printing.proofs.PageLineLaws.{line_pieces, configuration_digits, number_digits}
use Rattle.printing.proofs.page.put_page_line.Goals as goal

pub put_aligned-p0-requires : goal.put_aligned-p0-requires
put_aligned-p0-requires c =
    record {
      digits = configuration_digits c.args.c c.requires.small;
      room = room_first _ (same_room (line_pieces c.args.c c.args.s.bits refl) c.requires.room);
    }

pub put-p1-requires : goal.put-p1-requires
put-p1-requires c =
    let r0 = same_room (line_pieces c.args.c c.args.s.bits refl) c.requires.room in
    let r1 = room_next r0 c.put_aligned-p0.ensures in
    room_first _ r1

pub put_marks-p2-requires : goal.put_marks-p2-requires
put_marks-p2-requires c =
    let r0 = same_room (line_pieces c.args.c c.args.s.bits refl) c.requires.room in
    let r1 = room_next r0 c.put_aligned-p0.ensures in
    let r2 = room_next r1 c.put-p1.ensures in
    room_first _ r2

pub put-p3-requires : goal.put-p3-requires
put-p3-requires c =
    let r0 = same_room (line_pieces c.args.c c.args.s.bits refl) c.requires.room in
    let r1 = room_next r0 c.put_aligned-p0.ensures in
    let r2 = room_next r1 c.put-p1.ensures in
    let r3 = room_next r2 c.put_marks-p2.ensures in
    room_first _ r3

pub put_aligned-p4-requires : goal.put_aligned-p4-requires
put_aligned-p4-requires c =
    let r0 = same_room (line_pieces c.args.c c.args.s.bits c.count.ensures) c.requires.room in
    let r1 = room_next r0 c.put_aligned-p0.ensures in
    let r2 = room_next r1 c.put-p1.ensures in
    let r3 = room_next r2 c.put_marks-p2.ensures in
    let r4 = room_next r3 c.put-p3.ensures in
    record { digits = number_digits c.args.s.bits c.count.ensures; room = room_first _ r4 }

pub put-requires : goal.put-requires
put-requires c =
    let r0 = same_room (line_pieces c.args.c c.args.s.bits c.count.ensures) c.requires.room in
    let r1 = room_next r0 c.put_aligned-p0.ensures in
    let r2 = room_next r1 c.put-p1.ensures in
    let r3 = room_next r2 c.put_marks-p2.ensures in
    let r4 = room_next r3 c.put-p3.ensures in
    room_next r4 c.put_aligned-p4.ensures

pub returns : goal.returns
returns c =
    let w5 = c.put.ensures in
    let w4 = and_then c.put_aligned-p4.ensures w5 in
    let w3 = and_then c.put-p3.ensures w4 in
    let w2 = and_then c.put_marks-p2.ensures w3 in
    let w1 = and_then c.put-p1.ensures w2 in
    same_written (line_pieces c.args.c c.args.s.bits c.count.ensures) (and_then c.put_aligned-p0.ensures w1)
