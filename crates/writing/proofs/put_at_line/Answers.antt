-- The word, the configuration, the second word, the members, the ending.
use Rattle.sets.proofs.WritingLaws.{and_then, room_first, room_next, same_room, same_written}
use Rattle.writing.proofs.LinePieces.{configuration_pieces_lem}
use Rattle.writing.proofs.put_at_line.Goals as goal

pub put-p0-requires : goal.put-p0-requires
put-p0-requires c =
    room_first _ (same_room (configuration_pieces_lem c.args.c c.args.s.bits) c.requires)

pub put_spaced-p1-requires : goal.put_spaced-p1-requires
put_spaced-p1-requires c =
    room_first _ (room_next (same_room (configuration_pieces_lem c.args.c c.args.s.bits) c.requires) c.put-p0.ensures)

pub put-p2-requires : goal.put-p2-requires
put-p2-requires c =
    let r0 = same_room (configuration_pieces_lem c.args.c c.args.s.bits) c.requires in
    let r1 = room_next r0 c.put-p0.ensures in
    let r2 = room_next r1 c.put_spaced-p1.ensures in
    room_first _ r2

pub put_members-p3-requires : goal.put_members-p3-requires
put_members-p3-requires c =
    let r0 = same_room (configuration_pieces_lem c.args.c c.args.s.bits) c.requires in
    let r1 = room_next r0 c.put-p0.ensures in
    let r2 = room_next r1 c.put_spaced-p1.ensures in
    let r3 = room_next r2 c.put-p2.ensures in
    room_first _ r3

pub put-requires : goal.put-requires
put-requires c =
    let r0 = same_room (configuration_pieces_lem c.args.c c.args.s.bits) c.requires in
    let r1 = room_next r0 c.put-p0.ensures in
    let r2 = room_next r1 c.put_spaced-p1.ensures in
    let r3 = room_next r2 c.put-p2.ensures in
    room_next r3 c.put_members-p3.ensures

pub returns : goal.returns
returns c =
    let w4 = c.put.ensures in
    let w3 = and_then c.put_members-p3.ensures w4 in
    let w2 = and_then c.put-p2.ensures w3 in
    let w1 = and_then c.put_spaced-p1.ensures w2 in
    same_written (configuration_pieces_lem c.args.c c.args.s.bits) (and_then c.put-p0.ensures w1)
