-- The word, the number, the ending.
use Rattle.sets.proofs.WritingLaws.{and_then, room_first, room_next, same_room, same_written}
use Rattle.writing.proofs.LinePieces.{unread_pieces_lem}
use Rattle.writing.proofs.put_unread.Goals as goal

pub put-p0-requires : goal.put-p0-requires
put-p0-requires c =
    room_first _ (same_room (unread_pieces_lem c.args.n) c.requires)

pub put_spaced-p1-requires : goal.put_spaced-p1-requires
put_spaced-p1-requires c =
    room_first _ (room_next (same_room (unread_pieces_lem c.args.n) c.requires) c.put-p0.ensures)

pub put-requires : goal.put-requires
put-requires c =
    let r0 = same_room (unread_pieces_lem c.args.n) c.requires in
    let r1 = room_next r0 c.put-p0.ensures in
    room_next r1 c.put_spaced-p1.ensures

pub returns : goal.returns
returns c =
    let w2 = c.put.ensures in
    let w1 = and_then c.put_spaced-p1.ensures w2 in
    same_written (unread_pieces_lem c.args.n) (and_then c.put-p0.ensures w1)
