use Rattle.sets.proofs.WritingLaws.{same_room, same_written, writing_all, writing_more, writing_room}
use Rattle.writing.proofs.LinePieces.{members-concat}
use Rattle.writing.proofs.put_members.Goals as goal

pub put_member-p-requires : goal.put_member-p-requires
put_member-p-requires c =
    let h = c.loop-a-test.true in
    (h, writing_room c.loop-a.invariant (same_room (members-concat c.args.s.bits) c.requires) h)

pub loop-a-preserved : goal.loop-a-preserved
loop-a-preserved c =
    writing_more c.loop-a.invariant c.loop-a-test.true c.put_member-p.ensures

pub returns : goal.returns
returns c = same_written (members-concat c.args.s.bits) (writing_all c.loop-a.invariant c.loop-a-test.false)
