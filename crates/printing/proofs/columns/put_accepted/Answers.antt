use native.Mathlib.Omega.{arith}
use Rattle.sets.proofs.WritingLaws.{and_then, room_first, room_next, same_room, same_written, writing_all, writing_more, writing_room}
use Rattle.printing.proofs.ColumnLaws.{accepted_pieces}
use Rattle.printing.proofs.columns.put_accepted.Goals as goal

pub put-p-requires : goal.put-p-requires
put-p-requires c =
    room_first _ (same_room (accepted_pieces c.args.permitted.words c.args.count c.args.rows.now) c.requires.room)

pub put_configuration-p-requires : goal.put_configuration-p-requires
put_configuration-p-requires c =
    let h = c.loop-c-test.true in
    record {
      reads = record { long = c.requires.long; small = omega (arith, h, c.requires.few) };
      room =
          writing_room c.loop-c.invariant
          (room_next (same_room (accepted_pieces c.args.permitted.words c.args.count c.args.rows.now) c.requires.room)
          c.put-p.ensures) h;
    }

pub loop-c-preserved : goal.loop-c-preserved
loop-c-preserved c =
    writing_more c.loop-c.invariant c.loop-c-test.true c.put_configuration-p.ensures

pub returns : goal.returns
returns c =
    same_written (accepted_pieces c.args.permitted.words c.args.count c.args.rows.now)
    (and_then c.put-p.ensures (writing_all c.loop-c.invariant c.loop-c-test.false))
