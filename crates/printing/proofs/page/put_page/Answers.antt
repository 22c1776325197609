use mathlib.Core.Path.{sym, ◌∙◌}
use native.Mathlib.Omega.{arith}
use Rattle.sets.proofs.WritingLaws.{same_room, same_written, kept_room, kept_written, dropped_written}
use Rattle.sets.proofs.WritingLaws.{writing_all, writing_more, writing_room}
use Rattle.printing.proofs.PageLaws.{text_lines}
use Rattle.printing.proofs.page.put_page.Goals as goal
use Rattle.printing.proofs.page.put_page.Goals.{then-has, else-has}

pub put_page_line-p-requires : goal.put_page_line-p-requires
put_page_line-p-requires c =
    let all = same_room (text_lines c.args.permitted.words c.args.count c.args.rows.now) c.requires.room in
    record {
      small = omega (arith, c.loop-c-test.true, c.requires.few);
      room =
          rw c.shown_at-s.ensures
          (kept_room _ (sym c.has.ensures ∙ c.if-has.true) (writing_room c.loop-c.invariant all c.loop-c-test.true));
    }

pub loop-c-preserved : goal.loop-c-preserved
loop-c-preserved c =
    let writing = c.loop-c.invariant in
    let l = c.loop-c-test.true in
    elim c.if-has.branch [
      | then-has w ↦
          rw (w.p-is, w.out-is)
          (writing_more writing l (kept_written _ (sym c.has.ensures ∙ w.if-has.true) (rw w.shown_at-s.ensures at w.put_page_line-p.ensures)))
      | else-has w ↦ rw (w.p-is, w.out-is) (writing_more writing l (dropped_written _ _ _ (sym c.has.ensures ∙ w.if-has.false)))
    ]

pub returns : goal.returns
returns c =
    same_written (text_lines c.args.permitted.words c.args.count c.args.rows.now)
    (writing_all c.loop-c.invariant c.loop-c-test.false)
