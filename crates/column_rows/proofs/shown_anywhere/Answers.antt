use Rattle.column_rows.proofs.ColumnLaws.{joining_more}
use Rattle.column_rows.proofs.shown_anywhere.Goals as goal

pub loop-set_at-preserved : goal.loop-set_at-preserved
loop-set_at-preserved c = joining_more c.loop-set_at.invariant c.loop-set_at-test.true _ c.union-shown.ensures
