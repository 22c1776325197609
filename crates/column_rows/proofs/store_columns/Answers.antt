use mathlib.Core.Path.{◌∙◌}
use native.Mathlib.Nat.{le_refl}
use native.Mathlib.Omega.{arith}
use Rattle.expression_rows.proofs.RowsFilling.{filling_rest}
use Rattle.report.proofs.TypingLaws.{column_wide}
use Rattle.column_rows.proofs.ColumnLaws.{columns_more}
use Rattle.column_rows.proofs.store_columns.Goals as goal

pub store_column-requires : goal.store_column-requires
store_column-requires c =
    let p = c.requires in
    let m = p.most in
    let r = p.room in
    let s = c.loop-a.invariant.size in
    let h = c.loop-a-test.true in
    record {
      some = p.some;
      shows = c.shown_anywhere-shown.ensures;
      most = omega arith;
      room = omega arith;
      clear = filling_rest (λ T x. column_wide T) c.loop-a.invariant p.some.tables p.some.gathers c.loop-a.a (le_refl c.loop-a.a) ∙ p.clear c.loop-a.a h;
    }

pub loop-a-preserved : goal.loop-a-preserved
loop-a-preserved c =
    columns_more c.loop-a.invariant c.loop-a-test.true c.store_column.auto.columns c.store_column.ensures
