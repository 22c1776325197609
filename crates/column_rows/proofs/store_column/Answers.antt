-- Where no set has the attribute, its row is empty, and it was.
use mathlib.Core.Path.{sym, ap, ◌∙◌}
use borrow.Author.Tests.{not-true}
use Rattle.sets.specs.Rows.{with_row}
use Rattle.sets.proofs.RowLaws.{with_row_again}
use Rattle.column_rows.proofs.ColumnLaws.{column_empty}
use Rattle.std.proofs.Common.{ap}
use Rattle.std.specs.Prelude.{not}
use Rattle.column_rows.proofs.store_column.Goals as goal

pub returns-then-not-has : goal.returns-then-not-has
returns-then-not-has c =
    let x = c.args in
    let p = c.requires in
    λ T G.
    with_row_again 16 x.columns.now x.a p.room
    (p.clear ∙ sym (column_empty G p.shows x.a (sym c.has.ensures ∙ not-true _ (ap not c.if-not-has.true))))

pub returns : goal.returns
returns c =
    let x = c.args in
    λ T G. c.store.ensures ∙ ap (with_row 16 x.columns.now x.a) (c.column_row-row.ensures T G)
