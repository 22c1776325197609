-- What the report's checks refuse, then 23, and then the lines.
use Rattle.std.proofs.Common.{rules, ◌≡◌, Err, refl, arith}
use Rattle.report.specs.Expressions.{tables_in}
use Rattle.printing.proofs.PageLaws.{lines_few}
use Rattle.judging.proofs.JudgingLaws.{own_columns, shifted_few}
use Rattle.wall_page.proofs.PageLaws.{refused_answers, late_answers, page_read, page_left}
use Rattle.wall_page.proofs.write_page.Goals as goal

pub returns-in_err-judged : goal.returns-in_err-judged
returns-in_err-judged c =
    let a = c.args in
    let T = tables_in a.tables.now in
    let told : c.from_residual.result ≡ Err c.in_err-judged.field-0.0 = search rules in
    rw told (refused_answers T a.reading c.check_into_columns-judged.ensures.answers a.page.now c.in_err-judged.was)

pub overflow_shl-count : goal.overflow_shl-count
overflow_shl-count c =
    let rows = own_columns c.check_into_columns-judged.ensures c.in_ok-judged.was in
    let f = rows.formed.few in omega arith

pub permitted_count-lines-requires : goal.permitted_count-lines-requires
permitted_count-lines-requires c =
    let rows = own_columns c.check_into_columns-judged.ensures c.in_ok-judged.was in
    shifted_few rows.formed refl

pub overflow_mul-lines : goal.overflow_mul-lines
overflow_mul-lines c =
    let rows = own_columns c.check_into_columns-judged.ensures c.in_ok-judged.was in
    let l = lines_few _ c.permitted_count-lines.ensures (shifted_few rows.formed refl) in omega arith

pub returns-in_err-refuse_if : goal.returns-in_err-refuse_if
returns-in_err-refuse_if c =
    let a = c.args in
    let T = tables_in a.tables.now in
    let rows = own_columns c.check_into_columns-judged.ensures c.in_ok-judged.was in
    let told : c.from_residual-in_err-refuse_if.result ≡ Err c.in_err-refuse_if.field-0.0 = search rules in
    late_answers T a.reading c.check_into_columns-judged.ensures.answers a.page.now c.in_ok-judged.was rows c.permitted_count-lines.ensures
    c.in_err-refuse_if.ensures told refl

pub put_page-requires : goal.put_page-requires
put_page-requires c =
    let a = c.args in
    let T = tables_in a.tables.now in
    let rows = own_columns c.check_into_columns-judged.ensures c.in_ok-judged.was in
    page_read T a.reading c.check_into_columns-judged.ensures.answers a.page.now c.in_ok-judged.was rows
    c.permitted_count-lines.ensures c.in_ok-refuse_if.ensures refl

pub returns : goal.returns
returns c =
    let a = c.args in
    let T = tables_in a.tables.now in
    let checked = c.check_into_columns-judged.ensures.answers in
    let rows = own_columns c.check_into_columns-judged.ensures c.in_ok-judged.was in
    let lines = c.permitted_count-lines.ensures in
    let late = c.in_ok-refuse_if.ensures in
    late_answers T a.reading checked a.page.now c.in_ok-judged.was rows lines late refl
    (page_left T a.reading checked a.page.now c.in_ok-judged.was rows lines late refl c.put_page.ensures)
