use Prim.Native.Nat.{◌/◌}
use mathlib.Core.Path.{refl, sym}
use lib.ListN.{length}
use Rattle.report.specs.Expressions.{holds}
use Rattle.report.proofs.Formed.{formed}
use Rattle.expression_rows.proofs.FillLaws.{fillable, filled}
use Rattle.judging.proofs.JudgingLaws.{rows_room, rows_read, split_reads, tables_read, judging_answers}
use Rattle.judging.proofs.check_into_rows.Goals as goal

pub fill_expression_rows-requires : goal.fill_expression_rows-requires
fill_expression_rows-requires c =
    let F = formed _ (sym c.in_ok-check_forms.ensures) in
    fillable F c.args.expression_rows.now (rows_room F c.requires)

pub split_tables-split-requires : goal.split_tables-split-requires
split_tables-split-requires c = record { tables = _; reads = split_reads (formed _ (sym c.in_ok-check_forms.ensures)) }

pub judge_into_rows-requires : goal.judge_into_rows-requires
judge_into_rows-requires c =
    let words = c.args.tables.now in
    let F = formed _ (sym c.in_ok-check_forms.ensures) in
    let truth = filled words.head.features (holds words.expressions.now) (length words.expressions.now / 3) c.args.expression_rows.now
    (rows_room F c.requires) c.fill_expression_rows.ensures in
    rows_read F c.requires (tables_read F (c.split_tables-split.ensures _ (split_reads F)) truth refl refl refl)

pub returns : goal.returns
returns c =
    let words = c.args.tables.now in
    let F = formed _ (sym c.in_ok-check_forms.ensures) in
    let truth = filled words.head.features (holds words.expressions.now) (length words.expressions.now / 3) c.args.expression_rows.now
    (rows_room F c.requires) c.fill_expression_rows.ensures in
    judging_answers _ c.in_ok-check_forms.ensures refl c.fill_expression_rows.ensures
    (c.judge_into_rows.ensures _ (tables_read F (c.split_tables-split.ensures _ (split_reads F)) truth refl refl refl))
