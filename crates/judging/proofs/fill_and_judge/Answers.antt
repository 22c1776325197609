use Prim.Native.Nat.{◌/◌}
use mathlib.Core.Path.{refl}
use lib.ListN.{length}
use Rattle.report.specs.Expressions.{holds}
use Rattle.expression_rows.proofs.FillLaws.{fillable, filled}
use Rattle.judging.proofs.JudgingLaws.{any_forms, split_reads, tables_read}
use Rattle.judging.proofs.fill_and_judge.Goals as goal

pub fill_expression_rows-requires : goal.fill_expression_rows-requires
fill_expression_rows-requires c =
    fillable c.requires.formed c.args.expression_rows.now c.requires.room

pub split_tables-split-requires : goal.split_tables-split-requires
split_tables-split-requires c = record { tables = _; reads = split_reads c.requires.formed }

pub judge_into_columns-requires : goal.judge_into_columns-requires
judge_into_columns-requires c =
    let a = c.args in
    let words = a.tables.now in
    let truth = filled words.head.features (holds words.expressions.now) (length words.expressions.now / 3) a.expression_rows.now c.requires.room
    c.fill_expression_rows.ensures in
    any_forms (tables_read c.requires.formed (c.split_tables-split.ensures _ (split_reads c.requires.formed)) truth refl refl refl) c.requires.unshown

pub returns : goal.returns
returns c =
    let a = c.args in
    let words = a.tables.now in
    let truth = filled words.head.features (holds words.expressions.now) (length words.expressions.now / 3) a.expression_rows.now c.requires.room
    c.fill_expression_rows.ensures in
    record {
      fills = c.fill_expression_rows.ensures;
      judged = c.judge_into_columns.ensures _ (tables_read c.requires.formed (c.split_tables-split.ensures _ (split_reads c.requires.formed)) truth refl refl refl);
    }
