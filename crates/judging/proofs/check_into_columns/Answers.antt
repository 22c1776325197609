use mathlib.Core.Path.{sym, ◌∙◌}
use Rattle.report.proofs.Formed.{formed}
use Rattle.judging.proofs.JudgingLaws.{any_tables}
use Rattle.judging.proofs.check_into_columns.Goals as goal

pub judge_tables_into_columns-requires : goal.judge_tables_into_columns-requires
judge_tables_into_columns-requires c =
    any_tables (formed _ (sym c.check_forms-form.ensures ∙ c.in_default.is)) c.requires
