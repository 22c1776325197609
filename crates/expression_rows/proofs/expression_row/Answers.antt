use mathlib.Core.Path.{ap, ◌∙◌}
use Rattle.sets.specs.Rows.{row_intersect}
use Rattle.expression_rows.proofs.expression_row.Goals as goal

pub returns-in-Feature : goal.returns-in-Feature
returns-in-Feature c =
    rw c.in-Feature.is
    (c.intersect.ensures ∙ ap (row_intersect 16 c.args.full.words) c.feature.ensures)
