use Rattle.std.proofs.Common.{rules, ◌≡◌, Err}
use mathlib.Core.Path.{◌∙◌}
use Rattle.report.specs.FormChecks.{relations_check}
use Rattle.table_checks.proofs.FormLoops.{passed_first, passed_all}
use Rattle.forms.proofs.Lists.{relation_is}
use Rattle.forms.proofs.check_relations.Goals as goal

pub returns-in_err-refuse_if : goal.returns-in_err-refuse_if
unfolding relations_check
returns-in_err-refuse_if c =
    let told : c.from_residual.result ≡ Err c.in_err-refuse_if.field-0.0 = search rules in
    told
    ∙ passed_first _ _ c.loop-r.invariant.passed c.loop-r-test.true
    (relation_is c.loop-r.invariant c.relation_expression-x.ensures.same c.relation_length-length.ensures.same c.list_fits.ensures)
    _ c.in_err-refuse_if.ensures

pub returns : goal.returns
unfolding relations_check
returns c = passed_all _ _ c.loop-r.invariant.passed c.loop-r-test.false _
