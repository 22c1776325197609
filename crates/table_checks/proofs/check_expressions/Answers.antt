use Rattle.std.proofs.Common.{rules, ◌≡◌, Err, sym}
use mathlib.Core.Path.{◌∙◌}
use Rattle.report.proofs.VerdictLaws.{if_accepted}
use Rattle.report.specs.FormChecks.{expression_fits, expressions_check}
use Rattle.table_checks.proofs.FormLoops.{passed_more, passed_first, passed_all}
use Rattle.table_checks.proofs.check_expressions.Goals as goal

pub returns-in_err-refuse_if : goal.returns-in_err-refuse_if
unfolding expressions_check
returns-in_err-refuse_if c =
    let told : c.from_residual.result ≡ Err c.in_err-refuse_if.field-0.0 = search rules in
    told ∙ passed_first _ _ c.loop-f.invariant c.loop-f-test.true (rw c.decode_expression-x.ensures at c.expression_fits.ensures) _ c.in_err-refuse_if.ensures

pub loop-f-preserved : goal.loop-f-preserved
loop-f-preserved c =
    passed_more _ _ c.loop-f.invariant c.loop-f-test.true (rw c.decode_expression-x.ensures at c.expression_fits.ensures) (if_accepted _ _ (sym c.in_ok-refuse_if.ensures))

pub returns : goal.returns
unfolding expressions_check
returns c = passed_all _ _ c.loop-f.invariant c.loop-f-test.false _
