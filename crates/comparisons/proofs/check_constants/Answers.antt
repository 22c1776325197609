use Rattle.std.proofs.Common.{rules, ◌≡◌, Err, sym}
use mathlib.Core.Path.{◌∙◌}
use Rattle.report.proofs.VerdictLaws.{if_accepted}
use Rattle.table_checks.proofs.FormLoops.{passed_more, passed_first, passed_all}
use Rattle.comparisons.proofs.check_constants.Goals as goal

pub returns-in_err-refuse_if : goal.returns-in_err-refuse_if
returns-in_err-refuse_if c =
    let told : c.from_residual.result ≡ Err c.in_err-refuse_if.field-0.0 = search rules in
    told
    ∙ passed_first _ _ c.loop-f.invariant c.loop-f-test.true
    (rw (c.constant_kind-k.ensures, c.comparison_sides.ensures, c.decode_comparison.ensures) at c.is_kind.ensures) _ c.in_err-refuse_if.ensures

pub loop-f-preserved : goal.loop-f-preserved
loop-f-preserved c =
    passed_more _ _ c.loop-f.invariant c.loop-f-test.true
    (rw (c.constant_kind-k.ensures, c.comparison_sides.ensures, c.decode_comparison.ensures) at c.is_kind.ensures)
    (if_accepted _ _ (sym c.in_ok-refuse_if.ensures))

pub returns : goal.returns
returns c = passed_all _ _ c.loop-f.invariant c.loop-f-test.false _
