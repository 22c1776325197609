use Rattle.std.proofs.Common.{rules, ◌≡◌, Err, refl}
use mathlib.Core.Path.{◌∙◌}
use Rattle.table_checks.proofs.FormLoops.{passed_first, passed_all}
use Rattle.forms.proofs.check_untaken.Goals as goal

pub returns-in_err-refuse_if : goal.returns-in_err-refuse_if
returns-in_err-refuse_if c =
    let told : c.from_residual.result ≡ Err c.in_err-refuse_if.field-0.0 = search rules in
    told ∙ passed_first _ _ c.loop-q.invariant c.loop-q-test.true refl _ c.in_err-refuse_if.ensures

pub returns : goal.returns
returns c = passed_all _ _ c.loop-q.invariant c.loop-q-test.false _
