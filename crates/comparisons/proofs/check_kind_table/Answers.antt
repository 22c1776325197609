use Rattle.std.proofs.Common.{rules, ◌≡◌, Err, sym}
use mathlib.Core.Path.{◌∙◌}
use Rattle.report.proofs.VerdictLaws.{then_next}
use Rattle.table_checks.proofs.FormLoops.{passed_first, passed_all}
use Rattle.comparisons.proofs.check_kind_table.Goals as goal

pub returns-in_err-refuse_if-2 : goal.returns-in_err-refuse_if-2
returns-in_err-refuse_if-2 c =
    let told : c.from_residual-in_err-refuse_if-2.result ≡ Err c.in_err-refuse_if-2.field-0.0 = search rules in
    told
    ∙ passed_first _ _ c.loop-a.invariant c.loop-a-test.true (rw c.kind_of-k.ensures at c.is_kind.ensures) _ c.in_err-refuse_if-2.ensures
    ∙ sym (then_next (sym c.in_ok-refuse_if.ensures))

pub returns : goal.returns
returns c = passed_all _ _ c.loop-a.invariant c.loop-a-test.false _ ∙ sym (then_next (sym c.in_ok-refuse_if.ensures))
