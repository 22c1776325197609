use Rattle.std.proofs.Common.{rules, ◌≡◌, Err}
use mathlib.Core.Path.{◌∙◌}
use Rattle.report.specs.FormChecks.{entry_fits, entries_check}
use Rattle.table_checks.proofs.FormLoops.{passed_first, passed_all}
use Rattle.table_checks.proofs.check_entries.Goals as goal

pub returns-in_err-refuse_if : goal.returns-in_err-refuse_if
unfolding entries_check
returns-in_err-refuse_if c =
    let told : c.from_residual.result ≡ Err c.in_err-refuse_if.field-0.0 = search rules in
    told ∙ passed_first _ _ c.loop-k.invariant c.loop-k-test.true c.entry_fits.ensures _ c.in_err-refuse_if.ensures

pub returns : goal.returns
unfolding entries_check
returns c = passed_all _ _ c.loop-k.invariant c.loop-k-test.false _
