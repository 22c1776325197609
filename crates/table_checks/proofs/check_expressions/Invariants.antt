use Prim.Native.Nat.{◌-◌, ◌/◌}
use lib.ListN.{length}
use Rattle.report.specs.Tables.{expression}
use Rattle.report.specs.FormChecks.{expression_fits}
use Rattle.table_checks.proofs.FormLoops.{FormsPassed}
use Rattle.table_checks.proofs.check_expressions.Given as goal

abbrev pub invariant-loop-f : goal.invariant-loop-f
invariant-loop-f l = FormsPassed (λ j. expression_fits l.n j (expression l.expressions j)) (length l.expressions / 3) l.f
