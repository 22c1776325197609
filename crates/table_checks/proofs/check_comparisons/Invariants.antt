use Prim.Native.Nat.{◌-◌, ◌/◌}
use lib.ListN.{length}
use Rattle.report.specs.Tables.{comparison}
use Rattle.report.specs.FormChecks.{comparison_fits}
use Rattle.table_checks.proofs.FormLoops.{FormsPassed}
use Rattle.table_checks.proofs.check_comparisons.Given as goal

abbrev pub invariant-loop-f : goal.invariant-loop-f
invariant-loop-f l = FormsPassed (λ j. comparison_fits l.m l.e j (comparison l.comparisons j)) (length l.comparisons / 5) l.f
