use Prim.Native.Nat.{◌/◌}
use lib.ListN.{length}
use Rattle.report.specs.Operands.{sides_in}
use Rattle.report.specs.FormChecks.{is_kind, constant_kind}
use Rattle.table_checks.proofs.FormLoops.{FormsPassed}
use Rattle.comparisons.proofs.check_constants.Given as goal

abbrev pub invariant-loop-f : goal.invariant-loop-f
invariant-loop-f l = FormsPassed (λ j. is_kind (constant_kind (sides_in l.comparisons j))) (length l.comparisons / 5) l.f
