use lib.ListN.{length}
use Rattle.report.specs.Tables.{kind_in}
use Rattle.report.specs.FormChecks.{is_kind}
use Rattle.table_checks.proofs.FormLoops.{FormsPassed}
use Rattle.comparisons.proofs.check_kind_table.Given as goal

abbrev pub invariant-loop-a : goal.invariant-loop-a
invariant-loop-a l = FormsPassed (λ j. is_kind (kind_in l.kinds j)) (length l.kinds) l.a
