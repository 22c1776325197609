use Prim.Native.Nat.{◌-◌, ◌/◌}
use lib.ListN.{length}
use Rattle.report.specs.FormChecks.{entry_fits}
use Rattle.table_checks.proofs.FormLoops.{FormsPassed}
use Rattle.table_checks.proofs.check_entries.Given as goal

abbrev pub invariant-loop-k : goal.invariant-loop-k
invariant-loop-k l = FormsPassed (entry_fits l.m l.e l.entries) (length l.entries / 2) l.k
