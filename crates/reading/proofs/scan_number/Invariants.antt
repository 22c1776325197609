-- The digits before p have this value, and the number goes on from there.
use Rattle.std.proofs.Common.{◌≡◌, ◌≤◌, drop}
use Rattle.reading.specs.Scanning.{more_digits, number_at}
use Rattle.reading.proofs.scan_number.Given as goal

abbrev pub invariant-loop-p : goal.invariant-loop-p
invariant-loop-p l = record {
  fits : l.value ≤ 65535;
  same : number_at l.s l.at ≡ more_digits l.value l.p (drop l.p l.s);
}
