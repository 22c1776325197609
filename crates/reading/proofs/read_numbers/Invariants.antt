-- What is stored of the numbers that are left is, after those that stand there already, what is stored of all.
use Rattle.std.proofs.Common.{ℕ, List, ◌≡◌, ◌+◌, ◌-◌, length}
use Rattle.std.specs.Prelude.{Result}
use Rattle.reading.specs.declared.Broken.{Broken}
use Rattle.reading.specs.Scanning.{numbers_at, Stored}
use Rattle.reading.proofs.read_numbers.Given as goal

abbrev pub invariant-loop-i : goal.invariant-loop-i
invariant-loop-i l = record {
  long : length l.out ≡ length l.initial.out;
  stored : (answer : Result ℕ Broken) (after : List ℕ) → Stored (numbers_at l.s (l.count - l.i) l.p) answer l.out (l.to + l.i) after
      → Stored (numbers_at l.s l.count l.at) answer l.initial.out l.to after;
}
