use Rattle.kept_forms.proofs.WordLaws.{ComparisonWriting}
use Rattle.kept_forms.proofs.write_comparisons.Given as goal

abbrev pub invariant-loop-f : goal.invariant-loop-f
invariant-loop-f l = ComparisonWriting l.comparisons l.numbers l.initial.out l.out l.f l.p
