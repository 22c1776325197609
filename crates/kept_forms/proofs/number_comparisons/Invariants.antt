use Rattle.kept_forms.proofs.NumberLaws.{ComparisonNumbering}
use Rattle.kept_forms.proofs.number_comparisons.Given as goal

abbrev pub invariant-loop-f : goal.invariant-loop-f
invariant-loop-f l = ComparisonNumbering l.expression_rows l.comparisons l.c l.initial.numbers l.numbers l.kept l.f
