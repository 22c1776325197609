use Rattle.expression_rows.proofs.FillLaws.{ExpressionsFilling}
use Rattle.expression_rows.proofs.fill_expression_rows.Given as goal

abbrev pub invariant-loop-f : goal.invariant-loop-f
invariant-loop-f l = ExpressionsFilling l.n l.expressions l.initial.expression_rows l.expression_rows l.f
