use Rattle.kept_forms.proofs.NumberLaws.{QueryNumbering}
use Rattle.kept_forms.proofs.number_queries.Given as goal

abbrev pub invariant-loop-q : goal.invariant-loop-q
invariant-loop-q l = QueryNumbering l.expression_rows l.reach l.queries l.c l.initial.numbers l.numbers l.kept l.q
