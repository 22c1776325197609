use borrow.Author.Tests.{eq-eqb}
use Rattle.fault_rows.proofs.is_present_in.Goals as goal

pub returns-then-question-r : goal.returns-then-question-r
returns-then-question-r c =
    rw (eq-eqb c.args.question.now.item c.args.r c.if-question-r.true, ← c.relation_expression.ensures.same) c.meets.ensures
