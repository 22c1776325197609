use Rattle.feature_rows.proofs.ExactlyOneRow.{Passed}
use Rattle.feature_rows.proofs.exactly_one.Given as goal

abbrev pub invariant-loop-k : goal.invariant-loop-k
invariant-loop-k l = Passed 16 l.first l.k l.some.words l.more.words
