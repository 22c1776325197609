use Rattle.at_configuration.proofs.JoinedLaws.{EntriesJoined}
use Rattle.at_configuration.proofs.joined_at.Given as goal

abbrev pub invariant-loop-i : goal.invariant-loop-i
invariant-loop-i l = EntriesJoined l.expression_rows l.entries l.c l.start l.count l.joined.bits l.i
