use Rattle.attribute_rows.proofs.ListedLaws.{EntriesJoining}
use Rattle.attribute_rows.proofs.list_row.Given as goal

abbrev pub invariant-loop-i : goal.invariant-loop-i
invariant-loop-i l = EntriesJoining l.expression_rows l.entries l.a l.start l.count l.r.words l.i
