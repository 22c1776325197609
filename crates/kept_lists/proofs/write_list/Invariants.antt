use Rattle.kept_lists.proofs.BlockLaws.{EntriesWriting}
use Rattle.kept_lists.proofs.write_list.Given as goal

abbrev pub invariant-loop-i : goal.invariant-loop-i
invariant-loop-i l = EntriesWriting l.expression_rows l.entries l.c l.start l.count l.stays.bits l.initial.out l.at l.out l.kept.bits l.i l.p
