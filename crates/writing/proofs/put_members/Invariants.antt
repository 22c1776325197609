-- After a turns the members below a stand one after another.
use Rattle.sets.proofs.WritingLaws.{Writing}
use Rattle.writing.specs.Lines.{member_text}
use Rattle.writing.proofs.put_members.Given as goal

abbrev pub invariant-loop-a : goal.invariant-loop-a
invariant-loop-a l = Writing (member_text l.s.bits) 64 l.initial.out l.at l.out l.a l.p
