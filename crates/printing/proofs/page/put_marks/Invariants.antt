-- Attribute by attribute: the marks below a stand.
use Rattle.sets.specs.Bits.{bit}
use Rattle.printing.specs.Page.{mark}
use Rattle.printing.proofs.PageLineLaws.{TableWriting}
use Rattle.printing.proofs.page.put_marks.Given as goal

abbrev pub invariant-loop-a : goal.invariant-loop-a
invariant-loop-a l = TableWriting 64 (λ k. mark (bit l.s.bits k)) l.initial.out l.at l.out l.a
