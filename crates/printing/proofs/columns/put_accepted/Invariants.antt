-- The first line, and after c turns the lines of the permitted configurations below c.
use Rattle.sets.proofs.WritingLaws.{Writing}
use Rattle.printing.specs.ColumnLines.{configuration_text}
use Rattle.printing.proofs.columns.put_accepted.Given as goal

abbrev pub invariant-loop-c : goal.invariant-loop-c
invariant-loop-c l = Writing (configuration_text l.permitted.words l.rows) l.count l.initial.out l.initial.p l.out l.c l.p
