-- Configuration by configuration: the answer and the report's sets are those of the permitted configurations below `from`.
use Prim.Native.Nat.{◌-◌}
use Rattle.typing_each.proofs.EachSteps.{SetsKept}
use Rattle.typing_each.proofs.EachSteps.{EachPassed}
use Rattle.typing_each.proofs.check_with.Given as goal

abbrev pub invariant-loop-c : goal.invariant-loop-c
invariant-loop-c l =
    SetsKept l.initial.named_sets l.initial.clash_sets l.initial.form_sets l.named_sets l.clash_sets l.form_sets
    × EachPassed l.scope l.tables.expression_rows.now l.tables.relation_entries.now l.tables.project_entries.now l.tables.relations.now l.tables.comparisons.now l.tables.queries.now l.tables.kinds.now l.reach l.gathered l.count l.answer l.from

abbrev pub decreases-loop-c : goal.decreases-loop-c
decreases-loop-c l = 1024 - l.from
