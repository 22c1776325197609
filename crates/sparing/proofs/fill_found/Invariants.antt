-- Configuration by configuration: the words have what the forms find at the permitted configurations below `from`.
use Prim.Native.Nat.{◌-◌}
use Rattle.sparing.proofs.SparingLaws.{FoundPassed}
use Rattle.sparing.proofs.fill_found.Given as goal

abbrev pub invariant-loop-c : goal.invariant-loop-c
invariant-loop-c l = FoundPassed l.scope l.tables.expression_rows.now l.tables.relation_entries.now l.tables.project_entries.now l.tables.relations.now l.tables.queries.now l.reach l.initial.spared_sets l.form_sets l.spared_sets l.from

abbrev pub decreases-loop-c : goal.decreases-loop-c
decreases-loop-c l = 1024 - l.from
