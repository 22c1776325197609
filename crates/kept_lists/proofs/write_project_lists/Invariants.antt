use Rattle.kept_lists.proofs.ProjectLaws.{Projecting}
use Rattle.kept_lists.proofs.write_project_lists.Given as goal

abbrev pub invariant-loop-q : goal.invariant-loop-q
invariant-loop-q l =
    Projecting l.tables.expression_rows.now l.reach l.form_sets l.tables.project_entries.now l.tables.queries.now l.c
    l.initial.out l.at l.out l.q l.start l.p
