use Rattle.sparing.proofs.FoundLaws.{Adding}
use Rattle.sparing.proofs.add_found.Given as goal

abbrev pub invariant-loop-q : goal.invariant-loop-q
invariant-loop-q l = Adding l.c l.tables.expression_rows.now l.tables.relations.now l.tables.queries.now l.reach l.form_sets l.initial.spared_sets l.spared_sets l.q
