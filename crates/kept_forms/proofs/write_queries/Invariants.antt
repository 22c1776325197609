use Rattle.kept_forms.proofs.QueryLaws.{QueryWriting}
use Rattle.kept_forms.proofs.write_queries.Given as goal

abbrev pub invariant-loop-q : goal.invariant-loop-q
invariant-loop-q l =
    QueryWriting l.tables.expression_rows.now l.reach l.form_sets l.tables.relations.now l.tables.queries.now l.c l.comparison_numbers l.query_numbers
    l.initial.out l.out l.q l.p
