use Rattle.kept_lists.specs.Blocks.{relation_form_at}
use Rattle.kept_lists.proofs.RelationLaws.{Relating}
use Rattle.kept_lists.proofs.write_relation_forms.Given as goal

abbrev pub invariant-loop-r : goal.invariant-loop-r
invariant-loop-r l =
    Relating relation_form_at l.tables.expression_rows.now l.tables.relation_entries.now l.tables.relations.now l.c
    l.initial.out l.out l.r l.start l.p
