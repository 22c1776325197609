use Rattle.kept_forms.proofs.NumberLaws.{reach_rowed, query_to, query_counts}
use Rattle.kept_forms.proofs.NumberLaws.{numbering_read, numbering_more}
use Rattle.kept_forms.proofs.number_queries.Goals as goal

pub form_number-requires : goal.form_number-requires
form_number-requires c =
    let h = c.loop-q-test.true in
    let A = c.requires in
    numbering_read c.loop-q.invariant A.room h (λ T R. query_to R h c.decode_query.ensures c.query_operands-to.ensures) A.reads

pub holds_at-requires : goal.holds_at-requires
holds_at-requires c =
    reach_rowed c.requires.reads c.loop-q-test.true

pub loop-q-preserved : goal.loop-q-preserved
loop-q-preserved c =
    let h = c.loop-q-test.true in
    numbering_more c.loop-q.invariant c.requires.room h (λ T R. query_to R h c.decode_query.ensures c.query_operands-to.ensures)
    c.form_number.ensures
    (λ T R. query_counts R h c.decode_query.ensures c.query_operands-to.ensures c.holds_at.ensures c.kept_if-kept.ensures)
