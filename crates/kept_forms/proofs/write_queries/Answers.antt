use Rattle.sets.proofs.WritingLaws.{kept_written, dropped_written}
use Rattle.kept_forms.proofs.NumberLaws.{reach_rowed}
use Rattle.kept_forms.proofs.QueryLaws.{query_forms_read, query_forms_more, query_forms_all}
use Rattle.kept_forms.proofs.write_queries.Goals as goal
use Rattle.kept_forms.proofs.write_queries.Goals.{then-holds_at, else-holds_at}

pub holds_at-requires : goal.holds_at-requires
holds_at-requires c =
    reach_rowed c.requires.reads.reads c.loop-q-test.true

pub write_query-p-requires : goal.write_query-p-requires
write_query-p-requires c =
    query_forms_read c.loop-q.invariant c.loop-q-test.true c.decode_query-x.ensures c.holds_at.ensures
    c.requires c.if-holds_at.true

pub loop-q-preserved : goal.loop-q-preserved
loop-q-preserved c =
    let S = c.loop-q.invariant in
    let l = c.loop-q-test.true in
    let e = c.decode_query-x.ensures in
    let b = c.holds_at.ensures in
    elim c.if-holds_at.branch [
      | then-holds_at w ↦
          rw (w.p-is, w.out-is)
          (query_forms_more S l e b (λ T R. kept_written _ w.if-holds_at.true (w.write_query-p.ensures T R)))
      | else-holds_at w ↦ rw (w.p-is, w.out-is) (query_forms_more S l e b (λ T R. dropped_written _ _ _ w.if-holds_at.false))
    ]

pub returns : goal.returns
returns c = query_forms_all c.loop-q.invariant c.loop-q-test.false
