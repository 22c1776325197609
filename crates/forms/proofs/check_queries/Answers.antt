use Rattle.std.proofs.Common.{rules, ◌≡◌, Err, sym}
use mathlib.Core.Path.{◌∙◌}
use Rattle.report.proofs.VerdictLaws.{if_accepted}
use Rattle.forms.proofs.Queries.{walked_none, walked_first, walked_more, walked_all}
use Rattle.forms.proofs.check_queries.Goals as goal

pub loop-q-init : goal.loop-q-init
loop-q-init c = walked_none _ _ _ _ c.requires

pub returns-in_err-refuse_if : goal.returns-in_err-refuse_if
returns-in_err-refuse_if c =
    let told : c.from_residual.result ≡ Err c.in_err-refuse_if.field-0.0 = search rules in
    told
    ∙ walked_first _ _ _ _ c.requires c.loop-q.invariant c.loop-q-test.true c.decode_query-x.ensures c.query_fits-fits.ensures
    c.in_err-refuse_if.ensures

pub loop-q-preserved : goal.loop-q-preserved
loop-q-preserved c =
    walked_more _ _ _ _ c.requires c.loop-q.invariant c.loop-q-test.true c.decode_query-x.ensures c.query_fits-fits.ensures
    (if_accepted _ _ (sym c.in_ok-refuse_if.ensures)) c.query_operands.ensures
    c.mark_operands.ensures c.project_length-end.ensures

pub returns : goal.returns
returns c =
    walked_all _ _ _ _ c.requires c.loop-q.invariant c.loop-q-test.false c.check_end.ensures
