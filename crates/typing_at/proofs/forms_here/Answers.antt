use Rattle.std.proofs.Common.{rules, ◌≡◌, ◌∙◌, Err, refl}
use Rattle.typing_at.proofs.HereLaws.{forms_refused, forms_more, forms_all}
use Rattle.typing_at.proofs.forms_here.Goals as goal

pub returns-in_err-form_here : goal.returns-in_err-form_here
returns-in_err-form_here c =
    let told : c.from_residual.result ≡ Err c.in_err-form_here.field-0.0 = search rules in
    λ T R H. told ∙ forms_refused c.loop-q.invariant c.loop-q-test.true c.decode_query-x.ensures c.in_err-form_here.ensures refl T R H

pub loop-q-preserved : goal.loop-q-preserved
loop-q-preserved c =
    forms_more c.loop-q.invariant c.loop-q-test.true c.decode_query-x.ensures c.in_ok-form_here.ensures c.project_length-start.ensures refl

pub returns : goal.returns
returns c = forms_all c.loop-q.invariant c.loop-q-test.false
