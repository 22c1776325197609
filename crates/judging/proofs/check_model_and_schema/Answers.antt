use Rattle.std.proofs.Common.{rules, ◌≡◌, ◌∙◌, Err, refl}
use Rattle.judging.proofs.JudgingLaws.{model_refuses, schema_answers}
use Rattle.judging.proofs.check_model_and_schema.Goals as goal

pub returns-in_err-check_permitted : goal.returns-in_err-check_permitted
returns-in_err-check_permitted c =
    let told : c.from_residual.result ≡ Err c.in_err-check_permitted.field-0.0 = search rules in
    λ T R. told ∙ model_refuses R c.in_err-check_permitted.ensures refl

pub returns : goal.returns
returns c = λ T R. schema_answers R c.in_ok-check_permitted.ensures refl (c.check_schema.ensures T R)
