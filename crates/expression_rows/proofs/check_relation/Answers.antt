use Rattle.std.proofs.Common.{rules, ◌≡◌, Err}
use mathlib.Core.Path.{◌∙◌}
use Rattle.expression_rows.proofs.CheckLaws.{relation_absent, relation_present}
use Rattle.expression_rows.proofs.check_relation.Goals as goal

pub returns-in_err-refuse_if : goal.returns-in_err-refuse_if
returns-in_err-refuse_if c =
    let told : c.from_residual.result ≡ Err c.in_err-refuse_if.field-0.0 = search rules in
    told ∙ relation_absent _ _ _ _ _ _ c.relation_expression-x.ensures.same c.load-own.ensures
    c.intersect-present.ensures c.is_empty.ensures c.in_err-refuse_if.ensures

pub returns : goal.returns
returns c =
    relation_present _ _ _ _ _ _ c.relation_expression-x.ensures.same c.load-own.ensures
    c.intersect-present.ensures c.is_empty.ensures c.in_ok-refuse_if.ensures c.relation_length-count.ensures.same c.check_list.ensures
