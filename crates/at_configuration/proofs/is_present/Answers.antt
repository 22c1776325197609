use Rattle.at_configuration.proofs.HoldLaws.{relation_read, present_rowed, present_is}
use Rattle.at_configuration.proofs.is_present.Goals as goal

pub holds_at-requires : goal.holds_at-requires
holds_at-requires c =
    let p = c.requires in
    present_rowed p.reads (relation_read p) c.relation_expression.ensures.same

pub returns : goal.returns
returns c = λ T R. present_is R (relation_read c.requires) c.relation_expression.ensures.same c.holds_at.ensures
