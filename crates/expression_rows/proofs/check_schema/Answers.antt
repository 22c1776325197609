use Rattle.expression_rows.proofs.CheckLaws.{related_read, related_all}
use Rattle.expression_rows.proofs.check_schema.Goals as goal

pub check_relation-requires : goal.check_relation-requires
check_relation-requires c = related_read _ _ _ _ c.loop-r.invariant c.loop-r-test.true c.requires

pub returns : goal.returns
returns c = related_all _ _ _ _ c.loop-r.invariant c.loop-r-test.false
