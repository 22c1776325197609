use native.Mathlib.Omega.{arith}
use Rattle.at_configuration.proofs.ListLaws.{entry_rowed, entry_holds_lem}
use Rattle.at_configuration.proofs.entry_holds.Goals as goal

pub holds_at-requires : goal.holds_at-requires
holds_at-requires c = entry_rowed c.requires.reads (omega arith) c.entry_expression.ensures.same

pub returns : goal.returns
returns c = λ T offset R. entry_holds_lem R (omega arith) c.entry_expression.ensures.same c.holds_at.ensures
