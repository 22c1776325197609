use Rattle.sparing.proofs.SparingLaws.{spared_strict, spared_filled}
use Rattle.sparing.proofs.fill_spared.Goals as goal

pub returns-in-Strict : goal.returns-in-Strict
returns-in-Strict c = λ T R. spared_strict c.requires R c.in-Strict.is

pub returns-in-Filled : goal.returns-in-Filled
returns-in-Filled c =
    λ T R. spared_filled c.requires R c.in-Filled.is (c.fill_found.ensures T R)
