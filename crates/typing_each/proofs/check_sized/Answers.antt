use Rattle.typing_each.proofs.EachSteps.{sparing_readable, size_enough}
use Rattle.typing_each.proofs.check_sized.Goals as goal

pub fill_spared-requires : goal.fill_spared-requires
fill_spared-requires g c = sparing_readable g.row.FORMS c.requires.1

pub check_with-requires : goal.check_with-requires
check_with-requires g c = size_enough g.row.FORMS c.requires.1 c.fill_spared.ensures
