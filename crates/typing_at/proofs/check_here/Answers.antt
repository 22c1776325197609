use Rattle.typing_at.proofs.HereLaws.{here_fillable}
use Rattle.typing_at.proofs.check_here.Goals as goal

pub fill_here-requires : goal.fill_here-requires
fill_here-requires c = here_fillable c.requires

pub returns : goal.returns
returns c = λ T R H. (c.fill_here.ensures T R H).checked
