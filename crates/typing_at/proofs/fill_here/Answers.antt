use Rattle.typing_at.proofs.HereLaws.{forms_readable, here_filled}
use Rattle.typing_at.proofs.fill_here.Goals as goal

pub forms_here-verdict-requires : goal.forms_here-verdict-requires
forms_here-verdict-requires c =
    forms_readable c.requires.readable.reads _ _ _ c.fill_gathered.ensures c.fill_gathered-2.ensures c.fill_form_sets.ensures

pub returns : goal.returns
returns c =
    λ T R H.
    here_filled H _ _ _ c.fill_gathered.ensures c.fill_gathered-2.ensures c.fill_form_sets.ensures c.forms_here-verdict.ensures
    c.of_bits-set.ensures
