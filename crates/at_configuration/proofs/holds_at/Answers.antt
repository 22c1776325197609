use Rattle.at_configuration.proofs.HoldLaws.{row_word}
use Rattle.at_configuration.proofs.holds_at.Goals as goal

pub returns : goal.returns
returns c =
    row_word c.args.rows.now c.args.x c.args.c c.requires.1
