-- By the length of the text.
use Rattle.harbour_file.proofs.FileHeld.{filed_long, filed_short}
use Rattle.harbour_file.proofs.read_file.Goals as goal

pub returns-then-s-gt-LONGEST_FILE : goal.returns-then-s-gt-LONGEST_FILE
returns-then-s-gt-LONGEST_FILE c = filed_long c.args.s.now _ c.if-s-gt-LONGEST_FILE.true

pub returns : goal.returns
returns c =
    filed_short c.args.s.now _ c.if-s-gt-LONGEST_FILE.false c.read_groups.ensures
