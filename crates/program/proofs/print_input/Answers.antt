-- What was read are the first bytes of the input, and the print is that of what was read.
use Rattle.std.proofs.Common.{rules}
use Rattle.program.proofs.StreamLaws.{printed_first}
use Rattle.program.proofs.print_input.Goals as goal

pub returns-clause-first : goal.returns-clause-first
returns-clause-first g c =
    printed_first _ _ c.read_input.new.text c.in_ok-length.length _ _ _ (search rules) c.in_ok-length.ensures.first c.print_file.ensures
