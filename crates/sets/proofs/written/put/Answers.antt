use native.Mathlib.Omega.{arith}
use Rattle.sets.proofs.WritingLaws.{part_written}
use Rattle.sets.proofs.written.put.Goals as goal

pub returns : goal.returns
returns g c = part_written _ c.requires c.copy_from_slice.ensures.after (omega arith)
