-- The 16 words are computed.
use mathlib.Core.Path.{refl}
use Rattle.sets.specs.Bits.{bits_of}
use Rattle.sets.proofs.row.Row.empty.Goals as goal

pub returns : goal.returns
unfolding bits_of
returns c = refl
