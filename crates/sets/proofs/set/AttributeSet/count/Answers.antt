-- The machine's count of ones is the number of members.
use mir.Val.{Fits}
use mir.Syntax.{w64}
use Rattle.sets.proofs.BitLaws.{ones_count}
use Rattle.std.proofs.Common.{rules}
use Rattle.sets.proofs.set.AttributeSet.count.Goals as goal

pub returns : goal.returns
returns c =
    let f : Fits w64 c.args.self.bits = search rules in
    ones_count 64 c.args.self.bits f.fits
