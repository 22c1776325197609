-- 0 has no member; the lowest of any other number is its trailing zeros.
use mathlib.Core.Path.{sym}
use mir.Val.{Fits}
use mir.Syntax.{w64}
use Rattle.sets.proofs.BitLaws.{trailing_lowest}
use Rattle.std.proofs.Common.{rules}
use Rattle.sets.proofs.set.AttributeSet.lowest.Goals as goal

pub returns-else-self-eq0 : goal.returns-else-self-eq0
returns-else-self-eq0 c =
    let x = c.args.self.bits in
    let f : Fits w64 x = search rules in
    sym (trailing_lowest 64 x f.fits c.if-self-eq0.false)
