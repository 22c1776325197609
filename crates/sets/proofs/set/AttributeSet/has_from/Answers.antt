-- Shifted right by m the word is 0 where it has no bit from m on; at or above 64 there is none.
use mathlib.Core.Path.{sym, ap, ◌∙◌}
use mathlib.Core.Bool.{Bool, ◌&&◌}
use native.Mathlib.Omega.{arith}
use borrow.Author.Tests.{le-ltb, lt-leb}
use mir.Val.{Fits}
use mir.Syntax.{w64}
use lib.Dec.{leb}
use Rattle.sets.specs.Bits.{bit}
use Rattle.sets.proofs.SearchLaws.{none_some}
use Rattle.sets.proofs.BitLaws.{shifted_from}
use Rattle.std.proofs.Common.{rules}
use Rattle.sets.proofs.set.AttributeSet.has_from.Goals as goal

pub returns-then-m-lt-MOST_ATTRIBUTES : goal.returns-then-m-lt-MOST_ATTRIBUTES
returns-then-m-lt-MOST_ATTRIBUTES c =
    let a = c.args in
    let f : Fits w64 a.self.bits = search rules in
    shifted_from 64 a.self.bits a.m f.fits

pub returns-else-m-lt-MOST_ATTRIBUTES : goal.returns-else-m-lt-MOST_ATTRIBUTES
returns-else-m-lt-MOST_ATTRIBUTES c =
    let a = c.args in
    let above = c.if-m-lt-MOST_ATTRIBUTES.false in
    let none = none_some (λ i. leb a.m i && bit a.self.bits i) 64
    (λ i l. ap (λ (t : Bool). t && bit a.self.bits i) (lt-leb a.m i (omega arith))) in
    le-ltb a.m 64 above ∙ sym none
