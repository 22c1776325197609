use mathlib.Core.Path.{◌≡◌, refl, sym, ap, ◌∙◌}
use Prim.Native.Nat.{ℕ}
use native.Mathlib.Omega.{arith}
use lib.Bits.{bit_or}
use lib.Dec.{eqb}
use lib.ListN.{get_or}
use mir.Val.{Fits}
use mir.Syntax.{w64}
use Rattle.sets.proofs.RowLaws.{IsRow, joined, joined_more, empty_joined}
use Rattle.std.proofs.Common.{rules}
use Rattle.sets.proofs.row.Row.is_empty.Goals as goal

pub loop-word-init : goal.loop-word-init
unfolding joined
loop-word-init c = refl

pub loop-word-preserved : goal.loop-word-preserved
loop-word-preserved c =
    let l = c.args.self.words in
    let w = c.loop-word.word-index in
    ap (λ (x : ℕ). bit_or x (get_or l w 0)) c.loop-word.invariant ∙ sym (joined_more w l)

pub returns : goal.returns
returns c =
    let l = c.args.self.words in
    let e : c.loop-word.word-index ≡ 16 = omega arith in
    let r : IsRow 16 l = record { size = search rules; fits = λ i h. let f : Fits w64 (get_or l i 0) = search rules in f.fits } in
    ap (λ (x : ℕ). eqb x 0) (c.loop-word.invariant ∙ ap (λ (k : ℕ). joined k l) e) ∙ sym (empty_joined 16 l r)
