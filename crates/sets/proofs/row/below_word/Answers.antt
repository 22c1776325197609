-- None, all, or some of the 64 configurations of the word are below m: a law each.
use mathlib.Core.Path.{sym, ap, ◌∙◌}
use Prim.Native.Nat.{ℕ, ◌-◌, ◌*◌}
use native.Mathlib.Omega.{arith}
use Rattle.sets.proofs.BitLaws.{shl_one}
use Rattle.sets.proofs.RowLaws.{below_none, below_all, below_some}
use Rattle.sets.proofs.row.below_word.Goals as goal

pub returns-then-m-from : goal.returns-then-m-from
returns-then-m-from c = sym (below_none c.args.m c.args.w c.if-m-from.true)

pub returns-then-more-ge64 : goal.returns-then-more-ge64
returns-then-more-ge64 c = sym (below_all c.args.m c.args.w (omega arith))

pub returns : goal.returns
returns c =
    let m = c.args.m in
    let w = c.args.w in
    ap (λ (x : ℕ). x - 1) (shl_one 64 (m - w * 64) (omega arith)) ∙ sym (below_some m w (omega arith) (omega arith))
