use mathlib.Core.Path.{◌≡◌, sym, ap, ◌∙◌}
use mathlib.Core.List.{List}
use Prim.Native.Nat.{ℕ, ◌+◌, ◌*◌}
use native.Mathlib.Numerals.{add-one}
use native.Mathlib.Omega.{arith}
use lib.ListN.{length, get_or, set}
use lib.Seq.{paste, paste-suc}
use Rattle.std.proofs.Common.{rules}
use Rattle.sets.proofs.row.Row.store.Goals as goal

pub loop-w-preserved : goal.loop-w-preserved
loop-w-preserved c =
    let l = c.args.rows.now in
    let words = c.args.self.words in
    let at = c.args.a * 16 in
    let w = c.loop-w.w in
    let n : length words ≡ 16 = search rules in
    ap (λ (d : List ℕ). set d (at + w) (get_or words w 0)) c.loop-w.invariant ∙ paste-suc l at words w 0 (omega arith) (omega arith)
    ∙ ap (paste l at words) (sym (add-one w))
