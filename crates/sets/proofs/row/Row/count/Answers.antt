use mathlib.Core.Path.{◌≡◌, sym, ap, ◌∙◌}
use Prim.Native.Nat.{ℕ, ◌+◌, ◌*◌}
use native.Mathlib.Omega.{arith}
use lib.Count.{ones, ones-le}
use lib.ListN.{get_or}
use Rattle.sets.specs.Rows.{row_bit, row_count}
use Rattle.sets.proofs.SearchLaws.{count_le}
use Rattle.sets.proofs.RowLaws.{count_word}
use Rattle.sets.proofs.row.Row.count.Goals as goal

pub overflow_add-many : goal.overflow_add-many
overflow_add-many c =
    let l = c.args.self.words in
    let w = c.loop-word.word-index in
    omega (arith, ones-le 64 (get_or l w 0) c.loop-word-test.element_fits.fits, count_le (row_bit l) (w * 64))

pub loop-word-preserved : goal.loop-word-preserved
loop-word-preserved c =
    let l = c.args.self.words in
    let w = c.loop-word.word-index in
    ap (λ (k : ℕ). k + ones (get_or l w 0)) c.loop-word.invariant ∙ sym (count_word w l c.loop-word-test.element_fits.fits)

pub returns : goal.returns
returns c =
    let e : c.loop-word.word-index ≡ 16 = omega arith in
    c.loop-word.invariant ∙ ap (λ (k : ℕ). row_count k c.args.self.words) e
