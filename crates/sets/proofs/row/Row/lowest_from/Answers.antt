use mathlib.Core.Path.{◌≡◌, sym}
use Prim.Native.Nat.{◌+◌, ◌*◌, ◌/◌, ◌%◌}
use native.Mathlib.Omega.{arith}
use lib.ListN.{get_or}
use mir.Val.{Fits}
use mir.Syntax.{w64}
use Rattle.sets.proofs.RowLaws.{passed_word, found_at, found_nothing}
use Rattle.std.proofs.Common.{rules}
use Rattle.sets.proofs.row.Row.lowest_from.Goals as goal

pub returns-then-rest-ne0 : goal.returns-then-rest-ne0
returns-then-rest-ne0 c =
    let w = c.loop-w.w in
    let s = c.loop-w.skipped in
    let f : Fits w64 (get_or c.args.self.words w 0) = search rules in
    let word : (w * 64 + s) / 64 ≡ w = omega arith in
    let place : (w * 64 + s) % 64 ≡ s = omega arith in
    sym (rw (word, place) at (found_at c.loop-w.invariant.passed 16 (omega arith) (rw word f.fits) (rw (word, place) c.if-rest-ne0.true)))

pub loop-w-preserved : goal.loop-w-preserved
loop-w-preserved c =
    let w = c.loop-w.w in
    let s = c.loop-w.skipped in
    let word : (w * 64 + s) / 64 ≡ w = omega arith in
    let place : (w * 64 + s) % 64 ≡ s = omega arith in
    let next : (w + 1) * 64 + 0 ≡ (w + 1) * 64 = omega arith in
    record { inside = omega arith; passed = rw (next, ← word) (passed_word c.loop-w.invariant.passed (rw (word, place) c.if-rest-ne0.false)) }

pub returns : goal.returns
returns c = sym (found_nothing c.loop-w.invariant.passed 16 (omega arith))
