-- Bit i - 6 of w decides the whole word.
use mathlib.Core.Path.{sym}
use Prim.Native.Nat.{◌-◌, ◌/◌, ◌%◌, ◌^◌}
use borrow.Author.Tests.{eq-eqb, ne_eqb}
use Rattle.sets.proofs.RowLaws.{feature_on, feature_off}
use Rattle.sets.proofs.row.feature_word.Goals as goal

pub returns-then-w-i-eq1 : goal.returns-then-w-i-eq1
returns-then-w-i-eq1 c =
    let i = c.args.i in
    let w = c.args.w in
    sym (feature_on i w c.requires.0 (eq-eqb (w / 2 ^ (i - 6) % 2) 1 c.if-w-i-eq1.true))

pub returns : goal.returns
returns c =
    let i = c.args.i in
    let w = c.args.w in
    sym (feature_off i w c.requires.0 (ne_eqb (w / 2 ^ (i - 6) % 2) 1 c.if-w-i-eq1.false))
