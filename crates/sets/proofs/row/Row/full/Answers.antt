use mathlib.Core.Path.{sym, ◌∙◌}
use mathlib.Core.Bool.{true}
use Prim.Native.Nat.{◌^◌}
use native.Mathlib.Omega.{arith}
use lib.Dec.{ltb}
use Rattle.std.proofs.Common.{rules}
use Rattle.sets.specs.Rows.{word_of, within}
use Rattle.sets.proofs.ListLaws.{made_table}
use Rattle.sets.proofs.BitLaws.{shl_one}
use Rattle.sets.proofs.RowLaws.{row_of_same, within_all}
use Rattle.sets.proofs.row.Row.full.Goals as goal

-- Word after word: the configurations below `1 << n`, which is 2 ^ n.
pub returns : goal.returns
returns c =
    let n = c.args.n in
    made_table 0 c.from_fn.ensures.items (word_of (λ x. ltb x (2 ^ n)))
    (λ w x q k. let e = shl_one 64 n (omega arith) in search rules)
    ∙ row_of_same 16 (λ x. ltb x (2 ^ n)) (within n (λ x. true)) (λ x h. sym (within_all n x))
