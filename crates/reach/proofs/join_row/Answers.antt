use Prim.Native.Nat.{ℕ}
use mir.Val.{Fits}
use mir.Syntax.{w64}
use lib.ListN.{get_or}
use Rattle.reach.proofs.JoinLaws.{join_here}
use Rattle.std.proofs.Common.{rules}
use Rattle.reach.proofs.join_row.Goals as goal

pub returns : goal.returns
returns c =
    let a = c.args in
    let fits : (i : ℕ) → Fits w64 (get_or a.out.now i 0) = λ i. search rules in
    let fit : (i : ℕ) → Fits w64 (get_or a.reached.words i 0) = λ i. search rules in
    let here = join_here a.out.now a.reached.words a.form c.requires (λ i. (fits i).fits) (λ i. (fit i).fits) in
    cc
