use mathlib.Core.Path.{◌≡◌}
use native.Mathlib.Omega.{arith}
use Rattle.feature_rows.proofs.ExactlyOneRow.{passed_next, passed_all}
use Rattle.feature_rows.proofs.exactly_one.Goals as goal

pub loop-k-preserved : goal.loop-k-preserved
loop-k-preserved c =
    passed_next 16 _ c.loop-k.invariant c.feature-on.ensures c.intersect.ensures c.join-more.ensures c.join-some.ensures

pub returns : goal.returns
returns c =
    let every : c.loop-k.k ≡ c.args.count = omega arith in
    let alone = passed_all 16 _ c.loop-k.invariant in
    cc
