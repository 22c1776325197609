use mathlib.Core.Path.{◌≡◌}
use native.Mathlib.Omega.{arith}
use Rattle.attribute_rows.proofs.ListedLaws.{listing_none, listing_more}
use Rattle.attribute_rows.proofs.list_row.Goals as goal

pub loop-i-init : goal.loop-i-init
loop-i-init c = listing_none c.empty-r.ensures

pub loop-i-preserved : goal.loop-i-preserved
loop-i-preserved c = listing_more c.loop-i.invariant (omega arith) c.with_entry-r.ensures

pub returns : goal.returns
returns c = λ T offset R.
    let every : c.loop-i.i ≡ c.args.count = omega arith in
    let joined = c.loop-i.invariant.joined T offset R in
    cc
