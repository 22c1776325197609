use native.Mathlib.Omega.{arith}
use mathlib.Core.Path.{ap, sym, ◌∙◌}
use Rattle.sets.specs.Bits.{member_count}
use Rattle.report.proofs.StayLaws.{kept_count}
use Rattle.kept_lists.proofs.kept_length.Goals as goal

pub returns : goal.returns
returns c = λ T offset R.
    c.count.ensures ∙ ap member_count (c.joined_at.ensures T offset R)
    ∙ sym (kept_count T _ _ R.reads.formed _ (let l = R.lies in let m = R.part.inside in omega arith))
