use native.Mathlib.Omega.{arith}
use Rattle.kept_forms.proofs.WordLaws.{comparison_forms_read, comparison_forms_more}
use Rattle.kept_forms.proofs.WordLaws.{comparison_forms_all}
use Rattle.kept_forms.proofs.write_comparisons.Goals as goal

pub write_comparison-p-requires : goal.write_comparison-p-requires
write_comparison-p-requires c =
    comparison_forms_read c.loop-f.invariant c.loop-f-test.true c.decode_comparison-x.ensures
    (λ j. omega (arith, c.shared_slice_known-1.given j)) c.requires

pub loop-f-preserved : goal.loop-f-preserved
loop-f-preserved c =
    comparison_forms_more c.loop-f.invariant c.loop-f-test.true c.decode_comparison-x.ensures c.write_comparison-p.ensures

pub returns : goal.returns
returns c = comparison_forms_all c.loop-f.invariant c.loop-f-test.false
