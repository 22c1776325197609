use Prim.Native.Nat.{◌/◌}
use mathlib.Core.Path.{ap}
use mathlib.Core.List.{List}
use lib.ListN.{length}
use Rattle.sets.proofs.ListLaws.{filling_all}
use Rattle.kept_forms.proofs.NumberLaws.{comparison_to, comparison_counts}
use Rattle.kept_forms.proofs.NumberLaws.{numbering_read, numbering_more}
use Rattle.kept_forms.proofs.number_comparisons.Goals as goal

pub form_number-requires : goal.form_number-requires
form_number-requires c =
    let h = c.loop-f-test.true in
    let A = c.requires in
    numbering_read c.loop-f.invariant A.room h
    (λ T R. comparison_to R h c.decode_comparison.ensures c.comparison_operands-to.ensures) A.reads

pub loop-f-preserved : goal.loop-f-preserved
loop-f-preserved c =
    let h = c.loop-f-test.true in
    numbering_more c.loop-f.invariant c.requires.room h
    (λ T R. comparison_to R h c.decode_comparison.ensures c.comparison_operands-to.ensures) c.form_number.ensures
    (λ T R. comparison_counts R h c.decode_comparison.ensures c.comparison_operands-to.ensures c.kept_if-kept.ensures)

pub returns : goal.returns
returns c = λ T R. filling_all c.loop-f.invariant.filling c.loop-f-test.false T R (ap (λ (t : List _). length t / 5) R.comparisons_are)
