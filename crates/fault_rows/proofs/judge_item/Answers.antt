use mathlib.Core.Path.{refl, sym, ◌∙◌}
use Rattle.fault_rows.proofs.judge_item.Goals as goal

pub returns-else-is_spared : goal.returns-else-is_spared
returns-else-is_spared c =
    rw (sym c.is_spared.ensures ∙ c.if-is_spared.false, ← c.form_faults-faults.ensures, ← c.intersect.ensures)
    (record { held = c.join_fault.ensures; sparing = refl })
