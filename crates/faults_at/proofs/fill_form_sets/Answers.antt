use Rattle.faults_at.proofs.FormSetLaws.{reads_sets, sets_readable}
use Rattle.faults_at.proofs.fill_form_sets.Goals as goal

pub fill_sets-requires : goal.fill_sets-requires
fill_sets-requires c =
    let p = c.requires in
    sets_readable p.reads c.fill_relation_sets.ensures p.room

pub returns : goal.returns
returns c =
    λ T R. c.fill_sets.ensures T (reads_sets R c.fill_relation_sets.ensures)
