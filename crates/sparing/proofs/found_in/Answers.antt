use Rattle.sparing.proofs.FoundLaws.{found_project}
use Rattle.sparing.proofs.found_in.Goals as goal

pub returns-in-Project : goal.returns-in-Project
returns-in-Project c = λ T R.
    let e = c.in-Project.is in
    rw e (found_project R e c.of_bits.ensures)
