use Rattle.std.proofs.Common.{ap}
use Rattle.std.specs.Prelude.{not}
use Rattle.fault_rows.proofs.is_found.Goals as goal

pub returns-in-Project : goal.returns-in-Project
returns-in-Project c =
    rw c.in-Project.is
    (ap not (rw (c.intersect-in-Project.ensures, c.intersect.ensures, c.load.ensures) at c.is_empty.ensures))
