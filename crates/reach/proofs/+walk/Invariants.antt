-- By recursion on the form: its operands are lower.
use Rattle.reach.proofs.+walk.Given as goal

abbrev pub decreases-walk : goal.decreases-walk
decreases-walk l = l.form
