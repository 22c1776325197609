use mathlib.Core.Path.{sym}
use Rattle.report.specs.Expressions.{tables_in}
use Rattle.forms.proofs.Chain.{lists_ready}
use Rattle.forms.proofs.check_tables.Goals as goal

pub check_contents-requires : goal.check_contents-requires
check_contents-requires c = lists_ready (tables_in c.args.tables.now) (sym c.in_ok-check_lengths.ensures)
