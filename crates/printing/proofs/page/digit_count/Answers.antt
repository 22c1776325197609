use native.Mathlib.Omega.{arith}
use Rattle.printing.proofs.PageLineLaws.{digits_counted}
use Rattle.printing.proofs.page.digit_count.Goals as goal

pub returns : goal.returns
returns c = let e = c.ilog10.ensures in digits_counted c.args.n c.ilog10.result (omega arith) (omega arith)
