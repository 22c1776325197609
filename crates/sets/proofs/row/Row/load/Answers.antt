use Prim.Native.Nat.{◌+◌, ◌*◌}
use lib.ListN.{get_or}
use Rattle.std.proofs.Common.{rules}
use Rattle.sets.proofs.ListLaws.{made_table}
use Rattle.sets.proofs.row.Row.load.Goals as goal

pub returns : goal.returns
returns c = made_table 0 c.from_fn.ensures.items (λ w. get_or c.args.rows.now (c.args.a * 16 + w) 0) (λ w x q k. search rules)
