use lib.ListN.{get_or}
use Rattle.std.proofs.Common.{rules}
use Rattle.sets.proofs.ListLaws.{made_at}
use Rattle.sets.proofs.row.Row.zip_words.Goals as goal

pub returns : goal.returns
returns g c w h =
    made_at c.from_fn.ensures.items (λ i x. g.F.Fn.post c.args.op (get_or c.args.self.words i 0, (get_or c.args.other.words i 0, tt)) x)
    (λ i x q k. search rules) 0 w h
