use lib.ListN.{get_or}
use lib.Bits.{bit_or}
use Rattle.std.proofs.Common.{rules}
use Rattle.sets.proofs.ListLaws.{table_of}
use Rattle.sets.proofs.row.Row.join.Goals as goal

pub returns : goal.returns
returns c =
    let a = c.args.self.words in
    let b = c.args.other.words in
    table_of 0 16 (λ w. bit_or (get_or a w 0) (get_or b w 0)) c.zip_words.result.words (search rules) (λ w h. let e = c.zip_words.ensures w h in search rules)
