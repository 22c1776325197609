-- Each word of the rows of features 0 to 5 is its mask.
use lib.ListN.{get_or}
use Rattle.std.proofs.Common.{rules}
use Rattle.sets.specs.Bits.{bit}
use Rattle.sets.specs.Rows.{word_of}
use Rattle.sets.proofs.ListLaws.{table_same, made_table}
use Rattle.sets.proofs.RowLaws.{masks, feature_low}
use Rattle.sets.proofs.row.Row.feature.Goals as goal

pub returns-then-i-lt6 : goal.returns-then-i-lt6
unfolding masks
returns-then-i-lt6 c =
    let i = c.args.i in
    table_same 16 (λ w. get_or masks i 0) (word_of (λ c. bit c i)) (λ w h. feature_low i w c.if-i-lt6.true)

pub returns : goal.returns
returns c = made_table 0 c.from_fn.ensures.items (word_of (λ x. bit x c.args.i)) (λ w x q k. search rules)
