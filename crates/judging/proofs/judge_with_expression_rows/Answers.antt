use Rattle.judging.proofs.JudgingLaws.{own_judged}
use Rattle.judging.proofs.judge_with_expression_rows.Goals as goal

pub returns : goal.returns
returns g c = own_judged g.row.WORDS c.requires.1 c.fill_and_judge-verdict.ensures c.load.ensures
