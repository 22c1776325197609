use Rattle.std.proofs.Common.{rules, ◌≡◌, ◌∙◌, Ok}
use Rattle.judging.proofs.JudgingLaws.{own_columns}
use Rattle.finding.proofs.FindLaws.{checked_refused, late_refused, found_answers}
use Rattle.finding.proofs.find.Goals as goal

pub returns-in_err-judged : goal.returns-in_err-judged
returns-in_err-judged c =
    search rules ∙ checked_refused _ c.args.reading _ c.check_into_columns-judged.ensures.answers c.in_err-judged.was

-- Here typing has passed, which the search finds among what is known.
pub returns-in_err-refuse_if : goal.returns-in_err-refuse_if
returns-in_err-refuse_if c =
    let passed : c.check_into_columns-judged.result.verdict ≡ Ok tt = search rules in
    search rules ∙ late_refused _ c.args.reading _ c.check_into_columns-judged.ensures.answers passed c.of_bits-wanted.ensures c.has_from.ensures c.in_err-refuse_if.ensures

pub returns : goal.returns
returns c =
    found_answers _ c.args.reading _ c.check_into_columns-judged.ensures.answers c.in_ok-judged.was c.of_bits-wanted.ensures c.has_from.ensures
    c.in_ok-refuse_if.ensures (own_columns c.check_into_columns-judged.ensures c.in_ok-judged.was) c.lowest_with.ensures
