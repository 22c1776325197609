use Rattle.std.proofs.Common.{ap, ◌∙◌, arith}
use Rattle.report.specs.Operands.{query_operands}
use Rattle.reach.proofs.WalkLaws.{reads_intersect, reads_minus, ready_lower, inside_words, free}
use Rattle.reach.proofs.WalkLaws.{walk_nothing, walk_one, walk_both, walk_choice}
use Rattle.reach.proofs.+walk.Goals as goal

pub walk-requires-in-Choice : goal.walk-requires-in-Choice
walk-requires-in-Choice t c =
    let K = c.requires in
    let l = free K.reads _ (inside_words K) _ (c.in-Choice.ensures ∙ ap query_operands c.decode_query.ensures) in
    let S = reads_intersect _ c.load-holds.result.words c.intersect-chosen.ensures K.reads in
    (omega arith, ready_lower _ _ _ K S c.join_row.auto.out (omega arith))

pub walk-requires-in-Choice-2 : goal.walk-requires-in-Choice-2
walk-requires-in-Choice-2 t c =
    let K = c.requires in
    let l = free K.reads _ (inside_words K) _ (c.in-Choice.ensures ∙ ap query_operands c.decode_query.ensures) in
    let S = reads_minus _ c.load-holds.result.words c.minus-others.ensures K.reads in
    (omega arith, ready_lower _ _ _ K S (c.walk-in-Choice.auto.out ∙ c.join_row.auto.out) (omega arith))

pub returns-in-Nothing : goal.returns-in-Nothing
returns-in-Nothing t c =
    let e = c.in-Nothing.ensures ∙ ap query_operands c.decode_query.ensures in
    record { rows = λ T S. c.join_row.ensures ∙ walk_nothing S _ (inside_words c.requires) _ e }

pub returns-in-One : goal.returns-in-One
returns-in-One t c =
    let e = c.in-One.ensures ∙ ap query_operands c.decode_query.ensures in
    record {
      rows = λ T S.
          rw c.join_row.ensures at (c.walk.ensures.rows T S) ∙ walk_one S _ (inside_words c.requires) _ c.in-One.b e;
    }

pub returns-in-Both : goal.returns-in-Both
returns-in-Both t c =
    let e = c.in-Both.ensures ∙ ap query_operands c.decode_query.ensures in
    record {
      rows = λ T S.
          rw (c.walk-in-Both.ensures.rows T S, c.join_row.ensures) at (c.walk-in-Both-2.ensures.rows T S)
          ∙ walk_both S _ (inside_words c.requires) _ c.in-Both.a c.in-Both.b e;
    }

pub returns-in-Choice : goal.returns-in-Choice
returns-in-Choice t c =
    let e = c.in-Choice.ensures ∙ ap query_operands c.decode_query.ensures in
    let row = c.load-holds in
    let chosen = c.intersect-chosen.ensures in
    let others = c.minus-others.ensures in
    record {
      rows = λ T S.
          rw (c.walk-in-Choice.ensures.rows T (reads_intersect _ row.result.words chosen S), c.join_row.ensures)
          at (c.walk-in-Choice-2.ensures.rows T (reads_minus _ row.result.words others S))
          ∙ walk_choice S _ (inside_words c.requires) _ _ c.in-Choice.b c.in-Choice.d e _ _ _ row.ensures chosen others;
    }
