use Rattle.std.proofs.Common.{rules, ◌≡◌, Err}
use Rattle.judging.proofs.JudgingLaws.{own_rows, split_reads}
use Rattle.configuring.proofs.ConfigureLaws.{report_refuses, late_answers, judged_reads}
use Rattle.configuring.proofs.configure.Goals as goal

pub returns-in_err-check_into_rows : goal.returns-in_err-check_into_rows
returns-in_err-check_into_rows c =
    let a = c.args in
    let told : c.from_residual.result ≡ Err c.in_err-check_into_rows.field-0.0 = search rules in
    rw told (report_refuses _ a.reading a.c a.new_entries.now a.new_relations.now a.new_comparisons.now a.new_queries.now
    c.check_into_rows.ensures.answers c.in_err-check_into_rows.was)

pub split_tables-split-requires : goal.split_tables-split-requires
split_tables-split-requires c =
    let R = own_rows c.check_into_rows.ensures c.in_ok-check_into_rows.was in record { tables = _; reads = split_reads R.formed }

pub configure_judged-requires : goal.configure_judged-requires
configure_judged-requires c =
    let R = own_rows c.check_into_rows.ensures c.in_ok-check_into_rows.was in
    record { tables = _; reads = judged_reads R (c.split_tables-split.ensures _ (split_reads R.formed)) }

pub returns : goal.returns
returns c =
    let a = c.args in
    let R = own_rows c.check_into_rows.ensures c.in_ok-check_into_rows.was in
    late_answers _ a.reading a.c a.new_entries.now a.new_relations.now a.new_comparisons.now a.new_queries.now
    c.check_into_rows.ensures.answers c.in_ok-check_into_rows.was (c.configure_judged.ensures _ (judged_reads R (c.split_tables-split.ensures _ (split_reads R.formed))))
