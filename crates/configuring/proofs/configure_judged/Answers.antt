use Rattle.std.proofs.Common.{rules, ◌≡◌, Err, refl, sym}
use Rattle.configuring.proofs.ConfigureLaws.{leaves_refused, late_accepted, written_late}
use Rattle.configuring.proofs.WriteLaws.{late_reads, kept_reads}
use Rattle.configuring.proofs.configure_judged.Goals as goal

pub check_late-requires : goal.check_late-requires
check_late-requires c = let p = c.requires in record { tables = p.tables; reads = late_reads p.reads c.load-permitted.ensures }

pub returns-in_err-check_late : goal.returns-in_err-check_late
returns-in_err-check_late c =
    let told : c.from_residual.result ≡ Err c.in_err-check_late.field-0.0 = search rules in
    λ T R. rw told (leaves_refused (c.in_err-check_late.ensures T (late_reads R c.load-permitted.ensures)))

pub write_kept-requires : goal.write_kept-requires
write_kept-requires c =
    let a = c.args in
    let p = c.requires in
    let late = late_accepted p.tables a.c a.new_entries.now a.new_relations.now a.new_comparisons.now a.new_queries.now
    (sym (c.in_ok-check_late.ensures p.tables (late_reads p.reads c.load-permitted.ensures))) in
    record { tables = p.tables; reads = kept_reads p.reads late.0; rooms = late.1 }

pub returns : goal.returns
returns c T R =
    let a = c.args in
    written_late T a.c a.new_entries.now a.new_relations.now a.new_comparisons.now a.new_queries.now
    (c.in_ok-check_late.ensures T (late_reads R c.load-permitted.ensures)) refl
    (λ p. c.write_kept.ensures T (kept_reads R p))
