use Rattle.configuring.proofs.WriteLaws.{lists_read, entries_reads, comparisons_read, query_reads, comparison_form_reads, form_reads}
use Rattle.configuring.proofs.WriteLaws.{entries_writable, relations_writable, comparisons_writable}
use Rattle.configuring.proofs.WriteLaws.{queries_writable, same_rooms, tables_left}
use Rattle.configuring.proofs.write_with.Goals as goal

pub write_entries-entry_count-requires : goal.write_entries-entry_count-requires
write_entries-entry_count-requires c = entries_writable c.requires

pub write_relation_forms-relation_count-requires : goal.write_relation_forms-relation_count-requires
write_relation_forms-relation_count-requires c = relations_writable c.requires

pub write_comparisons-comparison_count-requires : goal.write_comparisons-comparison_count-requires
write_comparisons-comparison_count-requires c =
    let W = c.requires in
    comparisons_writable W (c.number_comparisons.ensures W.tables (comparisons_read W.reads.kept))

pub write_queries-query_count-requires : goal.write_queries-query_count-requires
write_queries-query_count-requires c =
    let W = c.requires in
    queries_writable W (c.number_comparisons.ensures W.tables (comparisons_read W.reads.kept))
    (c.number_queries.ensures W.tables (query_reads W.reads.kept))

pub returns : goal.returns
returns c T R =
    let W = c.requires in
    let first-numbers = c.number_comparisons.ensures T (comparisons_read R.kept) in
    tables_left R.kept.prepared.formed c.args.c (same_rooms W.reads.kept R.kept W.rooms) (c.write_entries-entry_count.ensures T (entries_reads R))
    (c.write_relation_forms-relation_count.ensures T (lists_read R.kept))
    (c.write_comparisons-comparison_count.ensures T c.args.c (comparison_form_reads R first-numbers))
    (c.write_queries-query_count.ensures T (form_reads R first-numbers (c.number_queries.ensures T (query_reads R.kept))))
