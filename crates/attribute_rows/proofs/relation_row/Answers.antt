use Rattle.attribute_rows.proofs.ListedLaws.{relation_reads, relation_is}
use Rattle.attribute_rows.proofs.relation_row.Goals as goal

pub list_row-listed-requires : goal.list_row-listed-requires
list_row-listed-requires c =
    let p = c.requires in
    record { tables = p.tables; offset = 0; reads = relation_reads p.at c.relation_length-count.ensures.same }

pub returns : goal.returns
returns c = λ T A.
    let n = c.relation_length-count.ensures.same in
    relation_is A _ n c.relation_expression-x.ensures.same
    (c.list_row-listed.ensures T 0 (relation_reads A n)) c.load-present.ensures c.intersect.ensures
