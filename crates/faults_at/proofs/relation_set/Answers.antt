use Rattle.report.specs.Typing.{relation_set}
use Rattle.at_configuration.proofs.ListLaws.{reads_present}
use Rattle.faults_at.proofs.ListLaws.{if_present, asked_list, relation_joined}
use Rattle.faults_at.proofs.relation_set.Goals as goal

pub joined_at-requires : goal.joined_at-requires
joined_at-requires c =
    let p = c.requires in
    record { tables = p.tables; offset = 0; reads = asked_list p p.reads c.relation_length-count.ensures.same }

pub returns-then-is_present : goal.returns-then-is_present
returns-then-is_present c = λ T R.
    let e = c.relation_length-count.ensures.same in
    if_present (reads_present R) c.args.r c.is_present.ensures c.if-is_present.true (relation_set T c.args.c c.args.r) 0
    (relation_joined c.requires R e (c.joined_at.ensures T 0 (asked_list c.requires R e)))
