use Rattle.sparing.proofs.FoundLaws.{adding_more}
use Rattle.sparing.proofs.add_found.Goals as goal

pub loop-q-preserved : goal.loop-q-preserved
loop-q-preserved c =
    adding_more c.loop-q.invariant c.requires c.loop-q-test.true c.decode_query-x.ensures c.found_here-found.ensures
    c.of_bits-before.ensures c.union-joined.ensures
