-- After the bytes that are written already, the next write adds the first of the rest, or nothing.
use Rattle.std.proofs.Common.{rules}
use Rattle.program.proofs.StreamLaws.{appended_more}
use Rattle.program.proofs.write_bytes.Goals as goal

pub loop-done-preserved : goal.loop-done-preserved
loop-done-preserved g c = record {
  within = search rules;
  added = appended_more _ _ _ c.args.bytes.now _ _ c.loop-done.invariant.added c.in-Ok.ensures.bytes;
}
