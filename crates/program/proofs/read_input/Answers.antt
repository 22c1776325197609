-- What was read stands at the start of the text, after it what the next read gives.
use Rattle.std.proofs.Common.{rules}
use Rattle.program.proofs.StreamLaws.{consumed_put}
use Rattle.program.proofs.read_input.Goals as goal

pub loop-at-preserved : goal.loop-at-preserved
loop-at-preserved g c = record {
  within = search rules;
  read = consumed_put _ _ _ _ _ _ _ _ c.loop-at.invariant.within (search rules) c.loop-at.invariant.read (search rules);
}
