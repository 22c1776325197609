use borrow.Author.Tests.{not-true, not-false}
use Rattle.sparing.proofs.FoundLaws.{here_row, here_found}
use Rattle.std.proofs.Common.{ap}
use Rattle.std.specs.Prelude.{not}
use Rattle.sparing.proofs.found_here.Goals as goal

pub holds_at-requires : goal.holds_at-requires
holds_at-requires c = here_row c.requires.reads

pub returns-then-not-holds_at : goal.returns-then-not-holds_at
returns-then-not-holds_at c = λ T R.
    here_found R c.holds_at.ensures (not-true _ (ap not c.if-not-holds_at.true)) c.empty.ensures

pub returns : goal.returns
returns c = λ T R.
    here_found R c.holds_at.ensures (not-false _ (ap not c.if-not-holds_at.false)) (c.found_in.ensures T R.found)
