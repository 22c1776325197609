-- By whether the set has the attribute.
use mathlib.Core.Path.{sym, ◌∙◌}
use Rattle.sets.proofs.WritingLaws.{none_written, same_room, same_written}
use Rattle.writing.proofs.LinePieces.{member_yes, member_no}
use Rattle.writing.proofs.put_member.Goals as goal

pub put_spaced-requires : goal.put_spaced-requires
put_spaced-requires c =
    same_room (member_yes c.args.s.bits c.args.a (sym c.has.ensures ∙ c.if-has.true)) c.requires.1

pub returns-then-has : goal.returns-then-has
returns-then-has c =
    same_written (member_yes c.args.s.bits c.args.a (sym c.has.ensures ∙ c.if-has.true)) c.put_spaced.ensures

pub returns : goal.returns
returns c =
    same_written (member_no c.args.s.bits c.args.a (sym c.has.ensures ∙ c.if-has.false)) (none_written c.args.out.now c.args.at)
