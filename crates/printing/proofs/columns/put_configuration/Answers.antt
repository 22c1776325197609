-- By whether the configuration is permitted.
use mathlib.Core.Path.{sym, ◌∙◌}
use Rattle.sets.proofs.WritingLaws.{none_written, same_room, same_written}
use Rattle.printing.proofs.ColumnLaws.{configuration_yes, configuration_no}
use Rattle.printing.proofs.columns.put_configuration.Goals as goal

pub put_at_line-requires : goal.put_at_line-requires
put_at_line-requires c =
    same_room (configuration_yes c.args.permitted.words c.args.rows.now c.args.c (sym c.has.ensures ∙ c.if-has.true)
    c.shown_at-s.ensures) c.requires.room

pub returns-then-has : goal.returns-then-has
returns-then-has c =
    same_written
    (configuration_yes c.args.permitted.words c.args.rows.now c.args.c (sym c.has.ensures ∙ c.if-has.true)
    c.shown_at-s.ensures)
    c.put_at_line.ensures

pub returns : goal.returns
returns c =
    same_written (configuration_no c.args.permitted.words c.args.rows.now c.args.c (sym c.has.ensures ∙ c.if-has.false))
    (none_written c.args.out.now c.args.at)
