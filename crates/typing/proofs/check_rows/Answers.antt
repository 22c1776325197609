use Rattle.typing.proofs.TypingSteps.{no_form, form_room, no_configuration, here_reads, here_answers}
use Rattle.typing.proofs.check_rows.Goals as goal

pub returns-in_default : goal.returns-in_default
returns-in_default c = λ T R A. no_form A c.lowest_row-form.ensures c.in_default.is

pub load-requires : goal.load-requires
load-requires c =
    form_room c.requires.reads c.lowest_row-form.ensures c.in-Some.is

pub returns-in_default-configuration : goal.returns-in_default-configuration
returns-in_default-configuration c =
    λ T R A. no_configuration A c.lowest_row-form.ensures c.in-Some.is c.load.ensures c.lowest-configuration.ensures
    c.in_default-configuration.is

pub check_here-here-requires : goal.check_here-here-requires
check_here-here-requires c =
    let p = c.requires in
    record {
      tables = p.tables;
      reading = p.reading;
      reads =
          here_reads p.reads c.lowest_row-form.ensures c.in-Some.is c.load.ensures c.lowest-configuration.ensures
          c.in-Some-configuration.is;
    }

pub returns : goal.returns
returns c =
    λ T R A. here_answers A c.lowest_row-form.ensures c.in-Some.is c.load.ensures c.lowest-configuration.ensures
    c.in-Some-configuration.is c.check_here-here.ensures
