use Rattle.kept_forms.proofs.NumberLaws.{choice_rowed, choice_number}
use Rattle.kept_forms.proofs.form_number.Goals as goal

pub taken_at-requires : goal.taken_at-requires
taken_at-requires c = choice_rowed c.requires.reads c.in-Choice.is

pub returns-in-Choice : goal.returns-in-Choice
returns-in-Choice c = λ T R.
    choice_number R c.in-Choice.is c.taken_at.ensures c.args.kept
