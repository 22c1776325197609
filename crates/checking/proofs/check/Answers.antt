use Rattle.std.proofs.Common.{rules, ◌≡◌, ◌∙◌, Err, refl, sym}
use Rattle.report.proofs.Formed.{formed}
use Rattle.checking.proofs.CheckLaws.{forms_refuse, rows_refuse, meaning_answers}
use Rattle.checking.proofs.check.Goals as goal

pub returns-in_err-check_forms : goal.returns-in_err-check_forms
returns-in_err-check_forms c =
    let told : c.from_residual.result ≡ Err c.in_err-check_forms.field-0.0 = search rules in
    forms_refuse _ _ _ (told ∙ c.in_err-check_forms.ensures) told

pub returns-then-rows-ne-COLUMN_WORDS : goal.returns-then-rows-ne-COLUMN_WORDS
returns-then-rows-ne-COLUMN_WORDS c =
    rows_refuse _ _ _ c.in_ok-check_forms.ensures refl c.refuse.ensures c.if-rows-ne-COLUMN_WORDS.true

pub check_meaning-requires : goal.check_meaning-requires
check_meaning-requires c =
    record { formed = formed _ (sym c.in_ok-check_forms.ensures); full = c.if-rows-ne-COLUMN_WORDS.false }

pub returns : goal.returns
returns c = meaning_answers _ _ _ c.in_ok-check_forms.ensures refl c.if-rows-ne-COLUMN_WORDS.false c.check_meaning.ensures
