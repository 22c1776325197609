use Rattle.typing_at.proofs.HereLaws.{reach_read, clashes_readable, unreached, first_phase, second_phase}
use Rattle.std.proofs.Common.{rules, ◌≡◌, ◌∙◌, ap, Err}
use Rattle.std.specs.Prelude.{not}
use Rattle.typing_at.proofs.form_here.Goals as goal

pub holds_at-requires : goal.holds_at-requires
holds_at-requires c = reach_read c.requires.reads

pub returns-then-not-holds_at : goal.returns-then-not-holds_at
returns-then-not-holds_at c = λ T R H. unreached H c.holds_at.ensures (ap not c.if-not-holds_at.true)

pub returns-in_err-refuse_items : goal.returns-in_err-refuse_items
returns-in_err-refuse_items c =
    let told : c.from_residual.result ≡ Err c.in_err-refuse_items.field-0.0 = search rules in
    λ T R H.
    told ∙ first_phase H c.holds_at.ensures (ap not c.if-not-holds_at.false) (c.faults_of-broken.ensures T _ H.rule) c.of_bits-spared.ensures
    c.minus.ensures c.rule_number.ensures c.in_err-refuse_items.ensures

pub clashes_in-requires : goal.clashes_in-requires
clashes_in-requires c = clashes_readable c.requires.reads

pub returns : goal.returns
returns c =
    λ T R H.
    second_phase H c.holds_at.ensures (ap not c.if-not-holds_at.false) (c.faults_of-broken.ensures T _ H.rule) c.of_bits-spared.ensures c.minus.ensures
    c.rule_number.ensures c.clashes_in.ensures c.in_ok-refuse_items.ensures c.refuse_items-2.ensures
