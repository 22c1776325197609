-- What a call answers, whatever it is given (specs/Calls): "first fault first", "sound in form and schema", "gets as far as typing", and the parts of an
-- answer; then the same of whole tables, which are formed where their first conditions do not hold.
use Rattle.std.specs.Prelude.{Ok, Err}
use mathlib.Core.Path.{◌≡◌, refl, sym, ap, ◌∙◌}
use mathlib.Core.Logic.{◌↔◌}
use mathlib.Core.List.{List, ◌++◌}
use Rattle.report.specs.Tables.{Tables}
use Rattle.report.specs.Verdicts.{Verdict, or_else, Condition, first_of, NoneHolds, Foremost}
use Rattle.report.specs.FormChecks.{form_check}
use Rattle.report.specs.Formed.{Formed}
use Rattle.report.specs.Checks.{model_check, schema_check, model_and_schema_check, typing_check}
use Rattle.report.specs.Conditions.{schema_conditions, typing_conditions}
use Rattle.report.specs.Calls.{Call, Given, conditions_to, before_typing_to, answer_to, SoundTo, GetsTo, whole, conditions, answer, Sound}
use Rattle.report.specs.GivenDemands.{Forms, FirstFaultTo}
use Rattle.report.specs.declared.Refusal.{Refusal}
use Rattle.report.specs.declared.Reading.{Reading}
use Rattle.report.proofs.VerdictLaws.{or_else_assoc, both_accepted, accepted_both, then_next, then_refused}
use Rattle.report.proofs.Formed.{formed}
use Rattle.report.proofs.SetLaws.{narrow_by}
use Rattle.report.proofs.FirstFault.{first_append, first_form, first_schema, first_typing, first_foremost, foremost_first, none_holds, holds_none}

-- ---- the parts of an answer

module _ (G : Given) (R : Reading) (call : Call) where
  -- the first conditions refuse
  pub given_refused : {r : Refusal} → first_of G.first ≡ Err r → answer_to G R call ≡ Err r
  unfolding answer_to
  given_refused e = then_refused _ (then_refused _ e)

  -- a call that gets as far as typing answers what typing answers, and then what comes after it
  pub given_answer : GetsTo G call → answer_to G R call ≡ or_else (typing_check G.tables R) (first_of (call.after_typing G.tables))
  unfolding answer_to
  given_answer g = then_next g

  -- a call that does not get there answers what it ran before
  pub given_before : {r : Refusal} → before_typing_to G call ≡ Err r → answer_to G R call ≡ Err r
  unfolding answer_to
  given_before e = then_refused _ e

  -- a call that accepts gets as far as typing, which accepts, and none of its own conditions after it holds
  module _ (e : answer_to G R call ≡ Ok tt) where
    pub given_gets : GetsTo G call
    unfolding answer_to
    given_gets = (both_accepted _ _ e).0

    after : (typing_check G.tables R ≡ Ok tt) × (first_of (call.after_typing G.tables) ≡ Ok tt)
    after = both_accepted (typing_check G.tables R) _ (sym (given_answer given_gets) ∙ e)

    pub given_typed : typing_check G.tables R ≡ Ok tt
    given_typed = after.0

    pub given_own : first_of (call.after_typing G.tables) ≡ Ok tt
    given_own = after.1

-- ---- "first fault first"

module _ (G : Given) (forms : Forms G) (R : Reading) (call : Call) where
  -- its checks before typing, typing, and those after it
  first_given : first_of (conditions_to G R call)
      ≡ or_else (before_typing_to G call) (or_else (first_of (typing_conditions G.tables R)) (first_of (call.after_typing G.tables)))
  first_given = simp (first_append, first_schema, or_else_assoc)

  -- the answer is the first of the conditions that holds
  pub given_first : answer_to G R call ≡ first_of (conditions_to G R call)
  unfolding answer_to
  given_first = go (first_of G.first) refl
    where
      go : (v : Verdict) → first_of G.first ≡ v → answer_to G R call ≡ first_of (conditions_to G R call)
      go (Ok tt) e =
          ap (λ (v : Verdict). or_else (before_typing_to G call) (or_else v (first_of (call.after_typing G.tables))))
          (sym (first_typing G.tables R (narrow_by (forms e) R)))
          ∙ sym first_given
      go (Err r) e =
          let before = then_refused {a = first_of G.first} _ e in then_refused _ before ∙ sym (first_given ∙ then_refused _ before)

  -- it refuses exactly by the first that holds, and accepts exactly where none holds
  pub first_fault_to : FirstFaultTo G R call
  first_fault_to = record {
    refuses = λ r. (
      λ e. first_foremost (conditions_to G R call) r (sym given_first ∙ e),
      λ f. given_first ∙ foremost_first (conditions_to G R call) r f,
    );
    accepts = (λ e. none_holds (conditions_to G R call) (sym given_first ∙ e), λ h. given_first ∙ holds_none (conditions_to G R call) h);
  }

-- ---- "sound in form and schema", and "gets as far as typing"

module _ (G : Given) where
  -- the first conditions and 12 to 14 accept exactly what is sound
  pub given_sound : SoundTo G ↔ (or_else (first_of G.first) (model_and_schema_check G.tables) ≡ Ok tt)
  given_sound = (λ s. sym early ∙ holds_none xs s, λ e. none_holds xs (early ∙ e))
    where
      xs : List Condition
      xs = G.first ++ schema_conditions G.tables

      early : first_of xs ≡ or_else (first_of G.first) (model_and_schema_check G.tables)
      early = first_append G.first (schema_conditions G.tables) ∙ ap (or_else (first_of G.first)) (first_schema G.tables)

  pub sound_given : Forms G → SoundTo G → Formed G.tables
  sound_given forms s = forms (both_accepted (first_of G.first) _ (given_sound.0 s)).0

  module _ (call : Call) where
    -- of what is sound a call gets as far as typing exactly where no condition of its own before that holds; of other things none does
    pub own_gets : SoundTo G → GetsTo G call ↔ (first_of (call.before_model G.tables) ≡ Ok tt)
    own_gets s =
        let p = both_accepted (first_of G.first) (model_and_schema_check G.tables) (given_sound.0 s) in (
          λ g. (both_accepted (first_of (call.before_model G.tables)) _ (both_accepted (first_of G.first) _ g).1).0,
          λ e. accepted_both p.0 (accepted_both e p.1),
        )

    pub gets_given : GetsTo G call → SoundTo G
    gets_given g =
        let p = both_accepted (first_of G.first) (or_else (first_of (call.before_model G.tables)) (model_and_schema_check G.tables)) g in
        given_sound.1 (accepted_both p.0 (both_accepted (first_of (call.before_model G.tables)) (model_and_schema_check G.tables) p.1).1)

    -- and so the tables are formed
    pub given_formed : Forms G → GetsTo G call → Formed G.tables
    given_formed forms g = sound_given forms (gets_given g)

-- ---- whole tables

module _ (T : Tables) where
  -- 1 to 10 and 24 leave them formed
  pub whole_forms : Forms (whole T)
  whole_forms a = formed T (sym (first_form T) ∙ a)

  module _ (R : Reading) (call : Call) where
    -- the answer, with the form checks as they run
    pub answer_checks : answer T R call
        ≡ or_else (or_else (form_check T) (or_else (first_of (call.before_model T)) (model_and_schema_check T))) (or_else (typing_check T R) (first_of (call.after_typing T)))
    unfolding answer_to
    answer_checks =
        ap
        (λ (v : Verdict).
        or_else (or_else v (or_else (first_of (call.before_model T)) (model_and_schema_check T))) (or_else (typing_check T R) (first_of (call.after_typing T))))
        (first_form T)

    -- and check by check
    pub answer_run : answer T R call
        ≡ or_else (form_check T)
        (or_else (first_of (call.before_model T))
        (or_else (model_check T) (or_else (schema_check T) (or_else (typing_check T R) (first_of (call.after_typing T))))))
    answer_run = answer_checks ∙ simp or_else_assoc

    pub form_refused : {r : Refusal} → form_check T ≡ Err r → answer T R call ≡ Err r
    form_refused e = given_refused (whole T) R call (first_form T ∙ e)

    -- "first fault first"
    pub answer_first : answer T R call ≡ first_of (conditions T R call)
    answer_first = given_first (whole T) whole_forms R call

    pub refused_foremost : (r : Refusal) → (answer T R call ≡ Err r) ↔ Foremost (conditions T R call) r
    refused_foremost = (first_fault_to (whole T) whole_forms R call).refuses

    pub accepted_none : (answer T R call ≡ Ok tt) ↔ NoneHolds (conditions T R call)
    accepted_none = (first_fault_to (whole T) whole_forms R call).accepts

  -- what 1 to 10, 24 and 12 to 14 accept is sound
  pub sound_accepted : Sound T ↔ (or_else (form_check T) (model_and_schema_check T) ≡ Ok tt)
  sound_accepted =
      let s = given_sound (whole T) in
      let e = ap (λ (v : Verdict). or_else v (model_and_schema_check T)) (first_form T) in
      (λ h. sym e ∙ s.0 h, λ h. s.1 (e ∙ h))

  pub sound_checks : Sound T ↔ ((form_check T ≡ Ok tt) × (model_check T ≡ Ok tt) × (schema_check T ≡ Ok tt))
  sound_checks = (
    λ s.
        let p = both_accepted (form_check T) (model_and_schema_check T) (sound_accepted.0 s) in
        let q = both_accepted (model_check T) (schema_check T) p.1 in
        (p.0, q.0, q.1),
    λ p. sound_accepted.1 (accepted_both p.0 (accepted_both p.1 p.2)),
  )

  pub sound_formed : Sound T → Formed T
  sound_formed = sound_given (whole T) whole_forms
