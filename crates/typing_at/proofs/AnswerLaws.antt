-- Laws of the answer at one configuration alone: where it accepts, and that it is the typing check's own answer at the configuration which that names.
use Rattle.std.specs.Prelude.{Ok, Err}
use Prim.Native.Nat.{ℕ, ◌<◌}
use mathlib.Core.Path.{◌≡◌, sym, ap, ap₂, ◌∙◌}
use mathlib.Core.Bool.{Bool, false, false≢true}
use mathlib.Core.Logic.{◌↔◌}
use native.Mathlib.Omega.{arith}
use Rattle.report.specs.Tables.{Tables, query_count}
use Rattle.report.specs.Expressions.{permitted}
use Rattle.report.specs.Typing.{phases}
use Rattle.report.specs.Readings.{fails_by}
use Rattle.report.specs.Verdicts.{refusal, refuse_if}
use Rattle.report.specs.Checks.{fault_refusal}
use Rattle.report.specs.TypingFaults.{TypingFault}
use Rattle.report.specs.declared.Refusal.{Refusal}
use Rattle.report.specs.declared.Reading.{Reading}
use Rattle.report.proofs.VerdictLaws.{if_accepted, accepted_if, first_accepted, accepted_first, refused_first}
use Rattle.report.proofs.TreeLaws.{reached-permitted, holds_where}
use Rattle.report.proofs.ReadingLaws.{fails_none}
use Rattle.report.proofs.TypingLaws.{permitted_within}
use Rattle.typing_at.specs.TypingAt.{phase_here, form_here, typing_here}

module _ (T : Tables) (R : Reading) (c : ℕ) where
  -- form q is accepted at c exactly where it fails there in no phase
  pub form_accepted : (q : ℕ) → (form_here T R c q ≡ Ok tt) ↔ ((phase : ℕ) → phase < phases → fails_by T R c phase q ≡ false)
  form_accepted q = (
    λ e phase h.
        if_accepted (fails_by T R c phase q) (fault_refusal T R q phase c)
        (first_accepted (phase_here T R c q) phases 0 e phase (omega arith) (omega arith)),
    λ f. accepted_first (phase_here T R c q) phases 0 (λ phase l h. accepted_if (fault_refusal T R q phase c) (f phase (omega arith))),
  )

  -- nothing is refused at c exactly where no form fails there
  pub here_accepted : (typing_here T R c ≡ Ok tt) ↔ ((q phase : ℕ) → q < query_count T → phase < phases → fails_by T R c phase q ≡ false)
  unfolding typing_here
  here_accepted = (
    λ e q phase h. (form_accepted q).0 (first_accepted (form_here T R c) (query_count T) 0 e q (omega arith) (omega arith)) phase,
    λ f. accepted_first (form_here T R c) (query_count T) 0 (λ q l h. (form_accepted q).1 (λ phase. f q phase (omega arith))),
  )

  -- nothing is refused at a configuration that is not permitted
  pub nothing_here : permitted T c ≡ false → typing_here T R c ≡ Ok tt
  nothing_here e =
      here_accepted.1
      (λ q phase h n. fails_none T R c phase q ((holds_where T c q phase).1 (λ r. absurd (false≢true (sym e ∙ reached-permitted T c q r)))))

-- at the configuration that the typing check names, that configuration alone gives the same refusal
pub fault_here : {T : Tables} {R : Reading} {r : Refusal} → TypingFault T R r → typing_here T R r.configuration ≡ Err r
unfolding typing_here
fault_here {T} {R} {r} f =
    let c = r.configuration in
    let l = permitted_within T c f.permits in
    let h = f.inside in
    let n = f.is_phase in
    refused_first (form_here T R c) (query_count T) 0 r.place r (omega arith) (omega arith)
    (λ q a b. (form_accepted T R c q).1 (λ phase m. f.lower_forms q phase c b m l))
    (refused_first (phase_here T R c r.place) phases 0 f.phase r (omega arith) (omega arith)
    (λ phase a b. accepted_if (fault_refusal T R r.place phase c) (f.lower_phases phase c b l))
    (ap (λ (t : Bool). refuse_if t (fault_refusal T R r.place f.phase c)) f.failing
    ∙ ap₂ (λ (n i : ℕ). Err (refusal n r.place i c)) (sym f.numbered) (sym f.item_of)))
