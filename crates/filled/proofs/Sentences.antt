-- What the filled reading accepts and refuses, set against the strict one and against the plain rules, of the typing check.
use Rattle.std.specs.Prelude.{Ok, Err}
use Prim.Native.Nat.{ℕ, zero, suc, ◌<◌}
use mathlib.Core.Path.{◌≡◌, refl, sym, ap, ◌∙◌}
use mathlib.Core.Bool.{Bool, true, false, cond, ◌&&◌}
use mathlib.Core.Logic.{◌≢◌}
use mathlib.Core.List.{[], ◌∷◌}
use native.Mathlib.Omega.{arith}
use borrow.Author.Tests.{ne_eqb}
use lib.Dec.{eqb}
use Rattle.report.specs.Tables.{Tables, kind_of}
use Rattle.report.specs.Expressions.{permitted}
use Rattle.report.specs.Typing.{reached, faults_of, clashes_in, faults}
use Rattle.report.specs.PlainAlgebra.{passes}
use Rattle.report.specs.ConfiguredReport.{configured_report, configured_schema}
use Rattle.report.specs.Readings.{faults_by}
use Rattle.report.specs.Formed.{Formed}
use Rattle.report.specs.Checks.{fault_number, typing_check, is_one_of}
use Rattle.report.specs.TypingFaults.{TypingFault}
use Rattle.report.specs.declared.Query.{Query}
use Rattle.report.specs.declared.Reading.{Reading}
use Rattle.report.specs.declared.Refusal.{Refusal}
use Rattle.report.proofs.LeadLaws.{form_at}
use Rattle.report.proofs.ReadingLaws.{asks, faults_fewer, fails_by_lem, fails_strictly, fails_none}
use Rattle.report.proofs.TreeLaws.{reached-permitted}
use Rattle.report.proofs.FilledTrees.{node_keeps, filled_breaks}
use Rattle.report.proofs.TypingLaws.{typing_accepted, typing_passes, typing_refused}
use Rattle.report.proofs.Refusing.{report_breaks_lem}
use Rattle.filled.specs.FilledDemands.{PlainBreaks}

-- ---- "What the strict reading accepts, this one accepts with equal rows." The rows are one definition, `column_rows T`, in both readings
pub strict_accepts : (T : Tables) (R : Reading) → typing_check T Reading.Strict ≡ Ok tt → typing_check T R ≡ Ok tt
strict_accepts T R e = (typing_accepted T R).1 (λ c q phase h l n. fails_none T R c phase q ((typing_accepted T Reading.Strict).0 e c q phase h l n))

module _ {T : Tables} (F : Formed T) where
  -- ---- "the last sentence means the report configured strictly": no report that passes so at every permitted configuration is refused here
  pub never_refused : ((c : ℕ) → permitted T c ≡ true → passes (kind_of T) (configured_schema T c) (configured_report T c Reading.Strict) ≡ true)
      → (R : Reading) → typing_check T R ≡ Ok tt
  never_refused f R = strict_accepts T R ((typing_passes F).1 f)

  -- ---- "At a refusal's configuration a plain rule breaks: configured strictly for 15 and 17, else in this reading"; "the configuration named is still
  -- permitted"

  -- the form is a relation or a project exactly where the number is 15 or 17
  asks_number : (y : Query) → asks y ≡ is_one_of (15 ∷ 17 ∷ []) (fault_number 0 y)
  asks_number Query.Malformed = refl
  asks_number Query.Empty = refl
  asks_number (Query.Relation a) = refl
  asks_number (Query.Select a b) = refl
  asks_number (Query.Project a b) = refl
  asks_number (Query.Choice a b d) = refl
  asks_number (Query.Product a b) = refl
  asks_number (Query.Union a b) = refl
  asks_number (Query.Intersection a b) = refl

  clash_other : (c : ℕ) (y : Query) → clashes_in T c y ≢ 0 → asks y ≡ false
  clash_other c Query.Malformed n = refl
  clash_other c Query.Empty n = refl
  clash_other c (Query.Relation a) n = absurd (n refl)
  clash_other c (Query.Select a b) n = refl
  clash_other c (Query.Project a b) n = absurd (n refl)
  clash_other c (Query.Choice a b d) n = refl
  clash_other c (Query.Product a b) n = refl
  clash_other c (Query.Union a b) n = refl
  clash_other c (Query.Intersection a b) n = refl

  -- a form that fails in either phase, and is neither relation nor project, breaks its own node's rule
  own_breaks : (c phase q : ℕ) → phase < 2 → asks (form_at T q) ≡ false → faults T c phase q ≢ 0 → node_keeps F c q (form_at T q) ≡ false
  unfolding faults
  own_breaks c zero q h e n =
      ap (λ (t : Bool). eqb (cond t 0 (faults_of T c q (form_at T q))) 0 && eqb (clashes_in T c (form_at T q)) 0) e
      ∙ ap (λ (t : Bool). t && eqb (clashes_in T c (form_at T q)) 0) (ne_eqb (faults_of T c q (form_at T q)) 0 n)
  own_breaks c (suc zero) q h e n = go (eqb (cond (asks (form_at T q)) 0 (faults_of T c q (form_at T q))) 0)
    where
      go : (t : Bool) → (t && eqb (clashes_in T c (form_at T q)) 0) ≡ false
      go true = ne_eqb (clashes_in T c (form_at T q)) 0 n
      go false = refl
  own_breaks c (suc (suc phase)) q h e n = absurd (omega arith)

  pub refusal_breaks : (r : Refusal) → typing_check T Reading.Filled ≡ Err r → PlainBreaks T r
  unfolding faults
  refusal_breaks r e = record {
    permits = ok;
    strictly = λ u.
        report_breaks_lem F c f.phase r.place f.inside f.is_phase (fails_strictly T Reading.Filled c f.phase r.place f.failing);
    filled = λ u. filled_breaks F c r.place p.0 (breaks f.phase f.is_phase u f.numbered p.1);
  }
    where
      c : ℕ
      c = r.configuration

      f : TypingFault T Reading.Filled r
      f = (typing_refused T Reading.Filled r).0 e

      p : (reached T c r.place ≡ true) × (faults_by T Reading.Filled c f.phase r.place ≢ 0)
      p = (fails_by_lem T Reading.Filled c f.phase r.place).0 f.failing

      ok : permitted T c ≡ true
      ok = reached-permitted T c r.place p.0

      breaks : (phase : ℕ) → phase < 2 → is_one_of (15 ∷ 17 ∷ []) r.number ≡ false → r.number ≡ fault_number phase (form_at T r.place)
          → faults_by T Reading.Filled c phase r.place ≢ 0 → node_keeps F c r.place (form_at T r.place) ≡ false
      breaks zero h u n i =
          let o = asks_number (form_at T r.place) ∙ ap (is_one_of (15 ∷ 17 ∷ [])) (sym n) ∙ u in
          own_breaks c 0 r.place h o (λ z. i (faults_fewer T Reading.Filled c 0 r.place z))
      breaks (suc zero) h u n i =
          let m : faults T c 1 r.place ≢ 0 = λ z. i (faults_fewer T Reading.Filled c 1 r.place z) in
          own_breaks c 1 r.place h (clash_other c (form_at T r.place) m) m
      breaks (suc (suc phase)) h u n i = absurd (omega arith)
