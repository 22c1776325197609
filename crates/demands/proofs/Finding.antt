-- Wish 1, of the call `find`: each theorem takes what its promise says (`Finds` in finding/specs/Finding), for every set of tables T, reading and wanted
-- set. The terms are those of Demands, and those of specs/FoundConfiguration.
use Rattle.std.specs.Prelude.{Option, Some, None, Ok, Err}
use Prim.Native.Nat.{ℕ, ◌^◌, ◌≤◌, ◌<◌}
use mathlib.Core.Path.{◌≡◌, refl, sym, ap, ap₂, ◌∙◌}
use mathlib.Core.Bool.{Bool, true, false, ◌&&◌, and-eq-true_iff, false≢true}
use mathlib.Core.List.{List}
use mathlib.Core.Logic.{◌↔◌}
use native.Mathlib.Omega.{arith}
use Rattle.sets.specs.Bits.{bit, subset, has_from}
use Rattle.sets.proofs.SearchLaws.{lowest_nothing, nothing_lowest, lowest_at, at_lowest}
use Rattle.sets.proofs.BitLaws.{from_member}
use Rattle.report.specs.Tables.{Tables, kind_of, report}
use Rattle.report.specs.Expressions.{configurations, permitted}
use Rattle.report.specs.Typing.{set_of}
use Rattle.report.specs.ColumnRows.{shown}
use Rattle.report.specs.Rules.{Rules}
use Rattle.report.specs.PlainAlgebra.{passes}
use Rattle.report.specs.ConfiguredReport.{configured_report, configured_schema}
use Rattle.report.specs.Verdicts.{Verdict, refusal, refuse_if, ◌gives◌, Foremost}
use Rattle.report.specs.Checks.{is_early, is_typing_fault}
use Rattle.report.specs.Calls.{whole, conditions, answer, Sound, GetsAsFarAsTyping, OwnNumbers}
use Rattle.report.specs.TypingFaults.{Broken, Named}
use Rattle.report.specs.GivenDemands.{PassesThroughout}
use Rattle.report.specs.declared.Refusal.{Refusal}
use Rattle.report.specs.declared.Reading.{Reading}
use Rattle.report.proofs.VerdictLaws.{accepted_not_refused, then_next}
use Rattle.report.proofs.FirstFault.{first_none, first_one}
use Rattle.report.proofs.CallLaws.{given_answer, own_gets}
use Rattle.report.proofs.RulesMembers.{subset_members}
use Rattle.report.proofs.ReachLaws.{reached-report}
use Rattle.report.proofs.RulesLaws.{rules_sets}
use Rattle.report.proofs.TypingLaws.{permitted_within}
use Rattle.report.proofs.Refusing.{own_early}
use Rattle.report.proofs.WrittenAccepted.{called_sound, called_typed, called_formed, called_passes, called_columns}
use Rattle.checking.specs.Promises.{Checks}
use Rattle.finding.specs.Finding.{FindAnswer, finding, has_wanted, lowest_wanted, found_answer, Finds, is_find_fault}
use Rattle.demands.specs.FoundConfiguration.{columns_at, HoldsAll, LowestWith, NoneWith}
use Rattle.demands.proofs.Demands.{call_foremost, found_afterwards, call_refuses, call_names, call_never}

-- ---- the search, in sets that are the report's at each permitted configuration

module _ (T : Tables) (wanted : ℕ) {set : ℕ → ℕ} (same : (c : ℕ) → permitted T c ≡ true → set_of T c (report T) ≡ set c) where
  has_parts : (c : ℕ) → has_wanted T wanted c ≡ true → (permitted T c ≡ true) × HoldsAll set wanted c
  has_parts c e =
      let p = (and-eq-true_iff (permitted T c) (subset wanted (set_of T c (report T)))).0 e in
      (p.0, (subset_members wanted (set c)).0 (ap (subset wanted) (sym (same c p.0)) ∙ p.1))

  parts_has : (c : ℕ) → permitted T c ≡ true → HoldsAll set wanted c → has_wanted T wanted c ≡ true
  parts_has c p h = ap₂ ◌&&◌ p (ap (subset wanted) (same c p) ∙ (subset_members wanted (set c)).1 h)

  lacks : (c : ℕ) → (permitted T c ≡ true → HoldsAll set wanted c → ⊥) → has_wanted T wanted c ≡ false
  lacks c n = go (has_wanted T wanted c) refl
    where
      go : (b : Bool) → has_wanted T wanted c ≡ b → b ≡ false
      go true e = let p = has_parts c e in absurd (n p.0 p.1)
      go false e = refl

  wanted_at : (c : ℕ) → (lowest_wanted T wanted ≡ Some c) ↔ LowestWith T set wanted c
  unfolding lowest_wanted
  wanted_at c = (
    λ e.
        let f = lowest_at (has_wanted T wanted) (configurations T) c e in
        let p = has_parts c f.holds in
        record { permits = p.0; holds = p.1; lower = λ d l q h. false≢true (sym (f.before d l) ∙ parts_has d q h) },
    λ f.
        at_lowest (has_wanted T wanted) (configurations T) c
        (record { below = permitted_within T c f.permits; holds = parts_has c f.permits f.holds; before = λ d l. lacks d (f.lower d l) }),
  )

  wanted_nowhere : (lowest_wanted T wanted ≡ None) ↔ NoneWith T set wanted
  unfolding lowest_wanted
  wanted_nowhere = (
    λ e d q h. false≢true (sym (lowest_nothing (has_wanted T wanted) (configurations T) e d (permitted_within T d q)) ∙ parts_has d q h),
    λ n. nothing_lowest (has_wanted T wanted) (configurations T) (λ d l. lacks d (n d)),
  )

-- ---- the answer's parts

at_parts : {c : ℕ} (v : Verdict) (f : Option ℕ) → Ok (Some c) ≡ found_answer v f → (v ≡ Ok tt) × (f ≡ Some c)
at_parts (Ok tt) (Some d) e = (refl, cc)
at_parts (Ok tt) None e = absurd (let z : ◌≡◌ {A = ℕ} 0 1 = cc in omega arith)
at_parts (Err r) f e = absurd (let z : ◌≡◌ {A = ℕ} 0 1 = cc in omega arith)

none_parts : (v : Verdict) (f : Option ℕ) → (Ok None) ≡ found_answer v f → (v ≡ Ok tt) × (f ≡ None)
none_parts (Ok tt) (Some d) e = absurd (let z : ◌≡◌ {A = ℕ} 0 1 = cc in omega arith)
none_parts (Ok tt) None e = (refl, refl)
none_parts (Err r) f e = absurd (let z : ◌≡◌ {A = ℕ} 0 1 = cc in omega arith)

refused_part : {x : Refusal} (v : Verdict) (f : Option ℕ) → Err x ≡ found_answer v f → v ≡ Err x
refused_part (Ok tt) (Some d) e = absurd (let z : ◌≡◌ {A = ℕ} 0 1 = cc in omega arith)
refused_part (Ok tt) None e = absurd (let z : ◌≡◌ {A = ℕ} 0 1 = cc in omega arith)
refused_part (Err r) f e = cc

module _ (T : Tables) (R : Reading) (wanted : ℕ) (r : FindAnswer) (finds : Finds T R wanted r) where
  abbrev verdict : Verdict
  verdict = answer T R (finding wanted)

  told_by : {v : Verdict} → verdict ≡ v → r ≡ found_answer v (lowest_wanted T wanted)
  told_by e = finds ∙ ap (λ (v : Verdict). found_answer v (lowest_wanted T wanted)) e

  at_answer : {c : ℕ} → r ≡ Ok (Some c) → (verdict ≡ Ok tt) × (lowest_wanted T wanted ≡ Some c)
  at_answer e = at_parts verdict (lowest_wanted T wanted) (sym e ∙ finds)

  none_answer : r ≡ Ok None → (verdict ≡ Ok tt) × (lowest_wanted T wanted ≡ None)
  none_answer e = none_parts verdict (lowest_wanted T wanted) (sym e ∙ finds)

  -- ---- demand 1: it is refused exactly by the first of its conditions that hold

  pub find_says : (x : Refusal) → (r ≡ Err x) ↔ (verdict ≡ Err x)
  find_says x = (λ e. refused_part verdict (lowest_wanted T wanted) (sym e ∙ finds), λ e. told_by e)

  pub find_foremost : (x : Refusal) → (r ≡ Err x) ↔ Foremost (conditions T R (finding wanted)) x
  find_foremost = call_foremost T R (finding wanted) Err find_says

  -- ---- "return the lowest permitted configuration whose set holds them all, or none when no permitted configuration has them"

  -- of sets that are the report's wherever the call accepts
  module _ {set : ℕ → ℕ} (same : verdict ≡ Ok tt → (c : ℕ) → permitted T c ≡ true → set_of T c (report T) ≡ set c) where
    found_in : {c : ℕ} → r ≡ Ok (Some c) → LowestWith T set wanted c
    found_in {c} e = let p = at_answer e in (wanted_at T wanted (same p.0) c).0 p.1

    none_in : r ≡ Ok None → NoneWith T set wanted
    none_in e = let p = none_answer e in (wanted_nowhere T wanted (same p.0)).0 p.1

  configured_set : verdict ≡ Ok tt → (c : ℕ) → permitted T c ≡ true → set_of T c (report T) ≡ columns_at T R c
  configured_set e c p = sym (called_columns T R (finding wanted) e c p)

  -- found: c is permitted, the configured report at c passes the plain rules and its columns hold every wanted attribute, and at no lower permitted
  -- configuration do they
  pub find_found : {c : ℕ} → r ≡ Ok (Some c)
      → (passes (kind_of T) (configured_schema T c) (configured_report T c R) ≡ true) × LowestWith T (columns_at T R) wanted c
  find_found {c} e = let l = found_in configured_set e in (called_passes T R (finding wanted) (at_answer e).0 c l.permits, l)

  -- none: at no permitted configuration do they
  pub find_none : r ≡ Ok None → NoneWith T (columns_at T R) wanted
  find_none = none_in configured_set

  -- and unless it is refused, it answers so exactly then
  module _ (answered : (x : Refusal) → r ≡ Err x → ⊥) where
    accepted : verdict ≡ Ok tt
    accepted = go verdict refl
      where
        go : (v : Verdict) → verdict ≡ v → v ≡ Ok tt
        go (Ok tt) e = refl
        go (Err x) e = absurd (answered x (told_by e))

    pub found_exactly : (c : ℕ) → (r ≡ Ok (Some c)) ↔ LowestWith T (columns_at T R) wanted c
    found_exactly c = (λ e. (find_found e).1, λ l. finds ∙ ap₂ found_answer accepted ((wanted_at T wanted (configured_set accepted) c).1 l))

    pub none_exactly : (r ≡ Ok None) ↔ NoneWith T (columns_at T R) wanted
    none_exactly = (find_none, λ n. finds ∙ ap₂ found_answer accepted ((wanted_nowhere T wanted (configured_set accepted)).1 n))

  -- the same of any sets that keep the typing rules
  module _ (S : ℕ → ℕ → ℕ) (keep : (c : ℕ) → permitted T c ≡ true → Rules T c (S c)) where
    ruled_set : verdict ≡ Ok tt → (c : ℕ) → permitted T c ≡ true → set_of T c (report T) ≡ S c (report T)
    ruled_set e c p = let F = called_formed T R (finding wanted) e in sym (rules_sets F c p (S c) (keep c p) (report T) (reached-report F c p)).0

    pub find_ruled : {c : ℕ} → r ≡ Ok (Some c) → LowestWith T (λ d. S d (report T)) wanted c
    find_ruled = found_in ruled_set

    pub find_ruled_none : r ≡ Ok None → NoneWith T (λ d. S d (report T)) wanted
    find_ruled_none = none_in ruled_set

  -- ---- after a check that accepted, and left these rows

  module _ (rows rows' : List ℕ) (checks : Checks T R rows (Ok tt) rows') where
    -- the configuration is read off them
    shown-set : verdict ≡ Ok tt → (c : ℕ) → permitted T c ≡ true → set_of T c (report T) ≡ shown rows' c
    shown-set e c p = configured_set e c p ∙ (found_afterwards T R rows rows' checks c p).1

    pub find_shown : {c : ℕ} → r ≡ Ok (Some c) → LowestWith T (shown rows') wanted c
    find_shown = found_in shown-set

    pub find_shown_none : r ≡ Ok None → NoneWith T (shown rows') wanted
    find_shown_none = none_in shown-set

    -- "22 the set has a bit at or above m, checked after 19": it is refused for that alone
    find_late : verdict ≡ refuse_if (has_from wanted T.attributes) (refusal 22 0 0 0)
    find_late =
        given_answer (whole T) R (finding wanted) ((own_gets (whole T) (finding wanted) (called_sound T R _ (sym checks.0))).1 first_none)
        ∙ then_next (called_typed T R _ (sym checks.0)) ∙ first_one _ _

    pub find_refused : wanted < 2 ^ 64 → (x : Refusal)
        → (r ≡ Err x) ↔ ((x ≡ refusal 22 0 0 0) × ((a : ℕ) × (T.attributes ≤ a) × (bit wanted a ≡ true)))
    find_refused narrow x =
        let h = from_member 64 wanted T.attributes narrow in (
          λ e. go h.0 (has_from wanted T.attributes) refl (sym find_late ∙ (find_says x).0 e),
          λ q. told_by (find_late ∙ ap₂ refuse_if (h.1 q.1) (sym q.0)),
        )
      where
        go : {P : Type 0} → (has_from wanted T.attributes ≡ true → P) → (b : Bool) → has_from wanted T.attributes ≡ b
            → refuse_if b (refusal 22 0 0 0) ≡ Err x → (x ≡ refusal 22 0 0 0) × P
        go f true s e = (cc, f s)
        go f false s e = accepted_not_refused e refl

-- ---- demand 1: the early refusals say that the tables are not sound; and demand 3, of the call `find`

pub finding_own : (wanted : ℕ) → OwnNumbers (finding wanted)
unfolding ◌gives◌
finding_own wanted = record { early = λ T. refl; late = λ T. refl }

pub find_early : (T : Tables) (R : Reading) (wanted : ℕ)
    → ((r : Refusal) × (answer T R (finding wanted) ≡ Err r) × (is_early r.number ≡ true)) ↔ (Sound T → ⊥)
find_early T R wanted = own_early T R (finding_own wanted) first_none

module _ (T : Tables) (sound : Sound T) (wanted : ℕ) where
  -- on sound tables it gets as far as typing, whatever is wanted
  pub which_find : GetsAsFarAsTyping T (finding wanted)
  which_find = (own_gets (whole T) (finding wanted) sound).1 first_none

  find_fault : (R : Reading) {r : FindAnswer} → Finds T R wanted r → is_find_fault r ≡ is_typing_fault (answer T R (finding wanted))
  find_fault R finds = ap is_find_fault finds ∙ go (answer T R (finding wanted)) (lowest_wanted T wanted)
    where
      go : (v : Verdict) (f : Option ℕ) → is_find_fault (found_answer v f) ≡ is_typing_fault v
      go (Ok tt) (Some c) = refl
      go (Ok tt) None = refl
      go (Err x) f = refl

  -- in the strict reading
  module _ (r : FindAnswer) (finds : Finds T Reading.Strict wanted r) where
    pub find_refuses : (is_find_fault r ≡ true) ↔ Broken T
    find_refuses = call_refuses T (finding_own wanted) which_find (find_fault Reading.Strict finds)

    pub find_names : is_find_fault r ≡ true → (n : Named T (finding wanted)) × (r ≡ Err n.refuses)
    find_names e =
        let n = call_names T (finding_own wanted) which_find (find_fault Reading.Strict finds) e in
        (n, told_by T Reading.Strict wanted r finds n.answers)

    pub find_never : PassesThroughout T → is_find_fault r ≡ false
    find_never = call_never T (finding_own wanted) which_find (find_fault Reading.Strict finds)
