-- The typing check from the rows of the configurations at which each form fails: it names the lowest form whose row is not empty, and the
-- lowest configuration of that row, at which it answers as at that configuration alone.
use Rattle.std.specs.Prelude.{Some, None, Ok}
use Prim.Native.Nat.{ℕ, zero, suc, ◌≤◌, ◌<◌}
use mathlib.Core.Path.{◌≡◌, refl, sym, ap, ◌∙◌}
use mathlib.Core.Bool.{Bool, true, false, cond, not, not-not, false≢true}
use mathlib.Core.List.{List}
use native.Mathlib.Omega.{arith}
use lib.Pow.{pow_mono}
use Rattle.sets.specs.Search.{lowest, is_found, some_below, First}
use Rattle.sets.specs.Rows.{row_in, row_is_empty, row_lowest, RowsAre}
use Rattle.sets.proofs.SearchLaws.{lowest_nothing, lowest_at, some_none, some_at}
use Rattle.sets.proofs.RowLaws.{empty_row_of, lowest-row_of}
use Rattle.report.specs.Tables.{Tables, query_count}
use Rattle.report.specs.Expressions.{configurations, permitted}
use Rattle.report.specs.Readings.{fails_by}
use Rattle.report.specs.Checks.{fault_refusal, typing_check}
use Rattle.report.specs.Formed.{Formed}
use Rattle.report.specs.TypingFaults.{TypingFault}
use Rattle.report.specs.declared.Reading.{Reading}
use Rattle.report.proofs.TypingLaws.{fails_permitted, typing_accepted, typing_refused}
use Rattle.fault_rows.specs.FaultRows.{fails_at, failing_row}
use Rattle.typing_at.specs.TypingAt.{typing_here}
use Rattle.typing_at.proofs.AnswerLaws.{fault_here}
use Rattle.typing.specs.Typed.{rowed}

-- Form q fails at c in this phase, at no configuration in an earlier one, and at none lower in this
record Failing (T : Tables) (R : Reading) (q c : ℕ) : Type 0 where
  phase : ℕ
  is_phase : phase < 2
  lowest_in : First (λ d. fails_by T R d phase q) 1024 c
  earlier : (p d : ℕ) → p < phase → d < configurations T → fails_by T R d p q ≡ false

module _ (T : Tables) (R : Reading) (q : ℕ) where
  -- a form that fails at no configuration in its first phase that fails at any, fails in none
  none_fails : some_below (fails_at T R q) 1024 ≡ false → configurations T ≤ 1024 → (phase c : ℕ) → phase < 2 → c < configurations T
      → fails_by T R c phase q ≡ false
  none_fails e few = go (some_below (λ d. fails_by T R d 0 q) (configurations T)) refl
    where
      go : (t : Bool) → some_below (λ d. fails_by T R d 0 q) (configurations T) ≡ t → (phase c : ℕ) → phase < 2 → c < configurations T
          → fails_by T R c phase q ≡ false
      go true s phase c n h =
          let f = some_at (λ d. fails_by T R d 0 q) (configurations T) s in
          absurd
          (false≢true
          (sym (some_none (fails_at T R q) 1024 e f.0 (omega (arith, f.1)))
          ∙ ap (λ (t : Bool). cond t (fails_by T R f.0 0 q) (fails_by T R f.0 1 q)) s ∙ f.2))
      go false s zero c n h = some_none (λ d. fails_by T R d 0 q) (configurations T) s c h
      go false s (suc zero) c n h =
          sym (ap (λ (t : Bool). cond t (fails_by T R c 0 q) (fails_by T R c 1 q)) s) ∙ some_none (fails_at T R q) 1024 e c (omega arith)
      go false s (suc (suc phase)) c n h = absurd (omega arith)

  -- where it fails at some, the lowest is that of one phase
  some_fails : {c : ℕ} → First (fails_at T R q) 1024 c → Failing T R q c
  some_fails {c} f = go (some_below (λ d. fails_by T R d 0 q) (configurations T)) refl
    where
      here : (phase : ℕ) → ((d : ℕ) → fails_at T R q d ≡ fails_by T R d phase q) → First (λ d. fails_by T R d phase q) 1024 c
      here phase same = record { below = f.below; holds = sym (same c) ∙ f.holds; before = λ d l. sym (same d) ∙ f.before d l }

      go : (t : Bool) → some_below (λ d. fails_by T R d 0 q) (configurations T) ≡ t → Failing T R q c
      go true s = record {
        phase = 0;
        is_phase = omega arith;
        lowest_in = here 0 (λ d. ap (λ (t : Bool). cond t (fails_by T R d 0 q) (fails_by T R d 1 q)) s);
        earlier = λ p d n. absurd (omega arith);
      }
      go false s = record {
        phase = 1;
        is_phase = omega arith;
        lowest_in = here 1 (λ d. ap (λ (t : Bool). cond t (fails_by T R d 0 q) (fails_by T R d 1 q)) s);
        earlier = λ p d n h. ap (λ (i : ℕ). fails_by T R d i q) (omega arith) ∙ some_none (λ d. fails_by T R d 0 q) (configurations T) s d h;
      }

module _ {T : Tables} (F : Formed T) (R : Reading) {rows : List ℕ} (A : RowsAre 16 (query_count T) (failing_row T R) rows) where
  -- a row is not empty where its form fails at some configuration
  rowed_fails : (q : ℕ) → q < query_count T → rowed rows q ≡ some_below (fails_at T R q) 1024
  rowed_fails q h =
      ap (λ (r : List ℕ). not (row_is_empty 16 r)) (A.each q h) ∙ ap not (empty_row_of 16 (fails_at T R q))
      ∙ not-not (some_below (fails_at T R q) 1024)

  -- a form whose row is empty fails at none
  empty_keeps : (q phase c : ℕ) → q < query_count T → rowed rows q ≡ false → phase < 2 → c < configurations T → fails_by T R c phase q ≡ false
  empty_keeps q phase c h e = none_fails T R q (sym (rowed_fails q h) ∙ e) (pow_mono {j = 10} F.few) phase c

  -- where every row is empty the check accepts
  pub rows_accepted : lowest (rowed rows) (query_count T) ≡ None → typing_check T R ≡ Ok tt
  rows_accepted e =
      (typing_accepted T R).1 (λ c q phase l h n. empty_keeps q phase c h (lowest_nothing (rowed rows) (query_count T) e q h) n l)

  module _ {q : ℕ} (e : lowest (rowed rows) (query_count T) ≡ Some q) where
    lowest_form : First (rowed rows) (query_count T) q
    lowest_form = lowest_at (rowed rows) (query_count T) q e

    pub form_in : q < query_count T
    form_in = lowest_form.below

    -- the configurations of the lowest row that is not empty are those at which its form fails
    row_lowest_lem : row_lowest 16 (row_in 16 rows q) ≡ lowest (fails_at T R q) 1024
    row_lowest_lem = ap (row_lowest 16) (A.each q form_in) ∙ lowest-row_of 16 (fails_at T R q)

    -- it has a lowest configuration
    pub row_some : row_lowest 16 (row_in 16 rows q) ≡ None → ⊥
    row_some n =
        let s : true ≡ false = sym lowest_form.holds ∙ rowed_fails q form_in ∙ ap is_found (sym row_lowest_lem ∙ n) in
        let z : ◌≡◌ {A = ℕ} 0 1 = cc in
        omega arith

    module _ {c : ℕ} (f : row_lowest 16 (row_in 16 rows q) ≡ Some c) where
      failing : Failing T R q c
      failing = some_fails T R q (lowest_at (fails_at T R q) 1024 c (sym row_lowest_lem ∙ f))

      pub configuration_permitted : permitted T c ≡ true
      configuration_permitted = fails_permitted T R c failing.phase q failing.lowest_in.holds

      -- this form and this configuration are those that the check names
      rows_fault : TypingFault T R (fault_refusal T R q failing.phase c)
      rows_fault = record {
        inside = form_in;
        permits = configuration_permitted;
        phase = failing.phase;
        is_phase = failing.is_phase;
        failing = failing.lowest_in.holds;
        numbered = refl;
        item_of = refl;
        lower_forms = λ p phase d l. empty_keeps p phase d (let h = form_in in omega arith) (lowest_form.before p l);
        lower_phases = failing.earlier;
        lower_configurations = failing.lowest_in.before;
      }

      -- so its answer is that at this configuration
      pub rows_refused : typing_here T R c ≡ typing_check T R
      rows_refused = fault_here rows_fault ∙ sym ((typing_refused T R (fault_refusal T R q failing.phase c)).1 rows_fault)
