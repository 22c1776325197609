-- The permitted configurations as a row: what is empty there is nowhere, and what the expression rows say among them.
use Prim.Native.Nat.{ℕ, ◌/◌, ◌^◌, ◌<◌, ◌≤◌}
use mathlib.Core.Path.{◌≡◌, refl, sym, ap, ap₂, ◌∙◌}
use mathlib.Core.Bool.{Bool, true, false, not, ◌&&◌, and-true}
use mathlib.Core.List.{List}
use native.Mathlib.Omega.{arith}
use lib.Dec.{ltb}
use lib.ListN.{length}
use lib.Pow.{pow_mono}
use Rattle.sets.specs.Rows.{row_of, row_in, row_intersect, row_is_empty, within}
use Rattle.sets.proofs.SearchLaws.{some_narrow}
use Rattle.sets.proofs.RowLaws.{row_of_same, within_out, intersect_row_of, empty_row_of}
use Rattle.report.specs.Tables.{Tables, expression_count}
use Rattle.report.specs.Expressions.{permitted}
use Rattle.report.specs.Typing.{at}
use Rattle.report.specs.Verdicts.{refusal, refuse_if}
use Rattle.report.specs.Checks.{somewhere, model_check}
use Rattle.report.specs.Formed.{Formed}
use Rattle.expression_rows.specs.ExpressionRows.{TruthFilled}

-- the permitted configurations at which the test holds
abbrev pub permitted_row : Tables → (ℕ → Bool) → List ℕ
permitted_row T test = row_of 16 (λ c. permitted T c && test c)

module _ (T : Tables) where
  pub permitted_out : (c : ℕ) → 2 ^ T.features ≤ c → permitted T c ≡ false
  unfolding permitted
  permitted_out = within_out T.features (λ c. T.truth c T.model)

  -- that row is empty exactly where the test holds nowhere
  pub somewhere_row : T.features ≤ 10 → (test : ℕ → Bool) → row_is_empty 16 (permitted_row T test) ≡ not (somewhere T test)
  somewhere_row few test =
      empty_row_of 16 (λ c. permitted T c && test c)
      ∙ ap not
      (some_narrow (λ c. permitted T c && test c) (2 ^ T.features) 1024 (pow_mono few)
      (λ k l. ap (λ (t : Bool). t && test k) (permitted_out k l)))

  -- all of them
  pub permitted_all : row_of 16 (permitted T) ≡ permitted_row T (λ c. true)
  permitted_all = row_of_same 16 (permitted T) (λ c. permitted T c && true) (λ c h. sym (and-true (permitted T c)))

  -- those that the row of another test has too
  pub meet_within : (p q : ℕ → Bool) → row_intersect 16 (permitted_row T p) (row_of 16 (within T.features q)) ≡ permitted_row T (λ c. p c && q c)
  unfolding permitted
  meet_within p q =
      intersect_row_of 16 (λ c. permitted T c && p c) (within T.features q)
      ∙ row_of_same 16 _ _ (λ c h. go (ltb c (2 ^ T.features)) (T.truth c T.model) (p c) (q c))
    where
      go : (t m a b : Bool) → (((t && m) && a) && (t && b)) ≡ ((t && m) && (a && b))
      go true true a b = refl
      go true false a b = refl
      go false m a b = refl

-- check 12 of the permitted row
pub model_check_lem : {T : Tables} → Formed T → {row : List ℕ} → row ≡ row_of 16 (permitted T)
    → refuse_if (row_is_empty 16 row) (refusal 12 0 0 0) ≡ model_check T
model_check_lem {T} F e =
    ap (λ (b : Bool). refuse_if b (refusal 12 0 0 0)) (ap (row_is_empty 16) (e ∙ permitted_all T) ∙ somewhere_row T F.few (λ c. true))

module _ {T : Tables} (F : Formed T) {rows : List ℕ} (L : TruthFilled T rows) where
  -- each expression has its row
  pub row_in_lem : {e : ℕ} → e < expression_count T → e < length rows / 16
  row_in_lem h = let m = L.room in omega arith

  -- the permitted configurations at which the test holds and expression e as well
  pub meet_row : {row : List ℕ} (p : ℕ → Bool) → row ≡ permitted_row T p → (e : ℕ) → e < expression_count T
      → row_intersect 16 row (row_in 16 rows e) ≡ permitted_row T (λ c. p c && at T c e)
  meet_row p is e h = ap₂ (row_intersect 16) is (L.each e h) ∙ meet_within T p (λ c. at T c e)

  -- the row of the model is that of the permitted configurations
  module _ {model : ℕ} (number : model ≡ T.model) where
    pub model_row : row_in 16 rows model ≡ row_of 16 (permitted T)
    unfolding permitted
    model_row = ap (row_in 16 rows) number ∙ L.each T.model F.model_in
