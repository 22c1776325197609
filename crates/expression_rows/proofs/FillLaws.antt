-- Laws of expression rows: how they are filled, bottom up.
use Prim.Native.Nat.{ℕ, ◌+◌, ◌*◌, ◌/◌, ◌^◌, ◌<◌, ◌≤◌}
use mathlib.Core.Path.{◌≡◌, refl, sym, ap, ap₂, ◌∙◌}
use mathlib.Core.Bool.{Bool, true, ◌&&◌}
use mathlib.Core.List.{List, ◌++◌}
use native.Mathlib.Omega.{arith}
use lib.Dec.{ltb}
use lib.ListN.{length, drop, length-append}
use Rattle.sets.specs.Lists.{concat}
use Rattle.sets.specs.Bits.{bit}
use Rattle.sets.specs.Rows.{row_of, row_in, row_join, row_intersect, row_minus, with_row, within}
use Rattle.sets.proofs.ListLaws.{concat-length}
use Rattle.sets.proofs.RowLaws.{row_of_same, row_of_row, within_all, none_within, join_within, intersect_row_of, intersect_within, complement_within}
use Rattle.sets.proofs.RowLaws.{row_in-concat, with_row_more}
use Rattle.report.specs.Tables.{Tables, expression, expression_count}
use Rattle.report.specs.Expressions.{exactly_one_on, truth_of, holds}
use Rattle.report.specs.Configuring.{written}
use Rattle.report.specs.FormChecks.{expression_fits, expressions_check, expression_ok}
use Rattle.report.specs.Formed.{Formed, ExpressionLower}
use Rattle.report.specs.declared.Expression.{Expression}
use Rattle.report.proofs.Formed.{all_fit, fit_all}
use Rattle.report.proofs.FormFacts.{expression_lower}
use Rattle.report.proofs.StepLaws.{holds_step}
use Rattle.expression_rows.specs.ExpressionRows.{expression_row, rows_of_truth, fresh_rows, ExpressionsFillable, ExpressionsFilled}
use Rattle.expression_rows.specs.RowRules.{step_row}

-- ---- one expression

-- what is lower than one form is lower than a later one
lower_more : (n m f g : ℕ) → n ≤ m → f ≤ g → (x : Expression) → ExpressionLower n f x → ExpressionLower m g x
lower_more n m f g h k Expression.Malformed l = l
lower_more n m f g h k Expression.False l = tt
lower_more n m f g h k Expression.True l = tt
lower_more n m f g h k (Expression.Feature a) l = omega arith
lower_more n m f g h k (Expression.Not a) l = omega arith
lower_more n m f g h k (Expression.And a b) l = omega arith
lower_more n m f g h k (Expression.Or a b) l = omega arith
lower_more n m f g h k (Expression.ExactlyOne a b) l = omega arith

-- what holds whatever the number of features, of the configurations of n
whole_row : (n : ℕ) (p : ℕ → Bool) → row_intersect 16 (row_of 16 (within n (λ c. true))) (row_of 16 p) ≡ row_of 16 (within n p)
whole_row n p =
    intersect_row_of 16 (within n (λ c. true)) p ∙ row_of_same 16 _ _ (λ c h. ap (λ (t : Bool). t && p c) (within_all n c))

module _ (n : ℕ) (expressions rows : List ℕ) (f : ℕ) (below : (e : ℕ) → e < f → row_in 16 rows e ≡ expression_row n (holds expressions) e) where
  -- the row of an expression whose operands are below f, where the rows of those are there
  step_truth : (x : Expression) → ExpressionLower n f x
      → step_row (row_of 16 (within n (λ c. true))) rows x ≡ row_of 16 (within n (λ c. truth_of c (holds expressions c) x))
  step_truth Expression.Malformed l = absurd l
  step_truth Expression.False l = none_within 16 n
  step_truth Expression.True l = refl
  step_truth (Expression.Feature a) l = whole_row n (λ c. bit c a)
  step_truth (Expression.Not a) l =
      ap (row_minus 16 (row_of 16 (within n (λ c. true)))) (below a l) ∙ complement_within 16 n (λ c. holds expressions c a)
  step_truth (Expression.And a b) l =
      ap₂ (row_intersect 16) (below a l.0) (below b l.1)
      ∙ intersect_within 16 n (λ c. holds expressions c a) (λ c. holds expressions c b)
  step_truth (Expression.Or a b) l =
      ap₂ (row_join 16) (below a l.0) (below b l.1) ∙ join_within 16 n (λ c. holds expressions c a) (λ c. holds expressions c b)
  step_truth (Expression.ExactlyOne a b) l = whole_row n (exactly_one_on a b)

  step_row_lem : ExpressionLower n f (expression expressions f)
      → step_row (row_of 16 (within n (λ c. true))) rows (expression expressions f) ≡ expression_row n (holds expressions) f
  step_row_lem l =
      step_truth (expression expressions f) l
      ∙ row_of_same 16 _ _ (λ c h. ap (λ (t : Bool). ltb c (2 ^ n) && t) (sym (holds_step n expressions c f l)))

-- ---- the loop that fills them

-- the rows of the expressions below f stand over `lent`
pub record ExpressionsFilling (n : ℕ) (expressions lent rows : List ℕ) (f : ℕ) : Type 0 where
  pub most : f ≤ length expressions / 3
  pub size : length rows ≡ length lent
  pub filled : rows ≡ concat f (expression_row n (holds expressions)) ++ drop (f * 16) lent

wide : (n : ℕ) (expressions : List ℕ) (count e : ℕ) → e < count → length (expression_row n (holds expressions) e) ≡ 16
wide n expressions count e h = (row_of_row 16 (within n (λ c. holds expressions c e))).size

module _ (n : ℕ) (expressions lent : List ℕ) where
  pub filling_none : ExpressionsFilling n expressions lent lent 0
  filling_none = record { most = omega arith; size = refl; filled = refl }

  module _ (A : ExpressionsFillable n expressions lent) {rows : List ℕ} {f : ℕ} (S : ExpressionsFilling n expressions lent rows f) where
    module _ (h : f < length expressions / 3) where
      fit_lower : ExpressionLower n f (expression expressions f)
      unfolding expressions_check
      fit_lower =
          expression_lower n f (expression expressions f)
          (all_fit _ (λ k. expression_fits n k (expression expressions k)) (length expressions / 3) A.checked f h)

      -- what the next row is made of lies below it
      pub filling_lower : {x : Expression} → x ≡ expression expressions f → ExpressionLower 10 (length rows / 16) x
      filling_lower e =
          rw e
          (let m = A.room in let s = S.size in
          lower_more n 10 f (length rows / 16) A.few (omega arith) (expression expressions f) fit_lower)

      pub filling_more : {x : Expression} {full row after : List ℕ} → full ≡ row_of 16 (within n (λ c. true)) → x ≡ expression expressions f
          → row ≡ step_row full rows x → length after ≡ length rows → after ≡ with_row 16 rows f row
          → ExpressionsFilling n expressions lent after (f + 1)
      filling_more {x} {full} {row} all e step same stored = record {
        most = omega arith;
        size = same ∙ S.size;
        filled =
            stored ∙ ap₂ (λ (l r : List ℕ). with_row 16 l f r) S.filled is_row
            ∙ with_row_more 16 (expression_row n (holds expressions)) f lent (wide n expressions f);
      }
        where
          is_row : row ≡ expression_row n (holds expressions) f
          is_row =
              step ∙ ap₂ (λ (l : List ℕ) (y : Expression). step_row l rows y) all e
              ∙ step_row_lem n expressions rows f
              (λ i l. ap (λ (s : List ℕ). row_in 16 s i) S.filled
              ∙ row_in-concat 16 f (expression_row n (holds expressions)) (drop (f * 16) lent) (wide n expressions f) i l) fit_lower

    pub filling_all : length expressions / 3 ≤ f → rows ≡ written (fresh_rows n expressions) lent
    unfolding rows_of_truth
    filling_all h =
        let e : f ≡ length expressions / 3 = (let m = S.most in omega arith) in
        S.filled
        ∙ ap₂ (λ (k l : ℕ). concat k (expression_row n (holds expressions)) ++ drop l lent) e
        (ap (λ (k : ℕ). k * 16) e ∙ sym (concat-length (expression_row n (holds expressions)) 16 (length expressions / 3) (wide n expressions _)))

-- ---- for the caller

-- what the filling promises of the rows
pub filled : (n : ℕ) (truth : ℕ → ℕ → Bool) (count : ℕ) (lent : List ℕ) → count * 16 ≤ length lent
    → {rows : List ℕ} → rows ≡ written (rows_of_truth n truth count) lent → ExpressionsFilled n truth count rows
unfolding rows_of_truth
filled n truth count lent room e =
    let size = concat-length (expression_row n truth) 16 count wide_row in
    record {
      room = let l = ap length e ∙ length-append (rows_of_truth n truth count) _ in omega arith;
      each = λ k h. ap (λ (s : List ℕ). row_in 16 s k) e ∙ row_in-concat 16 count (expression_row n truth) _ wide_row k h;
    }
  where
    wide_row : (k : ℕ) → k < count → length (expression_row n truth k) ≡ 16
    wide_row k h = (row_of_row 16 (within n (λ c. truth c k))).size

-- tables that have passed the form checks may be filled
pub fillable : {T : Tables} → Formed T → (lent : List ℕ) → expression_count T * 16 ≤ length lent
    → ExpressionsFillable T.features T.expressions lent
unfolding expressions_check
fillable {T} F lent room = record { few = F.few; checked = fit_all _ (expression_ok T) (expression_count T) F.expressions_ok; room = room }
