-- Wish 4, expression kind 6: of the definition; of a form of any tables; of every call, where the form does not fit; and of the calls, where the
-- feature model is of this kind. The terms are those of specs/ExactlyOne.
use Rattle.std.specs.Prelude.{Ok, Err, Some}
use Prim.Native.Nat.{ℕ, ◌+◌, ◌*◌, ◌-◌, ◌<◌, ◌≤◌}
use mathlib.Core.Path.{◌≡◌, refl, sym, ap, ap₂, ◌∙◌}
use mathlib.Core.Bool.{Bool, true, false, cond, ◌&&◌, not, and-eq-true_iff, false≢true}
use mathlib.Core.List.{List}
use mathlib.Core.Logic.{◌↔◌, ◌⊎◌, ⊎_elim}
use native.Mathlib.Nat.{add-zero}
use native.Mathlib.Omega.{arith}
use borrow.Author.Tests.{eqb-true, eq-eqb, lt-ltb, ltb-true}
use lib.Dec.{eqb, ltb}
use lib.ListN.{get_or, get_or-eq_default}
use Rattle.sets.specs.Search.{some_below}
use Rattle.sets.specs.Bits.{bit}
use Rattle.sets.specs.Rows.{row_of, row_bit, row_in, within}
use Rattle.sets.proofs.SearchLaws.{at_lowest, same_truth, count_sole, sole_count, count_some}
use Rattle.sets.proofs.RowLaws.{row_of_same}
use Rattle.report.specs.Tables.{Tables, word, expression_of, expression, expression_count, report}
use Rattle.report.specs.Expressions.{features_on, exactly_one_on, truth_of, holds, configurations, permitted}
use Rattle.report.specs.Typing.{set_of}
use Rattle.report.specs.FormChecks.{range_fits, expression_fits, expression_ok, head_check, lengths_check, expressions_check, tables_check, form_check}
use Rattle.report.specs.Verdicts.{refusal, refuse_at, or_else}
use Rattle.report.specs.Calls.{Call, answer}
use Rattle.report.specs.declared.Expression.{Expression}
use Rattle.report.specs.declared.Reading.{Reading}
use Rattle.report.proofs.ValueLaws.{value_step}
use Rattle.report.proofs.VerdictLaws.{both_accepted, then_next, then_refused}
use Rattle.report.proofs.CallLaws.{form_refused}
use Rattle.report.proofs.FormFacts.{expression_lower}
use Rattle.report.proofs.FitLaws.{expression_fits_lem}
use Rattle.report.proofs.TypingLaws.{row_shows}
use Rattle.checking.specs.Promises.{Checks}
use Rattle.configuring.specs.Promises.{Configured, form_counts, Configures}
use Rattle.finding.specs.Finding.{FindAnswer, Finds}
use Rattle.wall_page.specs.Page.{PageAnswer, PageWritten}
use Rattle.demands.specs.FoundConfiguration.{columns_at}
use Rattle.demands.specs.PageLines.{line_at, LineShows}
use Rattle.demands.specs.ExactlyOne.{IsKind6, OneOn, this_alone}
use Rattle.demands.proofs.Demands.{left_rows, written-permitted}
use Rattle.demands.proofs.Finding.{find_found}
use Rattle.demands.proofs.WallPage.{page_shows}

-- ---- the definition

-- a count equal to 1: one of the features is on, and never two
pub exactly_one : (first count c : ℕ) → (exactly_one_on first count c ≡ true) ↔ OneOn first count c
exactly_one first count c = (
  λ e.
      let r = count_sole (λ i. bit c (first + i)) count (eqb-true (features_on first count c) 1 e) in
      record {
        feature = first + r.0;
        from = omega arith;
        before = let b = r.1.below in omega arith;
        on = r.1.holds;
        alone =
            λ i l h t.
            let z = r.1.alone (i - first) (omega arith) (ap (bit c) (let s : first + (i - first) ≡ i = omega arith in s) ∙ t) in
            omega arith;
      },
  λ o.
      let inside = o.before in
      let s : first + (o.feature - first) ≡ o.feature = (let l = o.from in omega arith) in
      eq-eqb (features_on first count c) 1
      (sole_count (λ i. bit c (first + i)) count {k = o.feature - first}
      (record {
        below = omega arith;
        holds = ap (bit c) s ∙ o.on;
        alone = λ j l t. let z = o.alone (first + j) (omega arith) (omega arith) t in omega arith;
      })),
)

-- it is the disjunction, over the features, of "this one and no other"
pub exactly_disjunction : (first count c : ℕ) → exactly_one_on first count c ≡ some_below (this_alone first count c) count
exactly_disjunction first count c = count_some (λ i. bit c (first + i)) count

-- of one feature it is the feature
pub single_truth : (c a : ℕ) (at : ℕ → Bool) → truth_of c at (Expression.ExactlyOne a 1) ≡ truth_of c at (Expression.Feature a)
single_truth c a at = ap (λ (k : ℕ). eqb (0 + cond (bit c k) 1 0) 1) (add-zero a) ∙ go (bit c a)
  where
    go : (t : Bool) → eqb (0 + cond t 1 0) 1 ≡ t
    go true = refl
    go false = refl

pub single_fits : (n f a : ℕ) → expression_fits n f (Expression.ExactlyOne a 1) ≡ expression_fits n f (Expression.Feature a)
single_fits n f a =
    same_truth (expression_fits n f (Expression.ExactlyOne a 1)) (ltb a n)
    (λ e. let l = (expression_lower n f (Expression.ExactlyOne a 1) e).2 in lt-ltb a n (omega arith))
    (λ e. let l = ltb-true a n e in expression_fits_lem n f (Expression.ExactlyOne a 1) (omega arith, omega arith, omega arith))

-- a count outside 1 to 10 does not fit, nor does a range that passes n
out_of_range : (n first count : ℕ) → (count < 1) ⊎ (10 < count) ⊎ (n < first + count) → range_fits n first count ≡ false
out_of_range n first count out =
    same_truth (range_fits n first count) false
    (λ e.
    let l = expression_lower n 0 (Expression.ExactlyOne first count) e in
    absurd (⊎_elim (λ h. omega arith) (⊎_elim (λ h. omega arith) (λ h. omega arith)) out))
    (λ e. absurd (false≢true e))

-- a kind over 6 is unknown
unknown_kind : (kind a b : ℕ) → 7 ≤ kind → expression_of kind a b ≡ Expression.Malformed
unknown_kind kind a b h = rw get_or-eq_default

-- ---- one form

module _ {T : Tables} {e first count : ℕ} (K : IsKind6 T e first count) where
  kind_6 : expression T.expressions e ≡ Expression.ExactlyOne first count
  kind_6 =
      ap (λ (kind : ℕ). expression_of kind (word T.expressions 3 e 1) (word T.expressions 3 e 2)) K.kind
      ∙ ap₂ Expression.ExactlyOne K.first_is K.count_is

  -- "it holds when exactly one of them is on"
  pub kind_6_holds : (c : ℕ) → holds T.expressions c e ≡ exactly_one_on first count c
  unfolding holds
  kind_6_holds c =
      value_step false (λ at f. truth_of c at (expression T.expressions f)) e
      (λ f g h. ap (truth_of c f) kind_6 ∙ sym (ap (truth_of c g) kind_6))
      ∙ ap (truth_of c (holds T.expressions c)) kind_6

  -- where the tables' truth is that of table 0, so is its truth; and its row (`expression_row` in expression_rows/specs/ExpressionRows), of any number of
  -- words and for any number of features
  module _ (worked : T.truth ≡ holds T.expressions) where
    kind_6_truth : (c : ℕ) → T.truth c e ≡ exactly_one_on first count c
    kind_6_truth c = ap (λ (t : ℕ → ℕ → Bool). t c e) worked ∙ kind_6_holds c

    pub kind_6_row : (w n : ℕ) → row_of w (within n (λ c. T.truth c e)) ≡ row_of w (within n (exactly_one_on first count))
    kind_6_row w n = row_of_same w _ _ (λ c h. ap (λ (t : Bool). within n (λ d. t) c) (kind_6_truth c))

  -- it fits where its range does
  pub kind_6_fits : expression_ok T e ≡ range_fits T.features first count
  kind_6_fits = ap (expression_fits T.features e) kind_6

-- ---- "A count outside 1 to 10 or a range that passes n is refusal 3": of every call, where checks 1 and 2 find nothing and all lower forms fit

module _ (T : Tables) (R : Reading) (call : Call) (e : ℕ) (inside : e < expression_count T)
    (passed : or_else (head_check T.features T.attributes) (lengths_check T) ≡ Ok tt)
    (lower : (f : ℕ) → f < e → expression_ok T f ≡ true) where
  check_3 : expression_ok T e ≡ false → expressions_check T.features T.expressions ≡ Err (refusal 3 e 0 0)
  unfolding expressions_check
  check_3 t =
      ap (refuse_at (λ f. refusal 3 f 0 0))
      (at_lowest (λ f. not (expression_ok T f)) (expression_count T) e
      (record { below = inside; holds = ap not t; before = λ f l. ap not (lower f l) }))

  refused_3 : expression_ok T e ≡ false → answer T R call ≡ Err (refusal 3 e 0 0)
  unfolding form_check tables_check
  refused_3 t =
      let before = both_accepted (head_check T.features T.attributes) (lengths_check T) passed in
      form_refused T R call (then_refused _ (then_next before.0 ∙ then_next before.1 ∙ then_refused _ (check_3 t)))

  pub range_refused : (first count : ℕ) → IsKind6 T e first count → (count < 1) ⊎ (10 < count) ⊎ (T.features < first + count)
      → answer T R call ≡ Err (refusal 3 e 0 0)
  range_refused first count K out = refused_3 (kind_6_fits K ∙ out_of_range T.features first count out)

  -- and a kind over 6
  pub kind_refused : 7 ≤ get_or T.expressions (e * 3) 0 → answer T R call ≡ Err (refusal 3 e 0 0)
  kind_refused h =
      refused_3 (ap (expression_fits T.features e) (unknown_kind _ (word T.expressions 3 e 1) (word T.expressions 3 e 2) h))

-- ---- a feature model of this kind: "a quay is tidal, locked or floating, never two"

module _ (T : Tables) (worked : T.truth ≡ holds T.expressions) (first count : ℕ) (K : IsKind6 T T.model first count) where
  -- permitted are the configurations where exactly one is on
  pub model_permits : (c : ℕ) → (permitted T c ≡ true) ↔ ((c < configurations T) × OneOn first count c)
  unfolding permitted
  model_permits c = (
    λ p.
        let q = (and-eq-true_iff (ltb c (configurations T)) (T.truth c T.model)).0 p in
        (ltb-true c (configurations T) q.0, (exactly_one first count c).0 (sym (kind_6_truth K worked c) ∙ q.1)),
    λ o. ap₂ ◌&&◌ (lt-ltb c (configurations T) o.0) (kind_6_truth K worked c ∙ (exactly_one first count c).1 o.1),
  )

  module _ (R : Reading) where
    -- so after a check that accepted, a row has those alone
    pub model_rows : (rows rows' : List ℕ) → Checks T R rows (Ok tt) rows'
        → (a c : ℕ) → a < 64 → c < 1024 → row_bit (row_in 16 rows' a) c ≡ true → OneOn first count c
    model_rows rows rows' checks a c h l e =
        let has = sym (row_shows T a c h l) ∙ ap (λ (r : List ℕ). row_bit (row_in 16 r a) c) (sym (left_rows T R rows rows' checks)) ∙ e in
        ((model_permits c).0 ((and-eq-true_iff (permitted T c) (bit (set_of T c (report T)) a)).0 has).0).1

    -- a page has lines of those alone
    pub model_lines : (lent : List ℕ) (r : PageAnswer) (bytes : List ℕ) → PageWritten T R lent r bytes → {n : ℕ} → r ≡ Ok n
        → (k : ℕ) → k < n → (c : ℕ) × OneOn first count c × LineShows c (columns_at T R c) (line_at bytes k)
    model_lines lent r bytes written e k h =
        let page = page_shows T R lent r bytes written e in
        let c = page.all k h in
        (c.0, ((model_permits c.0).0 c.1).1, rw c.2 at (page.line c.0 c.1).1)

    -- one of those is found
    pub model_found : (wanted : ℕ) (r : FindAnswer) → Finds T R wanted r → {c : ℕ} → r ≡ Ok (Some c) → OneOn first count c
    model_found wanted r finds {c} e = ((model_permits c).0 (find_found T R wanted r finds e).1.permits).1

    -- and at those alone is the report configured
    pub model_written : (c : ℕ) (entries relations comparisons queries : List ℕ) (r : Configured) (entries' relations' comparisons' queries' : List ℕ)
        → Configures T R c entries relations comparisons queries r entries' relations' comparisons' queries'
        → (n1 n2 n3 n4 : ℕ) → r ≡ Ok (form_counts n1 n2 n3 n4) → OneOn first count c
    model_written c entries relations comparisons queries r entries' relations' comparisons' queries' configures n1 n2 n3 n4 e =
        ((model_permits c).0
        (written-permitted T R c entries relations comparisons queries r entries' relations' comparisons' queries' configures n1 n2 n3 n4 e)).1
