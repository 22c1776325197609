-- The comparisons that configuring writes: each is a plain one of the source, its operands renumbered, and says what it said at c.
use Prim.Native.Nat.{ℕ, ◌*◌, ◌<◌, ◌≤◌}
use mathlib.Core.Path.{◌≡◌, refl, sym, ap, ap₂, subst, ◌∙◌}
use mathlib.Core.Bool.{true, false, not, false≢true}
use mathlib.Core.List.{List}
use native.Mathlib.Nat.{le_refl, zero-lt-suc}
use native.Mathlib.Omega.{arith}
use borrow.Author.Tests.{not-true}
use lib.ListN.{length, get_or}
use lib.Dec.{lit<}
use Rattle.sets.specs.Search.{count_below}
use Rattle.sets.proofs.SearchLaws.{nth, count_lt}
use Rattle.report.specs.Tables.{Tables, word, comparison_of, comparison, comparison_count, expression_count}
use Rattle.report.specs.Operands.{comparison_operands, is_choice, comparison_sides}
use Rattle.report.specs.Typing.{at, taken}
use Rattle.report.specs.Configuring.{target_of, comparison_target, comparison_kept, new_comparison, comparison_form_of, configured}
use Rattle.report.specs.PlainAlgebra.{PlainComparison}
use Rattle.report.specs.ConfiguredReport.{plain_comparison_of, plain_comparison_at}
use Rattle.report.specs.FormChecks.{is_kind, constant_kind, comparison_ok, constant_ok}
use Rattle.report.specs.Formed.{Formed, ComparisonLower, OperandsBelow}
use Rattle.report.specs.declared.Comparison.{Comparison}
use Rattle.report.specs.declared.Operands.{Operands}
use Rattle.report.specs.declared.Sides.{Sides}
use Rattle.report.specs.declared.Reading.{Reading}
use Rattle.report.proofs.ValueLaws.{strong}
use Rattle.report.proofs.FormFacts.{comparison_below}
use Rattle.report.proofs.FitLaws.{comparison_fits_lem}
use Rattle.report.proofs.FormedFacts.{comparison_at, comparison_operands_lem}
use Rattle.report.proofs.KeptForms.{forms_length, forms_count, first_word, form_word}
use Rattle.report.proofs.OperandLaws.{View, choice, plain, view, plain_target, choice_comparison}
use Rattle.report.proofs.StepLaws.{taken_below, comparison_target_in, plain_comparison_in, plain_comparison_step}

-- ---- one comparison

-- the operands of comparison f
abbrev operands_at : Tables → ℕ → Operands
operands_at T f = comparison_operands (comparison T.comparisons f)

module _ (T : Tables) (c : ℕ) (R : Reading) where
  -- what the words written for a comparison say: of a plain one that comparison, its operands renumbered. (Of a choice there are none to read.)
  abbrev pub renumbered_comparison : Comparison → Comparison
  renumbered_comparison x =
      comparison_of (get_or (comparison_form_of T c x) 0 0) (get_or (comparison_form_of T c x) 1 0) (get_or (comparison_form_of T c x) 2 0)
      (get_or (comparison_form_of T c x) 3 0) (get_or (comparison_form_of T c x) 4 0)

  -- for a plain one that stands in the table they are five
  five_words : (m e f : ℕ) (x : Comparison) → ComparisonLower m e f x → is_choice (comparison_operands x) ≡ false → length (comparison_form_of T c x) ≡ 5
  five_words m e f Comparison.Malformed l p = absurd l
  five_words m e f Comparison.Never l p = refl
  five_words m e f Comparison.Always l p = refl
  five_words m e f (Comparison.Constant o a b k) l p = refl
  five_words m e f (Comparison.Attribute o a b) l p = refl
  five_words m e f (Comparison.Not a) l p = refl
  five_words m e f (Comparison.And a b) l p = refl
  five_words m e f (Comparison.Or a b) l p = refl
  five_words m e f (Comparison.Choice a b d) l p = absurd (false≢true (sym p))

  -- a reference to f leads to a plain one, no higher
  record ComparisonLead (f t : ℕ) : Type 0 where
    low : t ≤ f
    is_kept : comparison_kept T c t ≡ true

-- ---- table 3 of accepted tables, and the one written

module _ {T : Tables} (F : Formed T) (c : ℕ) (R : Reading) where
  lead : (f : ℕ) → f < comparison_count T → ComparisonLead T c R f (comparison_target T c f)
  lead =
      strong (λ f. f < comparison_count T → ComparisonLead T c R f (comparison_target T c f))
      (λ f ih h. go f ih h (comparison_operands_lem F f h) (comparison_target_in F c f h) (view (operands_at T f)))
    where
      go : (f : ℕ) → ((k : ℕ) → k < f → k < comparison_count T → ComparisonLead T c R k (comparison_target T c k)) → f < comparison_count T
          → OperandsBelow f (operands_at T f) → comparison_target T c f ≡ target_of T c (comparison_target T c) f (operands_at T f)
          → View (operands_at T f) → ComparisonLead T c R f (comparison_target T c f)
      go f ih h b t (plain p) =
          rw (t ∙ plain_target T c (comparison_target T c) f (operands_at T f) p) (record { low = le_refl f; is_kept = ap not p })
      go f ih h b t (choice x y z e) =
          let k = taken_below (at T c x) (rw e at b) in
          let l = ih (taken T c x y z) k (omega arith) in
          rw (t ∙ ap (target_of T c (comparison_target T c) f) e) (record { low = let m = l.low in omega arith; is_kept = l.is_kept })

  -- the number of forms, and what each says
  wide : (f : ℕ) → f < comparison_count T → comparison_kept T c f ≡ true → length (comparison_form_of T c (comparison T.comparisons f)) ≡ 5
  wide f h k = five_words T c R _ _ f (comparison T.comparisons f) (comparison_at F f h) (not-true _ k)

  -- the table written
  abbrev block_of : ℕ → List ℕ
  block_of f = comparison_form_of T c (comparison T.comparisons f)

  pub comparisons_length : length (configured T c R).comparisons ≡ count_below (comparison_kept T c) (comparison_count T) * 5
  unfolding configured
  comparisons_length = forms_length (comparison_kept T c) block_of 5 (comparison_count T) wide (zero-lt-suc 4)

  pub comparisons_count : comparison_count (configured T c R) ≡ count_below (comparison_kept T c) (comparison_count T)
  unfolding configured
  comparisons_count = forms_count (comparison_kept T c) block_of 5 (comparison_count T) wide (zero-lt-suc 4)

  module _ (f : ℕ) (h : f < comparison_count T) (k : comparison_kept T c f ≡ true) where
    words_written : (j : ℕ) → j < 5 → word (configured T c R).comparisons 5 (count_below (comparison_kept T c) f) j ≡ get_or (block_of f) j 0
    unfolding configured
    words_written = form_word (comparison_kept T c) block_of 5 (comparison_count T) wide (zero-lt-suc 4) f h k

    kind_written : get_or (configured T c R).comparisons (count_below (comparison_kept T c) f * 5) 0 ≡ get_or (block_of f) 0 0
    unfolding configured
    kind_written = first_word (comparison_kept T c) block_of 5 (comparison_count T) wide (zero-lt-suc 4) f h k

    -- they are what stands in the table
    pub comparison_written : comparison (configured T c R).comparisons (count_below (comparison_kept T c) f)
        ≡ renumbered_comparison T c R (comparison T.comparisons f)
    comparison_written = λ i.
        comparison_of (kind_written i) (words_written 1 (lit< tt) i) (words_written 2 (lit< tt) i) (words_written 3 (lit< tt) i)
        (words_written 4 (lit< tt) i)

  -- ---- new numbers

  new_lower : (a f : ℕ) → f ≤ comparison_count T → a < f → new_comparison T c a < count_below (comparison_kept T c) f
  new_lower a f h l =
      let k = lead a (omega arith) in
      count_lt (comparison_kept T c) (comparison_target T c a) f (let m = k.low in omega arith) k.is_kept

  -- a reference to a comparison becomes one to a comparison that is written
  pub new_comparison_lem : (a : ℕ) → a < comparison_count T → new_comparison T c a < comparison_count (configured T c R)
  new_comparison_lem a h = let l = new_lower a (comparison_count T) (le_refl _) h in let e = comparisons_count in omega arith

  -- ---- what is written fits

  renumbered_lower : (f : ℕ) → f < comparison_count T → (x : Comparison) → is_choice (comparison_operands x) ≡ false
      → ComparisonLower T.attributes (expression_count T) f x
      → ComparisonLower T.attributes 1 (count_below (comparison_kept T c) f) (renumbered_comparison T c R x)
  renumbered_lower f h Comparison.Malformed p l = absurd l
  renumbered_lower f h Comparison.Never p l = tt
  renumbered_lower f h Comparison.Always p l = tt
  renumbered_lower f h (Comparison.Constant o a b k) p l = l
  renumbered_lower f h (Comparison.Attribute o a b) p l = l
  renumbered_lower f h (Comparison.Not a) p l = new_lower a f (omega arith) l
  renumbered_lower f h (Comparison.And a b) p l = (new_lower a f (omega arith) l.0, new_lower b f (omega arith) l.1)
  renumbered_lower f h (Comparison.Or a b) p l = (new_lower a f (omega arith) l.0, new_lower b f (omega arith) l.1)
  renumbered_lower f h (Comparison.Choice a b d) p l = absurd (false≢true (sym p))

  -- a form of the table written, by the form of the source that it was
  written_lower : (f : ℕ) → f < comparison_count T → comparison_kept T c f ≡ true
      → ComparisonLower T.attributes 1 (count_below (comparison_kept T c) f)
      (comparison (configured T c R).comparisons (count_below (comparison_kept T c) f))
  written_lower f h k = rw (comparison_written f h k) (renumbered_lower f h (comparison T.comparisons f) (not-true _ k) (comparison_at F f h))

  written_below : (f : ℕ) → f < comparison_count T → comparison_kept T c f ≡ true
      → OperandsBelow (count_below (comparison_kept T c) f) (operands_at (configured T c R) (count_below (comparison_kept T c) f))
  written_below f h k = comparison_below T.attributes 1 _ (comparison (configured T c R).comparisons _) (written_lower f h k)

  -- check 7 of the tables written
  pub comparisons_ok_lem : (k : ℕ) → k < comparison_count (configured T c R) → comparison_ok (configured T c R) k ≡ true
  unfolding configured
  comparisons_ok_lem k h =
      let n = nth (comparison_kept T c) (comparison_count T) k (let e = comparisons_count in omega arith) in
      subst (λ (x : ℕ). comparison_ok (configured T c R) x ≡ true) n.number
      (comparison_fits_lem T.attributes 1 _ (comparison (configured T c R).comparisons _) (written_lower n.old n.below n.passed))

  renumbered_sides : (x : Comparison) → is_choice (comparison_operands x) ≡ false → comparison_sides (renumbered_comparison T c R x) ≡ comparison_sides x
  renumbered_sides Comparison.Malformed p = refl
  renumbered_sides Comparison.Never p = refl
  renumbered_sides Comparison.Always p = refl
  renumbered_sides (Comparison.Constant o a b k) p = refl
  renumbered_sides (Comparison.Attribute o a b) p = refl
  renumbered_sides (Comparison.Not a) p = refl
  renumbered_sides (Comparison.And a b) p = refl
  renumbered_sides (Comparison.Or a b) p = refl
  renumbered_sides (Comparison.Choice a b d) p = absurd (false≢true (sym p))

  -- check 24 of their constants
  pub constants_ok_lem : (k : ℕ) → k < comparison_count (configured T c R) → constant_ok (configured T c R) k ≡ true
  constants_ok_lem k h =
      let n = nth (comparison_kept T c) (comparison_count T) k (let e = comparisons_count in omega arith) in
      subst (λ (x : ℕ). constant_ok (configured T c R) x ≡ true) n.number
      (ap (λ (x : Comparison). is_kind (constant_kind (comparison_sides x))) (comparison_written n.old n.below n.passed)
      ∙ ap (λ (s : Sides). is_kind (constant_kind s)) (renumbered_sides (comparison T.comparisons n.old) (not-true _ n.passed))
      ∙ F.constants_ok n.old n.below)

  -- ---- and says what it said

  abbrev SameComparison : ℕ → Type 0
  SameComparison f = plain_comparison_at (configured T c R) 0 (new_comparison T c f) ≡ plain_comparison_at T c f

  same_rule : (f : ℕ) (x : Comparison) → is_choice (comparison_operands x) ≡ false → OperandsBelow f (comparison_operands x) → ((k : ℕ) → k < f → SameComparison k)
      → plain_comparison_of (configured T c R) 0 (plain_comparison_at (configured T c R) 0) (renumbered_comparison T c R x)
      ≡ plain_comparison_of T c (plain_comparison_at T c) x
  same_rule f Comparison.Malformed p l ih = refl
  same_rule f Comparison.Never p l ih = refl
  same_rule f Comparison.Always p l ih = refl
  same_rule f (Comparison.Constant o a b k) p l ih = refl
  same_rule f (Comparison.Attribute o a b) p l ih = refl
  same_rule f (Comparison.Not a) p l ih = ap PlainComparison.negation (ih a l)
  same_rule f (Comparison.And a b) p l ih = ap₂ PlainComparison.both (ih a l.0) (ih b l.1)
  same_rule f (Comparison.Or a b) p l ih = ap₂ PlainComparison.either (ih a l.0) (ih b l.1)
  same_rule f (Comparison.Choice a b d) p l ih = absurd (false≢true (sym p))

  -- the plain comparison that a reference leads to is the one that it was at c
  pub plain_comparison_same : (f : ℕ) → f < comparison_count T → plain_comparison_at (configured T c R) 0 (new_comparison T c f) ≡ plain_comparison_at T c f
  plain_comparison_same =
      strong (λ f. f < comparison_count T → SameComparison f)
      (λ f ih h. go f ih h (view (operands_at T f)) ∙ sym (plain_comparison_in F c f h))
    where
      go : (f : ℕ) → ((k : ℕ) → k < f → k < comparison_count T → SameComparison k) → f < comparison_count T → View (operands_at T f)
          → plain_comparison_at (configured T c R) 0 (new_comparison T c f) ≡ plain_comparison_of T c (plain_comparison_at T c) (comparison T.comparisons f)
      go f ih h (plain p) =
          ap (λ (t : ℕ). plain_comparison_at (configured T c R) 0 (count_below (comparison_kept T c) t))
          (comparison_target_in F c f h ∙ plain_target T c (comparison_target T c) f (operands_at T f) p)
          ∙ plain_comparison_step (configured T c R) 0 (count_below (comparison_kept T c) f) (written_below f h (ap not p))
          ∙ ap (plain_comparison_of (configured T c R) 0 (plain_comparison_at (configured T c R) 0)) (comparison_written f h (ap not p))
          ∙ same_rule f (comparison T.comparisons f) p (comparison_operands_lem F f h) (λ k l. ih k l (omega arith))
      go f ih h (choice x y z e) =
          let k = taken_below (at T c x) (rw e at (comparison_operands_lem F f h)) in
          ap (λ (t : ℕ). plain_comparison_at (configured T c R) 0 (count_below (comparison_kept T c) t))
          (comparison_target_in F c f h ∙ ap (target_of T c (comparison_target T c) f) e)
          ∙ ih (taken T c x y z) k (omega arith)
          ∙ ap (plain_comparison_of T c (plain_comparison_at T c)) (sym (choice_comparison (comparison T.comparisons f) e))
