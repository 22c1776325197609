-- Marks: what a mark more says, and that marks which agree with the forms taken give the rules of the definitions.
use Prim.Native.Nat.{ℕ, zero, suc, ◌+◌, ◌/◌, ◌≤◌, ◌<◌}
use mathlib.Core.Path.{◌≡◌, refl, sym, ap, ap₂, ◌∙◌}
use mathlib.Core.Bool.{Bool, true, false, ◌||◌, and-eq-true_iff, or-true, or-false, or_assoc}
use mathlib.Core.List.{List}
use native.Mathlib.Omega.{arith}
use borrow.Author.Tests.{eqb-true, eqb-false}
use lib.ListN.{length, set, length-set, replicate}
use lib.Seq.{get_or-set_same, get_or-set_other}
use lib.Dec.{eqb}
use Rattle.report.specs.Tables.{project_length, projected_before}
use Rattle.report.specs.Operands.{query_operands, is_among}
use Rattle.report.specs.FormChecks.{taken_below, free, query_fits, query_fits_at}
use Rattle.report.specs.Formed.{OperandsBelow}
use Rattle.report.specs.declared.Query.{Query}
use Rattle.report.specs.declared.Operands.{Operands}
use Rattle.report.proofs.FormFacts.{list_inside, operands_free, free_below, below_more, Listing, project, unlisted, listing}
use Rattle.forms.specs.declared.Counts.{Counts}
use Rattle.forms.specs.MarkedForms.{marked, marked_by}

pub unmarked : (n x : ℕ) → marked (replicate n false) x ≡ false
unmarked zero x = refl
unmarked (suc n) zero = refl
unmarked (suc n) (suc x) = unmarked n x

set-marked : (marks : List Bool) (i x : ℕ) → i < length marks → marked (set marks i true) x ≡ (marked marks x || eqb x i)
set-marked marks i x h = go (eqb x i) refl
  where
    go : (t : Bool) → eqb x i ≡ t → marked (set marks i true) x ≡ (marked marks x || t)
    go true e =
        ap (marked (set marks i true)) (eqb-true x i e)
        ∙ get_or-set_same marks i true false h
        ∙ sym (or-true (marked marks x))
    go false e = get_or-set_other marks i x true false (eqb-false x i e) ∙ sym (or-false (marked marks x))

module _ (marks : List Bool) where
  two_marked : (a b : ℕ) → (a < length marks) × (b < length marks) → (y : ℕ)
      → marked (set (set marks a true) b true) y ≡ (marked marks y || (eqb y a || eqb y b))
  two_marked a b l y =
      set-marked (set marks a true) b y (rw (length-set marks a true) l.1)
      ∙ ap (λ (t : Bool). t || eqb y b) (set-marked marks a y l.0)
      ∙ or_assoc (marked marks y) (eqb y a) (eqb y b)

  -- the marks with those of a form's operands are the old ones and theirs
  pub operands_marked : (o : Operands) → OperandsBelow (length marks) o → (y : ℕ) → marked (marked_by o marks) y ≡ (marked marks y || is_among y o)
  operands_marked Operands.Nothing l y = sym (or-false (marked marks y))
  operands_marked (Operands.One a) l y = set-marked marks a y l
  operands_marked (Operands.Both a b) l y = two_marked a b l y
  operands_marked (Operands.Choice e a b) l y = two_marked a b l y

  pub marks-length : (o : Operands) → length (marked_by o marks) ≡ length marks
  marks-length Operands.Nothing = refl
  marks-length (Operands.One a) = length-set marks a true
  marks-length (Operands.Both a b) = simp length-set
  marks-length (Operands.Choice e a b) = simp length-set

-- a query that stands as form q
module _ (n : Counts) (entries : List ℕ) (start : ℕ) (queries : List ℕ) (q : ℕ) where
  abbrev pub fits : Query → Bool
  fits = query_fits_at n.expressions n.relations n.comparisons entries start queries q

  -- marks that agree with the forms taken below q, and a list that starts where the lists before it end
  pub fits_is : (marks : List Bool) → ((y : ℕ) → marked marks y ≡ taken_below queries q y) → {end : ℕ} → end ≡ start + projected_before queries q
      → (x : Query) → query_fits n.expressions n.relations n.comparisons entries end (marked marks) q x ≡ fits x
  fits_is marks agree e x =
      ap₂ (λ (s : ℕ) (t : ℕ → Bool). query_fits n.expressions n.relations n.comparisons entries s t q x) e (λ i y. agree y i)

  -- the list of a query that fits ends in table 1
  pub fits_inside : start + projected_before queries q ≤ length entries / 2 → (x : Query) → fits x ≡ true
      → start + projected_before queries q + project_length x ≤ length entries / 2
  fits_inside h x t = go (listing x)
    where
      go : Listing x → start + projected_before queries q + project_length x ≤ length entries / 2
      go (project a b e) = rw e (list_inside entries _ a ((and-eq-true_iff _ (free (taken_below queries q) q b)).0 (rw e at t)).0)
      go (unlisted e) = omega arith

  -- its operands are lower, so where the forms below it have marks they have
  pub fits_below : (m : ℕ) → q ≤ m → (x : Query) → fits x ≡ true → OperandsBelow m (query_operands x)
  fits_below m room x t =
      below_more room (query_operands x)
      (free_below n.expressions queries q (query_operands x)
      (operands_free n.expressions n.relations n.comparisons entries start queries q x t))
