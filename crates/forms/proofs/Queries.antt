-- The loop over the query forms: check 8, and what it leaves for checks 9 and 10.
use Rattle.std.specs.Prelude.{Err}
use Prim.Native.Nat.{ℕ, ◌+◌, ◌-◌, ◌*◌, ◌/◌, ◌≤◌, ◌<◌}
use mathlib.Core.Path.{◌≡◌, refl, sym, ap, ap₂, ◌∙◌}
use mathlib.Core.Bool.{Bool, true, false, ◌&&◌, ◌||◌, not}
use mathlib.Core.List.{List}
use native.Mathlib.Nat.{add_assoc}
use native.Mathlib.Numerals.{add-one}
use native.Mathlib.Omega.{arith}
use borrow.Author.Tests.{leb-true, leb-false, le-leb, lt-leb, not-false}
use lib.ListN.{length, drop, replicate}
use lib.Dec.{leb}
use Rattle.sets.proofs.SearchLaws.{some_below_suc, lowest_same}
use Rattle.report.specs.Tables.{query, project_length, projected_before}
use Rattle.report.specs.Operands.{query_operands}
use Rattle.report.specs.FormChecks.{is_operand, taken_below, free, list_fits, query_fits, queries_check, untaken_check, left_entry_check}
use Rattle.report.specs.Verdicts.{Verdict, refusal, refuse_if, refuse_at, or_else}
use Rattle.report.specs.Formed.{OperandsBelow}
use Rattle.report.specs.declared.Refusal.{Refusal}
use Rattle.report.specs.declared.Query.{Query}
use Rattle.report.specs.declared.Operands.{Operands}
use Rattle.report.proofs.VerdictLaws.{then_next, then_refused}
use Rattle.report.proofs.EntryParts.{rest_count}
use Rattle.table_checks.proofs.FormLoops.{FormsPassed, passed_none, passed_more, passed_first, passed_all}
use Rattle.forms.specs.declared.Counts.{Counts}
use Rattle.forms.specs.MarkedForms.{marked, marked_by, untaken_by, queries_rest, QueriesReady}
use Rattle.forms.proofs.Marks.{unmarked, operands_marked, marks-length, fits, fits_is, fits_inside, fits_below}

-- the first q forms fit, their lists end at `end`, and the forms that they take are marked
pub record QueriesPassed (n : Counts) (entries queries : List ℕ) (marks : List Bool) (end q : ℕ) : Type 0 where
  pub passed : FormsPassed (λ j. fits n entries 0 queries j (query queries j)) (length queries / 4) q
  pub ends : end ≡ 0 + projected_before queries q
  pub inside : end ≤ length entries / 2
  pub size : length marks ≡ 256
  pub agree : (x : ℕ) → marked marks x ≡ taken_below queries q x

module _ (n : Counts) (entries : List ℕ) (split : ℕ) (queries : List ℕ) (ready : QueriesReady entries split queries) where
  pub walked_none : QueriesPassed n entries queries (replicate 256 false) 0 0
  walked_none =
      record { passed = passed_none _ _; ends = refl; inside = omega arith; size = refl; agree = unmarked 256 }

  -- form q is x; t is whether it fits
  module _ {marks : List Bool} {end q : ℕ} {x : Query} {t : Bool} (s : QueriesPassed n entries queries marks end q) (h : q < length queries / 4)
      (e : x ≡ query queries q) (f : t ≡ query_fits n.expressions n.relations n.comparisons entries end (marked marks) q x)
    where
      test_is : t ≡ fits n entries 0 queries q x
      test_is = f ∙ fits_is n entries 0 queries q marks s.agree s.ends x

      form_is : t ≡ fits n entries 0 queries q (query queries q)
      form_is = test_is ∙ ap (fits n entries 0 queries q) e

      pub walked_first : {r : Refusal} → Err r ≡ refuse_if (not t) (refusal 8 q 0 0) → Err r ≡ queries_rest n entries split queries
      unfolding queries_check
      walked_first u = sym (then_refused _ (sym (passed_first _ _ s.passed h form_is (λ j. refusal 8 j 0 0) u)))

      module _ (u : not t ≡ false) where
        below : OperandsBelow (length marks) (query_operands x)
        below =
            let z = s.size in
            let y = ready.fits in
            fits_below n entries 0 queries q (length marks) (omega arith) x (sym test_is ∙ not-false t u)

        walked_inside : {l : ℕ} → l ≡ project_length x → end + l ≤ length entries / 2
        walked_inside p =
            let i = fits_inside n entries 0 queries q (rw s.ends at s.inside) x (sym test_is ∙ not-false t u) in
            rw (s.ends, p) i

        pub walked_more : {new : List Bool} {to : Operands} {l : ℕ} → to ≡ query_operands x → new ≡ marked_by to marks → l ≡ project_length x
            → QueriesPassed n entries queries new (end + l) (q + 1)
        walked_more {new} o p r = record {
          passed = passed_more _ _ s.passed h form_is u;
          ends =
              ap₂ ◌+◌ s.ends (r ∙ ap project_length e)
              ∙ add_assoc 0 (projected_before queries q) (project_length (query queries q))
              ∙ ap (λ (j : ℕ). 0 + projected_before queries j) (sym (add-one q));
          inside = walked_inside r;
          size = ap length marks_are ∙ marks-length marks (query_operands x) ∙ s.size;
          agree = λ y.
              ap (λ (m : List Bool). marked m y) marks_are
              ∙ operands_marked marks (query_operands x) below y
              ∙ ap₂ ◌||◌ (s.agree y) (ap (is_operand y) e)
              ∙ sym (ap (λ (j : ℕ). taken_below queries j y) (add-one q) ∙ some_below_suc (λ j. is_operand y (query queries j)) q);
        }
          where
            marks_are : new ≡ marked_by (query_operands x) marks
            marks_are = p ∙ ap (λ (to : Operands). marked_by to marks) o

  -- after the loop checks 9 and 10 by the marks are what is left
  pub walked_all : {marks : List Bool} {end q : ℕ} {v : Verdict} → QueriesPassed n entries queries marks end q → length queries / 4 ≤ q
      → v ≡ or_else (untaken_by marks (length queries / 4 - 1)) (left_entry_check (split + end) (split + length entries / 2)) → v ≡ queries_rest n entries split queries
  unfolding queries_check untaken_check
  walked_all {marks} {end} {q} s h p =
      let w = s.passed.within in
      let e : q ≡ length queries / 4 = omega arith in
      p
      ∙ ap₂ or_else
      (ap (refuse_at (λ j. refusal 9 j 0 0))
      (lowest_same _ _ (length queries / 4 - 1) (λ x l. ap not (s.agree x ∙ ap (λ (j : ℕ). taken_below queries j x) e))))
      (ap (λ (j : ℕ). left_entry_check (split + j) (split + length entries / 2)) (end_is ∙ ap (projected_before queries) e))
      ∙ sym (then_next (sym (passed_all _ _ s.passed h (λ j. refusal 8 j 0 0))))
    where
      end_is : end ≡ projected_before queries q
      end_is = let l = s.ends in omega arith

-- ---- the part of table 1 from entry `split` on

module _ (entries : List ℕ) (split : ℕ) (h : split ≤ length entries / 2) where
  abbrev rest : List ℕ
  rest = drop (split * 2) entries

  rest_inside : (n : ℕ) → leb n (length rest / 2) ≡ leb (split + n) (length entries / 2)
  rest_inside n = sym (go (leb n (length rest / 2)) refl)
    where
      go : (t : Bool) → leb n (length rest / 2) ≡ t → leb (split + n) (length entries / 2) ≡ t
      go true e = let l = leb-true n (length rest / 2) e in let c = rest_count entries split h in le-leb (split + n) (length entries / 2) (omega arith)
      go false e = let l = leb-false n (length rest / 2) e in let c = rest_count entries split h in lt-leb (split + n) (length entries / 2) (omega arith)

  rest_fits : (start count : ℕ) → list_fits rest start count ≡ list_fits entries (split + start) count
  rest_fits start count = rest_inside (start + count) ∙ ap (λ (n : ℕ). leb n (length entries / 2)) (sym (add_assoc split start count))

  module _ (e r p : ℕ) (start : ℕ) (taken : ℕ → Bool) (q : ℕ) where
    rest_query : (x : Query) → query_fits e r p rest start taken q x ≡ query_fits e r p entries (split + start) taken q x
    rest_query Query.Malformed = refl
    rest_query Query.Empty = refl
    rest_query (Query.Relation a) = refl
    rest_query (Query.Select a b) = refl
    rest_query (Query.Project a b) = ap (λ (t : Bool). t && free taken q b) (rest_fits start a)
    rest_query (Query.Choice a b d) = refl
    rest_query (Query.Product a b) = refl
    rest_query (Query.Union a b) = refl
    rest_query (Query.Intersection a b) = refl

  pub rest_queries : (e r p : ℕ) (queries : List ℕ) → queries_check e r p rest 0 queries ≡ queries_check e r p entries split queries
  unfolding queries_check
  rest_queries e r p queries =
      ap (refuse_at (λ q. refusal 8 q 0 0))
      (lowest_same _ _ (length queries / 4)
      (λ q l. ap not
      (rest_query e r p (0 + projected_before queries q) (taken_below queries q) q (query queries q)
      ∙ ap (λ (s : ℕ). query_fits e r p entries s (taken_below queries q) q (query queries q)) (omega arith))))
