-- The form checks accept just the tables that are Formed (specs/Formed) and have at most 512 entries. Everything after the form checks relies on that record.
use Rattle.std.specs.Prelude.{Ok}
use Prim.Native.Nat.{ℕ, zero, suc, ◌-◌, ◌/◌, ◌%◌, ◌<◌, ◌≤◌}
use mathlib.Core.Path.{◌≡◌, ap, ap₂}
use mathlib.Core.Bool.{Bool, true, ◌&&◌, not, and-eq-true_iff}
use mathlib.Core.List.{[]}
use native.Mathlib.Omega.{arith}
use borrow.Author.Tests.{ltb-false, leb-true, leb-false, eqb-true, not-false, le-ltb, le-leb, lt-leb, eq-eqb}
use lib.ListN.{length, get_or}
use lib.Dec.{leb, eqb, lit<}
use Rattle.sets.specs.Search.{lowest}
use Rattle.sets.proofs.SearchLaws.{lowest_nothing, nothing_lowest}
use Rattle.report.specs.Tables.{Tables, Shape, shape_of, shapes, words, expression_count, entry_count, relation_count, comparison_count, query_count}
use Rattle.report.specs.Verdicts.{Verdict, refusal, refuse_if, refuse_at}
use Rattle.report.specs.FormChecks.{length_fits, expression_ok, entry_ok, relation_ok, comparison_ok, query_ok, kind_ok, constant_ok, taken_below, lists_end}
use Rattle.report.specs.FormChecks.{head_check, lengths_check, expressions_check, entries_check, relations_check, comparisons_check, queries_check, untaken_check, tables_check}
use Rattle.report.specs.FormChecks.{kind_table_check, constants_check, kinds_check, form_check}
use Rattle.report.specs.Formed.{Sized, Formed}
use Rattle.report.specs.declared.Refusal.{Refusal}
use Rattle.report.proofs.VerdictLaws.{both_accepted, accepted_both, if_accepted, accepted_if, at_accepted, first_accepted, accepted_first}

-- Sized is what the test of a length says, and no less
pub sized : (s : Shape) (count : ℕ) → length_fits s count ≡ true → Sized s count
sized s count e =
    let p = (and-eq-true_iff _ (leb (count / s.width) s.most)).0 e in
    let q = (and-eq-true_iff (eqb (count % s.width) 0) (leb s.least (count / s.width))).0 p.0 in
    record { whole = eqb-true _ 0 q.0; enough = leb-true s.least _ q.1; fits = leb-true _ s.most p.1 }

pub sized_fits : {s : Shape} {count : ℕ} → Sized s count → length_fits s count ≡ true
sized_fits {s} {count} z =
    ap₂ ◌&&◌ (ap₂ ◌&&◌ (eq-eqb (count % s.width) 0 z.whole) (le-leb s.least (count / s.width) z.enough))
    (le-leb (count / s.width) s.most z.fits)

-- the length of table t fits
abbrev table_fits : Tables → ℕ → Bool
table_fits T t = length_fits (get_or shapes t (shape_of 1 0 0)) (length (get_or (words T) t []))

-- check 2 of table t
abbrev table_check : Tables → ℕ → Verdict
table_check T t = refuse_if (not (table_fits T t)) (refusal 2 t 0 0)

-- a check of n forms, one after another, accepts exactly where each of them fits
module _ (r : ℕ → Refusal) (ok : ℕ → Bool) (n : ℕ) where
  pub all_fit : refuse_at r (lowest (λ k. not (ok k)) n) ≡ Ok tt → (k : ℕ) → k < n → ok k ≡ true
  all_fit e k h = not-false (ok k) (lowest_nothing (λ k. not (ok k)) n (at_accepted r _ e) k h)

  pub fit_all : ((k : ℕ) → k < n → ok k ≡ true) → refuse_at r (lowest (λ k. not (ok k)) n) ≡ Ok tt
  fit_all h = ap (refuse_at r) (nothing_lowest (λ k. not (ok k)) n (λ k l. ap not (h k l)))

-- table 1 of whole tables is within what is asked of any table 1
wider : {n : ℕ} → Sized (shape_of 2 0 512) n → Sized (shape_of 2 0 1024) n
wider z = record { whole = z.whole; enough = z.enough; fits = let f = z.fits in omega arith }

module _ (T : Tables) where
  lengths_fit : lengths_check T ≡ Ok tt → (t : ℕ) → t < 5 → table_fits T t ≡ true
  lengths_fit e t h =
      not-false (table_fits T t) (if_accepted _ (refusal 2 t 0 0) (first_accepted (table_check T) 5 0 e t (omega arith) (omega arith)))

  fit_lengths : ((t : ℕ) → t < 5 → table_fits T t ≡ true) → lengths_check T ≡ Ok tt
  fit_lengths f = accepted_first (table_check T) 5 0 (λ t l h. accepted_if (refusal 2 t 0 0) (ap not (f t (omega arith))))

  -- the form checks accept such tables alone
  pub formed : form_check T ≡ Ok tt → Formed T
  unfolding form_check tables_check kinds_check expressions_check entries_check relations_check comparisons_check queries_check untaken_check
  formed e =
      let all = both_accepted (tables_check T) _ e in
      let kinds = both_accepted (kind_table_check T.attributes T.kinds) (constants_check T.comparisons) all.1 in
      let kind_table = both_accepted _ _ kinds.0 in
      let head = both_accepted _ _ all.0 in
      let limits = both_accepted _ _ head.0 in
      let t2 = both_accepted _ _ head.1 in
      let t3 = both_accepted _ _ t2.1 in
      let t4 = both_accepted _ _ t3.1 in
      let t5 = both_accepted _ _ t4.1 in
      let t6 = both_accepted _ _ t5.1 in
      let t7 = both_accepted _ _ t6.1 in
      let t8 = both_accepted _ _ t7.1 in
      let t9 = both_accepted _ _ t8.1 in
      let lengths = lengths_fit t2.0 in
      record {
        few = ltb-false 10 T.features (if_accepted _ _ limits.0);
        narrow = ltb-false 64 T.attributes (if_accepted _ _ limits.1);
        sized0 = sized _ _ (lengths 0 (lit< tt));
        sized1 = wider (sized _ _ (lengths 1 (lit< tt)));
        sized2 = sized _ _ (lengths 2 (lit< tt));
        sized3 = sized _ _ (lengths 3 (lit< tt));
        sized4 = sized _ _ (lengths 4 (lit< tt));
        expressions_ok = all_fit _ (expression_ok T) (expression_count T) t3.0;
        model_in = leb-false (expression_count T) T.model (if_accepted _ _ t4.0);
        entries_ok = all_fit _ (entry_ok T) (entry_count T) t5.0;
        relations_ok = all_fit _ (relation_ok T) (relation_count T) t6.0;
        comparisons_ok = all_fit _ (comparison_ok T) (comparison_count T) t7.0;
        queries_ok = all_fit _ (query_ok T) (query_count T) t8.0;
        all_taken = all_fit _ (taken_below T.queries (query_count T)) (query_count T - 1) t9.0;
        all_used = ltb-false (lists_end T) (entry_count T) (if_accepted _ _ t9.1);
        kinded = eqb-true (length T.kinds) T.attributes (not-false _ (if_accepted _ _ kind_table.0));
        kinds_ok = all_fit _ (kind_ok T) (length T.kinds) kind_table.1;
        constants_ok = all_fit _ (constant_ok T) (comparison_count T) kinds.1;
      }

  -- table 1 has at most 512 entries where they accept
  pub few_entries : form_check T ≡ Ok tt → entry_count T ≤ 512
  unfolding form_check tables_check
  few_entries e =
      let t = (both_accepted (tables_check T) (kinds_check T.attributes T.kinds T.comparisons) e).0 in
      let h = (both_accepted (head_check T.features T.attributes) _ t).1 in
      let l = (both_accepted (lengths_check T) _ h).0 in
      (sized (shape_of 2 0 512) _ (lengths_fit l 1 (lit< tt))).fits

  -- and all of them, if table 1 has at most 512 entries
  pub formed_accepted : Formed T → entry_count T ≤ 512 → form_check T ≡ Ok tt
  unfolding form_check tables_check kinds_check expressions_check entries_check relations_check comparisons_check queries_check untaken_check
  formed_accepted F few =
      accepted_both
      (accepted_both
      (accepted_both (accepted_if _ (le-ltb 10 T.features F.few)) (accepted_if _ (le-ltb 64 T.attributes F.narrow)))
      (accepted_both (fit_lengths lengths)
      (accepted_both (fit_all _ (expression_ok T) (expression_count T) F.expressions_ok)
      (accepted_both (accepted_if _ (lt-leb (expression_count T) T.model F.model_in))
      (accepted_both (fit_all _ (entry_ok T) (entry_count T) F.entries_ok)
      (accepted_both (fit_all _ (relation_ok T) (relation_count T) F.relations_ok)
      (accepted_both (fit_all _ (comparison_ok T) (comparison_count T) F.comparisons_ok)
      (accepted_both (fit_all _ (query_ok T) (query_count T) F.queries_ok)
      (accepted_both (fit_all _ (taken_below T.queries (query_count T)) (query_count T - 1) F.all_taken)
      (accepted_if _ (le-ltb (lists_end T) (entry_count T) F.all_used)))))))))))
      (accepted_both
      (accepted_both (accepted_if _ (ap not (eq-eqb (length T.kinds) T.attributes F.kinded)))
      (fit_all _ (kind_ok T) (length T.kinds) F.kinds_ok))
      (fit_all _ (constant_ok T) (comparison_count T) F.constants_ok))
    where
      lengths : (t : ℕ) → t < 5 → table_fits T t ≡ true
      lengths zero h = sized_fits F.sized0
      lengths (suc zero) h = sized_fits {s = shape_of 2 0 512} (record { whole = F.sized1.whole; enough = F.sized1.enough; fits = few })
      lengths (suc (suc zero)) h = sized_fits F.sized2
      lengths (suc (suc (suc zero))) h = sized_fits F.sized3
      lengths (suc (suc (suc (suc zero)))) h = sized_fits F.sized4
      lengths (suc (suc (suc (suc (suc t))))) h = absurd (omega arith)
