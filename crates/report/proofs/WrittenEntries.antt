-- The relations that configuring writes, with their lists, and all entries of table 1.
use Prim.Native.Nat.{ℕ, zero, suc, ◌+◌, ◌*◌, ◌%◌, ◌<◌, ◌≤◌}
use mathlib.Core.Path.{◌≡◌, refl, sym, ap, ap₂, subst, ◌∙◌}
use mathlib.Core.Bool.{Bool, true, false, cond, ◌&&◌, and-eq-true_iff}
use mathlib.Core.List.{List, ◌++◌}
use mathlib.Core.Option.{none, some}
use native.Mathlib.Nat.{zero-lt-suc}
use native.Mathlib.Omega.{arith}
use borrow.Author.Tests.{ltb-true, lt-ltb, le-ltb}
use lib.ListN.{length, get_or, length-append, get_or-append}
use lib.Dec.{ltb, lit<}
use Rattle.sets.specs.Search.{count_below, Nth}
use Rattle.sets.specs.Lists.{kept}
use Rattle.sets.proofs.SearchLaws.{nth, count_yes, count_no, count_lt}
use Rattle.sets.proofs.ListLaws.{kept_yes, kept_no, kept_at}
use Rattle.report.specs.Tables.{Tables, entry_attribute, entry_expression, relation_expression, relation_length, relation_start, query}
use Rattle.report.specs.Tables.{expression_count, entry_count, relation_count, query_count, project_length, project_start}
use Rattle.report.specs.Expressions.{holds}
use Rattle.report.specs.Typing.{at, present, joined_set, relation_set}
use Rattle.report.specs.Configuring.{all_stay, staying, kept_length, relation_list, relation_form, project_list_of, query_kept, new_relation, configured}
use Rattle.report.specs.ConfiguredReport.{configured_schema}
use Rattle.report.specs.FormChecks.{entry_ok, relation_ok}
use Rattle.report.specs.Formed.{Formed}
use Rattle.report.specs.Repeats.{relation_repeats}
use Rattle.report.specs.declared.Reading.{Reading}
use Rattle.report.proofs.FitLaws.{list_fits_lem}
use Rattle.report.proofs.FormedFacts.{relation_list_lem, project_inside}
use Rattle.report.proofs.KeptLists.{kept_joined}
use Rattle.report.proofs.KeptForms.{kept_inside, kept_all, forms_length, forms_count, first_word, form_word}
use Rattle.report.proofs.CarriedLists.{Pairs, pairs_join, pairs_even, pairs_attribute, pairs_expression}
use Rattle.report.proofs.CarriedLists.{Stands, list_length, list_pairs, carried_inside, carried_repeats, carried_set}

module _ (T : Tables) (c : ℕ) (R : Reading) where
  -- the lists written: those of the relations, and those of the project forms below q
  abbrev pub relation_lists : ℕ → List ℕ
  relation_lists r = kept (present T c) (relation_list T c) r

  abbrev pub project_lists : ℕ → List ℕ
  project_lists q = kept (query_kept T c) (λ q. project_list_of T c R q (query T.queries q)) q

  pub entries_joined : (configured T c R).entries ≡ relation_lists (relation_count T) ++ project_lists (query_count T)
  unfolding configured
  entries_joined = refl

  pub entries_length : length (configured T c R).entries ≡ length (relation_lists (relation_count T)) + length (project_lists (query_count T))
  entries_length = ap length entries_joined ∙ length-append (relation_lists (relation_count T)) (project_lists (query_count T))

  -- ---- the head and table 0 written: the one expression is true

  pub one_expression : expression_count (configured T c R) ≡ 1
  unfolding configured
  one_expression = refl

  pub same_attributes : (configured T c R).attributes ≡ T.attributes
  unfolding configured
  same_attributes = refl

  pub zero_holds : at (configured T c R) 0 0 ≡ true
  unfolding configured holds
  zero_holds = refl

  -- ---- table 2 written

  pub relations_length : length (configured T c R).relations ≡ count_below (present T c) (relation_count T) * 2
  unfolding configured
  relations_length = forms_length (present T c) (relation_form T c) 2 (relation_count T) (λ i h k. refl) (zero-lt-suc 1)

  pub relations_count : relation_count (configured T c R) ≡ count_below (present T c) (relation_count T)
  unfolding configured
  relations_count = forms_count (present T c) (relation_form T c) 2 (relation_count T) (λ i h k. refl) (zero-lt-suc 1)

  -- a present relation is in table 2
  pub present_in : (r : ℕ) → present T c r ≡ true → r < relation_count T
  present_in r p = ltb-true r _ ((and-eq-true_iff (ltb r (relation_count T)) _).0 p).0

  module _ (r : ℕ) (p : present T c r ≡ true) where
    -- the form of a present relation: expression 0, and the length of what is kept of its list
    pub relation_expression_written : relation_expression (configured T c R).relations (new_relation T c r) ≡ 0
    unfolding configured
    relation_expression_written = first_word (present T c) (relation_form T c) 2 (relation_count T) (λ i h k. refl) (zero-lt-suc 1) r (present_in r p) p

    pub relation_length_written : relation_length (configured T c R).relations (new_relation T c r)
        ≡ kept_length T c all_stay (relation_start T.relations r) (relation_length T.relations r)
    unfolding configured
    relation_length_written =
        form_word (present T c) (relation_form T c) 2 (relation_count T) (λ i h k. refl) (zero-lt-suc 1) r (present_in r p) p 1 (lit< tt)

    pub new_relation_lem : new_relation T c r < relation_count (configured T c R)
    new_relation_lem = let l = count_lt (present T c) r (relation_count T) (present_in r p) p in let e = relations_count in omega arith

  -- its list starts where those of the relations before it end
  pub relation_start_lem : (r : ℕ) → relation_start (configured T c R).relations (new_relation T c r) * 2 ≡ length (relation_lists r)
  relation_start_lem zero = refl
  relation_start_lem (suc r) = go (present T c r) refl (relation_start_lem r)
    where
      go : (t : Bool) → present T c r ≡ t → relation_start (configured T c R).relations (new_relation T c r) * 2 ≡ length (relation_lists r)
          → relation_start (configured T c R).relations (new_relation T c (suc r)) * 2 ≡ length (relation_lists (suc r))
      go true p ih =
          ap (λ (x : ℕ). relation_start (configured T c R).relations x * 2) (count_yes (present T c) r p)
          ∙ (let w = relation_length_written r p in
          let l = list_length T c all_stay (relation_start T.relations r) (relation_length T.relations r) in
          let m = ap length (kept_yes (present T c) (relation_list T c) r p) ∙ length-append (relation_lists r) (relation_list T c r) in
          omega arith)
      go false p ih =
          ap (λ (x : ℕ). relation_start (configured T c R).relations x * 2) (count_no (present T c) r p) ∙ ih
          ∙ sym (ap length (kept_no (present T c) (relation_list T c) r p))

  pub relations_end_lem : relation_start (configured T c R).relations (relation_count (configured T c R)) * 2 ≡ length (relation_lists (relation_count T))
  relations_end_lem = ap (λ (x : ℕ). relation_start (configured T c R).relations x * 2) relations_count ∙ relation_start_lem (relation_count T)

  -- and stands there
  pub relation_stands : (r : ℕ) → present T c r ≡ true
      → Stands (configured T c R).entries (relation_start (configured T c R).relations (new_relation T c r)) (relation_list T c r)
  relation_stands r p =
      let h = present_in r p in
      let s = relation_start_lem r in
      let k = kept_inside (present T c) (relation_list T c) (relation_count T) r h p in
      let t = entries_length in
      record {
        inside = omega arith;
        reads = λ j l.
            ap₂ (λ (e : List ℕ) (x : ℕ). get_or e (x + j) 0) entries_joined s
            ∙ get_or-append (relation_lists (relation_count T)) (project_lists (query_count T)) 0 (length (relation_lists r) + j) (omega arith)
            ∙ kept_at (present T c) (relation_list T c) 0 (relation_count T) r j h p l;
      }

module _ {T : Tables} (F : Formed T) (c : ℕ) (R : Reading) where
  -- ---- every entry written

  entries_pairs : Pairs T.attributes (configured T c R).entries
  entries_pairs =
      rw (entries_joined T c R)
      (pairs_join T.attributes (relation_lists T c R (relation_count T)) (project_lists T c R (query_count T))
      (kept_all (present T c) (relation_list T c) (Pairs T.attributes) tt (pairs_join T.attributes) (relation_count T)
      (λ r h k. list_pairs T c all_stay (relation_start T.relations r) (relation_length T.relations r) F (relation_list_lem F r h)))
      (kept_all (query_kept T c) (λ q. project_list_of T c R q (query T.queries q)) (Pairs T.attributes) tt (pairs_join T.attributes)
      (query_count T)
      (λ q h k. list_pairs T c (staying T c R (query T.queries q)) (project_start T q) (project_length (query T.queries q)) F (project_inside F q h))))

  pub entries_even : length (configured T c R).entries % 2 ≡ 0
  entries_even = pairs_even T.attributes (configured T c R).entries entries_pairs

  -- holds at 0
  pub entry_holds_lem : (k : ℕ) → at (configured T c R) 0 (entry_expression (configured T c R).entries k) ≡ true
  entry_holds_lem k = ap (at (configured T c R) 0) (pairs_expression T.attributes (configured T c R).entries entries_pairs k) ∙ zero_holds T c R

  -- check 5 of the tables written
  pub entries_ok_lem : (k : ℕ) → k < entry_count (configured T c R) → entry_ok (configured T c R) k ≡ true
  entries_ok_lem k h =
      let a = pairs_attribute T.attributes (configured T c R).entries entries_pairs k h in
      let e = pairs_expression T.attributes (configured T c R).entries entries_pairs k in
      ap₂ ◌&&◌
      (lt-ltb (entry_attribute (configured T c R).entries k) (configured T c R).attributes (omega (arith, same_attributes T c R)))
      (lt-ltb (entry_expression (configured T c R).entries k) (expression_count (configured T c R)) (omega (arith, one_expression T c R)))

  -- ---- every relation written

  module _ (r : ℕ) (p : present T c r ≡ true) where
    relation_list_written :
        relation_start (configured T c R).relations (new_relation T c r) + relation_length (configured T c R).relations (new_relation T c r)
        ≤ entry_count (configured T c R)
    relation_list_written =
        rw (relation_length_written T c R r p)
        (carried_inside T c all_stay (relation_start T.relations r) (relation_length T.relations r) (configured T c R) _ (relation_stands T c R r p))

    relation_once : relation_repeats (configured T c R) (new_relation T c r) ≡ false
    relation_once =
        rw (relation_length_written T c R r p)
        (carried_repeats T c all_stay (relation_start T.relations r) (relation_length T.relations r) (configured T c R) _ (relation_stands T c R r p))

    relation_ok_lem : relation_ok (configured T c R) (new_relation T c r) ≡ true
    relation_ok_lem =
        let e = relation_expression_written T c R r p in
        ap₂ ◌&&◌
        (lt-ltb (relation_expression (configured T c R).relations (new_relation T c r)) (expression_count (configured T c R))
        (omega (arith, one_expression T c R)))
        (list_fits_lem (configured T c R).entries _ _ relation_list_written)

    -- its set is the one that it has at c
    pub relation_set_written : relation_set (configured T c R) 0 (new_relation T c r) ≡ relation_set T c r
    relation_set_written =
        ap (joined_set (configured T c R) 0 (relation_start (configured T c R).relations (new_relation T c r))) (relation_length_written T c R r p)
        ∙ carried_set T c all_stay (relation_start T.relations r) (relation_length T.relations r) (configured T c R) _ (relation_stands T c R r p) entry_holds_lem
        ∙ kept_joined T c (relation_start T.relations r) (relation_length T.relations r)

  -- each written relation is one that is present
  pub relation_of : (k : ℕ) → k < relation_count (configured T c R) → Nth (present T c) (relation_count T) k
  relation_of k h = nth (present T c) (relation_count T) k (let e = relations_count T c R in omega arith)

  -- check 6 of the tables written
  pub relations_ok_lem : (k : ℕ) → k < relation_count (configured T c R) → relation_ok (configured T c R) k ≡ true
  relations_ok_lem k h = let n = relation_of k h in subst (λ (x : ℕ). relation_ok (configured T c R) x ≡ true) n.number (relation_ok_lem n.old n.passed)

  -- no list of them has an attribute twice
  pub relations_once : (k : ℕ) → k < relation_count (configured T c R) → relation_repeats (configured T c R) k ≡ false
  relations_once k h =
      let n = relation_of k h in subst (λ (x : ℕ). relation_repeats (configured T c R) x ≡ false) n.number (relation_once n.old n.passed)

  -- every relation written is present at 0
  pub relation_holds : (k : ℕ) → k < relation_count (configured T c R) → at (configured T c R) 0 (relation_expression (configured T c R).relations k) ≡ true
  relation_holds k h =
      let n = relation_of k h in
      subst (λ (x : ℕ). at (configured T c R) 0 (relation_expression (configured T c R).relations x) ≡ true) n.number
      (ap (at (configured T c R) 0) (relation_expression_written T c R n.old n.passed) ∙ zero_holds T c R)

  pub relation_present : (k : ℕ) → k < relation_count (configured T c R) → present (configured T c R) 0 k ≡ true
  relation_present k h = ap₂ ◌&&◌ (lt-ltb k (relation_count (configured T c R)) h) (relation_holds k h)

  -- ---- the schema

  -- under its new number a present relation is in the schema of the tables written as it was in the configured schema
  pub schema_written : (r : ℕ) → present T c r ≡ true → configured_schema (configured T c R) 0 (new_relation T c r) ≡ configured_schema T c r
  schema_written r p =
      ap₂ (λ (t : Bool) (x : ℕ). cond t (some x) none) (relation_present (new_relation T c r) (new_relation_lem T c R r p) ∙ sym p)
      (relation_set_written r p)

-- no other relation is in that schema
pub schema_end_lem : (U : Tables) (d k : ℕ) → relation_count U ≤ k → configured_schema U d k ≡ none
schema_end_lem U d k h =
    ap (λ (t : Bool). cond (t && at U d (relation_expression U.relations k)) (some (relation_set U d k)) none) (le-ltb k (relation_count U) h)
