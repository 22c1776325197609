-- The query forms that configuring writes: each is a kept one of the source, its references renumbered. The lists of its project forms.
use Prim.Native.Nat.{ℕ, zero, suc, ◌+◌, ◌*◌, ◌<◌, ◌≤◌}
use mathlib.Core.Path.{◌≡◌, refl, sym, ap, ap₂, ◌∙◌}
use mathlib.Core.Bool.{Bool, true, false, false≢true}
use mathlib.Core.List.{List}
use native.Mathlib.Nat.{le_refl, zero-lt-suc}
use native.Mathlib.Omega.{arith}
use lib.ListN.{length, get_or, length-append, length-drop}
use lib.Seq.{get_or-append-add, length-take-le}
use lib.Dec.{lit<}
use Rattle.sets.specs.Search.{count_below}
use Rattle.sets.proofs.SearchLaws.{count_yes, count_no, count_le}
use Rattle.sets.proofs.ListLaws.{kept_yes, kept_no, kept_at}
use Rattle.report.specs.Tables.{Tables, word, query_of, query, relation_length, relation_start, relations_end, project_length, projected_before, project_start}
use Rattle.report.specs.Tables.{entry_count, relation_count, comparison_count, query_count}
use Rattle.report.specs.Operands.{query_operands, is_choice}
use Rattle.report.specs.Typing.{present}
use Rattle.report.specs.Configuring.{all_stay, staying_over, staying, comparison_kept, query_kept, entry_stays}
use Rattle.report.specs.Configuring.{kept_list, relation_list, project_list_of, query_form_of, configured}
use Rattle.report.specs.Formed.{Formed, QueryLower}
use Rattle.report.specs.WrittenTables.{Shorter}
use Rattle.report.specs.declared.Query.{Query}
use Rattle.report.specs.declared.Reading.{Reading}
use Rattle.report.proofs.FormedFacts.{query_at, lists_end_lem, relation_within, counts}
use Rattle.report.proofs.LeadLaws.{form_at}
use Rattle.report.proofs.ReachLaws.{kept_both}
use Rattle.report.proofs.KeptForms.{kept_inside, kept_short, forms_length, forms_count, first_word, form_word}
use Rattle.report.proofs.CarriedLists.{Stands, list_length}
use Rattle.report.proofs.WrittenEntries.{relation_lists, project_lists, entries_joined, entries_length, relations_length, relations_end_lem}
use Rattle.report.proofs.WrittenComparisons.{comparisons_length}

-- ---- one form

module _ (T : Tables) (c : ℕ) (R : Reading) (q : ℕ) where
  -- what the words written for form q say: of a plain one that form, its references renumbered. (Of a choice there are none to read.)
  abbrev pub renumbered_query : Query → Query
  renumbered_query x =
      query_of (get_or (query_form_of T c R q x) 0 0) (get_or (query_form_of T c R q x) 1 0) (get_or (query_form_of T c R q x) 2 0) (get_or (query_form_of T c R q x) 3 0)

  -- for a plain form that stands in the table four words are written, and its list
  record QueryForm (x : Query) : Type 0 where
    wide : length (query_form_of T c R q x) ≡ 4
    lists : length (project_list_of T c R q x) ≡ project_length (renumbered_query x) * 2

  -- an absent relation is written as four words, too, and has no list
  relation_form : (a : ℕ) (R : Reading) (t : Bool) → present T c a ≡ t
      → (length (query_form_of T c R q (Query.Relation a)) ≡ 4)
      × (0 ≡ project_length (query_of (get_or (query_form_of T c R q (Query.Relation a)) 0 0) (get_or (query_form_of T c R q (Query.Relation a)) 1 0)
      (get_or (query_form_of T c R q (Query.Relation a)) 2 0) (get_or (query_form_of T c R q (Query.Relation a)) 3 0)) * 2)
  relation_form a Reading.Strict t e = (refl, refl)
  relation_form a Reading.Filled true e = rw e (refl, refl)
  relation_form a Reading.Filled false e = rw e (refl, refl)

  form : (x : Query) → QueryLower T q x → is_choice (query_operands x) ≡ false → QueryForm x
  form Query.Malformed l p = absurd l
  form Query.Empty l p = record { wide = refl; lists = refl }
  form (Query.Relation a) l p = let f = relation_form a R (present T c a) refl in record { wide = f.0; lists = f.1 }
  form (Query.Select a b) l p = record { wide = refl; lists = refl }
  form (Query.Project a b) l p = record { wide = refl; lists = list_length T c (staying_over T c R b) (project_start T q) a }
  form (Query.Choice a b d) l p = absurd (false≢true (sym p))
  form (Query.Product a b) l p = record { wide = refl; lists = refl }
  form (Query.Union a b) l p = record { wide = refl; lists = refl }
  form (Query.Intersection a b) l p = record { wide = refl; lists = refl }

  -- a list is not longer than it was
  list_short : (stay : ℕ → Bool) (start count : ℕ) → length (kept_list T c stay start count) ≤ count * 2
  list_short stay start count = let e = list_length T c stay start count in let m = count_le (entry_stays T c stay start) count in omega arith

-- ---- table 4 written

module _ {T : Tables} (F : Formed T) (c : ℕ) (R : Reading) where
  abbrev block_of : ℕ → List ℕ
  block_of q = query_form_of T c R q (query T.queries q)

  abbrev project_list : ℕ → List ℕ
  project_list q = project_list_of T c R q (query T.queries q)

  form_of : (q : ℕ) → q < query_count T → query_kept T c q ≡ true → QueryForm T c R q (form_at T q)
  form_of q h k = form T c R q (form_at T q) (query_at F q h) (kept_both T c q k).1

  wide : (q : ℕ) → q < query_count T → query_kept T c q ≡ true → length (block_of q) ≡ 4
  wide q h k = (form_of q h k).wide

  pub queries_length : length (configured T c R).queries ≡ count_below (query_kept T c) (query_count T) * 4
  unfolding configured
  queries_length = forms_length (query_kept T c) block_of 4 (query_count T) wide (zero-lt-suc 3)

  pub queries_count : query_count (configured T c R) ≡ count_below (query_kept T c) (query_count T)
  unfolding configured
  queries_count = forms_count (query_kept T c) block_of 4 (query_count T) wide (zero-lt-suc 3)

  module _ (q : ℕ) (h : q < query_count T) (k : query_kept T c q ≡ true) where
    words_written : (j : ℕ) → j < 4 → word (configured T c R).queries 4 (count_below (query_kept T c) q) j ≡ get_or (block_of q) j 0
    unfolding configured
    words_written = form_word (query_kept T c) block_of 4 (query_count T) wide (zero-lt-suc 3) q h k

    kind_written : get_or (configured T c R).queries (count_below (query_kept T c) q * 4) 0 ≡ get_or (block_of q) 0 0
    unfolding configured
    kind_written = first_word (query_kept T c) block_of 4 (query_count T) wide (zero-lt-suc 3) q h k

    -- they are what stands in the table
    pub query_written : form_at (configured T c R) (count_below (query_kept T c) q) ≡ renumbered_query T c R q (form_at T q)
    query_written = λ i. query_of (kind_written i) (words_written 1 (lit< tt) i) (words_written 2 (lit< tt) i) (words_written 3 (lit< tt) i)

  -- ---- the lists of project forms

  -- a form that lists no entries lists none when it is written
  pub unlisted_written : (q : ℕ) → q < query_count T → query_kept T c q ≡ true → project_length (form_at T q) ≡ 0
      → project_length (form_at (configured T c R) (count_below (query_kept T c) q)) ≡ 0
  unlisted_written q h k e =
      let w = ap project_length (query_written q h k) in
      let l = (form_of q h k).lists in
      let n = ap (λ (n : ℕ). length (kept_list T c (staying T c R (form_at T q)) (project_start T q) n)) e in
      omega arith

  -- the list of a kept project form starts where those of the relations and of the kept forms before it end
  pub project_start_lem : (q : ℕ) → q ≤ query_count T
      → project_start (configured T c R) (count_below (query_kept T c) q) * 2 ≡ length (relation_lists T c R (relation_count T)) + length (project_lists T c R q)
  project_start_lem zero h = let e = relations_end_lem T c R in omega arith
  project_start_lem (suc q) h = go (query_kept T c q) refl (project_start_lem q (omega arith))
    where
      go : (t : Bool) → query_kept T c q ≡ t
          → project_start (configured T c R) (count_below (query_kept T c) q) * 2
          ≡ length (relation_lists T c R (relation_count T)) + length (project_lists T c R q)
          → project_start (configured T c R) (count_below (query_kept T c) (suc q)) * 2
          ≡ length (relation_lists T c R (relation_count T)) + length (project_lists T c R (suc q))
      go true k ih =
          ap (λ (x : ℕ). project_start (configured T c R) x * 2) (count_yes (query_kept T c) q k)
          ∙ (let w = ap project_length (query_written q h k) in
          let l = (form_of q h k).lists in
          let m = ap length (kept_yes (query_kept T c) project_list q k) ∙ length-append (project_lists T c R q) (project_list q) in
          omega arith)
      go false k ih =
          ap (λ (x : ℕ). project_start (configured T c R) x * 2) (count_no (query_kept T c) q k) ∙ ih
          ∙ ap (λ (l : List ℕ). length (relation_lists T c R (relation_count T)) + length l) (sym (kept_no (query_kept T c) project_list q k))

  -- check 10 of the tables written
  pub all_used_lem : entry_count (configured T c R) ≤ project_start (configured T c R) (query_count (configured T c R))
  all_used_lem =
      let e = entries_length T c R in
      let s = ap (λ (x : ℕ). project_start (configured T c R) x * 2) queries_count ∙ project_start_lem (query_count T) (le_refl _) in
      omega arith

  -- and stands there
  pub project_stands : (q a b : ℕ) → q < query_count T → query_kept T c q ≡ true → form_at T q ≡ Query.Project a b
      → Stands (configured T c R).entries (project_start (configured T c R) (count_below (query_kept T c) q)) (kept_list T c (staying_over T c R b) (project_start T q) a)
  project_stands q a b h k form =
      rw (← ap (project_list_of T c R q) form)
      (let s = project_start_lem q (omega arith) in
      let i = kept_inside (query_kept T c) project_list (query_count T) q h k in
      let t = entries_length T c R in
      let first = relation_lists T c R (relation_count T) in
      record {
        inside = omega arith;
        reads = λ j l.
            let place : length first + length (project_lists T c R q) + j ≡ length first + (length (project_lists T c R q) + j) = omega arith in
            ap₂ (λ (e : List ℕ) (x : ℕ). get_or e x 0) (entries_joined T c R) (ap (λ (x : ℕ). x + j) s ∙ place)
            ∙ get_or-append-add first (project_lists T c R (query_count T)) (length (project_lists T c R q) + j) 0
            ∙ kept_at (query_kept T c) project_list 0 (query_count T) q j h k l;
      })

  -- ---- no table is longer than its source

  relations_shorter : (r : ℕ) → length (relation_lists T c R r) ≤ relation_start T.relations r * 2
  relations_shorter zero = omega arith
  relations_shorter (suc r) =
      let i = relations_shorter r in
      let k = kept_short (present T c) (relation_list T c) r in
      let l = list_short T c R r all_stay (relation_start T.relations r) (relation_length T.relations r) in
      omega arith

  projects_shorter : (q : ℕ) → length (project_lists T c R q) ≤ projected_before T.queries q * 2
  projects_shorter zero = omega arith
  projects_shorter (suc q) =
      let i = projects_shorter q in
      let k = kept_short (query_kept T c) project_list q in
      let l = list_short T c R q (staying T c R (form_at T q)) (project_start T q) (project_length (form_at T q)) in
      omega arith

  lists_shorter : (q : ℕ) → length (relation_lists T c R (relation_count T)) + length (project_lists T c R q) ≤ project_start T q * 2
  lists_shorter q = let r = relations_shorter (relation_count T) in let p = projects_shorter q in omega arith

  -- each part of table 1 by itself
  pub parts_shorter : Shorter T c R
  parts_shorter =
      let w = (counts F).words1 in
      let e = relation_within F (relation_count T) (le_refl _) in
      let u = lists_end_lem F in
      let t = length-take-le (relations_end T * 2) T.entries (omega arith) in
      let d = length-drop (relations_end T * 2) T.entries in
      let r = relations_shorter (relation_count T) in
      let p = projects_shorter (query_count T) in
      record { relations = omega arith; projects = omega arith }

  pub entries_room : length (configured T c R).entries ≤ length T.entries
  entries_room =
      let e = entries_length T c R in
      let l = lists_shorter (query_count T) in
      let u = lists_end_lem F in
      let w = (counts F).words1 in
      omega arith

  pub relations_room : length (configured T c R).relations ≤ length T.relations
  relations_room = let e = relations_length T c R in let m = count_le (present T c) (relation_count T) in omega arith

  pub comparisons_room : length (configured T c R).comparisons ≤ length T.comparisons
  comparisons_room = let e = comparisons_length F c R in let m = count_le (comparison_kept T c) (comparison_count T) in omega arith

  pub queries_room : length (configured T c R).queries ≤ length T.queries
  queries_room = let e = queries_length in let m = count_le (query_kept T c) (query_count T) in omega arith
