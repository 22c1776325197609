-- Lists that have no attribute twice (specs/Repeats): for them checks 6 and 8 find what they found, and configuring keeps and writes what it did,
-- when such lists were the only ones.
use Prim.Native.Nat.{ℕ, ◌+◌, ◌<◌}
use mathlib.Core.Path.{◌≡◌, refl, sym, ap, ap₂, ◌∙◌}
use mathlib.Core.Bool.{Bool, true, false, ◌&&◌, not, and-eq-true_iff}
use mathlib.Core.Logic.{◌≢◌}
use mathlib.Core.List.{List, [], ◌∷◌, ◌++◌}
use borrow.Author.Tests.{eqb-false, ne_eqb}
use lib.Dec.{ltb, eqb}
use Rattle.sets.specs.Search.{some_below}
use Rattle.sets.proofs.SearchLaws.{some_none, none_some, lowest_same, count_same}
use Rattle.sets.proofs.ListLaws.{kept_same}
use Rattle.report.specs.Tables.{Tables, entry_attribute, relation_expression, relation_length, query}
use Rattle.report.specs.Expressions.{tables_of}
use Rattle.report.specs.Tables.{expression_count, relation_count, comparison_count, query_count}
use Rattle.report.specs.Tables.{relation_start, relations_end, project_length, project_start}
use Rattle.report.specs.Typing.{entry_holds, present}
use Rattle.report.specs.FormChecks.{list_fits, relation_ok, query_ok, relations_check, comparisons_check, queries_check, tables_check, kinds_check, form_check}
use Rattle.report.specs.Formed.{Formed}
use Rattle.report.specs.Verdicts.{Verdict, refusal, refuse_at, or_else, first_of}
use Rattle.report.specs.Checks.{model_and_schema_check, typing_check}
use Rattle.report.specs.Calls.{Call, answer}
use Rattle.report.specs.Configuring.{query_words_of, query_kept, new_relation, new_comparison, new_query}
use Rattle.report.specs.Configuring.{all_stay, entry_kept, kept_length, kept_list, query_form_of, configured}
use Rattle.report.specs.ConfiguredReport.{kept_attributes}
use Rattle.report.specs.Repeats.{repeats, NoRepeats, relation_repeats, project_repeats, relations_check_before, queries_check_before}
use Rattle.report.specs.Repeats.{tables_check_with, answer_before, held_length, held_list, held_attributes, configured_before}
use Rattle.report.specs.declared.Query.{Query}
use Rattle.report.specs.declared.Reading.{Reading}
use Rattle.report.proofs.FormFacts.{Listing, project, unlisted, listing}
use Rattle.report.proofs.FitLaws.{list_fits_lem}
use Rattle.report.proofs.CallLaws.{answer_checks}
use Rattle.report.proofs.FormedFacts.{relation_list_lem, project_inside}
use Rattle.report.proofs.KeptLists.{kept_alone, strict_staying}

-- ---- two entries of a list have one attribute, or none do

module _ (entries : List ℕ) (start count : ℕ) where
  abbrev same : ℕ → ℕ → Bool
  same j i = eqb (entry_attribute entries (start + i)) (entry_attribute entries (start + j))

  pub no_repeat : ((i j : ℕ) → i < j → j < count → entry_attribute entries (start + i) ≢ entry_attribute entries (start + j))
      → repeats entries start count ≡ false
  no_repeat h = none_some (λ j. some_below (same j) j) count (λ j l. none_some (same j) j (λ i k. ne_eqb _ _ (h i j k l)))

  pub repeat_none : repeats entries start count ≡ false → (i j : ℕ) → i < j → j < count
      → entry_attribute entries (start + i) ≢ entry_attribute entries (start + j)
  repeat_none e i j l h = eqb-false _ _ (some_none (same j) j (some_none (λ k. some_below (same k) k) count e j h) i l)

-- ---- what is kept of such a list

module _ (T : Tables) (c start count : ℕ) (once : repeats T.entries start count ≡ false) where
  kept_held : (i : ℕ) → i < count → entry_kept T c start i ≡ entry_holds T c (start + i)
  kept_held i h = kept_alone T c start i (λ j l. repeat_none T.entries start count once j i l h)

  pub length_before : kept_length T c all_stay start count ≡ held_length T c start count
  length_before = count_same _ _ count kept_held

  pub list_before : kept_list T c all_stay start count ≡ held_list T c start count
  list_before = kept_same count kept_held (λ i h. refl)

  pub attributes_before : kept_attributes T c all_stay start count ≡ held_attributes T c start count
  unfolding kept_attributes
  attributes_before = kept_same count kept_held (λ i h. refl)

-- ---- checks 6 and 8

-- a form that fits has a list without repeats: it fitted
fits_before : (fits repeated : Bool) → (fits ≡ true → repeated ≡ false) → not fits ≡ not (fits && not repeated)
fits_before true repeated f = sym (ap (λ (t : Bool). not (not t)) (f refl))
fits_before false repeated f = refl

module _ {T : Tables} (N : NoRepeats T) where
  fitting_relation : (r : ℕ) → r < relation_count T → relation_ok T r ≡ true → relation_repeats T r ≡ false
  fitting_relation r h e = N.relations r h ((and-eq-true_iff (ltb (relation_expression T.relations r) (expression_count T)) _).0 e).1

  pub relations_check_before_lem : relations_check (expression_count T) T.entries T.relations ≡ relations_check_before T
  unfolding relations_check relations_check_before
  relations_check_before_lem =
      ap (refuse_at (λ r. refusal 6 r 0 0))
      (lowest_same _ _ (relation_count T)
      (λ r h. fits_before (relation_ok T r) (relation_repeats T r) (fitting_relation r h)))

  fitting_query : (q : ℕ) → q < query_count T → Listing (query T.queries q) → query_ok T q ≡ true → project_repeats T q ≡ false
  fitting_query q h (project a b e) f = N.projects q h (rw e ((and-eq-true_iff (list_fits T.entries (project_start T q) a) _).0 (rw e at f)).0)
  fitting_query q h (unlisted e) f = ap (repeats T.entries (project_start T q)) e

  pub queries_check_before_lem : queries_check (expression_count T) (relation_count T) (comparison_count T) T.entries (relations_end T) T.queries
      ≡ queries_check_before T
  unfolding queries_check queries_check_before
  queries_check_before_lem =
      ap (refuse_at (λ q. refusal 8 q 0 0))
      (lowest_same _ _ (query_count T)
      (λ q h. fits_before (query_ok T q) (project_repeats T q) (fitting_query q h (listing (query T.queries q)))))

  tables_check_before : tables_check T
      ≡ tables_check_with T (relations_check_before T) (comparisons_check T.attributes (expression_count T) T.comparisons) (queries_check_before T)
  unfolding tables_check
  tables_check_before =
      ap₂ (λ (six eight : Verdict). tables_check_with T six (comparisons_check T.attributes (expression_count T) T.comparisons) eight)
      relations_check_before_lem queries_check_before_lem

  -- every answer is what it was
  pub answer_before_lem : (call : Call) → answer T Reading.Strict call ≡ answer_before T call
  unfolding answer_before form_check
  answer_before_lem call =
      answer_checks T Reading.Strict call
      ∙ ap
      (λ (v : Verdict).
      or_else (or_else (or_else v (kinds_check T.attributes T.kinds T.comparisons)) (or_else (first_of (call.before_model T)) (model_and_schema_check T)))
      (or_else (typing_check T Reading.Strict) (first_of (call.after_typing T))))
      tables_check_before

-- ---- the written tables

module _ {T : Tables} (F : Formed T) (N : NoRepeats T) (c : ℕ) where
  relation_once : (r : ℕ) → r < relation_count T → relation_repeats T r ≡ false
  relation_once r h = N.relations r h (list_fits_lem T.entries _ _ (relation_list_lem F r h))

  project_once : (q : ℕ) → q < query_count T → project_repeats T q ≡ false
  project_once q h = N.projects q h (list_fits_lem T.entries _ _ (project_inside F q h))

  -- a project alone has a list
  words_before : (q : ℕ) (y : Query) → kept_length T c all_stay (project_start T q) (project_length y) ≡ held_length T c (project_start T q) (project_length y)
      → query_form_of T c Reading.Strict q y ≡ query_words_of (new_relation T c) (new_comparison T c) (new_query T c) (held_length T c (project_start T q)) y
  words_before q Query.Malformed e = refl
  words_before q Query.Empty e = refl
  words_before q (Query.Relation a) e = refl
  words_before q (Query.Select a b) e = refl
  words_before q (Query.Project a b) e = ap (λ (n : ℕ). 3 ∷ n ∷ new_query T c b ∷ 0 ∷ []) e
  words_before q (Query.Choice a b d) e = refl
  words_before q (Query.Product a b) e = refl
  words_before q (Query.Union a b) e = refl
  words_before q (Query.Intersection a b) e = refl

  pub written_before : configured T c Reading.Strict ≡ configured_before T c
  unfolding configured configured_before
  written_before =
      let start = relation_start T.relations in
      let long = relation_length T.relations in
      let form = query T.queries in
      let of_relations =
      kept_same (relation_count T) {keep = present T c} (λ r h. refl) (λ r h. list_before T c (start r) (long r) (relation_once r h)) in
      let of_projects =
      kept_same (query_count T) {keep = query_kept T c} (λ q h. refl)
      (λ q h.
      ap (λ (stay : ℕ → Bool). kept_list T c stay (project_start T q) (project_length (form q))) (strict_staying T c (form q))
      ∙ list_before T c (project_start T q) (project_length (form q)) (project_once q h)) in
      let relations =
      kept_same (relation_count T) {keep = present T c} (λ r h. refl)
      (λ r h. ap (λ (n : ℕ). 0 ∷ n ∷ []) (length_before T c (start r) (long r) (relation_once r h))) in
      let queries =
      kept_same (query_count T) {keep = query_kept T c} (λ q h. refl)
      (λ q h. words_before q (form q) (length_before T c (project_start T q) (project_length (form q)) (project_once q h))) in
      λ i. tables_of 0 T.attributes 0 (1 ∷ 0 ∷ 0 ∷ []) (of_relations i ++ of_projects i) (relations i) (configured T c Reading.Strict).comparisons (queries i) T.kinds
