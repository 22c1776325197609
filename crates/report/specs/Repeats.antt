-- Lists that have no attribute twice, and what was checked and written of such lists before an attribute could be in a list more than once
-- (docs/changes/02-one-column-two-reasons.md). proofs/RepeatLaws says that nothing has changed for them.
use Rattle.std.specs.Prelude.{ℕ, ◌+◌, ◌<◌, ◌≡◌, Bool, true, false, ◌&&◌, not, List, [], ◌∷◌, ◌++◌, eqb}
use Rattle.sets.specs.Search.{lowest, some_below, count_below}
use Rattle.sets.specs.Lists.{kept}
use Rattle.report.specs.Tables.{Tables, entry_attribute, relation_length, query}
use Rattle.report.specs.Expressions.{tables_of}
use Rattle.report.specs.Tables.{expression_count, entry_count, relation_count, query_count, relation_start, project_length, project_start}
use Rattle.report.specs.Typing.{entry_holds, present}
use Rattle.report.specs.declared.Reading.{Reading}
use Rattle.report.specs.Configuring.{query_words_of, query_kept, new_relation, new_comparison, new_query, configured}
use Rattle.report.specs.FormChecks.{list_fits, relation_ok, query_ok, lists_end, head_check, lengths_check, expressions_check, model_form_check}
use Rattle.report.specs.FormChecks.{entries_check, comparisons_check, untaken_check, left_entry_check, kinds_check}
use Rattle.report.specs.Verdicts.{Verdict, refusal, refuse_at, or_else, first_of}
use Rattle.report.specs.Checks.{model_and_schema_check, typing_check}
use Rattle.report.specs.Calls.{Call}

-- of the `count` entries from `start` on two have one attribute
abbrev pub repeats : List ℕ → ℕ → ℕ → Bool
repeats entries start count =
    some_below (λ j. some_below (λ i. eqb (entry_attribute entries (start + i)) (entry_attribute entries (start + j))) j) count

module _ (T : Tables) where
  -- the list of relation r, and of query form q, has an attribute twice
  abbrev pub relation_repeats : ℕ → Bool
  relation_repeats r = repeats T.entries (relation_start T.relations r) (relation_length T.relations r)

  abbrev pub project_repeats : ℕ → Bool
  project_repeats q = repeats T.entries (project_start T q) (project_length (query T.queries q))

  -- no list has an attribute twice. (Of a list that passes the end of table 1 nothing is asked: it fits no more than it did)
  pub record NoRepeats : Type 0 where
    pub relations : (r : ℕ) → r < relation_count T → list_fits T.entries (relation_start T.relations r) (relation_length T.relations r) ≡ true
        → relation_repeats r ≡ false
    pub projects : (q : ℕ) → q < query_count T → list_fits T.entries (project_start T q) (project_length (query T.queries q)) ≡ true
        → project_repeats q ≡ false

  -- checks 6 and 8 as they were: a form whose list has an attribute twice did not fit
  unfoldable pub relations_check_before : Verdict
  relations_check_before = refuse_at (λ r. refusal 6 r 0 0) (lowest (λ r. not (relation_ok T r && not (relation_repeats r))) (relation_count T))

  unfoldable pub queries_check_before : Verdict
  queries_check_before = refuse_at (λ q. refusal 8 q 0 0) (lowest (λ q. not (query_ok T q && not (project_repeats q))) (query_count T))

  -- checks 1 to 10, with these three for 6, 7 and 8
  abbrev pub tables_check_with : Verdict → Verdict → Verdict → Verdict
  tables_check_with six seven eight =
      or_else (head_check T.features T.attributes)
      (or_else (lengths_check T)
      (or_else (expressions_check T.features T.expressions)
      (or_else (model_form_check (expression_count T) T.model)
      (or_else (entries_check T.attributes (expression_count T) T.entries)
      (or_else six
      (or_else seven
      (or_else eight (or_else (untaken_check T.queries) (left_entry_check (lists_end T) (entry_count T))))))))))

  -- the answer of a call as it was: no other check has changed
  unfoldable pub answer_before : Call → Verdict
  answer_before call =
      or_else (or_else (or_else (tables_check_with relations_check_before (comparisons_check T.attributes (expression_count T) T.comparisons) queries_check_before) (kinds_check T.attributes T.kinds T.comparisons)) (or_else (first_of (call.before_model T)) (model_and_schema_check T)))
      (or_else (typing_check T Reading.Strict) (first_of (call.after_typing T)))

module _ (T : Tables) (c : ℕ) where
  -- what was kept of a list: every entry that holds
  abbrev pub held_length : ℕ → ℕ → ℕ
  held_length start count = count_below (λ i. entry_holds T c (start + i)) count

  abbrev pub held_list : ℕ → ℕ → List ℕ
  held_list start count = kept (λ i. entry_holds T c (start + i)) (λ i. entry_attribute T.entries (start + i) ∷ 0 ∷ []) count

  abbrev pub held_attributes : ℕ → ℕ → List ℕ
  held_attributes start count = kept (λ i. entry_holds T c (start + i)) (λ i. entry_attribute T.entries (start + i) ∷ []) count

  -- the written tables as they were. Comparisons have no lists
  unfoldable pub configured_before : Tables
  configured_before =
      tables_of 0 T.attributes 0 (1 ∷ 0 ∷ 0 ∷ [])
      (kept (present T c) (λ r. held_list (relation_start T.relations r) (relation_length T.relations r)) (relation_count T)
      ++ kept (query_kept T c) (λ q. held_list (project_start T q) (project_length (query T.queries q))) (query_count T))
      (kept (present T c) (λ r. 0 ∷ held_length (relation_start T.relations r) (relation_length T.relations r) ∷ []) (relation_count T))
      (configured T c Reading.Strict).comparisons
      (kept (query_kept T c)
      (λ q. query_words_of (new_relation T c) (new_comparison T c) (new_query T c) (held_length (project_start T q)) (query T.queries q)) (query_count T))
      T.kinds
