-- docs/FORMAT.md, "Refusals", its table as lists: the conditions that every call checks, one after another in the order in which the checks run,
-- each with the refusal that it gives. "First fault first" says that a call's answer is the first of its conditions that holds (proofs/FirstFault).
use Rattle.std.specs.Prelude.{ℕ, ◌+◌, ◌-◌, true, ◌&&◌, not, List, [], ◌++◌, length, get_or, leb, ltb, eqb}
use Rattle.sets.specs.Lists.{concat}
use Rattle.sets.specs.Bits.{bit}
use Rattle.report.specs.Tables.{Tables, shape_of, shapes, words, entry_attribute, relation_length, relation_start, query}
use Rattle.report.specs.Tables.{expression_count, entry_count, relation_count, comparison_count, query_count}
use Rattle.report.specs.Expressions.{configurations}
use Rattle.report.specs.Typing.{phases, reached}
use Rattle.report.specs.Readings.{faults_by}
use Rattle.report.specs.Verdicts.{refusal, Condition, ◌gives◌, each}
use Rattle.report.specs.FormChecks.{length_fits, expression_ok, entry_ok, relation_ok, comparison_ok, query_ok, kind_ok, constant_ok, taken_below, lists_end}
use Rattle.report.specs.Checks.{fault_number, somewhere, absent_everywhere, apart_everywhere}
use Rattle.report.specs.declared.Reading.{Reading}

module _ (T : Tables) where
  -- 1 to 10, then 24
  unfoldable pub form_conditions : List Condition
  form_conditions =
      (ltb 10 T.features gives refusal 1 0 0 0)
      ++ (ltb 64 T.attributes gives refusal 1 1 0 0)
      ++ each 5 (λ t. not (length_fits (get_or shapes t (shape_of 1 0 0)) (length (get_or (words T) t [])))) (λ t. refusal 2 t 0 0)
      ++ each (expression_count T) (λ f. not (expression_ok T f)) (λ f. refusal 3 f 0 0)
      ++ (leb (expression_count T) T.model gives refusal 4 0 0 0)
      ++ each (entry_count T) (λ i. not (entry_ok T i)) (λ i. refusal 5 i 0 0)
      ++ each (relation_count T) (λ r. not (relation_ok T r)) (λ r. refusal 6 r 0 0)
      ++ each (comparison_count T) (λ f. not (comparison_ok T f)) (λ f. refusal 7 f 0 0)
      ++ each (query_count T) (λ q. not (query_ok T q)) (λ q. refusal 8 q 0 0)
      ++ each (query_count T - 1) (λ q. not (taken_below T.queries (query_count T) q)) (λ q. refusal 9 q 0 0)
      ++ (ltb (lists_end T) (entry_count T) gives refusal 10 (lists_end T) 0 0)
      ++ (not (eqb (length T.kinds) T.attributes) gives refusal 24 0 0 0)
      ++ each (length T.kinds) (λ a. not (kind_ok T a)) (λ a. refusal 24 a 0 0)
      ++ each (comparison_count T) (λ f. not (constant_ok T f)) (λ f. refusal 24 f 0 0)

  -- 12, then 13 and 14 relation by relation, 14 in the order of the list
  abbrev pub relation_conditions : ℕ → List Condition
  relation_conditions r =
      let start = relation_start T.relations r in
      (absent_everywhere T r gives refusal 13 r 0 0)
      ++ each (relation_length T.relations r) (λ i. apart_everywhere T r (start + i)) (λ i. refusal 14 r (entry_attribute T.entries (start + i)) 0)

  unfoldable pub schema_conditions : List Condition
  schema_conditions = (not (somewhere T (λ c. true)) gives refusal 12 0 0 0) ++ concat (relation_count T) relation_conditions

-- 15 to 19 and 25, in the reading told: by form, then by phase, then by configuration, then by item
unfoldable pub typing_conditions : Tables → Reading → List Condition
typing_conditions T R =
    concat (query_count T)
    (λ q. concat phases
    (λ phase. concat (configurations T)
    (λ c. each 64 (λ a. reached T c q && bit (faults_by T R c phase q) a) (λ a. refusal (fault_number phase (query T.queries q)) q a c))))
