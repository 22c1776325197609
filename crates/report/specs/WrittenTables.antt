-- What the tables are that configuring writes at c for an accepted report (the end of specs/Configuring): the configured report as a tree and the
-- configured schema (specs/ConfiguredReport), with the relations renumbered; accepted by the checker, with the columns shown at c.
use Rattle.std.specs.Prelude.{ℕ, ◌<◌, ◌≤◌, ◌≡◌, ◌≢◌, true, false, length, Ok}
use mathlib.Core.Option.{none}
use Rattle.sets.specs.Search.{Nth}
use Rattle.sets.specs.Lists.{kept}
use Rattle.report.specs.Tables.{Tables, query, relation_count, query_count, report, entries_of_relations, entries_of_projects}
use Rattle.report.specs.Typing.{present}
use Rattle.report.specs.ColumnRows.{has_column, column_rows, shown}
use Rattle.report.specs.PlainAlgebra.{PlainQuery}
use Rattle.report.specs.Configuring.{query_kept, new_relation, relation_list, project_list_of, configured}
use Rattle.report.specs.declared.Reading.{Reading}
use Rattle.report.specs.ConfiguredReport.{plain_query_at, configured_report, configured_schema}
use Rattle.report.specs.FormChecks.{form_check}
use Rattle.report.specs.Formed.{Formed}
use Rattle.report.specs.Checks.{model_and_schema_check, typing_check}
use Rattle.report.specs.Calls.{answer, Sound, checking}
use Rattle.report.specs.Repeats.{NoRepeats}

-- a tree with other numbers for its relations
abbrev pub renamed : (ℕ → ℕ) → PlainQuery → PlainQuery
renamed f PlainQuery.empty = PlainQuery.empty
renamed f (PlainQuery.relation r) = PlainQuery.relation (f r)
renamed f (PlainQuery.select t q) = PlainQuery.select t (renamed f q)
renamed f (PlainQuery.project l q) = PlainQuery.project l (renamed f q)
renamed f (PlainQuery.product p q) = PlainQuery.product (renamed f p) (renamed f q)
renamed f (PlainQuery.union p q) = PlainQuery.union (renamed f p) (renamed f q)
renamed f (PlainQuery.intersection p q) = PlainQuery.intersection (renamed f p) (renamed f q)

-- what the tables written at c are
pub record WrittenTables (T : Tables) (c : ℕ) (R : Reading) : Type 0 where
  -- as a tree, the configured report with its relations renumbered
  pub tree : plain_query_at (configured T c R) 0 Reading.Strict (report (configured T c R)) ≡ renamed (new_relation T c) (configured_report T c R)
  -- their schema is the configured schema, renumbered
  pub schema : (r : ℕ) → present T c r ≡ true → configured_schema (configured T c R) 0 (new_relation T c r) ≡ configured_schema T c r
  pub schema_end : (k : ℕ) → relation_count (configured T c R) ≤ k → configured_schema (configured T c R) 0 k ≡ none
  -- the new numbers are those of the present relations in order, and there are no others
  pub in_order : (r s : ℕ) → r < s → present T c r ≡ true → new_relation T c r < new_relation T c s
  pub numbered : (r : ℕ) → present T c r ≡ true → new_relation T c r < relation_count (configured T c R)
  pub onto : (k : ℕ) → k < relation_count (configured T c R) → Nth (present T c) (relation_count T) k
  -- no list holds an attribute twice
  pub once : NoRepeats (configured T c R)

-- the lists written are no longer than their sources: those of the relations and those of the project forms, each by itself
pub record Shorter (T : Tables) (c : ℕ) (R : Reading) : Type 0 where
  pub relations : length (kept (present T c) (relation_list T c) (relation_count T)) ≤ length (entries_of_relations T)
  pub projects : length (kept (query_kept T c) (λ q. project_list_of T c R q (query T.queries q)) (query_count T)) ≤ length (entries_of_projects T)

-- what is written of an accepted report at c, whatever the call was given (specs/Calls): 12 to 19 and 25 accept the tables written
pub record WrittenTyped (T : Tables) (c : ℕ) (R : Reading) : Type 0 where
  pub writes : WrittenTables T c R
  pub formed : Formed (configured T c R)
  pub schema_sound : model_and_schema_check (configured T c R) ≡ Ok tt
  pub typed : typing_check (configured T c R) Reading.Strict ≡ Ok tt
  pub column : (a : ℕ) → has_column (configured T c R) a 0 ≡ has_column T a c
  pub no_other : (a d : ℕ) → d ≢ 0 → has_column (configured T c R) a d ≡ false
  pub shows : shown (column_rows (configured T c R)) 0 ≡ shown (column_rows T) c
  pub shows_nothing : (d : ℕ) → d ≢ 0 → d < 1024 → shown (column_rows (configured T c R)) d ≡ 0
  -- no list and no table is longer than its source, so that what check 21 asks for is room enough
  pub lists : Shorter T c R
  pub room1 : length (configured T c R).entries ≤ length T.entries
  pub room2 : length (configured T c R).relations ≤ length T.relations
  pub room3 : length (configured T c R).comparisons ≤ length T.comparisons
  pub room4 : length (configured T c R).queries ≤ length T.queries

-- and where it was given whole tables: checks 1 to 10 and 24 accept them too, so that given to the checker they are accepted
pub record WrittenAccepted (T : Tables) (c : ℕ) (R : Reading) : Type 0 where
  pub written : WrittenTyped T c R
  pub forms : form_check (configured T c R) ≡ Ok tt
  pub sound : Sound (configured T c R)
  pub checked : answer (configured T c R) Reading.Strict (checking 1024) ≡ Ok tt
