-- The typing check at one configuration: what it answers there alone, what it reads, and the sets that it leaves.
use Rattle.std.specs.Prelude.{ℕ, ◌<◌, ◌≤◌, ◌≡◌, List, length}
use Rattle.sets.specs.Lists.{table, NumbersAre}
use Rattle.report.specs.Tables.{Tables, comparison_count, query_count, report}
use Rattle.report.specs.Expressions.{configurations}
use Rattle.report.specs.Typing.{phases, names, clashes, set_of}
use Rattle.report.specs.Readings.{spared, fails_by}
use Rattle.report.specs.Configuring.{written}
use Rattle.report.specs.Verdicts.{Verdict, refuse_if, first_from}
use Rattle.report.specs.Checks.{fault_refusal}
use Rattle.report.specs.declared.Reading.{Reading}
use Rattle.expression_rows.specs.TypingReads.{ReportReads}
use Rattle.typing_at.specs.declared.Here.{Here}

module _ (T : Tables) (R : Reading) (c : ℕ) where
  -- one phase of form q at c alone
  abbrev pub phase_here : ℕ → ℕ → Verdict
  phase_here q phase = refuse_if (fails_by T R c phase q) (fault_refusal T R q phase c)

  -- 15 to 19 of form q at c alone, and 25 only if they find nothing there
  abbrev pub form_here : ℕ → Verdict
  form_here q = first_from (phase_here q) phases 0

  -- 15 to 19 and 25 at c alone: the lowest form that fails there
  unfoldable pub typing_here : Verdict
  typing_here = first_from form_here (query_count T) 0

-- ---- what the typing check reads and answers at configuration c alone

-- the prepared tables, the kind table, the reach rows, and what the reading does not hold against each form
pub record HereReads (T : Tables) (R : Reading) (c : ℕ)
    (expression_rows relation_entries project_entries relations comparisons queries kinds reach spared_sets : List ℕ) : Type 0 where
  pub inside : c < configurations T
  pub report : ReportReads T expression_rows relation_entries project_entries relations comparisons queries kinds reach
  pub sparing : NumbersAre (query_count T) (spared T R) spared_sets

-- there are such tables, and such a reading
pub record HereReadable (c : ℕ) (expression_rows relation_entries project_entries relations comparisons queries kinds reach spared_sets : List ℕ) : Type 0 where
  pub tables : Tables
  pub reading : Reading
  pub reads : HereReads tables reading c expression_rows relation_entries project_entries relations comparisons queries kinds reach spared_sets

-- the answer there, and the report's set
pub record HereChecked (T : Tables) (R : Reading) (c : ℕ) (here : Here) : Type 0 where
  pub answers : here.verdict ≡ typing_here T R c
  pub shows : here.set.bits ≡ set_of T c (report T)

-- ---- with words lent for the sets

-- a word for each comparison, twice, and each query form
pub record SetsLent (T : Tables) (named_sets clash_sets form_sets : List ℕ) : Type 0 where
  pub comparisons : comparison_count T ≤ length named_sets
  pub clashes : comparison_count T ≤ length clash_sets
  pub forms : query_count T ≤ length form_sets

-- there are such tables, and words are lent for the sets
pub record HereFillable (c : ℕ)
    (expression_rows relation_entries project_entries relations comparisons queries kinds reach spared_sets named_sets clash_sets form_sets : List ℕ) : Type 0 where
  pub readable : HereReadable c expression_rows relation_entries project_entries relations comparisons queries kinds reach spared_sets
  pub lent : SetsLent readable.tables named_sets clash_sets form_sets

-- the answer, and in these words afterwards the sets at c: what each comparison names, the left attributes that it compares with another kind, and the set of
-- each query form; the words after them stay
pub record HereFilled (T : Tables) (R : Reading) (c : ℕ) (here : Here) (named_sets clash_sets form_sets named_sets' clash_sets' form_sets' : List ℕ) : Type 0 where
  pub checked : HereChecked T R c here
  pub compared : named_sets' ≡ written (table (comparison_count T) (names T c)) named_sets
  pub clashed : clash_sets' ≡ written (table (comparison_count T) (clashes T c)) clash_sets
  pub formed : form_sets' ≡ written (table (query_count T) (set_of T c)) form_sets
