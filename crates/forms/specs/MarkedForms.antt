-- What the functions of checks 6 and 8 to 10 work with: each check over what it reads.
use Rattle.std.specs.Prelude.{ℕ, ◌+◌, ◌/◌, ◌≤◌, Bool, true, false, not, List, length, get_or, set}
use Rattle.sets.specs.Search.{lowest}
use Rattle.report.specs.Tables.{Tables, relation_start, projected_before}
use Rattle.report.specs.FormChecks.{expressions_check, model_form_check, entries_check, relations_check, comparisons_check}
use Rattle.report.specs.FormChecks.{queries_check, untaken_check, left_entry_check}
use Rattle.report.specs.Verdicts.{Verdict, refusal, refuse_at, or_else}
use Rattle.report.specs.declared.Operands.{Operands}
use Rattle.forms.specs.declared.Counts.{Counts}

-- ---- marks: form x is marked when it has been taken as an operand

abbrev pub marked : List Bool → ℕ → Bool
marked marks x = get_or marks x false

-- what form q is tested with: its list starts in the entries or at their end, and the forms below it have marks
pub record FormRoom (entries : List ℕ) (start : ℕ) (marks : List Bool) (q : ℕ) : Type 0 where
  pub starts : start ≤ length entries / 2
  pub room : q ≤ length marks

-- the marks with those of a form's operands
abbrev pub marked_by : Operands → List Bool → List Bool
marked_by Operands.Nothing marks = marks
marked_by (Operands.One a) marks = set marks a true
marked_by (Operands.Both a b) marks = set (set marks a true) b true
marked_by (Operands.Choice e a b) marks = set (set marks a true) b true

-- check 9 by the marks of all forms
abbrev pub untaken_by : List Bool → ℕ → Verdict
untaken_by marks last = refuse_at (λ q. refusal 9 q 0 0) (lowest (λ q. not (marked marks q)) last)

-- ---- the checks from 8, from 6 and from 3 on, and what those before leave for them

-- with the project forms' entries, which are entries `split` and following of table 1
abbrev pub queries_rest : Counts → List ℕ → ℕ → List ℕ → Verdict
queries_rest n project_entries split queries =
    or_else (queries_check n.expressions n.relations n.comparisons project_entries 0 queries)
    (or_else (untaken_check queries)
    (left_entry_check (split + projected_before queries (length queries / 4)) (split + length project_entries / 2)))

pub record QueriesReady (project_entries : List ℕ) (split : ℕ) (queries : List ℕ) : Type 0 where
  pub few : split + length project_entries / 2 ≤ 512
  pub some : 1 ≤ length queries / 4
  pub fits : length queries / 4 ≤ 256

abbrev pub lists_rest : Tables → Verdict
lists_rest T =
    or_else (relations_check (length T.expressions / 3) T.entries T.relations)
    (or_else (comparisons_check T.attributes (length T.expressions / 3) T.comparisons)
    (or_else (queries_check (length T.expressions / 3) (length T.relations / 2) (length T.comparisons / 5) T.entries
    (relation_start T.relations (length T.relations / 2)) T.queries)
    (or_else (untaken_check T.queries)
    (left_entry_check (relation_start T.relations (length T.relations / 2) + projected_before T.queries (length T.queries / 4)) (length T.entries / 2)))))

pub record ListsReady (T : Tables) : Type 0 where
  pub few : length T.entries / 2 ≤ 512
  pub most : length T.relations / 2 ≤ 32
  pub some : 1 ≤ length T.queries / 4
  pub fits : length T.queries / 4 ≤ 256

abbrev pub contents_rest : Tables → Verdict
contents_rest T =
    or_else (expressions_check T.features T.expressions)
    (or_else (model_form_check (length T.expressions / 3) T.model)
    (or_else (entries_check T.attributes (length T.expressions / 3) T.entries) (lists_rest T)))
