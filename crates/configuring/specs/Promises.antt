-- What the call `configure` promises: the answer, and what the tables lent to it for writing hold afterwards.
use Rattle.std.specs.Prelude.{ℕ, ◌≤◌, ◌≡◌, Bool, false, List, length, Result, Ok, Err}
use Rattle.report.specs.Tables.{Tables, entry_count, relation_count, comparison_count, query_count}
use Rattle.report.specs.Configuring.{configured, written}
use Rattle.report.specs.Verdicts.{Verdict, after}
use Rattle.report.specs.Checks.{is_typing_fault}
use Rattle.report.specs.Calls.{answer, configuring}
use Rattle.report.specs.declared.Reading.{Reading}
use Rattle.report.specs.declared.Refusal.{Refusal}
use Rattle.configuring.specs.declared.FormCounts.{FormCounts}

-- how many forms tables 1 to 4 have
abbrev pub form_counts : ℕ → ℕ → ℕ → ℕ → FormCounts
form_counts entries relations comparisons queries = record { entries = entries; relations = relations; comparisons = comparisons; queries = queries }

-- what configuring answers: these, or the refusal
abbrev pub Configured : Type 0
Configured = Result FormCounts Refusal

-- the answer: the number of forms in tables 1 to 4 of what is written, or the refusal
abbrev pub configured_answer : Verdict → Tables → Configured
configured_answer (Ok tt) U = Ok (form_counts (entry_count U) (relation_count U) (comparison_count U) (query_count U))
configured_answer (Err r) U = Err r

-- a table lent for writing, afterwards: the new words, followed by what stood there; unchanged by a refused call
abbrev pub table_after : Verdict → List ℕ → List ℕ → List ℕ
table_after v new lent = after v (written new lent) lent

-- each of the tables lent for writing has as many words as its source
pub record Rooms (T : Tables) (new_entries new_relations new_comparisons new_queries : List ℕ) : Type 0 where
  pub entries : length T.entries ≤ length new_entries
  pub relations : length T.relations ≤ length new_relations
  pub comparisons : length T.comparisons ≤ length new_comparisons
  pub queries : length T.queries ≤ length new_queries

-- what a call that answers v and makes tables U returns, and what the tables lent for writing hold afterwards
pub record Leaves (v : Verdict) (U : Tables) (new_entries new_relations new_comparisons new_queries : List ℕ) (r : Configured)
    (new_entries' new_relations' new_comparisons' new_queries' : List ℕ) : Type 0 where
  pub answers : r ≡ configured_answer v U
  pub entries : new_entries' ≡ table_after v U.entries new_entries
  pub relations : new_relations' ≡ table_after v U.relations new_relations
  pub comparisons : new_comparisons' ≡ table_after v U.comparisons new_comparisons
  pub queries : new_queries' ≡ table_after v U.queries new_queries

-- the promise of `configure`: in a reading at c, with these tables 1 to 4 lent for writing
abbrev pub Configures : Tables → Reading → ℕ → List ℕ → List ℕ → List ℕ → List ℕ → Configured → List ℕ → List ℕ → List ℕ → List ℕ → Type 0
Configures T R c new_entries new_relations new_comparisons new_queries =
    Leaves (answer T R (configuring c (length new_entries) (length new_relations) (length new_comparisons) (length new_queries))) (configured T c R)
    new_entries new_relations new_comparisons new_queries

-- an answer of configuring that is a typing fault
abbrev pub is_configured_fault : Configured → Bool
is_configured_fault (Ok n) = false
is_configured_fault (Err r) = is_typing_fault (Err r)
