-- What is found of the tables that `configure` wrote.
use Rattle.std.specs.Prelude.{ℕ, ◌*◌, ◌≡◌, List, [], ◌∷◌, length, take, Ok}
use Rattle.report.specs.Tables.{Tables}
use Rattle.report.specs.Expressions.{tables_of}
use Rattle.report.specs.ColumnRows.{shown}
use Rattle.report.specs.Configuring.{configured}
use Rattle.report.specs.WrittenTables.{WrittenAccepted}
use Rattle.report.specs.Verdicts.{Verdict}
use Rattle.report.specs.declared.Reading.{Reading}
use Rattle.checking.specs.Promises.{Checks}
use Rattle.configuring.specs.Promises.{Configured, form_counts, Leaves}

-- of those written in a reading at c, where a check leaves the rows rows'
pub record FoundWritten (T : Tables) (R : Reading) (c : ℕ) (rows' new_entries new_relations new_comparisons new_queries : List ℕ) (r : Configured)
    (new_entries' new_relations' new_comparisons' new_queries' : List ℕ) : Type 0 where
  -- it accepts: it answers how many forms tables 1 to 4 have, and each table lent begins with its words and is else unchanged
  pub leaves : Leaves (Ok tt) (configured T c R) new_entries new_relations new_comparisons new_queries r
      new_entries' new_relations' new_comparisons' new_queries'
  -- so that many forms of each, read back, with the head, the one expression and the kind table that docs/FORMAT.md names, are the tables written
  pub read_back : (a b d e : ℕ) → r ≡ Ok (form_counts a b d e)
      → tables_of 0 T.attributes 0 (1 ∷ 0 ∷ 0 ∷ [])
      (take (a * 2) new_entries') (take (b * 2) new_relations') (take (d * 5) new_comparisons') (take (e * 4) new_queries') T.kinds
      ≡ configured T c R
  -- these pass the form checks, are the configured report as a tree and the configured schema with the relations renumbered, and are sound
  pub accepted : WrittenAccepted T c R
  -- given to the checker, strictly, they are accepted, and the rows then show at their one configuration what the rows of T show at c
  pub shows : (lent lent' : List ℕ) (v : Verdict) → length lent ≡ 1024 → Checks (configured T c R) Reading.Strict lent v lent'
      → (v ≡ Ok tt) × (shown lent' 0 ≡ shown rows' c)
