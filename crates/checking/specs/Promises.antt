-- What the call `check` promises: the answer, and what the words lent to it hold afterwards.
use Rattle.std.specs.Prelude.{ℕ, ◌≡◌, List, length}
use Rattle.report.specs.Tables.{Tables}
use Rattle.report.specs.Calls.{answer, checking, rows_after}
use Rattle.report.specs.Verdicts.{Verdict}
use Rattle.report.specs.declared.Reading.{Reading}

-- in this reading, with these rows lent
abbrev pub Checks : Tables → Reading → List ℕ → Verdict → List ℕ → Type 0
Checks T R rows r rows' = (r ≡ answer T R (checking (length rows))) × (rows' ≡ rows_after T R rows)
