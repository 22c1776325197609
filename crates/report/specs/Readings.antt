-- docs/FORMAT.md, "Readings": what is at fault in a query form in each of the two readings. Reach, sets and column rows are one definition for both
-- (Typing, ColumnRows): there an absent relation has no attributes, and a project those of its joined list that its operand has.
use Rattle.std.specs.Prelude.{ℕ, zero, suc, ◌^◌, Bool, cond, ◌&&◌, not, eqb}
use Rattle.std.specs.Int.Bits.{bit_and, bit_or}
use Rattle.sets.specs.Bits.{difference}
use Rattle.report.specs.Tables.{Tables, query}
use Rattle.report.specs.Expressions.{configurations}
use Rattle.report.specs.Typing.{reached, present, project_set, set_of, faults}
use Rattle.report.specs.declared.Query.{Query}
use Rattle.report.specs.declared.Reading.{Reading}

module _ (T : Tables) where
  -- what form q asks for and finds at c, as a set of the refusal's items: a relation that is present; the attributes of a project's joined list that its
  -- operand has. Other forms ask for nothing that may be found elsewhere
  abbrev pub found_in : ℕ → ℕ → Query → ℕ
  found_in c q Query.Malformed = 0
  found_in c q Query.Empty = 0
  found_in c q (Query.Relation a) = cond (present T c a) (2 ^ a) 0
  found_in c q (Query.Select a b) = 0
  found_in c q (Query.Project a b) = bit_and (project_set T c q a) (set_of T c b)
  found_in c q (Query.Choice a b d) = 0
  found_in c q (Query.Product a b) = 0
  found_in c q (Query.Union a b) = 0
  found_in c q (Query.Intersection a b) = 0

  -- at any of the configurations below n that reach it
  unfoldable pub found_below : ℕ → ℕ → ℕ
  found_below zero q = 0
  found_below (suc n) q = bit_or (found_below n q) (cond (reached T n q) (found_in n q (query T.queries q)) 0)

  -- the items that a reading does not hold against form q where they are missing: in the filled one those that are found at any configuration that
  -- reaches it
  unfoldable pub spared : Reading → ℕ → ℕ
  spared Reading.Strict q = 0
  spared Reading.Filled q = found_below (configurations T) q

  -- what is at fault in form q at c, in a phase
  abbrev pub faults_by : Reading → ℕ → ℕ → ℕ → ℕ
  faults_by Reading.Strict c phase q = faults T c phase q
  faults_by Reading.Filled c zero q = difference (faults T c 0 q) (spared Reading.Filled q)
  faults_by Reading.Filled c (suc phase) q = faults T c (suc phase) q

  -- form q fails at c in this phase
  abbrev pub fails_by : Reading → ℕ → ℕ → ℕ → Bool
  fails_by R c phase q = reached T c q && not (eqb (faults_by R c phase q) 0)
