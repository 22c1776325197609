-- Reach rows: a row for each query form, of the configurations that reach it.
use Rattle.std.specs.Prelude.{ℕ, ◌*◌, ◌/◌, ◌%◌, ◌<◌, ◌≤◌, ◌≡◌, Bool, true, ◌&&◌, ◌||◌, List, length, replicate}
use Rattle.sets.specs.Rows.{row_bit, row_of}
use Rattle.report.specs.Tables.{Tables, query_count}
use Rattle.report.specs.Expressions.{configurations, permitted}
use Rattle.report.specs.Typing.{leads, reached}
use Rattle.report.specs.Formed.{Formed}
use Rattle.expression_rows.specs.ExpressionRows.{TruthFilled}

-- rows of 16 words, one after another, of which row x has besides those configurations c of `reach` with p c x. All of `out` is taken as one
-- long row, in which configuration c of row x is bit 1024 x + c
unfoldable pub joined : List ℕ → List ℕ → (ℕ → ℕ → Bool) → List ℕ
joined out reach p = row_of (length out) (λ i. row_bit out i || (row_bit reach (i % 1024) && p (i % 1024) (i / 1024)))

-- the reach rows of all query forms in so many words, which are taken as one long row likewise
unfoldable pub reach_rows : Tables → ℕ → List ℕ
reach_rows T words = row_of words (λ i. reached T (i % 1024) (i / 1024))

-- what they are worked out from: table 4, the expression rows and the permitted configurations of tables that have passed the form checks
pub record ReachReads (T : Tables) (queries expression_rows permits : List ℕ) : Type 0 where
  pub formed : Formed T
  pub filled : TruthFilled T expression_rows
  pub queries_are : queries ≡ T.queries
  pub permitting : permits ≡ row_of 16 (permitted T)

-- there are such tables, and there is a row for each form, without a configuration
pub record ReachReadable (queries expression_rows permits out : List ℕ) : Type 0 where
  pub tables : Tables
  pub reads : ReachReads tables queries expression_rows permits
  pub room : query_count tables * 16 ≤ length out
  pub clear : out ≡ replicate (length out) 0

-- ---- the walk

-- what the walk reads: the query forms and the expression rows of tables that have passed the form checks, and a row of configurations of
-- their features. (At any other configuration the expression rows have nothing, and a choice would pass it on to its second alternative.)
pub record WalkReads (T : Tables) (queries expression_rows reach : List ℕ) : Type 0 where
  pub formed : Formed T
  pub filled : TruthFilled T expression_rows
  pub queries_are : queries ≡ T.queries
  pub among : (c : ℕ) → c < 1024 → row_bit reach c ≡ true → c < configurations T

-- the walk may start at `form`, and there is a row for each form
pub record WalkReady (queries expression_rows reach out : List ℕ) (form : ℕ) : Type 0 where
  pub tables : Tables
  pub reads : WalkReads tables queries expression_rows reach
  pub inside : form < query_count tables
  pub room : query_count tables * 16 ≤ length out

-- what it leaves: row x has besides those configurations of `reach` at which form leads to x
pub record Walked (queries expression_rows : List ℕ) (form : ℕ) (reach before after : List ℕ) : Type 0 where
  pub rows : (T : Tables) → WalkReads T queries expression_rows reach → after ≡ joined before reach (λ c x. leads T c x form)
