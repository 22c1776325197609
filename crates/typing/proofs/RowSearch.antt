-- The search of rows, one after another, for one that is not empty.
use Rattle.std.specs.Prelude.{Some, None}
use Prim.Native.Nat.{ℕ, ◌+◌, ◌<◌, ◌≤◌}
use mathlib.Core.Path.{◌≡◌, sym, ap, ◌∙◌}
use mathlib.Core.Bool.{Bool, true, false, not}
use mathlib.Core.List.{List}
use native.Mathlib.Omega.{arith}
use borrow.Author.Count.{below_more}
use Rattle.sets.specs.Search.{lowest}
use Rattle.sets.specs.Rows.{row_in, row_is_empty}
use Rattle.sets.proofs.SearchLaws.{nothing_lowest, at_lowest}
use Rattle.typing.specs.Typed.{rowed}

-- the rows below q are empty
pub record RowsPassed (rows : List ℕ) (q : ℕ) : Type 0 where
  pub none : (k : ℕ) → k < q → rowed rows k ≡ false

module _ (rows : List ℕ) (count : ℕ) where
  -- row q was read as `row`, and `empty` says whether it is empty
  module _ {q : ℕ} {row : List ℕ} {empty : Bool} (P : RowsPassed rows q) (taken : q < count) (read : row ≡ row_in 16 rows q)
      (told : empty ≡ row_is_empty 16 row)
    where
      here : rowed rows q ≡ not empty
      here = ap not (ap (row_is_empty 16) (sym read) ∙ sym told)

      pub passed_more : not empty ≡ false → RowsPassed rows (q + 1)
      passed_more e = record { none = below_more _ _ P.none (here ∙ e) }

      pub passed_here : not empty ≡ true → Some q ≡ lowest (rowed rows) count
      passed_here e = sym (at_lowest (rowed rows) count q (record { below = taken; holds = here ∙ e; before = P.none }))

  pub passed_all : {q : ℕ} → RowsPassed rows q → count ≤ q → None ≡ lowest (rowed rows) count
  passed_all P left = sym (nothing_lowest (rowed rows) count (λ k h. P.none k (omega arith)))
