-- Laws of sets that are read: of two, and of the one that a choice takes.
use Prim.Native.Nat.{ℕ, ◌<◌}
use mathlib.Core.Path.{◌≡◌, ap, ap₂, ◌∙◌}
use mathlib.Core.Bool.{cond}
use mathlib.Core.List.{List}
use native.Mathlib.Omega.{arith}
use lib.ListN.{length, get_or}
use Rattle.sets.specs.Lists.{NumbersAre}
use Rattle.sets.specs.Rows.{row_bit, row_in}
use Rattle.report.specs.Tables.{Tables, expression_count}
use Rattle.report.specs.Typing.{taken}
use Rattle.at_configuration.specs.AtConfiguration.{AtReads}
use Rattle.at_configuration.proofs.HoldLaws.{taken_is, taken_in}

-- two of the first n sets
module _ {n : ℕ} {f : ℕ → ℕ} {sets : List ℕ} (S : NumbersAre n f sets) {a b : ℕ} (l : (a < n) × (b < n)) where
  pub both_are : (op : ℕ → ℕ → ℕ) {s : ℕ} → s ≡ op (get_or sets a 0) (get_or sets b 0) → s ≡ op (f a) (f b)
  both_are op p = p ∙ ap₂ op (S.each a l.0) (S.each b l.1)

  -- a choice takes one of them
  module _ {T : Tables} {expression_rows : List ℕ} {c : ℕ} (R : AtReads T expression_rows c) {e : ℕ} (h : e < expression_count T) {k : ℕ}
      (p : k ≡ cond (row_bit (row_in 16 expression_rows e) c) a b) where
    pub either_in : k < length sets
    either_in = let m = S.room in let i = taken_in R h l p in omega arith

    pub either_is : {s : ℕ} → s ≡ get_or sets k 0 → s ≡ f (taken T c e a b)
    either_is q = q ∙ S.each k (taken_in R h l p) ∙ ap f (taken_is R h l p)
