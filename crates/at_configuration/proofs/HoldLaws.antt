-- Laws of what holds at one configuration: an expression, a choice on it, a relation; and of the forms that are reached there.
use Prim.Native.Nat.{ℕ, ◌+◌, ◌*◌, ◌/◌, ◌%◌, ◌<◌, ◌≤◌}
use mathlib.Core.Path.{◌≡◌, sym, ap, ◌∙◌}
use mathlib.Core.Bool.{Bool, cond, ◌&&◌}
use mathlib.Core.List.{List}
use native.Mathlib.Nat.{lt_of_lt_of_le}
use native.Mathlib.Omega.{arith}
use borrow.Author.Tests.{lt-ltb}
use lib.ListN.{length, get_or}
use lib.Pow.{pow_mono}
use Rattle.sets.specs.Bits.{bit}
use Rattle.sets.specs.Rows.{row_bit, row_in}
use Rattle.sets.proofs.ListLaws.{table_at}
use Rattle.sets.proofs.RowLaws.{row_bit-row_of, bit-within}
use Rattle.report.specs.Tables.{Tables, relation_expression, expression_count, relation_count, query_count}
use Rattle.report.specs.Typing.{at, taken, present, reached}
use Rattle.report.proofs.FormedFacts.{relation_expression_lem}
use Rattle.report.proofs.StepLaws.{taken_below}
use Rattle.expression_rows.specs.ExpressionRows.{ReachFilled}
use Rattle.at_configuration.specs.AtConfiguration.{AtReads, PresentReads, PresentReadable}

-- one bit of row x
pub row_word : (rows : List ℕ) (x c : ℕ) → c < 1024 → bit (get_or rows (x * 16 + c / 64) 0) (c % 64) ≡ row_bit (row_in 16 rows x) c
row_word rows x c h = ap (λ (w : ℕ). bit w (c % 64)) (sym (table_at 16 (λ i. get_or rows (x * 16 + i) 0) 0 (c / 64) (omega arith)))

module _ {T : Tables} {expression_rows : List ℕ} {c : ℕ} (R : AtReads T expression_rows c) where
  narrow : c < 1024
  narrow = lt_of_lt_of_le R.inside (pow_mono R.formed.few)

  module _ {e : ℕ} (h : e < expression_count T) where
    -- an expression has a row, and the row has c where the expression holds at c
    pub rowed : (e * 16 + 16 ≤ length expression_rows) × (c < 1024)
    rowed = (let m = R.filled.room in omega arith, narrow)

    pub holds_in : row_bit (row_in 16 expression_rows e) c ≡ at T c e
    holds_in = ap (λ (l : List ℕ). row_bit l c) (R.filled.each e h) ∙ bit-within T.features (λ d. at T d e) 16 c R.inside narrow

    -- a choice on it takes one of two alternatives
    module _ {a b n : ℕ} (l : (a < n) × (b < n)) {k : ℕ} (p : k ≡ cond (row_bit (row_in 16 expression_rows e) c) a b) where
      pub taken_is : k ≡ taken T c e a b
      taken_is = p ∙ ap (λ (t : Bool). cond t a b) holds_in

      pub taken_in : k < n
      taken_in = rw taken_is (taken_below (at T c e) l)

  -- a query form has a reach row, and the row has c where c reaches the form
  module _ {reach : List ℕ} (W : ReachFilled T reach) {q : ℕ} (h : q < query_count T) where
    pub reach_row : (q * 16 + 16 ≤ length reach) × (c < 1024)
    reach_row = (let m = W.room in omega arith, narrow)

    pub reach_has : row_bit (row_in 16 reach q) c ≡ reached T c q
    reach_has = ap (λ (l : List ℕ). row_bit l c) (W.each q h) ∙ row_bit-row_of 16 (λ d. reached T d q) c narrow

-- ---- one relation

module _ {T : Tables} {expression_rows relations : List ℕ} {c r : ℕ} (R : PresentReads T expression_rows relations c) (h : r < length relations / 2) where
  relation_in : r < relation_count T
  relation_in = rw R.relations_are at h

  module _ {e : ℕ} (p : e ≡ relation_expression relations r) where
    condition_is : e ≡ relation_expression T.relations r
    condition_is = p ∙ ap (λ (t : List ℕ). relation_expression t r) R.relations_are

    condition_in : e < expression_count T
    condition_in = rw condition_is (relation_expression_lem R.reads.formed r relation_in)

    pub present_rowed : (e * 16 + 16 ≤ length expression_rows) × (c < 1024)
    present_rowed = rowed R.reads condition_in

    pub present_is : {b : Bool} → b ≡ row_bit (row_in 16 expression_rows e) c → b ≡ present T c r
    present_is d =
        d ∙ holds_in R.reads condition_in ∙ ap (at T c) condition_is
        ∙ ap (λ (t : Bool). t && at T c (relation_expression T.relations r)) (sym (lt-ltb r (relation_count T) relation_in))

-- relation r can be asked for
pub relation_read : {expression_rows relations : List ℕ} {c r : ℕ} → PresentReadable expression_rows relations c (r + 1) → r < length relations / 2
relation_read A = rw A.reads.relations_are (let l = A.few in omega arith)
