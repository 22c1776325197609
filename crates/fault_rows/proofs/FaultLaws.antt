-- Laws for the crates above: what the rows of faults are at the end, when every item has been looked at.
use Prim.Native.Nat.{ℕ, zero, suc, ◌^◌, ◌<◌}
use mathlib.Core.Path.{◌≡◌, refl, sym, ap, ◌∙◌}
use mathlib.Core.Bool.{Bool, true, false, cond, not, ◌&&◌, false≢true}
use native.Mathlib.Nat.{lt_of_lt_of_le}
use native.Mathlib.Omega.{arith}
use borrow.Author.Tests.{eq-eqb, ne_eqb}
use lib.Bits.{and_lt, or_lt, xor_lt}
use lib.Dec.{eqb}
use lib.Pow.{pow_pos, pow-lt, pow_mono}
use Rattle.sets.specs.Search.{some_below}
use Rattle.sets.specs.Bits.{bit}
use Rattle.sets.proofs.SearchLaws.{some_at, some_none}
use Rattle.sets.proofs.BitLaws.{bit_none, zero_bits, bits_of-bit, difference_lt}
use Rattle.sets.proofs.RowLaws.{row_of_same}
use Rattle.report.specs.Tables.{Tables, query, query_count}
use Rattle.report.specs.Expressions.{configurations}
use Rattle.report.specs.Typing.{present, set_of, reached, faults_of, faults}
use Rattle.report.specs.Readings.{found_in, found_below, spared, faults_by, fails_by}
use Rattle.report.specs.Formed.{Formed, QueryLower}
use Rattle.report.specs.declared.Query.{Query}
use Rattle.report.specs.declared.Reading.{Reading}
use Rattle.report.proofs.FormedFacts.{query_at}
use Rattle.report.proofs.SetLaws.{joined_narrow, names_narrow, set_narrow}
use Rattle.report.proofs.ReadingLaws.{faults-spared}
use Rattle.expression_rows.specs.TypingReads.{Items}
use Rattle.fault_rows.specs.FaultRows.{faulty_row, fails_row}
use Rattle.fault_rows.specs.FaultRules.{spared_below}

-- ---- items at fault are below `items`

module _ {T : Tables} (F : Formed T) {items : ℕ} (I : Items T items) (c : ℕ) where
  narrow : {x : ℕ} → x < 2 ^ T.attributes → x < 2 ^ items
  narrow h = lt_of_lt_of_le h (pow_mono I.attributes)

  operand : {b q : ℕ} → b < q → q < query_count T → set_of T c b < 2 ^ items
  operand {b} l h = narrow (set_narrow F c b (omega arith))

  faults_rule : (q : ℕ) → q < query_count T → (x : Query) → QueryLower T q x → faults_of T c q x < 2 ^ items
  faults_rule q h Query.Malformed l = absurd l
  faults_rule q h Query.Empty l = pow_pos items
  faults_rule q h (Query.Relation r) l = fault (present T c r)
    where
      fault : (t : Bool) → cond t 0 (2 ^ r) < 2 ^ items
      fault true = pow_pos items
      fault false = pow-lt {i = r} {j = items} (let n = I.relations in omega arith)
  faults_rule q h (Query.Select f b) l = difference_lt items _ _ (narrow (names_narrow F c f l.0))
  faults_rule q h (Query.Project n b) l = difference_lt items _ _ (narrow (joined_narrow F c _ n l.0))
  faults_rule q h (Query.Choice e b d) l = pow_pos items
  faults_rule q h (Query.Product b d) l = and_lt items _ _ (operand l.first.lower h) (operand l.second.lower h)
  faults_rule q h (Query.Union b d) l = xor_lt items _ _ (operand l.first.lower h) (operand l.second.lower h)
  faults_rule q h (Query.Intersection b d) l = xor_lt items _ _ (operand l.first.lower h) (operand l.second.lower h)

  -- what breaks a form's rule is below `items`, in the first phase
  faults_below : (q : ℕ) → q < query_count T → faults T c 0 q < 2 ^ items
  unfolding faults
  faults_below q h = faults_rule q h (query T.queries q) (query_at F q h)

  pub held_below : (R : Reading) (q : ℕ) → q < query_count T → faults_by T R c 0 q < 2 ^ items
  held_below R q h = rw (faults-spared T R c q) (difference_lt items (faults T c 0 q) (spared T R q) (faults_below q h))

  -- and so is what a form finds
  found_rule : (q : ℕ) → q < query_count T → (x : Query) → QueryLower T q x → found_in T c q x < 2 ^ items
  found_rule q h Query.Malformed l = absurd l
  found_rule q h Query.Empty l = pow_pos items
  found_rule q h (Query.Relation r) l = found (present T c r)
    where
      found : (t : Bool) → cond t (2 ^ r) 0 < 2 ^ items
      found true = pow-lt {i = r} {j = items} (let n = I.relations in omega arith)
      found false = pow_pos items
  found_rule q h (Query.Select f b) l = pow_pos items
  found_rule q h (Query.Project n b) l = and_lt items _ _ (narrow (joined_narrow F c _ n l.0)) (operand l.1.lower h)
  found_rule q h (Query.Choice e b d) l = pow_pos items
  found_rule q h (Query.Product b d) l = pow_pos items
  found_rule q h (Query.Union b d) l = pow_pos items
  found_rule q h (Query.Intersection b d) l = pow_pos items

-- ---- what a form is spared is below `items`

module _ {T : Tables} (F : Formed T) {items : ℕ} (I : Items T items) (q : ℕ) (h : q < query_count T) where
  found_below_lem : (n : ℕ) → found_below T n q < 2 ^ items
  unfolding found_below
  found_below_lem zero = pow_pos items
  found_below_lem (suc n) = or_lt items _ _ (found_below_lem n) (go (reached T n q))
    where
      go : (t : Bool) → cond t (found_in T n q (query T.queries q)) 0 < 2 ^ items
      go true = found_rule F I n q h (query T.queries q) (query_at F q h)
      go false = pow_pos items

  spared_narrow : (R : Reading) → spared T R q < 2 ^ items
  unfolding spared
  spared_narrow Reading.Strict = pow_pos items
  spared_narrow Reading.Filled = found_below_lem (configurations T)

  pub spared_all : (R : Reading) → spared_below T R items q ≡ spared T R q
  spared_all R = bits_of-bit items (spared T R q) (spared_narrow R)

-- ---- the rows at the end

-- a set of numbers below k has some of them exactly where it is not empty
some_member : (k s : ℕ) → s < 2 ^ k → some_below (bit s) k ≡ not (eqb s 0)
some_member k s h = go (some_below (bit s) k) refl
  where
    go : (t : Bool) → some_below (bit s) k ≡ t → t ≡ not (eqb s 0)
    go true e =
        let m = some_at (bit s) k e in
        sym (ap not (ne_eqb s 0 (λ z. false≢true (sym (bit_none m.0) ∙ ap (λ (x : ℕ). bit x m.0) (sym z) ∙ m.2))))
    go false e = sym (ap not (eq-eqb s 0 (zero_bits k s h (some_none (bit s) k e))))

-- a form's row has the configurations at which the form fails in the first phase
pub faulty_fails : {T : Tables} → Formed T → {items : ℕ} → Items T items → (R : Reading) (q : ℕ) → q < query_count T
    → faulty_row T R items q ≡ fails_row T R 0 q
faulty_fails {T} F {items} I R q h =
    row_of_same 16 (λ c. reached T c q && some_below (bit (faults_by T R c 0 q)) items) (λ c. fails_by T R c 0 q)
    (λ c l. ap (λ (t : Bool). reached T c q && t) (some_member items (faults_by T R c 0 q) (held_below F I c R q h)))
