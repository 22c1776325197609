-- Laws of the column rows, whichever way typing goes: what they are when the rows of all items have been written.
use Prim.Native.Nat.{ℕ, suc, ◌+◌, ◌-◌, ◌*◌, ◌≤◌}
use mathlib.Core.Path.{◌≡◌, refl, sym, ap, ap₂, ◌∙◌}
use mathlib.Core.Bool.{Bool, false, ◌&&◌, and-false}
use mathlib.Core.List.{List, ◌++◌, append-nil, append_assoc}
use native.Mathlib.Decide.{le_ind}
use native.Mathlib.Omega.{arith}
use lib.ListN.{length, drop, replicate, length-replicate, replicate-append-replicate}
use lib.Seq.{drop_at}
use Rattle.sets.specs.Lists.{concat}
use Rattle.sets.specs.Bits.{bits_of}
use Rattle.sets.specs.Rows.{row_of}
use Rattle.sets.proofs.ListLaws.{concat-length}
use Rattle.sets.proofs.BitLaws.{bit_above}
use Rattle.sets.proofs.RowLaws.{row_of_same}
use Rattle.report.specs.Tables.{Tables, report}
use Rattle.report.specs.Expressions.{permitted}
use Rattle.report.specs.Typing.{set_of}
use Rattle.report.specs.ColumnRows.{has_column, column_rows, column_row}
use Rattle.report.specs.Configuring.{written}
use Rattle.report.specs.Formed.{Formed}
use Rattle.report.proofs.FormedFacts.{report_in}
use Rattle.report.proofs.SetLaws.{set_narrow}
use Rattle.report.proofs.TypingLaws.{column_wide}
use Rattle.expression_rows.specs.TypingReads.{Items}

-- a row without configurations
pub no_row : row_of 16 (λ c. false) ≡ replicate 16 0
unfolding bits_of
no_row = refl

-- an attribute from `items` on has no column
column_none : {T : Tables} → Formed T → {items : ℕ} → Items T items → (a : ℕ) → items ≤ a → column_row T a ≡ replicate 16 0
column_none {T} F I a h =
    row_of_same 16 (has_column T a) (λ c. false)
    (λ c l. ap (λ (t : Bool). permitted T c && t)
    (bit_above T.attributes (set_of T c (report T)) a (set_narrow F c (report T) (report_in F)) (let m = I.attributes in omega arith))
    ∙ and-false (permitted T c))
    ∙ no_row

drop_zeros : (k n : ℕ) → k ≤ n → drop {A = ℕ} k (replicate n 0) ≡ replicate (n - k) 0
drop_zeros k n h =
    let e : n ≡ k + (n - k) = omega arith in
    ap (λ (m : ℕ). drop {A = ℕ} k (replicate m 0)) e ∙ ap (drop {A = ℕ} k) (sym (replicate-append-replicate {A = ℕ} k (n - k) 0))
    ∙ drop_at {A = ℕ} (replicate k 0) (replicate (n - k) 0) k (length-replicate {A = ℕ} k 0)

-- rows from k on that have only zeros
zeros_after : (f : ℕ → List ℕ) (k : ℕ) → ((i : ℕ) → k ≤ i → f i ≡ replicate 16 0) → (n : ℕ) → k ≤ n
    → concat n f ≡ concat k f ++ replicate ((n - k) * 16) 0
zeros_after f k z =
    le_ind (λ (n : ℕ). concat n f ≡ concat k f ++ replicate ((n - k) * 16) 0)
    (let e : 0 ≡ (k - k) * 16 = omega arith in sym (append-nil (concat k f)) ∙ ap (λ (m : ℕ). concat k f ++ replicate m 0) e)
    (λ n h ih.
    let e : (n - k) * 16 + 16 ≡ (suc n - k) * 16 = omega arith in
    ap₂ ◌++◌ ih (z n h) ∙ append_assoc (concat k f) (replicate ((n - k) * 16) 0) (replicate 16 0)
    ∙ ap (λ (l : List ℕ). concat k f ++ l) (replicate-append-replicate ((n - k) * 16) 16 0 ∙ ap (λ (m : ℕ). replicate m 0) e))

-- the rows that were written over 1,024 zeros are the column rows
pub columns_shown : {T : Tables} → Formed T → {items : ℕ} → Items T items → {columns : List ℕ}
    → columns ≡ written (concat items (column_row T)) (replicate 1024 0) → columns ≡ column_rows T
unfolding column_rows
columns_shown {T} F {items} I e =
    let m = I.most in
    let l : length (concat items (column_row T)) ≡ items * 16 = concat-length (column_row T) 16 items (λ a h. column_wide T a) in
    let s : 1024 - items * 16 ≡ (64 - items) * 16 = omega arith in
    e
    ∙ ap (λ (r : List ℕ). concat items (column_row T) ++ r)
    (ap (λ (k : ℕ). drop {A = ℕ} k (replicate 1024 0)) l ∙ drop_zeros (items * 16) 1024 (omega arith) ∙ ap (λ (k : ℕ). replicate {A = ℕ} k 0) s)
    ∙ sym (zeros_after (column_row T) items (column_none F I) 64 m)
