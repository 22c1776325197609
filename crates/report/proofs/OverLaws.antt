-- Words written over a lent table (specs/Configuring: written).
use Prim.Native.Nat.{ℕ}
use mathlib.Core.Path.{◌≡◌, refl, sym, ap, ap₂, ◌∙◌}
use mathlib.Core.List.{List, ◌++◌}
use lib.ListN.{length, take, drop, take-append-drop}
use lib.Seq.{drop_at, length-take-le, get_or-take}
use Rattle.sets.specs.Lists.{table, NumbersAre}
use Rattle.sets.proofs.ListLaws.{table-length, table_of}
use Rattle.report.specs.Configuring.{written}

-- over as many others: these are gone
pub written_over : (new old lent : List ℕ) → length new ≡ length old → written new (written old lent) ≡ written new lent
written_over new old lent e =
    ap (λ (l : List ℕ). new ++ l)
    (ap (λ (k : ℕ). drop k (written old lent)) e ∙ drop_at old (drop (length old) lent) (length old) refl ∙ ap (λ (k : ℕ). drop k lent) (sym e))

-- where they stand there already nothing changes
pub written_same : (n : ℕ) (f : ℕ → ℕ) {lent : List ℕ} → NumbersAre n f lent → lent ≡ written (table n f) lent
written_same n f {lent} N =
    sym (take-append-drop n lent)
    ∙ ap₂ ◌++◌ (table_of 0 n f (take n lent) (length-take-le n lent N.room) (λ k h. get_or-take n lent k 0 h ∙ N.each k h))
    (ap (λ (k : ℕ). drop k lent) (sym (table-length n f)))
