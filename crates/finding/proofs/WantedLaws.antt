-- The wanted attributes, taken one after another: each cuts the row by its column row.
use Rattle.std.specs.Prelude.{None}
use Prim.Native.Nat.{ℕ, ◌^◌, ◌<◌}
use mathlib.Core.Path.{◌≡◌, sym, ap, ◌∙◌}
use mathlib.Core.Bool.{Bool, true, ◌&&◌, and-true, and_assoc, false≢true}
use mathlib.Core.List.{List}
use Rattle.sets.specs.Search.{lowest}
use Rattle.sets.specs.Bits.{bit, difference, subset}
use Rattle.sets.specs.Rows.{row_bit, row_in, row_intersect, row_lowest}
use Rattle.sets.proofs.SearchLaws.{lowest_nothing, lowest_same}
use Rattle.sets.proofs.BitLaws.{bit_none, bit-bits_of, zero_bits, subset_without}
use Rattle.sets.proofs.RowLaws.{row_bit_intersect}
use Rattle.report.specs.ColumnRows.{shown}
use Rattle.report.proofs.RulesMembers.{subset_members}
use Rattle.finding.specs.ColumnSearch.{shows_wanted, lowest_shown}

-- ---- the configurations of a row at which column rows show all wanted attributes

-- none is wanted: those of the row
shows_none : (row columns : List ℕ) (c : ℕ) → shows_wanted row columns 0 c ≡ row_bit row c
shows_none row columns c =
    ap (◌&&◌ (row_bit row c)) ((subset_members 0 (shown columns c)).1 (λ a e. absurd (false≢true (sym (bit_none a) ∙ e)))) ∙ and-true (row_bit row c)

-- one of them, a, is taken: those of the row cut by the column row of a, at which the rest are shown
pub shows_one : (row columns : List ℕ) (x a : ℕ) → a < 64 → bit x a ≡ true → (c : ℕ) → c < 1024
    → shows_wanted (row_intersect 16 row (row_in 16 columns a)) columns (difference x (2 ^ a)) c ≡ shows_wanted row columns x c
shows_one row columns x a below member c h =
    let rest : Bool = subset (difference x (2 ^ a)) (shown columns c) in
    ap (λ (t : Bool). t && rest)
    (row_bit_intersect 16 row (row_in 16 columns a) c h ∙ ap (◌&&◌ (row_bit row c)) (sym (bit-bits_of 64 (λ i. row_bit (row_in 16 columns i) c) a below)))
    ∙ and_assoc (row_bit row c) (bit (shown columns c) a) rest
    ∙ ap (◌&&◌ (row_bit row c)) (sym (subset_without x a member (shown columns c)))

-- so where none is left, the lowest of the row is the lowest at which all are shown
pub lowest-shown : (row columns having : List ℕ) (x rest : ℕ) → rest < 2 ^ 64 → lowest (bit rest) 64 ≡ None
    → ((c : ℕ) → c < 1024 → shows_wanted having columns rest c ≡ shows_wanted row columns x c) → row_lowest 16 having ≡ lowest_shown row columns x
unfolding lowest_shown
lowest-shown row columns having x rest narrow none same =
    let empty : rest ≡ 0 = zero_bits 64 rest narrow (lowest_nothing (bit rest) 64 none) in
    lowest_same (row_bit having) (shows_wanted row columns x) 1024
    (λ c l. sym (shows_none having columns c) ∙ ap (λ (z : ℕ). shows_wanted having columns z c) (sym empty) ∙ same c l)
