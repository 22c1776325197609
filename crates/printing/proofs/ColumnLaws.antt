-- What the column rows show at one configuration, found attribute by attribute; and the lines that follow from it.
use Prim.Native.Nat.{ℕ, ◌+◌, ◌*◌, ◌/◌, ◌%◌, ◌^◌, ◌≤◌, ◌<◌}
use mathlib.Core.Path.{◌≡◌, refl, sym, ap, ap₂, ◌∙◌}
use mathlib.Core.Bool.{Bool, true, false, cond, ◌&&◌}
use mathlib.Core.List.{List, [], ◌++◌}
use native.Mathlib.Omega.{arith}
use lib.Bits.{bit_or}
use lib.Dec.{ltb}
use lib.ListN.{get_or}
use Rattle.sets.specs.Lists.{concat}
use Rattle.sets.specs.Bits.{bit}
use Rattle.sets.specs.Rows.{row_bit, row_in}
use Rattle.sets.proofs.BitLaws.{one_more, all_below}
use Rattle.sets.proofs.ListLaws.{table_at}
use Rattle.report.specs.ColumnRows.{shown}
use Rattle.report.specs.Text.{bytes, line}
use Rattle.writing.specs.Lines.{configuration_line}
use Rattle.printing.specs.ColumnLines.{configuration_text, accepted_text}

-- ---- what the rows show at c

-- of the attributes below a those that the rows show have been found
pub record Showing (rows : List ℕ) (c found a : ℕ) : Type 0 where
  pub most : a ≤ 64
  pub has : (i : ℕ) → bit found i ≡ (ltb i a && row_bit (row_in 16 rows i) c)

module _ (rows : List ℕ) (c : ℕ) where
  -- the bit of row a for c, as it is read
  row_bit_lem : (a : ℕ) → c < 1024 → bit (get_or rows (a * 16 + c / 64) 0) (c % 64) ≡ row_bit (row_in 16 rows a) c
  row_bit_lem a h = ap (λ (w : ℕ). bit w (c % 64)) (sym (table_at 16 (λ i. get_or rows (a * 16 + i) 0) 0 (c / 64) (omega arith)))

  pub showing_more : {found a : ℕ} → Showing rows c found a → a < 64 → c < 1024
      → {next : ℕ} → next ≡ cond (bit (get_or rows (a * 16 + c / 64) 0) (c % 64)) (bit_or found (2 ^ a)) found → Showing rows c next (a + 1)
  showing_more {found} {a} s h l e = record {
    most = omega arith;
    has = λ i.
        ap (λ (x : ℕ). bit x i) (e ∙ ap (λ (t : Bool). cond t (bit_or found (2 ^ a)) found) (row_bit_lem a l))
        ∙ one_more (λ j. row_bit (row_in 16 rows j) c) a i found (s.has i);
  }

  pub showing_all : {found a : ℕ} → Showing rows c found a → 64 ≤ a → found ≡ shown rows c
  showing_all {found} {a} s h =
      let e : a ≡ 64 = omega (arith, s.most) in
      all_below (λ j. row_bit (row_in 16 rows j) c) 64 found (λ i. s.has i ∙ ap (λ (k : ℕ). ltb i k && row_bit (row_in 16 rows i) c) e)

-- ---- the line of a configuration, by whether it is permitted

pub configuration_yes : (permits rows : List ℕ) (c : ℕ) {s : ℕ} → row_bit permits c ≡ true → s ≡ shown rows c
    → configuration_text permits rows c ≡ configuration_line c s
unfolding configuration_text
configuration_yes permits rows c e f = ap₂ (λ (t : Bool) (x : ℕ). cond t (configuration_line c x) []) e (sym f)

pub configuration_no : (permits rows : List ℕ) (c : ℕ) → row_bit permits c ≡ false → configuration_text permits rows c ≡ []
unfolding configuration_text
configuration_no permits rows c e = ap (λ (t : Bool). cond t (configuration_line c (shown rows c)) []) e

-- ---- the first line, and those of the configurations

pub accepted_pieces : (permits : List ℕ) (count : ℕ) (rows : List ℕ)
    → accepted_text permits count rows ≡ line (bytes "accepted") [] ++ concat count (configuration_text permits rows)
unfolding accepted_text configuration_text
accepted_pieces permits count rows = refl
