-- The lines of the page, from the rows, and that they are those of the definition.
use Prim.Native.Nat.{ℕ, ◌+◌, ◌*◌, ◌≤◌, ◌<◌}
use mathlib.Core.Path.{◌≡◌, refl, sym, ap, ◌∙◌}
use mathlib.Core.Bool.{true, cond}
use mathlib.Core.List.{List, []}
use native.Mathlib.Nat.{le_refl}
use native.Mathlib.Omega.{arith}
use lib.ListN.{length, get_or}
use Rattle.sets.specs.Lists.{concat}
use Rattle.sets.specs.Search.{count_below}
use Rattle.sets.specs.Bits.{bit}
use Rattle.sets.specs.Rows.{row_bit, row_of, row_in}
use Rattle.sets.proofs.ListLaws.{kept-length, kept_word}
use Rattle.sets.proofs.SearchLaws.{count_same, count_le}
use Rattle.sets.proofs.BitLaws.{bit-bits_of}
use Rattle.report.specs.Tables.{Tables, report}
use Rattle.report.specs.Expressions.{configurations, permitted}
use Rattle.report.specs.Typing.{set_of}
use Rattle.report.specs.ColumnRows.{column_rows, shown}
use Rattle.report.specs.Formed.{Formed}
use Rattle.report.proofs.TypingLaws.{permitted_within, permitted_1024, shown_columns}
use Rattle.printing.specs.Page.{mark, page_line, page}
use Rattle.printing.specs.PageRows.{page_text, permitted_count}
use Rattle.printing.proofs.PrintLaws.{permits_bit, shown_lines}
use Rattle.printing.proofs.PageLineLaws.{line-length}
use Rattle.printing.proofs.PageLineBytes.{line_mark}

-- ---- the lines, from the rows

pub text_lines : (permits : List ℕ) (count : ℕ) (rows : List ℕ)
    → page_text permits count rows ≡ concat count (λ c. cond (row_bit permits c) (page_line c (shown rows c)) [])
unfolding page_text
text_lines permits count rows = refl

-- how many they are
pub permitted_count_lem : (permits : List ℕ) (count : ℕ) → permitted_count permits count ≡ count_below (row_bit permits) count
unfolding permitted_count
permitted_count_lem permits count = refl

pub lines_few : (permits : List ℕ) {count lines : ℕ} → lines ≡ permitted_count permits count → count ≤ 1024 → lines ≤ 1024
lines_few permits {count} e h = omega (arith, e, permitted_count_lem permits count, count_le (row_bit permits) count)

-- 73 bytes a line
pub text_length : (permits : List ℕ) (count : ℕ) (rows : List ℕ) → count ≤ 1024 → length (page_text permits count rows) ≡ permitted_count permits count * 73
unfolding page_text permitted_count
text_length permits count rows h =
    kept-length (row_bit permits) (λ c. page_line c (shown rows c)) 73 count (λ c l e. line-length c (shown rows c) (omega arith)) count (le_refl count)

-- 1,024 lines at most
pub page_room : (permits : List ℕ) (count : ℕ) (rows : List ℕ) → count ≤ 1024 → length (page_text permits count rows) ≤ 74752
page_room permits count rows h = omega (arith, text_length permits count rows h, lines_few permits {count = count} refl h)

-- ---- they are those of the definition

module _ {T : Tables} (F : Formed T) {permits rows : List ℕ} (permitting : permits ≡ row_of 16 (permitted T)) (columns : rows ≡ column_rows T) where
  pub rows_page : page_text permits (configurations T) rows ≡ page T
  unfolding page_text page
  rows_page = shown_lines F permitting columns page_line

  pub rows_count : permitted_count permits (configurations T) ≡ count_below (permitted T) (configurations T)
  rows_count =
      permitted_count_lem permits (configurations T)
      ∙ count_same (row_bit permits) (permitted T) (configurations T) (permits_bit F permitting columns)

-- the definition's page: its bytes, and byte j of the line of c
module _ {T : Tables} (F : Formed T) where
  wide : (c : ℕ) → c < configurations T → permitted T c ≡ true → length (page_line c (set_of T c (report T))) ≡ 73
  wide c l e = line-length c (set_of T c (report T)) (permitted_1024 F c e)

  pub page_bytes : length (page T) ≡ count_below (permitted T) (configurations T) * 73
  unfolding page
  page_bytes =
      kept-length (permitted T) (λ c. page_line c (set_of T c (report T))) 73 (configurations T) wide (configurations T) (le_refl (configurations T))

  pub page_byte : (c j : ℕ) → permitted T c ≡ true → j < 73
      → get_or (page T) (count_below (permitted T) c * 73 + j) 0 ≡ get_or (page_line c (set_of T c (report T))) j 0
  unfolding page
  page_byte c j e =
      kept_word (permitted T) (λ d. page_line d (set_of T d (report T))) 73 (configurations T) wide 0 c j (permitted_within T c e) e

  -- the mark of attribute a on the line of c is that of the bit of c in row a
  pub page-mark : (c a : ℕ) → permitted T c ≡ true → a < 64
      → get_or (page T) (count_below (permitted T) c * 73 + (5 + a)) 0 ≡ mark (row_bit (row_in 16 (column_rows T) a) c)
  page-mark c a e h =
      page_byte c (5 + a) e (omega arith) ∙ line_mark c (set_of T c (report T)) (permitted_1024 F c e) a h
      ∙ ap mark (ap (λ (s : ℕ). bit s a) (sym (shown_columns F c e)) ∙ bit-bits_of 64 (λ k. row_bit (row_in 16 (column_rows T) k) c) a h)
