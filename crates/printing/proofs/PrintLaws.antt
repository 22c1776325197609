-- That the lines written are the print of docs/FORMAT.md, and how many bytes a print has at most.
use Rattle.std.specs.Prelude.{Ok}
use Prim.Native.Nat.{ℕ, zero, suc, ◌+◌, ◌*◌, ◌^◌, ◌≤◌, ◌<◌}
use mathlib.Core.Path.{◌≡◌, refl, sym, ap, ◌∙◌}
use mathlib.Core.Bool.{Bool, true, false, cond}
use mathlib.Core.List.{List, [], ◌∷◌, ◌++◌}
use native.Mathlib.Nat.{lt_of_lt_of_le}
use native.Mathlib.Numerals.{add-one}
use native.Mathlib.Omega.{arith}
use lib.ListN.{length, length-append}
use lib.Pow.{pow_mono}
use Rattle.sets.specs.Bits.{bit}
use Rattle.sets.specs.Rows.{row_of, row_bit}
use Rattle.sets.specs.Lists.{concat, kept}
use Rattle.sets.proofs.ListLaws.{concat_same, concat_grows, kept_same}
use Rattle.sets.proofs.RowLaws.{row_bit-row_of}
use Rattle.report.specs.Tables.{Tables, report}
use Rattle.report.specs.Expressions.{configurations, permitted}
use Rattle.report.specs.Typing.{set_of}
use Rattle.report.specs.ColumnRows.{column_rows, shown}
use Rattle.report.specs.Text.{bytes, decimal, line}
use Rattle.report.specs.Print.{at_line, print_answer}
use Rattle.report.specs.Formed.{Formed}
use Rattle.report.specs.declared.Refusal.{Refusal}
use Rattle.report.proofs.TextLaws.{decimal-length}
use Rattle.report.proofs.TypingLaws.{shown_columns}
use Rattle.writing.specs.Lines.{refusal_line, unread_line, member_text, members_text, configuration_line}
use Rattle.writing.proofs.LinePieces.{members-concat, member_yes, member_no}
use Rattle.writing.proofs.LinePieces.{number, ending, configuration_print, refusal_pieces_lem, unread_pieces_lem, configuration_pieces_lem}
use Rattle.printing.specs.ColumnLines.{configuration_text, accepted_text}
use Rattle.printing.proofs.ColumnLaws.{configuration_yes, configuration_no, accepted_pieces}

-- ---- the print of an accepted report

module _ {T : Tables} (F : Formed T) {permits rows : List ℕ} (permitting : permits ≡ row_of 16 (permitted T)) (columns : rows ≡ column_rows T) where
  -- the row has what is permitted
  pub permits_bit : (c : ℕ) → c < configurations T → row_bit permits c ≡ permitted T c
  permits_bit c h =
      ap (λ (l : List ℕ). row_bit l c) permitting ∙ row_bit-row_of 16 (permitted T) c (lt_of_lt_of_le h (pow_mono F.few))

  -- lines of the permitted configurations, whatever the line of a configuration and its set is: by the rows, and by the definitions
  pub shown_lines : (text : ℕ → ℕ → List ℕ)
      → kept (row_bit permits) (λ c. text c (shown rows c)) (configurations T)
      ≡ kept (permitted T) (λ c. text c (set_of T c (report T))) (configurations T)
  shown_lines text =
      concat_same (configurations T) (λ c. cond (row_bit permits c) (text c (shown rows c)) []) (λ c. cond (permitted T c) (text c (set_of T c (report T))) [])
      (λ c h. ap (λ (t : Bool). cond t (text c (shown rows c)) []) (permits_bit c h) ∙ go c (permitted T c) refl)
    where
      go : (c : ℕ) (t : Bool) → permitted T c ≡ t → cond t (text c (shown rows c)) [] ≡ cond t (text c (set_of T c (report T))) []
      go c true e = ap (text c) (ap (λ (l : List ℕ). shown l c) columns ∙ shown_columns F c e)
      go c false e = refl

  pub accepted_print : accepted_text permits (configurations T) rows ≡ print_answer T (Ok tt)
  unfolding accepted_text
  accepted_print =
      ap (λ (l : List ℕ). line (bytes "accepted") [] ++ l)
      (kept_same (configurations T) {keep = row_bit permits} {keep' = row_bit permits} {block = λ c. configuration_line c (shown rows c)}
      {block' = λ c. at_line c (shown rows c)} (λ c h. refl) (λ c h. sym (configuration_print c (shown rows c)))
      ∙ shown_lines at_line)

-- ---- how long a print is at most

-- the texts of 0, 1, .., n - 1 one after another, shut so that 1,024 of them are not written out
unfoldable texts : (ℕ → List ℕ) → ℕ → List ℕ
texts f n = concat n f

texts_none : (f : ℕ → List ℕ) → length (texts f 0) ≡ 0
unfolding texts
texts_none f = refl

texts_more : (f : ℕ → List ℕ) (k : ℕ) → texts f (k + 1) ≡ texts f k ++ f k
unfolding texts
texts_more f k = ap (λ (i : ℕ). concat i f) (add-one k)

texts_grow : (f : ℕ → List ℕ) (k n : ℕ) → k ≤ n → length (texts f k) ≤ length (texts f n)
unfolding texts
texts_grow f = concat_grows f

members_texts : (s : ℕ) → members_text s ≡ texts (member_text s) 64
unfolding texts
members_texts = members-concat

accepted_texts : (permits : List ℕ) (count : ℕ) (rows : List ℕ)
    → accepted_text permits count rows ≡ line (bytes "accepted") [] ++ texts (configuration_text permits rows) count
unfolding texts
accepted_texts = accepted_pieces

-- texts of which each has a decimal and at most w bytes besides: j of them more, from m on, where all decimals have at most k digits
texts_length : (f : ℕ → List ℕ) (w : ℕ) → ((i : ℕ) → length (f i) ≤ w + length (decimal i)) → (k m j : ℕ) → 0 < k → m + j ≤ 10 ^ k
    → length (texts f (m + j)) ≤ length (texts f m) + j * (w + k)
texts_length f w short k m zero p h = let e : m + 0 ≡ m = omega arith in rw e (omega arith)
texts_length f w short k m (suc j) p h =
    let e : m + suc j ≡ m + j + 1 = omega arith in
    rw e
    (omega (
      arith,
      ap length (texts_more f (m + j)),
      length-append (texts f (m + j)) (f (m + j)),
      texts_length f w short k m j p (omega arith),
      short (m + j),
      decimal-length (m + j) k p (omega arith),
    ))

member_length : (s a : ℕ) → length (member_text s a) ≤ 1 + length (decimal a)
member_length s a = go (bit s a) refl
  where
    go : (t : Bool) → bit s a ≡ t → length (member_text s a) ≤ 1 + length (decimal a)
    go true e = omega (arith, ap length (member_yes s a e))
    go false e = omega (arith, ap length (member_no s a e))

-- ten attributes of one digit, and 54 of two
members_length : (s : ℕ) → length (members_text s) ≤ 182
members_length s =
    let below : (k m j : ℕ) → 0 < k → m + j ≤ 10 ^ k → length (texts (member_text s) (m + j)) ≤ length (texts (member_text s) m) + j * (1 + k) =
    texts_length (member_text s) 1 (member_length s) in
    omega (
      arith,
      ap length (members_texts s),
      texts_none (member_text s),
      below 1 0 10 (omega arith) (omega arith),
      below 2 10 54 (omega arith) (omega arith),
    )

line-length : (c s : ℕ) → length (configuration_line c s) ≤ 194 + length (decimal c)
line-length c s =
    omega (
      arith,
      ap length (configuration_pieces_lem c s),
      length-append (decimal c) ((32 ∷ 40 ∷ bytes "has") ++ (members_text s ++ (41 ∷ 41 ∷ 10 ∷ []))),
      length-append (members_text s) (41 ∷ 41 ∷ 10 ∷ []),
      members_length s,
    )

configuration_length : (permits rows : List ℕ) (c : ℕ) → length (configuration_text permits rows c) ≤ 194 + length (decimal c)
configuration_length permits rows c = go (row_bit permits c) refl
  where
    go : (t : Bool) → row_bit permits c ≡ t → length (configuration_text permits rows c) ≤ 194 + length (decimal c)
    go true e = omega (arith, ap length (configuration_yes permits rows c e refl), line-length c (shown rows c))
    go false e = omega (arith, ap length (configuration_no permits rows c e))

-- the first line, and all configurations with all attributes
pub accepted_room : (permits : List ℕ) (count : ℕ) (rows : List ℕ) → count ≤ 1024 → length (accepted_text permits count rows) ≤ 201653
accepted_room permits count rows few =
    let f : ℕ → List ℕ = configuration_text permits rows in
    let below : (k m j : ℕ) → 0 < k → m + j ≤ 10 ^ k → length (texts f (m + j)) ≤ length (texts f m) + j * (194 + k) =
    texts_length f 194 (configuration_length permits rows) in
    omega (
      arith,
      ap length (accepted_texts permits count rows),
      length-append (line (bytes "accepted") []) (texts f count),
      texts_grow f count 1024 few,
      texts_none f,
      below 1 0 10 (omega arith) (omega arith),
      below 2 10 90 (omega arith) (omega arith),
      below 3 100 900 (omega arith) (omega arith),
      below 4 1000 24 (omega arith) (omega arith),
    )

-- a number of 64 bits, after a space
number_length : (n : ℕ) (rest : List ℕ) → n < 2 ^ 64 → length (number n rest) ≤ 21 + length rest
number_length n rest h = omega (arith, length-append (decimal n) rest, decimal-length n 20 (omega arith) (omega arith))

pub unread_room : (n : ℕ) → n < 2 ^ 64 → length (unread_line n) ≤ 201653
unread_room n h = omega (arith, ap length (unread_pieces_lem n), number_length n ending h)

pub refusal_room : (f : Refusal) → f.number < 2 ^ 64 → f.place < 2 ^ 64 → f.item < 2 ^ 64 → f.configuration < 2 ^ 64
    → length (refusal_line f) ≤ 201653
refusal_room f n p i c =
    let last : List ℕ = number f.configuration ending in
    let two : List ℕ = number f.item last in
    let three : List ℕ = number f.place two in
    omega (
      arith,
      ap length (refusal_pieces_lem f),
      number_length f.number three n,
      number_length f.place two p,
      number_length f.item last i,
      number_length f.configuration ending c,
    )
