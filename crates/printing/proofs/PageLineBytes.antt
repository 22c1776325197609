-- The bytes of a line of the page, by their place in it.
use Prim.Native.Nat.{ℕ, ◌+◌, ◌<◌}
use mathlib.Core.Path.{◌≡◌, refl, sym, ap, ap₂, ◌∙◌}
use mathlib.Core.Bool.{Bool, true, false}
use mathlib.Core.List.{List, [], ◌∷◌, ◌++◌}
use native.Mathlib.Omega.{arith}
use lib.Dec.{eqb}
use lib.ListN.{length, get_or, take, drop, get_or-append}
use lib.Seq.{get_or-drop, drop-drop, take-append_seam, drop-append_seam}
use Rattle.sets.specs.Search.{count_below}
use Rattle.sets.specs.Bits.{bit, member_count}
use Rattle.sets.proofs.ListLaws.{table_at}
use Rattle.sets.proofs.SearchLaws.{count_same}
use Rattle.printing.specs.Page.{aligned, mark, marks, page_line}
use Rattle.printing.proofs.PageLineLaws.{aligned-length, marks-length, marks-table, line_pieces, configuration_digits, number_digits}

-- a text from place k on: a piece of n bytes, and the rest
record PieceAt (text : List ℕ) (k n : ℕ) (piece rest : List ℕ) : Type 0 where
  splits : drop k text ≡ piece ++ rest
  long : length piece ≡ n

module _ {text : List ℕ} {k n : ℕ} {piece rest : List ℕ} (p : PieceAt text k n piece rest) where
  piece_taken : take n (drop k text) ≡ piece
  piece_taken = ap₂ take (sym p.long) p.splits ∙ take-append_seam piece rest

  piece_byte : (j : ℕ) → j < n → get_or text (k + j) 0 ≡ get_or piece j 0
  piece_byte j h =
      sym (get_or-drop k text j 0) ∙ ap (λ (l : List ℕ). get_or l j 0) p.splits ∙ get_or-append piece rest 0 j (omega (arith, p.long))

  piece_after : drop (k + n) text ≡ rest
  piece_after = sym (drop-drop n k text) ∙ ap₂ drop (sym p.long) p.splits ∙ drop-append_seam piece rest

-- a mark is `o` where the attribute is present
mark_is : (b : Bool) → eqb (mark b) 111 ≡ b
mark_is true = refl
mark_is false = refl

module _ (c s : ℕ) (h : c < 1024) where
  -- the line from each of its pieces on
  abbrev number : List ℕ
  number = aligned 2 (member_count s) ++ (10 ∷ [])

  abbrev marked : List ℕ
  marked = marks s ++ ((32 ∷ []) ++ number)

  configuration_at : PieceAt (page_line c s) 0 4 (aligned 4 c) ((32 ∷ []) ++ marked)
  configuration_at = record { splits = line_pieces c s refl; long = aligned-length 4 c (configuration_digits c h) }

  space_at : PieceAt (page_line c s) 4 1 (32 ∷ []) marked
  space_at = record { splits = piece_after configuration_at; long = refl }

  marks_at : PieceAt (page_line c s) 5 64 (marks s) ((32 ∷ []) ++ number)
  marks_at = record { splits = piece_after space_at; long = marks-length s }

  space2_at : PieceAt (page_line c s) 69 1 (32 ∷ []) number
  space2_at = record { splits = piece_after marks_at; long = refl }

  number_at : PieceAt (page_line c s) 70 2 (aligned 2 (member_count s)) (10 ∷ [])
  number_at = record { splits = piece_after space2_at; long = aligned-length 2 (member_count s) (number_digits s refl) }

  feed_at : PieceAt (page_line c s) 72 1 (10 ∷ []) []
  feed_at = record { splits = piece_after number_at; long = refl }

  -- the configuration, in the first 4 bytes
  pub line_configuration : take 4 (page_line c s) ≡ aligned 4 c
  line_configuration = piece_taken configuration_at

  -- the mark of attribute a, in byte 5 + a
  pub line_mark : (a : ℕ) → a < 64 → get_or (page_line c s) (5 + a) 0 ≡ mark (bit s a)
  line_mark a l = piece_byte marks_at a l ∙ ap (λ (t : List ℕ). get_or t a 0) (marks-table s) ∙ table_at 64 (λ k. mark (bit s k)) 0 a l

  -- the number of marks `o` is that of the columns
  pub line_marks : count_below (λ a. eqb (get_or (page_line c s) (5 + a) 0) 111) 64 ≡ member_count s
  line_marks =
      count_same (λ a. eqb (get_or (page_line c s) (5 + a) 0) 111) (bit s) 64 (λ a l. ap (λ (b : ℕ). eqb b 111) (line_mark a l) ∙ mark_is (bit s a))

  -- it stands in the last two characters
  pub line_number : take 2 (drop 70 (page_line c s)) ≡ aligned 2 (member_count s)
  line_number = piece_taken number_at

  -- the spaces and the line feed
  pub line_space : get_or (page_line c s) 4 0 ≡ 32
  line_space = piece_byte space_at 0 (omega arith)

  pub line_space2 : get_or (page_line c s) 69 0 ≡ 32
  line_space2 = piece_byte space2_at 0 (omega arith)

  pub line_feed : get_or (page_line c s) 72 0 ≡ 10
  line_feed = piece_byte feed_at 0 (omega arith)
