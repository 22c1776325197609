-- docs/FORMAT.md, "The page of H1" and cases more, as lists: one or more for each sentence of Wish 3, and the reading of Wish 7 (docs/ARCHITECTURE.md). Their theorems are
-- proofs/PageExamplesHold. H1 and its parts: crate report, specs/Examples.
use Rattle.std.specs.Prelude.{ℕ, ◌-◌, ◌^◌, List, [], ◌∷◌, ◌++◌, Ok, Err}
use Prim.Native.String.{String}
use Rattle.sets.specs.Lists.{table}
use Rattle.report.specs.Tables.{Tables}
use Rattle.report.specs.Expressions.{tables_of}
use Rattle.report.specs.Text.{bytes}
use Rattle.report.specs.Verdicts.{refusal}
use Rattle.report.specs.Examples.{moments, harbour, h1_expressions, h1_entries, h1_queries, h1, h10}
use Rattle.report.specs.declared.Reading.{Reading}
use Rattle.wall_page.specs.Page.{PageAnswer}
use Rattle.worked_examples.specs.Harbours.{modelled, plain}

-- ---- lines

-- a configuration, a set, and the 72 characters of its line
pub record LineExample : Type 0 where
  pub configuration : ℕ
  pub set : ℕ
  pub gives : String

abbrev of : ℕ → ℕ → String → LineExample
of c s text = record { configuration = c; set = s; gives = text }

abbrev pub line_examples : List LineExample
line_examples =
    -- "64 marks from attribute 0 (`o` present, `.` absent)": no attribute, 0 alone, 63 alone, all
    of 0 0 "   0 ................................................................  0"
    ∷ of 0 1 "   0 o...............................................................  1"
    ∷ of 0 (2 ^ 63) "   0 ...............................................................o  1"
    ∷ of 0 (2 ^ 64 - 1) "   0 oooooooooooooooooooooooooooooooooooooooooooooooooooooooooooooooo 64"
    -- "configuration right-aligned in 4": of one digit, of two, of three and of four
    ∷ of 9 5 "   9 o.o.............................................................  2"
    ∷ of 10 5 "  10 o.o.............................................................  2"
    ∷ of 99 5 "  99 o.o.............................................................  2"
    ∷ of 100 5 " 100 o.o.............................................................  2"
    ∷ of 999 5 " 999 o.o.............................................................  2"
    ∷ of 1000 5 "1000 o.o.............................................................  2"
    ∷ of 1023 5 "1023 o.o.............................................................  2"
    -- "the number of columns right-aligned in 2": 9 and 10
    ∷ of 0 (2 ^ 9 - 1) "   0 ooooooooo.......................................................  9"
    ∷ of 0 (2 ^ 10 - 1) "   0 oooooooooo...................................................... 10"
    ∷ []

-- ---- answers

-- tables, the reading, the number of bytes lent, and the answer
pub record AnswerExample : Type 0 where
  pub of : Tables
  pub reading : Reading
  pub room : ℕ
  pub gives : PageAnswer

abbrev example : Tables → ℕ → PageAnswer → AnswerExample
example T room answer = record { of = T; reading = Reading.Strict; room = room; gives = answer }

abbrev filled : Tables → ℕ → PageAnswer → AnswerExample
filled T room answer = record { of = T; reading = Reading.Filled; room = room; gives = answer }

abbrev pub answer_examples : List AnswerExample
answer_examples =
    -- "return the number of lines", "one line stands for each permitted configuration": of H1 all four, with the model swaps 1 and 3
    example (h1 2) 292 (Ok 4)
    ∷ example (modelled 1) 146 (Ok 2)
    -- "23 the lent page is shorter than 73 × the number of lines": one byte, all bytes, and one line
    ∷ example (h1 2) 291 (Err (refusal 23 0 0 0))
    ∷ example (h1 2) 0 (Err (refusal 23 0 0 0))
    ∷ example (h1 2) 219 (Err (refusal 23 0 0 0))
    ∷ example (modelled 1) 145 (Err (refusal 23 0 0 0))
    -- a longer page than the lines need
    ∷ example (h1 2) 293 (Ok 4)
    -- "checked after 19": H2, which typing refuses; H8, H9 with 11 features
    ∷ example (harbour 2 h1_expressions (h1_entries 1) h1_queries) 0 (Err (refusal 17 1 2 1))
    ∷ example (harbour 2 (0 ∷ 0 ∷ 0 ∷ 2 ∷ 0 ∷ 0 ∷ 2 ∷ 1 ∷ 0 ∷ []) (h1_entries 2) h1_queries) 0 (Err (refusal 12 0 0 0))
    ∷ example (h1 11) 0 (Err (refusal 1 0 0 0))
    -- H9 with 10 features: 1,024 lines
    ∷ example (h1 10) 74752 (Ok 1024)
    ∷ example (h1 10) 74751 (Err (refusal 23 0 0 0))
    -- told the reading (Wish 7): H10, which is refused strictly
    ∷ example h10 292 (Err (refusal 17 3 0 0))
    ∷ filled h10 292 (Ok 4)
    ∷ filled h10 291 (Err (refusal 23 0 0 0))
    ∷ []

-- ---- what stands in the bytes lent afterwards

-- tables, the number of bytes lent, each of which is a question mark, and the bytes afterwards
pub record BytesExample : Type 0 where
  pub of : Tables
  pub room : ℕ
  pub after : List ℕ

abbrev leaves : Tables → ℕ → List ℕ → BytesExample
leaves T room text = record { of = T; room = room; after = text }

-- a line's characters and its line feed
abbrev lined : String → List ℕ
lined text = bytes text ++ (10 ∷ [])

abbrev pub lent : ℕ → List ℕ
lent room = table room (λ i. 63)

-- the page of H1
abbrev h1_page : List ℕ
h1_page =
    lined "   0 o...............................................................  1"
    ++ lined "   1 o...............................................................  1"
    ++ lined "   2 o.o.............................................................  2"
    ++ lined "   3 o.o.............................................................  2"

-- no feature, no attribute, the empty report
abbrev nothing : Tables
nothing = tables_of 0 0 0 (1 ∷ 0 ∷ 0 ∷ []) [] [] [] (0 ∷ 0 ∷ 0 ∷ 0 ∷ []) (moments 0)

abbrev pub bytes_examples : List BytesExample
bytes_examples =
    -- exactly the page, and "bytes after them are unchanged"
    leaves (h1 2) 292 h1_page
    ∷ leaves (h1 2) 294 (h1_page ++ (63 ∷ 63 ∷ []))
    -- "each permitted configuration, ascending": the model is swaps
    ∷ leaves (modelled 1) 146
    (lined "   1 o...............................................................  1"
    ++ lined "   3 o.o.............................................................  2")
    -- attributes from m on are absent
    ∷ leaves (plain 1 (0 ∷ 0 ∷ []) 1) 73 (lined "   0 o...............................................................  1")
    ∷ leaves (plain 64 (63 ∷ 0 ∷ []) 1) 73 (lined "   0 ...............................................................o  1")
    ∷ leaves nothing 73 (lined "   0 ................................................................  0")
    -- a refused call changes no byte: 23, and 17
    ∷ leaves (h1 2) 291 (lent 291)
    ∷ leaves (harbour 2 h1_expressions (h1_entries 1) h1_queries) 292 (lent 292)
    ∷ []
