-- docs/FORMAT.md, "Harbour file": which lines a file may have, its first bad line, the tables that it holds.
use Rattle.std.specs.Prelude.{ℕ, zero, suc, ◌+◌, min, Bool, true, false, ◌&&◌, ◌||◌, not, List, [], ◌∷◌, ◌++◌, map, length, get_or, replicate, leb, ltb, eqb, Option, Some, None}
use Rattle.sets.specs.Search.{lowest, all_below, count_below}
use Rattle.sets.specs.Lists.{kept}
use Rattle.report.specs.Tables.{Tables, Shape, shape_of, shapes}
use Rattle.report.specs.Expressions.{tables_of}
use Rattle.report.specs.Text.{bytes, line, same, numbers_in}

-- the word of a group of lines, and how many numbers a line has and how many lines the group may have
pub record Group : Type 0 where
  pub word : List ℕ
  pub shape : Shape

abbrev pub group_of : List ℕ → Shape → Group
group_of word shape = record { word = word; shape = shape }

-- the groups in their order: one head line, then the forms of tables 0 to 4, then the words of the kind table
abbrev pub groups : List Group
groups =
    group_of (bytes "head") (shape_of 3 1 1)
    ∷ group_of (bytes "expression") (get_or shapes 0 (shape_of 0 0 0))
    ∷ group_of (bytes "entry") (get_or shapes 1 (shape_of 0 0 0))
    ∷ group_of (bytes "relation") (get_or shapes 2 (shape_of 0 0 0))
    ∷ group_of (bytes "comparison") (get_or shapes 3 (shape_of 0 0 0))
    ∷ group_of (bytes "query") (get_or shapes 4 (shape_of 0 0 0))
    ∷ group_of (bytes "kind") (shape_of 1 0 64)
    ∷ []

-- ---- lines: each ends with its line feed; bytes after the last line feed are a line too

abbrev pub lines_from : List ℕ → List ℕ → List (List ℕ)
lines_from [] [] = []
lines_from (x ∷ begun) [] = (x ∷ begun) ∷ []
lines_from begun (b ∷ rest) =
    elim (eqb b 10) [ true ↦ (begun ++ (b ∷ [])) ∷ lines_from [] rest | false ↦ lines_from (begun ++ (b ∷ [])) rest ]

unfoldable pub lines_of : List ℕ → List (List ℕ)
lines_of = lines_from []

-- ---- one line

abbrev pub all_at_most : ℕ → List ℕ → Bool
all_at_most most [] = true
all_at_most most (n ∷ ns) = leb n most && all_at_most most ns

-- a line of the group: as many numbers as its form has words, each at most 65535, and the line is exactly their text
abbrev pub is_line_of : Group → List ℕ → Bool
is_line_of g text =
    let ns = numbers_in text in
    eqb (length ns) g.shape.width && all_at_most 65535 ns && same text (line g.word ns)

-- the number of the group whose line it is; where it is none's, how many groups there are
abbrev pub group_number : List Group → List ℕ → ℕ
group_number [] text = 0
group_number (g ∷ gs) text = elim (is_line_of g text) [ true ↦ 0 | false ↦ suc (group_number gs text) ]

-- ---- a file's lines, by the numbers of their groups

module _ (group : ℕ → ℕ) where
  -- line k from 0 is "a line not so, out of order or past its table's range", or the first and no head: it is no group's; or a line before it
  -- is of a later group; or there are as many lines of its group before it as the group may have
  abbrev pub is_bad : ℕ → Bool
  is_bad k =
      leb (length groups) (group k)
      || not (all_below (λ j. leb (group j) (group k)) k)
      || leb (get_or groups (group k) (group_of [] (shape_of 0 0 0))).shape.most (count_below (λ j. eqb (group j) (group k)) k)
      || (eqb k 0 && not (eqb (group k) 0))

  -- the numbers of the lines of group g, one after another
  abbrev pub words_of : List (List ℕ) → ℕ → List ℕ
  words_of lines g = kept (λ k. eqb (group k) g) (λ k. numbers_in (get_or lines k [])) (length lines)

-- what a file holds: tables, or the number of its first bad line
pub data File : Type 0 where
  unread : ℕ → File
  holds : Tables → File

-- the kind table of a file whose head says m attributes: its kind lines' or, with none, all kinds are 0. They are written for at most 64 attributes: where
-- there are more, 1 refuses the report before its kinds are looked at
abbrev pub kinds_or : ℕ → List ℕ → List ℕ
kinds_or m [] = replicate (min m 64) 0
kinds_or m (k ∷ ks) = k ∷ ks

abbrev pub tables_from : (ℕ → List ℕ) → Tables
tables_from ws =
    tables_of (get_or (ws 0) 0 0) (get_or (ws 0) 1 0) (get_or (ws 0) 2 0) (ws 1) (ws 2) (ws 3) (ws 4) (ws 5) (kinds_or (get_or (ws 0) 1 0) (ws 6))

abbrev pub file_or : Option ℕ → Tables → File
file_or (Some k) T = unread (suc k)
file_or None T = holds T

-- a file without lines has no head, and that is line 1
abbrev pub at_least_one : ℕ → ℕ
at_least_one zero = 1
at_least_one (suc n) = suc n

unfoldable pub file_lines : List (List ℕ) → File
file_lines lines =
    let numbers = map (group_number groups) lines in
    let group : ℕ → ℕ = λ k. get_or numbers k (length groups) in
    file_or (lowest (is_bad group) (at_least_one (length lines))) (tables_from (words_of group lines))

-- a file of more than 65,536 bytes is not read: 0
unfoldable pub file_of : List ℕ → File
file_of text = elim (ltb 65536 (length text)) [ true ↦ unread 0 | false ↦ file_lines (lines_of text) ]
