-- What the reader's functions answer, and what they leave in the words that are lent.
use Rattle.std.specs.Prelude.{ℕ, suc, ◌+◌, ◌*◌, ◌≤◌, ◌≡◌, cond, List, [], ◌∷◌, length, take, get_or, ltb, Result, Ok, Err}
use lib.Seq.{sets}
use Rattle.report.specs.Expressions.{holds}
use Rattle.report.specs.Tables.{Tables}
use Rattle.report.specs.Configuring.{written}
use Rattle.report.specs.HarbourFile.{File, kinds_or}
use Rattle.report.specs.declared.Head.{Head}
use Rattle.reading.specs.Scanning.{line_at}
use Rattle.harbour_file.specs.Reading.{Part, group_lines_from, group_numbered, part_from, file_parts, part_at}
use Rattle.harbour_file.specs.declared.Place.{Place}
use Rattle.harbour_file.specs.declared.Sizes.{Sizes}
use Rattle.harbour_file.specs.declared.BadLine.{BadLine}

-- ---- a group

-- there is room for a group's words, and its line numbers are small
pub record GroupRoom (width most line : ℕ) (out : List ℕ) : Type 0 where
  pub words : most * width ≤ length out
  pub lines : line + most ≤ 4096

-- The words lent for a group, afterwards: the words of its lines; after them, of the line at which the group ends, the numbers before the line breaks off.
-- (A group that has as many lines as it may ends without a look at the next.)
unfoldable pub lines_left : List ℕ → List ℕ → ℕ → ℕ → ℕ → ℕ → List ℕ → List ℕ
lines_left s word width most at n lent =
    let p = group_lines_from s word width most at n in
    sets (written p.words lent) (length p.words) (cond (ltb p.line (n + most)) (line_at s word width p.at).numbers [])

-- of the group with number g, which starts at `at`, where line number n stands
abbrev pub group_left : List ℕ → ℕ → ℕ → ℕ → List ℕ → List ℕ
group_left s g at n = let group = group_numbered g in lines_left s (40 ∷ group.word) group.shape.width group.shape.most at n

-- of the kind lines in a file of m attributes: where there is none, the kinds that the file has without
abbrev pub kinds_left : ℕ → List ℕ → ℕ → ℕ → List ℕ → List ℕ
kinds_left m s at n lent = written (kinds_or m (part_from s 6 at n).words) (group_left s 6 at n lent)

-- the answer for a group, whose last line number is at most `most`, and what is left
pub record GroupTaken (part : Part) (left : List ℕ) (most : ℕ) (answer : Place) (after : List ℕ) : Type 0 where
  pub place : answer.at ≡ part.at
  pub number : answer.line ≡ part.line
  pub few : answer.line ≤ most
  pub long : answer.end ≡ length part.words
  pub stored : after ≡ left

-- ---- a file

-- the head, from its three words
abbrev pub head_of : List ℕ → Head
head_of words = record { features = get_or words 0 0; attributes = get_or words 1 0; model = get_or words 2 0 }

-- the words that are lent for the head and the tables
pub record FileWords : Type 0 where
  pub head : List ℕ
  pub expressions : List ℕ
  pub entries : List ℕ
  pub relations : List ℕ
  pub comparisons : List ℕ
  pub queries : List ℕ
  pub kinds : List ℕ

abbrev pub file_words : List ℕ → List ℕ → List ℕ → List ℕ → List ℕ → List ℕ → List ℕ → FileWords
file_words head expressions entries relations comparisons queries kinds = record {
  head = head;
  expressions = expressions;
  entries = entries;
  relations = relations;
  comparisons = comparisons;
  queries = queries;
  kinds = kinds;
}

-- there is room for the head and for every table
pub record Lent (lent : FileWords) : Type 0 where
  pub head_room : 3 ≤ length lent.head
  pub expressions_room : 768 ≤ length lent.expressions
  pub entries_room : 1024 ≤ length lent.entries
  pub relations_room : 64 ≤ length lent.relations
  pub comparisons_room : 1280 ≤ length lent.comparisons
  pub queries_room : 1024 ≤ length lent.queries
  pub kinds_room : 64 ≤ length lent.kinds

-- how many words each table has
abbrev pub sizes_of : Tables → Sizes
sizes_of T = record {
  expressions = length T.expressions;
  entries = length T.entries;
  relations = length T.relations;
  comparisons = length T.comparisons;
  queries = length T.queries;
  kinds = length T.kinds;
}

-- the answer for a file: the number of its first bad line, or how many words its tables have
abbrev pub outcome_of : File → Result Sizes BadLine
outcome_of (File.unread n) = Err (record { number = n })
outcome_of (File.holds T) = Ok (sizes_of T)

-- The lent words afterwards: every group is read, also after a bad line, and each starts where the one before it ends. How many kinds there are without
-- kind lines is by word 1 of the head, whatever stands there
unfoldable pub groups_left : List ℕ → FileWords → FileWords
groups_left s lent =
    let left : ℕ → List ℕ → List ℕ = λ g. let before = part_at (file_parts s) g in group_left s (suc g) before.at before.line in
    let head : List ℕ = group_left s 0 0 1 lent.head in
    let queries = part_at (file_parts s) 5 in
    file_words head (left 0 lent.expressions) (left 1 lent.entries) (left 2 lent.relations) (left 3 lent.comparisons) (left 4 lent.queries)
    (kinds_left (get_or head 1 0) s queries.at queries.line lent.kinds)

-- a file over 65,536 bytes is not read, and nothing is stored
unfoldable pub file_left : List ℕ → FileWords → FileWords
file_left s lent = cond (ltb 65536 (length s)) lent (groups_left s lent)

-- what is answered, and what is left
pub record Filed (file : File) (left : FileWords) (answer : Result Sizes BadLine) (after : FileWords) : Type 0 where
  pub answers : answer ≡ outcome_of file
  pub stored : after ≡ left

-- ---- where the tables of a file that was read stand (proofs/FileHeld: read-told)

-- at the start of the words lent for them
abbrev pub Starts : List ℕ → List ℕ → Type 0
Starts table words = take (length words) table ≡ words

pub record Held (T : Tables) (sizes : Sizes) (left : FileWords) : Type 0 where
  pub lengths : sizes ≡ sizes_of T
  pub features : get_or left.head 0 0 ≡ T.features
  pub attributes : get_or left.head 1 0 ≡ T.attributes
  pub model : get_or left.head 2 0 ≡ T.model
  pub expressions_start : Starts left.expressions T.expressions
  pub entries_start : Starts left.entries T.entries
  pub relations_start : Starts left.relations T.relations
  pub comparisons_start : Starts left.comparisons T.comparisons
  pub queries_start : Starts left.queries T.queries
  pub kinds_start : Starts left.kinds T.kinds
  pub worked : T.truth ≡ holds T.expressions
