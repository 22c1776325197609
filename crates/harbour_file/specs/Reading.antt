-- Reading a file from its start, group by group: what the code does. That it gives the file's first bad line is proofs/FirstBadLine.
use Rattle.std.specs.Prelude.{ℕ, zero, suc, ◌-◌, cond, List, [], ◌∷◌, ◌++◌, length, get_or, ltb, eqb}
use Rattle.reading.specs.Scanning.{on_step, line_at}
use Rattle.report.specs.Tables.{shape_of}
use Rattle.report.specs.HarbourFile.{Group, group_of, groups, File, kinds_or, tables_from}

-- the lines of a group that were read: their words, the position after them and the number of the line that stands there, from 1
pub record Part : Type 0 where
  pub words : List ℕ
  pub at : ℕ
  pub line : ℕ

abbrev pub part_of : List ℕ → ℕ → ℕ → Part
part_of words at line = record { words = words; at = at; line = line }

abbrev pub with_line : List ℕ → Part → Part
with_line ns p = part_of (ns ++ p.words) p.at p.line

-- at most k lines of the word and `width` numbers, from `at` on, where line number n stands
unfoldable pub group_lines_from : List ℕ → List ℕ → ℕ → ℕ → ℕ → ℕ → Part
group_lines_from s word width zero at n = part_of [] at n
group_lines_from s word width (suc k) at n =
    let l = line_at s word width at in
    on_step l.step (λ p. with_line l.numbers (group_lines_from s word width k p (suc n))) (λ p. part_of [] at n)

-- the part of a group that starts at `at`, where line number n stands
abbrev pub group_part : List ℕ → Group → ℕ → ℕ → Part
group_part s g at n = group_lines_from s (40 ∷ g.word) g.shape.width g.shape.most at n

-- of the group with number g
abbrev pub group_numbered : ℕ → Group
group_numbered g = get_or groups g (group_of [] (shape_of 0 0 0))

abbrev pub part_from : List ℕ → ℕ → ℕ → ℕ → Part
part_from s g at n = group_part s (group_numbered g) at n

-- the part of the kind lines in a file of m attributes, with the words of its kind table: where there is no line, the kinds that it has without
abbrev pub kind_part : ℕ → Part → Part
kind_part m p = part_of (kinds_or m p.words) p.at p.line

-- the parts of some groups; each group starts where the one before it ends
unfoldable pub parts_from : List ℕ → List Group → ℕ → ℕ → List Part
parts_from s [] at n = []
parts_from s (g ∷ gs) at n = let p = group_part s g at n in p ∷ parts_from s gs p.at p.line

-- the parts of the groups of a file
unfoldable pub file_parts : List ℕ → List Part
file_parts s = parts_from s groups 0 1

abbrev pub part_at : List Part → ℕ → Part
part_at ps g = get_or ps g (part_of [] 0 0)

abbrev pub last_part : List Part → Part
last_part ps = part_at ps (length groups - 1)

-- what the parts of a text say: without a head line 1 is bad; else the line that no group takes in its turn, if there is one
abbrev pub file_from : List ℕ → List Part → File
file_from s ps =
    cond (eqb (length (part_at ps 0).words) 0) (File.unread 1)
    (cond (eqb (last_part ps).at (length s)) (File.holds (tables_from (λ g. (part_at ps g).words))) (File.unread (last_part ps).line))

-- a file over 65,536 bytes is not read: 0
unfoldable pub read_file : List ℕ → File
read_file s = cond (ltb 65536 (length s)) (File.unread 0) (file_from s (file_parts s))
