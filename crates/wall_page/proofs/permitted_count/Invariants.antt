-- Configuration by configuration: those of the row below c are counted.
use Rattle.std.proofs.Common.{◌≡◌}
use Rattle.sets.specs.Rows.{row_bit}
use Rattle.sets.specs.Search.{count_below}
use Rattle.wall_page.proofs.permitted_count.Given as goal

abbrev pub invariant-loop-c : goal.invariant-loop-c
invariant-loop-c l = l.found ≡ count_below (row_bit l.row.words) l.c
