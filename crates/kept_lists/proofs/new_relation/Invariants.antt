-- Those below i that are present are counted, and no more.
use Prim.Native.Nat.{◌≤◌}
use mathlib.Core.Path.{◌≡◌}
use Rattle.sets.specs.Search.{count_below}
use Rattle.report.specs.Tables.{Tables}
use Rattle.report.specs.Typing.{present}
use Rattle.at_configuration.specs.AtConfiguration.{PresentReads}
use Rattle.kept_lists.proofs.new_relation.Given as goal

abbrev pub invariant-loop-i : goal.invariant-loop-i
invariant-loop-i l = record {
  least : l.kept ≤ l.i;
  counted : (T : Tables) → PresentReads T l.expression_rows l.relations l.c → l.kept ≡ count_below (present T l.c) l.i;
}
