use Prim.Native.Nat.{◌/◌}
use lib.ListN.{length}
use Rattle.expression_rows.proofs.RowsFilling.{RowsFilling}
use Rattle.attribute_rows.specs.AttributeRows.{gathered_row, GatheredReads}
use Rattle.attribute_rows.proofs.fill_gathered_rows.Given as goal

abbrev pub invariant-loop-f : goal.invariant-loop-f
invariant-loop-f l = RowsFilling (λ T. GatheredReads T l.tables.expression_rows.now l.tables.comparisons.now l.tables.kinds.now l.full.words) (λ T. gathered_row T l.what) l.a (length l.tables.comparisons.now / 5) l.initial.rows l.rows l.f
