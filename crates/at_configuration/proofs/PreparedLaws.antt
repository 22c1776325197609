-- What is read of prepared tables at one configuration.
use Prim.Native.Nat.{ℕ, ◌<◌}
use mathlib.Core.List.{List}
use Rattle.report.specs.Tables.{Tables}
use Rattle.report.specs.Expressions.{configurations}
use Rattle.expression_rows.specs.ExpressionRows.{Prepared}
use Rattle.at_configuration.specs.AtConfiguration.{AtReads, RelationReads, ComparisonReads}

module _ {T : Tables} {expression_rows relation_entries project_entries relations comparisons queries : List ℕ}
    (P : Prepared T expression_rows relation_entries project_entries relations comparisons queries) {c : ℕ} (h : c < configurations T) where
  pub at_reads : AtReads T expression_rows c
  at_reads = record { formed = P.formed; filled = P.filled; inside = h }

  pub relation_reads : RelationReads T expression_rows relation_entries relations c
  relation_reads = record { reads = at_reads; entries_are = P.relation_entries_are; relations_are = P.relations_are }

  pub comparison_reads : ComparisonReads T expression_rows comparisons c
  comparison_reads = record { reads = at_reads; comparisons_are = P.comparisons_are }
