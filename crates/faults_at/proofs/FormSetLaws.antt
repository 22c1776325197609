-- The sets of the query forms from those of the relations: what is handed on.
use Prim.Native.Nat.{ℕ, ◌/◌, ◌≤◌}
use mathlib.Core.Path.{◌≡◌, ap}
use mathlib.Core.List.{List}
use native.Mathlib.Omega.{arith}
use lib.ListN.{length, replicate}
use Rattle.sets.specs.Lists.{table}
use Rattle.sets.proofs.ListLaws.{numbers_are}
use Rattle.report.specs.Tables.{Tables, relation_count, query_count}
use Rattle.report.specs.Configuring.{written}
use Rattle.at_configuration.specs.AtConfiguration.{RelationReads}
use Rattle.faults_at.specs.SetsAt.{present_set, SetsReads, SetsReadable, FormSetsReads}

module _ {T : Tables} {c : ℕ} {expression_rows relation_entries project_entries relations queries : List ℕ}
    (R : FormSetsReads T c expression_rows relation_entries project_entries relations queries) where
  pub form_count : length queries / 4 ≡ query_count T
  form_count = ap (λ (t : List ℕ). length t / 4) R.queries_are

  -- the sets of the relations were worked out
  module _ {related : List ℕ}
      (relates : (T : Tables) → RelationReads T expression_rows relation_entries relations c
      → related ≡ written (table (relation_count T) (present_set T c)) (replicate 32 0))
    where
      pub reads_sets : SetsReads T expression_rows project_entries queries related c
      reads_sets = record {
        reads = R.related.reads;
        entries_are = R.entries_are;
        queries_are = R.queries_are;
        related = numbers_are (relation_count T) (present_set T c) _ (relates T R.related);
      }

      pub sets_readable : {lent : List ℕ} → query_count T ≤ length lent → SetsReadable expression_rows project_entries queries related c lent
      sets_readable h = record { tables = T; reads = reads_sets; room = let e = form_count in omega arith }
