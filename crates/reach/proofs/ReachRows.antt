-- The rows of a walk that starts at the report, with the permitted configurations.
use Prim.Native.Nat.{ℕ, zero, suc, ◌-◌, ◌*◌, ◌/◌, ◌%◌, ◌≤◌}
use mathlib.Core.Path.{◌≡◌, refl, sym, ap, ap₂, ◌∙◌}
use mathlib.Core.Bool.{Bool, ◌&&◌, ◌||◌}
use mathlib.Core.List.{List}
use native.Mathlib.Omega.{arith}
use lib.ListN.{length, get_or, replicate, length-replicate}
use Rattle.sets.specs.Rows.{row_bit, row_of, row_in}
use Rattle.sets.proofs.RowLaws.{row_bit-row_of, row_bit_none, row_of_same, row_of_row}
use Rattle.report.specs.Tables.{Tables, query_count, report}
use Rattle.report.specs.Expressions.{permitted}
use Rattle.report.specs.Typing.{leads, reached}
use Rattle.report.proofs.FormedFacts.{report_in}
use Rattle.report.proofs.TypingLaws.{permitted_within}
use Rattle.expression_rows.specs.ExpressionRows.{ReachFilled}
use Rattle.reach.specs.Reach.{joined, reach_rows, ReachReads, ReachReadable, WalkReads, WalkReady, Walked}
use Rattle.reach.proofs.JoinLaws.{row_of_lem}

-- words that are all 0 are rows without a configuration
fresh_none : (n i : ℕ) → ◌≡◌ {A = ℕ} (get_or (replicate n 0) i 0) 0
fresh_none zero i = refl
fresh_none (suc n) zero = refl
fresh_none (suc n) (suc i) = fresh_none n i

module _ {T : Tables} {queries expression_rows permits : List ℕ} (R : ReachReads T queries expression_rows permits) where
  reads_permitted : WalkReads T queries expression_rows permits
  reads_permitted = record {
    formed = R.formed;
    filled = R.filled;
    queries_are = R.queries_are;
    among = λ c l e. permitted_within T c (sym (ap (λ (r : List ℕ). row_bit r c) R.permitting ∙ row_bit-row_of 16 (permitted T) c l) ∙ e);
  }

  last_is : length queries / 4 - 1 ≡ report T
  last_is = ap (λ (t : List ℕ). length t / 4 - 1) R.queries_are

  -- over words that are all 0 the walk from the report leaves the reach rows
  pub walk_reached : (n : ℕ) {out after : List ℕ} → out ≡ replicate n 0
      → Walked queries expression_rows (length queries / 4 - 1) permits out after → after ≡ reach_rows T n
  unfolding reached reach_rows joined
  walk_reached n {out} {after} clear W =
      W.rows T reads_permitted
      ∙ ap₂ (λ (k q : ℕ). row_of k (λ i. row_bit out i || (row_bit permits (i % 1024) && leads T (i % 1024) (i / 1024) q)))
      (ap length clear ∙ length-replicate n 0) last_is
      ∙ row_of_same n _ _ (λ i l. ap₂ (λ (b d : Bool). b || (d && leads T (i % 1024) (i / 1024) (report T)))
      (ap (λ (o : List ℕ). row_bit o i) clear ∙ row_bit_none (replicate n 0) i (fresh_none n (i / 64)))
      (ap (λ (r : List ℕ). row_bit r (i % 1024)) R.permitting ∙ row_bit-row_of 16 (permitted T) (i % 1024) (omega arith)))

-- the walk may start at the report
pub ready_report : {queries expression_rows permits out : List ℕ} → ReachReadable queries expression_rows permits out
    → WalkReady queries expression_rows permits out (length queries / 4 - 1)
ready_report A = record {
  tables = A.tables;
  reads = reads_permitted A.reads;
  inside = let i = report_in A.reads.formed in let l = last_is A.reads in omega arith;
  room = A.room;
}

-- row x of the reach rows has the configurations that reach form x
pub reach_rows_lem : (T : Tables) {words : ℕ} → query_count T * 16 ≤ words → {rows : List ℕ} → rows ≡ reach_rows T words
    → ReachFilled T rows
unfolding reach_rows
reach_rows_lem T {words} room e = record {
  room = let l = ap length e ∙ (row_of_row words (λ i. reached T (i % 1024) (i / 1024))).size in omega arith;
  each = λ q h. ap (λ (l : List ℕ). row_in 16 l q) e ∙ row_of_lem words (λ c x. reached T c x) q (omega arith);
}
