-- Laws of what is gathered from comparisons.
use Prim.Native.Nat.{ℕ, ◌+◌, ◌/◌, ◌<◌}
use mathlib.Core.Path.{◌≡◌, sym, ap, ap₂, ◌∙◌}
use mathlib.Core.List.{List}
use lib.ListN.{length, set}
use Rattle.sets.proofs.ListLaws.{NumbersFilling, filling_below, filling_more}
use Rattle.report.specs.Tables.{Tables, comparison, kind_of, comparison_count, expression_count, kind_in}
use Rattle.report.specs.Operands.{comparison_operands}
use Rattle.report.specs.Typing.{gathered_of, gathered}
use Rattle.report.specs.Formed.{OperandsBelow}
use Rattle.report.specs.declared.Comparison.{Comparison}
use Rattle.report.specs.declared.Operands.{Operands}
use Rattle.report.proofs.FormedFacts.{comparison_at, comparison_operands_lem}
use Rattle.report.proofs.StepLaws.{gathered_in}
use Rattle.report.proofs.OperandLaws.{choice_comparison}
use Rattle.comparisons.specs.Gathering.{own_of}
use Rattle.comparisons.specs.declared.Gathered.{Gathered}
use Rattle.faults_at.specs.SetsAt.{ComparisonAt, SomeComparison, GatheredReadable, GatheredReads}

-- what a comparison refers to is lower, and the expression of a choice is one of the tables'
module _ {T : Tables} {f : ℕ} {set : ℕ → ℕ} {expression_rows : List ℕ} {c : ℕ} {sets : List ℕ} {to : Operands}
    (A : ComparisonAt T f set expression_rows c sets to) where
  pub refers_below : OperandsBelow f to
  refers_below = rw A.refers (comparison_operands_lem A.reads.formed f A.inside)

  pub refers_condition : {e a b : ℕ} → to ≡ Operands.Choice e a b → e < expression_count T
  refers_condition w =
      (rw (choice_comparison (comparison T.comparisons f) (sym A.refers ∙ w)) at (comparison_at A.reads.formed f A.inside)).0

-- comparison f, of tables that are read
module _ {T : Tables} {expression_rows comparisons kinds : List ℕ} {c : ℕ} (R : GatheredReads T expression_rows comparisons kinds c) {f : ℕ}
    (h : f < length comparisons / 5) where
  comparison_in : f < comparison_count T
  comparison_in = rw R.compared.comparisons_are at h

  module _ {x : Comparison} (e : x ≡ comparison comparisons f) where
    comparison_is : x ≡ comparison T.comparisons f
    comparison_is = e ∙ ap (λ (t : List ℕ). comparison t f) R.compared.comparisons_are

    own_is : (what : Gathered) → own_of (kind_in kinds) what x ≡ own_of (kind_of T) what (comparison T.comparisons f)
    own_is what = ap₂ (λ (t : List ℕ) (y : Comparison). own_of (kind_in t) what y) R.kinds_are comparison_is

-- ---- the loop

-- what is gathered from the comparisons below f stands over `lent`
pub record Gathering (what : Gathered) (expression_rows comparisons kinds : List ℕ) (c : ℕ) (lent sets : List ℕ) (f : ℕ) : Type 0 where
  pub filling : NumbersFilling (λ T. GatheredReads T expression_rows comparisons kinds c) (λ T. gathered T c (own_of (kind_of T) what))
      (length comparisons / 5) lent sets f

module _ {what : Gathered} {expression_rows comparisons kinds : List ℕ} {c : ℕ} {lent sets : List ℕ} {f : ℕ}
    (S : Gathering what expression_rows comparisons kinds c lent sets f) where
  module _ (A : GatheredReadable expression_rows comparisons kinds c lent) (h : f < length comparisons / 5) where
    module _ {x : Comparison} (e : x ≡ comparison comparisons f) {to : Operands} (o : to ≡ comparison_operands x) where
      gathering_here : {T : Tables} → GatheredReads T expression_rows comparisons kinds c
          → ComparisonAt T f (gathered T c (own_of (kind_of T) what)) expression_rows c sets to
      gathering_here R = record {
        reads = R.compared.reads;
        inside = comparison_in R h;
        refers = o ∙ ap comparison_operands (comparison_is R h e);
        below = filling_below S.filling R;
      }

      pub gathering_some : SomeComparison expression_rows c sets to
      gathering_some = record { tables = A.tables; number = f; set = _; at = gathering_here A.reads }

      pub gathering_more : {own s : ℕ} → own ≡ own_of (kind_in kinds) what x
          → ((T : Tables) (f : ℕ) (set : ℕ → ℕ) → ComparisonAt T f set expression_rows c sets to → s ≡ gathered_of T c set own to)
          → Gathering what expression_rows comparisons kinds c lent (set sets f s) (f + 1)
      gathering_more p s = record {
        filling =
            filling_more S.filling A.room h
            (λ T R. let own = own_of (kind_of T) what in
            let a = gathering_here R in
            s T f (gathered T c own) a ∙ ap₂ (gathered_of T c (gathered T c own)) (p ∙ own_is R h e what) a.refers
            ∙ sym (gathered_in R.compared.reads.formed c f a.inside own));
      }
