-- Laws of the sets of query forms.
use Prim.Native.Nat.{ℕ, ◌+◌, ◌/◌, ◌<◌, ◌≤◌}
use mathlib.Core.Path.{◌≡◌, sym, ap, ap₂, ◌∙◌}
use mathlib.Core.List.{List}
use native.Mathlib.Numerals.{add-one}
use lib.ListN.{length, set}
use Rattle.sets.proofs.ListLaws.{NumbersFilling, filling_below, filling_more}
use Rattle.report.specs.Tables.{Tables, query, project_length, projected_before, relations_end}
use Rattle.report.specs.Typing.{joined_set, project_set, set_rule, set_of}
use Rattle.report.specs.Formed.{FreePair}
use Rattle.report.specs.declared.Query.{Query}
use Rattle.report.proofs.StepLaws.{set_in}
use Rattle.at_configuration.specs.AtConfiguration.{ListReads, FormAt}
use Rattle.at_configuration.proofs.ListLaws.{form_list}
use Rattle.faults_at.specs.SetsAt.{SetsReads, SetsReadable, QueryAt, SomeQuery}

-- the operands of a form are lower
pub pair_lower : {queries : List ℕ} {q a b : ℕ} → FreePair queries q a b → (a < q) × (b < q)
pair_lower P = (P.first.lower, P.second.lower)

-- the list of a project
module _ {T : Tables} {q : ℕ} {expression_rows entries : List ℕ} {c start : ℕ} {x : Query} (A : FormAt T q expression_rows entries c start x) {n b : ℕ}
    (e : x ≡ Query.Project n b) where
  pub project_list : ListReads T (relations_end T) expression_rows entries c start n
  project_list = form_list A (sym (ap project_length e))

  pub project_joined : {s : ℕ} → s ≡ joined_set T c (relations_end T + start) n → s ≡ project_set T c q n
  project_joined p = p ∙ ap (λ (i : ℕ). joined_set T c (relations_end T + i) n) A.starts

-- ---- the loop

-- the sets of the forms below q stand over `lent`, and the list of the next project starts at `start`
pub record QueriesFilling (expression_rows entries queries relation_sets : List ℕ) (c : ℕ) (lent sets : List ℕ) (q start : ℕ) : Type 0 where
  pub formed : NumbersFilling (λ T. SetsReads T expression_rows entries queries relation_sets c) (λ T. set_of T c) (length queries / 4) lent sets q
  pub starts : start ≡ projected_before queries q

module _ {expression_rows entries queries relation_sets : List ℕ} {c : ℕ} {lent sets : List ℕ} {q start : ℕ}
    (S : QueriesFilling expression_rows entries queries relation_sets c lent sets q start) where
  module _ (A : SetsReadable expression_rows entries queries relation_sets c lent) (h : q < length queries / 4) where
    module _ {x : Query} (e : x ≡ query queries q) where
      setting_here : {T : Tables} → SetsReads T expression_rows entries queries relation_sets c
          → QueryAt T q expression_rows entries relation_sets c sets start x
      setting_here R = record {
        at = record {
          reads = R.reads;
          entries_are = R.entries_are;
          inside = rw R.queries_are at h;
          form = e ∙ ap (λ (t : List ℕ). query t q) R.queries_are;
          starts = S.starts ∙ ap (λ (t : List ℕ). projected_before t q) R.queries_are;
        };
        below = filling_below S.formed R;
        related = R.related;
      }

      pub setting_some : SomeQuery expression_rows entries relation_sets c sets start x
      setting_some = record { tables = A.tables; number = q; at = setting_here A.reads }

      module _ {n : ℕ} (l : n ≡ project_length x) where
        pub setting_inside : start + n ≤ length entries / 2
        setting_inside = (form_list (setting_here A.reads).at l).lies

        pub setting_more : {s : ℕ}
            → ((T : Tables) (q : ℕ) → QueryAt T q expression_rows entries relation_sets c sets start x → s ≡ set_rule T c (set_of T c) q x)
            → QueriesFilling expression_rows entries queries relation_sets c lent (set sets q s) (q + 1) (start + n)
        setting_more s = record {
          formed =
              filling_more S.formed A.room h
              (λ T R. let a = setting_here R in
              s T q a ∙ ap (set_rule T c (set_of T c) q) a.at.form ∙ sym (set_in R.reads.formed c q a.at.inside));
          starts = ap₂ ◌+◌ S.starts (l ∙ ap project_length e) ∙ ap (projected_before queries) (sym (add-one q));
        }
