-- Laws of the rows of query forms, for the crate that fills them.
use Prim.Native.Nat.{ℕ, ◌<◌}
use mathlib.Core.Path.{◌≡◌, sym, ap, ap₂, ◌∙◌}
use mathlib.Core.List.{List}
use Rattle.sets.specs.Bits.{bit}
use Rattle.sets.specs.Rows.{row_join, row_intersect, RowsAre}
use Rattle.report.specs.Tables.{Tables, query, relation_count, query_count, project_length, project_start}
use Rattle.report.specs.Typing.{at, project_set, set_rule, set_of}
use Rattle.report.specs.Formed.{Formed, QueryLower}
use Rattle.report.specs.declared.Query.{Query}
use Rattle.report.proofs.FormedFacts.{query_at}
use Rattle.report.proofs.StepLaws.{set_in}
use Rattle.expression_rows.specs.ExpressionRows.{TruthFilled}
use Rattle.attribute_rows.specs.AttributeRows.{has_row, list_row, relation_row, set_row}
use Rattle.attribute_rows.specs.RowRules.{set_step, SetRead}
use Rattle.attribute_rows.proofs.AttributeLaws.{taken_within, choice_of, has_same, has_none, has_and, has_or}

-- the rows that the row of form q is made of
module _ {T : Tables} (F : Formed T) (a : ℕ) {expression_rows relation_rows form_rows : List ℕ} (C : TruthFilled T expression_rows)
    (related : RowsAre 16 (relation_count T) (relation_row T a) relation_rows) {q : ℕ} (B : RowsAre 16 q (set_row T a) form_rows) where
  set_rule_lem : (x : Query) → QueryLower T q x
      → set_step expression_rows relation_rows form_rows (list_row T a (project_start T q) (project_length x)) x
      ≡ has_row T a (λ c. set_rule T c (set_of T c) q x)
  set_rule_lem Query.Malformed l = absurd l
  set_rule_lem Query.Empty l = has_none T a
  set_rule_lem (Query.Relation r) l = related.each r l
  set_rule_lem (Query.Select f b) l = B.each b l.1.lower
  set_rule_lem (Query.Project n b) l =
      ap (row_intersect 16 (list_row T a (project_start T q) n)) (B.each b l.1.lower) ∙ has_and T a (λ c. project_set T c q n) (λ c. set_of T c b)
  set_rule_lem (Query.Choice e b d) l =
      choice_of (C.each e l.0) (B.each b l.1.first.lower) (B.each d l.1.second.lower)
      ∙ taken_within T.features (λ c. at T c e) (λ c k. bit (set_of T c k) a) b d
  set_rule_lem (Query.Product b d) l =
      ap₂ (row_join 16) (B.each b l.first.lower) (B.each d l.second.lower) ∙ has_or T a (λ c. set_of T c b) (λ c. set_of T c d)
  set_rule_lem (Query.Union b d) l = B.each b l.first.lower
  set_rule_lem (Query.Intersection b d) l = B.each b l.first.lower

  module _ (h : q < query_count T) {x : Query} (e : x ≡ query T.queries q) where
    pub set_read : SetRead expression_rows relation_rows form_rows x
    set_read = record {
      tables = T;
      form = q;
      lower = rw e (query_at F q h);
      rowed = C.room;
      related = related.room;
      below = B.room;
    }

    -- made so, with the row of the form's own list, it is that of the form's set
    pub set_is : {listed row : List ℕ} → listed ≡ list_row T a (project_start T q) (project_length x)
        → row ≡ set_step expression_rows relation_rows form_rows listed x → row ≡ set_row T a q
    set_is list step =
        step ∙ ap (λ (l : List ℕ). set_step expression_rows relation_rows form_rows l x) list
        ∙ ap (λ (y : Query). set_step expression_rows relation_rows form_rows (list_row T a (project_start T q) (project_length y)) y) e
        ∙ set_rule_lem (query T.queries q) (query_at F q h)
        ∙ has_same T a (λ c. set_rule T c (set_of T c) q (query T.queries q)) (λ c. set_of T c q) (λ c. sym (set_in F c q h))
