-- Laws of lists that are read at one configuration: their entries, and where the lists of relations and of project forms lie.
use Prim.Native.Nat.{ℕ, ◌+◌, ◌*◌, ◌/◌, ◌<◌, ◌≤◌}
use mathlib.Core.Path.{◌≡◌, ap, ◌∙◌}
use mathlib.Core.Bool.{Bool}
use mathlib.Core.List.{List}
use native.Mathlib.Omega.{arith}
use lib.ListN.{length}
use Rattle.sets.specs.Rows.{row_bit, row_in}
use Rattle.report.specs.Tables.{Tables, entry_attribute, entry_expression, entry_count, expression_count}
use Rattle.report.specs.Tables.{relation_length, relation_start, project_length, relations_end}
use Rattle.report.specs.Typing.{at, entry_holds}
use Rattle.report.specs.Formed.{QueryLower}
use Rattle.report.specs.declared.Query.{Query}
use Rattle.report.proofs.FormedFacts.{entry_expression_lem, query_at}
use Rattle.report.proofs.EntryParts.{relation_part, relation_in_part, project_part, project_in_part}
use Rattle.at_configuration.specs.AtConfiguration.{ListReads, PresentReads, RelationReads, FormAt}
use Rattle.at_configuration.proofs.HoldLaws.{rowed, holds_in}

-- ---- one entry

module _ {T : Tables} {offset : ℕ} {expression_rows entries : List ℕ} {c start count : ℕ} (R : ListReads T offset expression_rows entries c start count) where
  module _ {i : ℕ} (h : i < count) where
    entry_read : start + i < length entries / 2
    entry_read = let l = R.lies in omega arith

    -- entry i of the list is this one of table 1
    entry_in : offset + start + i < entry_count T
    entry_in = let l = entry_read in let m = R.part.inside in omega arith

    entry_place : offset + (start + i) ≡ offset + start + i
    entry_place = omega arith

    module _ {a : ℕ} (p : a ≡ entry_attribute entries (start + i)) where
      pub attribute_is : a ≡ entry_attribute T.entries (offset + start + i)
      attribute_is = p ∙ R.part.attribute (start + i) entry_read ∙ ap (entry_attribute T.entries) entry_place

    module _ {e : ℕ} (p : e ≡ entry_expression entries (start + i)) where
      expression_is : e ≡ entry_expression T.entries (offset + start + i)
      expression_is = p ∙ R.part.expression (start + i) entry_read ∙ ap (entry_expression T.entries) entry_place

      expression_in : e < expression_count T
      expression_in = rw expression_is (entry_expression_lem R.reads.formed (offset + start + i) entry_in)

      pub entry_rowed : (e * 16 + 16 ≤ length expression_rows) × (c < 1024)
      entry_rowed = rowed R.reads expression_in

      pub entry_holds_lem : {b : Bool} → b ≡ row_bit (row_in 16 expression_rows e) c → b ≡ entry_holds T c (offset + start + i)
      entry_holds_lem d = d ∙ holds_in R.reads expression_in ∙ ap (at T c) expression_is

    -- the entries of a list up to entry i
    pub each_entry : ListReads T offset expression_rows entries c start (i + 1)
    each_entry = record { reads = R.reads; part = R.part; lies = let l = R.lies in omega arith }

-- ---- the list of a relation

module _ {T : Tables} {expression_rows entries relations : List ℕ} {c : ℕ} (R : RelationReads T expression_rows entries relations c) where
  pub reads_present : PresentReads T expression_rows relations c
  reads_present = record { reads = R.reads; relations_are = R.relations_are }

  module _ {r start : ℕ} (s : start ≡ relation_start relations r) (h : r < length relations / 2) {n : ℕ} (e : n ≡ relation_length relations r) where
    pub starts_at : 0 + start ≡ relation_start T.relations r
    starts_at = let e = s ∙ ap (λ (t : List ℕ). relation_start t r) R.relations_are in omega arith

    pub is_long : n ≡ relation_length T.relations r
    is_long = e ∙ ap (λ (t : List ℕ). relation_length t r) R.relations_are

    pub relation_list_lem : ListReads T 0 expression_rows entries c start n
    relation_list_lem = record {
      reads = R.reads;
      part = rw R.entries_are (relation_part R.reads.formed);
      lies =
          rw R.entries_are
          (let l = relation_in_part R.reads.formed r (rw R.relations_are at h) in let i = starts_at in let j = is_long in omega arith);
    }

-- ---- the list of a query form

module _ {T : Tables} {q : ℕ} {expression_rows entries : List ℕ} {c start : ℕ} {x : Query} (A : FormAt T q expression_rows entries c start x) where
  -- what a form is made of
  pub form_lower : QueryLower T q x
  form_lower = rw A.form (query_at A.reads.formed q A.inside)

  -- a form that is no project lists no entries
  pub form_list : {n : ℕ} → n ≡ project_length x → ListReads T (relations_end T) expression_rows entries c start n
  form_list e = record {
    reads = A.reads;
    part = rw A.entries_are (project_part A.reads.formed);
    lies = rw (A.entries_are, A.starts, e, A.form) (project_in_part A.reads.formed q A.inside);
  }
