-- Laws of the sets of relations.
use Prim.Native.Nat.{ℕ, ◌+◌, ◌/◌, ◌<◌, ◌≤◌}
use mathlib.Core.Path.{◌≡◌, refl, sym, ap, ap₂, ◌∙◌}
use mathlib.Core.Bool.{Bool, cond}
use mathlib.Core.List.{List}
use native.Mathlib.Numerals.{add-one}
use lib.ListN.{length, set}
use Rattle.sets.specs.Lists.{table}
use Rattle.sets.proofs.ListLaws.{NumbersFilling, filling_none, filling_more, filling_all}
use Rattle.report.specs.Tables.{Tables, relation_length, relation_start, relation_count}
use Rattle.report.specs.Typing.{joined_set, present, relation_set}
use Rattle.report.specs.Configuring.{written}
use Rattle.at_configuration.specs.AtConfiguration.{ListReads, PresentReads, RelationReads}
use Rattle.at_configuration.proofs.ListLaws.{starts_at, is_long, relation_list_lem}
use Rattle.faults_at.specs.SetsAt.{present_set, RelationSetsReadable, RelationSetReadable}

-- ---- one relation

-- present or absent, as the code found
pub if_present : {T : Tables} {expression_rows relations : List ℕ} {c : ℕ} → PresentReads T expression_rows relations c → (r : ℕ) {b t : Bool}
    → ((T : Tables) → PresentReads T expression_rows relations c → b ≡ present T c r) → b ≡ t → (x y : ℕ) {s : ℕ} → s ≡ cond t x y
    → s ≡ cond (present T c r) x y
if_present {T} R r p e x y q = q ∙ ap (λ (t : Bool). cond t x y) (sym e ∙ p T R)

module _ {expression_rows entries relations : List ℕ} {c r start : ℕ} (A : RelationSetReadable expression_rows entries relations c r start) where
  module _ {T : Tables} (R : RelationReads T expression_rows entries relations c) {n : ℕ} (e : n ≡ relation_length relations r) where
    pub asked_list : ListReads T 0 expression_rows entries c start n
    asked_list = relation_list_lem R A.starts A.inside e

    pub relation_joined : {s : ℕ} → s ≡ joined_set T c (0 + start) n → s ≡ relation_set T c r
    relation_joined p = p ∙ ap₂ (joined_set T c) (starts_at R A.starts A.inside e) (is_long R A.starts A.inside e)

-- ---- the loop over the relations

-- the sets of those below r stand over `lent`, and the list of r starts at `start`
pub record RelationSetsFilling (expression_rows entries relations : List ℕ) (c : ℕ) (lent relation_sets : List ℕ) (r start : ℕ) : Type 0 where
  pub sets : NumbersFilling (λ T. RelationReads T expression_rows entries relations c) (λ T. present_set T c) (length relations / 2) lent relation_sets r
  pub starts : start ≡ relation_start relations r

pub related_none : {expression_rows entries relations : List ℕ} {c : ℕ} {lent : List ℕ}
    → RelationSetsFilling expression_rows entries relations c lent lent 0 0
related_none = record { sets = filling_none; starts = refl }

module _ {expression_rows entries relations : List ℕ} {c : ℕ} {lent relation_sets : List ℕ} {r start : ℕ}
    (S : RelationSetsFilling expression_rows entries relations c lent relation_sets r start) where
  module _ (h : r < length relations / 2) where
    module _ {n : ℕ} (e : n ≡ relation_length relations r) (A : RelationSetsReadable expression_rows entries relations c lent) where
      pub related_more : {s : ℕ} → ((T : Tables) → RelationReads T expression_rows entries relations c → s ≡ present_set T c r)
          → RelationSetsFilling expression_rows entries relations c lent (set relation_sets r s) (r + 1) (start + n)
      related_more s = record {
        sets = filling_more S.sets A.room h s;
        starts = ap₂ ◌+◌ S.starts e ∙ ap (relation_start relations) (sym (add-one r));
      }

  pub related_all : length relations / 2 ≤ r → (T : Tables) → RelationReads T expression_rows entries relations c
      → relation_sets ≡ written (table (relation_count T) (present_set T c)) lent
  related_all h T R = filling_all S.sets h T R (ap (λ (t : List ℕ). length t / 2) R.relations_are)
