-- Laws of the rows of lists and relations.
use Prim.Native.Nat.{ℕ, ◌+◌, ◌/◌, ◌^◌, ◌<◌}
use mathlib.Core.Path.{◌≡◌, sym, ap, ap₂, ◌∙◌}
use mathlib.Core.Bool.{Bool, true, false, cond, ◌&&◌, ◌||◌, and-true, and-false, or-false}
use mathlib.Core.List.{List}
use native.Mathlib.Numerals.{add-one}
use native.Mathlib.Omega.{arith}
use borrow.Author.Tests.{lt-ltb}
use lib.Dec.{eqb}
use lib.Bits.{bit_or}
use lib.ListN.{length}
use Rattle.sets.specs.Bits.{bit}
use Rattle.sets.specs.Rows.{row_of, row_in, row_join, row_intersect, with_row, within}
use Rattle.sets.proofs.BitLaws.{bit_none, bit-or, bit_pow}
use Rattle.sets.proofs.RowLaws.{join_within}
use Rattle.report.specs.Tables.{Tables, expression_count, entry_count, entry_attribute, entry_expression}
use Rattle.report.specs.Tables.{relation_count, relation_expression, relation_length, relation_start}
use Rattle.report.specs.Typing.{at, joined_set, relation_set}
use Rattle.report.proofs.FormedFacts.{entry_expression_lem, relation_expression_lem}
use Rattle.report.proofs.EntryParts.{relation_part, relation_in_part}
use Rattle.expression_rows.proofs.RowsFilling.{RowsFilling, filling_more}
use Rattle.attribute_rows.specs.AttributeRows.{has_row, list_row, relation_row, ListRowReads, RelationRowReads}
use Rattle.attribute_rows.specs.RowRules.{entry_row, RelationAt}
use Rattle.attribute_rows.proofs.AttributeLaws.{row_same, relation_wide, has_none, has_where}

-- ---- one entry more

module _ (T : Tables) (a : ℕ) (h : ℕ → Bool) (f : ℕ → ℕ) where
  -- a row, joined with that of a test or not
  join_if : (b : Bool) → cond b (row_join 16 (has_row T a f) (row_of 16 (within T.features h))) (has_row T a f)
      ≡ row_of 16 (within T.features (λ c. bit (f c) a || (h c && b)))
  join_if true =
      join_within 16 T.features (λ c. bit (f c) a) h
      ∙ row_same T.features (λ c. bit (f c) a || h c) (λ c. bit (f c) a || (h c && true))
      (λ c. ap (λ (s : Bool). bit (f c) a || s) (sym (and-true (h c))))
  join_if false =
      row_same T.features (λ c. bit (f c) a) (λ c. bit (f c) a || (h c && false))
      (λ c. sym (ap (λ (s : Bool). bit (f c) a || s) (and-false (h c)) ∙ or-false (bit (f c) a)))

  -- joined if a is t: the row of a set that has t besides where the test holds
  join_entry : (t : ℕ) → cond (eqb a t) (row_join 16 (has_row T a f) (row_of 16 (within T.features h))) (has_row T a f)
      ≡ has_row T a (λ c. bit_or (f c) (cond (h c) (2 ^ t) 0))
  join_entry t =
      join_if (eqb a t)
      ∙ row_same T.features (λ c. bit (f c) a || (h c && eqb a t)) (λ c. bit (bit_or (f c) (cond (h c) (2 ^ t) 0)) a)
      (λ c. sym (bit-or (f c) (cond (h c) (2 ^ t) 0) a ∙ ap (λ (s : Bool). bit (f c) a || s) (own (h c))))
    where
      own : (s : Bool) → bit (cond s (2 ^ t) 0) a ≡ (s && eqb a t)
      own true = bit_pow t a
      own false = bit_none a

-- ---- the loop over a list

-- of the `count` entries from `start` on the first i are joined
pub record EntriesJoining (expression_rows entries : List ℕ) (a start count : ℕ) (row : List ℕ) (i : ℕ) : Type 0 where
  pub joined : (T : Tables) (offset : ℕ) → ListRowReads T offset expression_rows entries start count → row ≡ list_row T a (offset + start) i

-- entry i of a list, in table 1
module _ {T : Tables} {offset : ℕ} {expression_rows entries : List ℕ} {start count : ℕ}
    (R : ListRowReads T offset expression_rows entries start count) (i : ℕ)
    (h : i < count) where
  in_part : start + i < length entries / 2
  in_part = let l = R.inside in omega arith

  in_table : offset + start + i < entry_count T
  in_table = let l = R.part.inside in let m = in_part in omega arith

  attribute_is : entry_attribute entries (start + i) ≡ entry_attribute T.entries (offset + start + i)
  attribute_is = R.part.attribute (start + i) in_part ∙ ap (entry_attribute T.entries) (omega arith)

  expression_is : entry_expression entries (start + i) ≡ entry_expression T.entries (offset + start + i)
  expression_is = R.part.expression (start + i) in_part ∙ ap (entry_expression T.entries) (omega arith)

  expression_in : entry_expression T.entries (offset + start + i) < expression_count T
  expression_in = entry_expression_lem R.formed (offset + start + i) in_table

module _ {expression_rows entries : List ℕ} {a start count : ℕ} {row : List ℕ} where
  pub listing_none : row ≡ row_of 16 (λ c. false) → EntriesJoining expression_rows entries a start count row 0
  unfolding joined_set
  listing_none e = record { joined = λ T offset R. e ∙ has_none T a }

  module _ {i : ℕ} (S : EntriesJoining expression_rows entries a start count row i) where
    pub listing_more : i < count → {after : List ℕ} → after ≡ entry_row expression_rows entries a (start + i) row
        → EntriesJoining expression_rows entries a start count after (i + 1)
    unfolding joined_set
    listing_more h e = record {
      joined = λ T offset R.
          let x = entry_expression T.entries (offset + start + i) in
          let t = entry_attribute T.entries (offset + start + i) in
          let l = list_row T a (offset + start) in
          e ∙ ap₂ (λ (b y : ℕ). cond (eqb a b) (row_join 16 row (row_in 16 expression_rows y)) row) (attribute_is R i h) (expression_is R i h)
          ∙ ap₂ (λ (r own : List ℕ). cond (eqb a t) (row_join 16 r own) r) (S.joined T offset R) (R.filled.each x (expression_in R i h))
          ∙ join_entry T a (λ c. at T c x) (λ c. joined_set T c (offset + start) i) t ∙ ap l (sym (add-one i));
    }

-- ---- one relation

module _ {T : Tables} {expression_rows entries relations : List ℕ} {r start : ℕ} (A : RelationAt T expression_rows entries relations r start) where
  pub relation_reads : {n : ℕ} → n ≡ relation_length relations r → ListRowReads T 0 expression_rows entries start n
  relation_reads e = record {
    formed = A.reads.formed;
    filled = A.reads.filled;
    part = rw A.reads.entries_are (relation_part A.reads.formed);
    inside = rw (e, A.reads.relations_are, A.reads.entries_are, A.starts) (relation_in_part A.reads.formed r A.inside);
  }

  pub relation_is : (a : ℕ) {n x : ℕ} {all own row : List ℕ} → n ≡ relation_length relations r → x ≡ relation_expression relations r
      → all ≡ list_row T a (0 + start) n
      → own ≡ row_in 16 expression_rows x → row ≡ row_intersect 16 all own → row ≡ relation_row T a r
  relation_is a {n} {x} p q list load met =
      let e = relation_expression T.relations r in
      let s : 0 + start ≡ relation_start T.relations r = (let b = A.starts in omega arith) in
      met
      ∙ ap₂ (row_intersect 16) (list ∙ ap₂ (list_row T a) s (p ∙ ap (λ (t : List ℕ). relation_length t r) A.reads.relations_are))
      (load ∙ ap (row_in 16 expression_rows) (q ∙ ap (λ (t : List ℕ). relation_expression t r) A.reads.relations_are)
      ∙ A.reads.filled.each e (relation_expression_lem A.reads.formed r A.inside))
      ∙ has_where T a (λ c. at T c e) (λ c. relation_set T c r)
      ∙ ap (λ (t : Bool). has_row T a (λ c. cond (t && at T c e) (relation_set T c r) 0)) (sym (lt-ltb r (relation_count T) A.inside))

-- ---- the loop over the relations

-- the rows of those below r stand over `lent`, and the list of r starts at `start`
pub record RelationsFilling (expression_rows entries relations : List ℕ) (a : ℕ) (lent relation_rows : List ℕ) (r start : ℕ) : Type 0 where
  pub rows : RowsFilling (λ T. RelationRowReads T expression_rows entries relations) relation_row a (length relations / 2) lent relation_rows r
  pub starts : start ≡ relation_start relations r

module _ {expression_rows entries relations : List ℕ} {a : ℕ} {lent relation_rows : List ℕ} {r start : ℕ}
    (S : RelationsFilling expression_rows entries relations a lent relation_rows r start) where
  module _ (h : r < length relations / 2) where
    related_at : {T : Tables} → RelationRowReads T expression_rows entries relations → RelationAt T expression_rows entries relations r start
    related_at R = record { reads = R; inside = rw R.relations_are at h; starts = rw R.relations_are at S.starts }

    module _ {n : ℕ} (e : n ≡ relation_length relations r) where
      pub related_more : {row after : List ℕ} → ((T : Tables) → RelationAt T expression_rows entries relations r start → row ≡ relation_row T a r)
          → length after ≡ length relation_rows → after ≡ with_row 16 relation_rows r row
          → RelationsFilling expression_rows entries relations a lent after (r + 1) (start + n)
      related_more row same stored = record {
        rows = filling_more relation_wide S.rows h (λ T R B. row T (related_at R)) same stored;
        starts = ap₂ ◌+◌ S.starts e ∙ ap (relation_start relations) (sym (add-one r));
      }
