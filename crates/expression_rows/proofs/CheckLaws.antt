-- Laws of checks 13 and 14: the loops over a list and over the relations, and that they answer as the definitions do.
use Rattle.std.specs.Prelude.{Option, Some, None, Ok, Err}
use Prim.Native.Nat.{ℕ, ◌+◌, ◌/◌, ◌<◌, ◌≤◌}
use mathlib.Core.Path.{◌≡◌, refl, sym, ap, ap₂, ◌∙◌}
use mathlib.Core.Bool.{Bool, true, false, not, not-not}
use mathlib.Core.List.{List}
use mathlib.Core.Logic.{⊎_elim}
use native.Mathlib.Nat.{eq-or-lt_of_le}
use native.Mathlib.Numerals.{add-one}
use native.Mathlib.Omega.{arith}
use lib.ListN.{length}
use Rattle.sets.specs.Rows.{row_of, row_in, row_intersect, row_is_empty}
use Rattle.sets.specs.Search.{seek}
use Rattle.sets.proofs.SearchLaws.{least_seek, nothing_seek, seek_least, seek_same}
use Rattle.report.specs.Tables.{Tables, entry_attribute, entry_expression, relation_count, relation_expression, relation_length, relation_start}
use Rattle.report.specs.Tables.{entries_of_relations}
use Rattle.report.specs.Expressions.{permitted}
use Rattle.report.specs.Typing.{at}
use Rattle.report.specs.Verdicts.{Verdict, refusal, refuse_if, refuse_at, or_else}
use Rattle.report.specs.Checks.{apart_everywhere, relation_check, schema_check}
use Rattle.report.specs.Formed.{Formed, EntriesFrom}
use Rattle.report.specs.declared.Refusal.{Refusal}
use Rattle.report.proofs.VerdictLaws.{then_next, then_refused, accepted_first, refused_first}
use Rattle.report.proofs.FormedFacts.{entry_expression_lem, relation_expression_lem}
use Rattle.report.proofs.EntryParts.{relation_part, relation_in_part}
use Rattle.expression_rows.specs.ExpressionRows.{TruthFilled, SchemaReads, SchemaReadable}
use Rattle.expression_rows.specs.RowRules.{apart_in, list_rule, present_row, relation_rule, RelationRead}
use Rattle.expression_rows.proofs.PermittedLaws.{permitted_row, somewhere_row, permitted_all, row_in_lem, meet_row}

-- a row is met with the row of expression x, which is e
met_row : (rows row : List ℕ) (e : ℕ) {x : ℕ} {own both : List ℕ} → x ≡ e → own ≡ row_in 16 rows x → both ≡ row_intersect 16 row own
    → both ≡ row_intersect 16 row (row_in 16 rows e)
met_row rows row e p q m = m ∙ ap (row_intersect 16 row) (q ∙ ap (row_in 16 rows) p)

below_next : {j k : ℕ} → j < k + 1 → j ≤ k
below_next h = omega arith

-- refusals that agree where something may be found
found_same : (r s : ℕ → Refusal) (test : ℕ → Bool) (n from : ℕ) → ((k : ℕ) → from ≤ k → k < from + n → r k ≡ s k)
    → refuse_at r (seek test n from) ≡ refuse_at s (seek test n from)
found_same r s test n from e = go (seek test n from) refl
  where
    go : (f : Option ℕ) → seek test n from ≡ f → refuse_at r f ≡ refuse_at s f
    go None p = refl
    go (Some k) p = let l = seek_least test n from k p in ap Err (e k l.within.0 l.within.1)

-- ---- the loop over a list

-- of the n entries from `from` on the first i have been seen, and each holds somewhere that `present` has
pub record Listed (rows present entries : List ℕ) (from n i : ℕ) : Type 0 where
  pub most : i ≤ n
  pub each : (j : ℕ) → from ≤ j → j < from + i → apart_in rows present entries j ≡ false

module _ (rows present entries : List ℕ) (from n : ℕ) where
  -- one entry more: what the code found of it
  module _ {i x : ℕ} {t : Bool} (S : Listed rows present entries from n i) (h : i < n) (p : x ≡ entry_expression entries (from + i))
      (e : t ≡ not (row_is_empty 16 (row_intersect 16 present (row_in 16 rows x)))) where
    is_apart : not t ≡ apart_in rows present entries (from + i)
    is_apart =
        ap not e ∙ not-not (row_is_empty 16 (row_intersect 16 present (row_in 16 rows x)))
        ∙ ap (λ (k : ℕ). row_is_empty 16 (row_intersect 16 present (row_in 16 rows k))) p

    pub listed_more : not t ≡ false → Listed rows present entries from n (i + 1)
    listed_more f = record {
      most = omega arith;
      each =
          λ j l b. ⊎_elim (λ (s : j ≡ from + i). ap (apart_in rows present entries) s ∙ sym is_apart ∙ f) (λ (d : j < from + i). S.each j l d)
          (eq-or-lt_of_le (omega arith));
    }

    pub listed_here : (r : ℕ) → not t ≡ true → {a : ℕ} → a ≡ entry_attribute entries (from + i)
        → Err (refusal 14 r a 0) ≡ list_rule rows present entries r from n
    unfolding list_rule
    listed_here r f g =
        ap (λ (a : ℕ). Err (refusal 14 r a 0)) g
        ∙ sym (ap (refuse_at (λ k. refusal 14 r (entry_attribute entries k) 0))
        (least_seek (apart_in rows present entries) n from (from + i)
        (record { within = omega arith; holds = sym is_apart ∙ f; before = S.each })))

  pub listed_all : (r : ℕ) {i : ℕ} → Listed rows present entries from n i → n ≤ i → (Ok tt) ≡ list_rule rows present entries r from n
  unfolding list_rule
  listed_all r S h =
      sym (ap (refuse_at (λ k. refusal 14 r (entry_attribute entries k) 0))
      (nothing_seek (apart_in rows present entries) n from (λ j l u. S.each j l (omega arith))))

-- ---- one relation: what the code found of it

module _ (rows permits entries relations : List ℕ) (r start : ℕ) {x : ℕ} {own present : List ℕ} {t : Bool} (p : x ≡ relation_expression relations r)
    (q : own ≡ row_in 16 rows x) (m : present ≡ row_intersect 16 permits own) (e : t ≡ row_is_empty 16 present) where
  is_present : present ≡ present_row rows permits relations r
  is_present = met_row rows permits (relation_expression relations r) p q m

  first_rule : refuse_if (row_is_empty 16 (present_row rows permits relations r)) (refusal 13 r 0 0) ≡ refuse_if t (refusal 13 r 0 0)
  first_rule = ap (λ (b : Bool). refuse_if b (refusal 13 r 0 0)) (sym (e ∙ ap (row_is_empty 16) is_present))

  pub relation_absent : {x : Refusal} → Err x ≡ refuse_if t (refusal 13 r 0 0) → Err x ≡ relation_rule rows permits entries relations r start
  unfolding relation_rule
  relation_absent f = sym (then_refused _ (first_rule ∙ sym f))

  pub relation_present : Ok tt ≡ refuse_if t (refusal 13 r 0 0) → {n : ℕ} → n ≡ relation_length relations r → {v : Verdict} → v ≡ list_rule rows present entries r start n
      → v ≡ relation_rule rows permits entries relations r start
  unfolding relation_rule
  relation_present f l g =
      g ∙ ap₂ (λ (s : List ℕ) (n : ℕ). list_rule rows s entries r start n) is_present l
      ∙ sym (then_next (first_rule ∙ sym f))

-- ---- one relation of tables that have passed the form checks

module _ {T : Tables} (F : Formed T) {rows : List ℕ} (L : TruthFilled T rows) (r : ℕ) (h : r < relation_count T) where
  part : EntriesFrom T 0 (entries_of_relations T)
  part = relation_part F

  pub relation_read : RelationRead rows (entries_of_relations T) T.relations r (relation_start T.relations r)
  relation_read = record {
    inside = h;
    rowed = row_in_lem F L (relation_expression_lem F r h);
    list = record {
      inside = relation_in_part F r h;
      rowed = λ k l. rw (part.expression k l) (row_in_lem F L (entry_expression_lem F (0 + k) (let i = part.inside in omega arith)));
    };
  }

  module _ {permits : List ℕ} (is : permits ≡ row_of 16 (permitted T)) where
    presence : present_row rows permits T.relations r ≡ permitted_row T (λ c. at T c (relation_expression T.relations r))
    presence = meet_row F L (λ c. true) (is ∙ permitted_all T) (relation_expression T.relations r) (relation_expression_lem F r h)

    module _ (k : ℕ) (l : k < relation_start T.relations r + relation_length T.relations r) where
      in_part : k < length (entries_of_relations T) / 2
      in_part = let i = relation_in_part F r h in omega arith

      apart : apart_in rows (present_row rows permits T.relations r) (entries_of_relations T) k ≡ apart_everywhere T r k
      apart =
          ap (λ (e : ℕ). row_is_empty 16 (row_intersect 16 (present_row rows permits T.relations r) (row_in 16 rows e)))
          (part.expression k in_part ∙ ap (entry_expression T.entries) (omega arith))
          ∙ ap (row_is_empty 16)
          (meet_row F L (λ c. at T c (relation_expression T.relations r)) presence (entry_expression T.entries k)
          (entry_expression_lem F k (let i = in_part in let j = part.inside in omega arith)))
          ∙ somewhere_row T F.few _

    list_rule_lem : list_rule rows (present_row rows permits T.relations r) (entries_of_relations T) r (relation_start T.relations r)
        (relation_length T.relations r)
        ≡ refuse_at (λ i. refusal 14 r (entry_attribute T.entries i) 0)
        (seek (apart_everywhere T r) (relation_length T.relations r) (relation_start T.relations r))
    unfolding list_rule
    list_rule_lem =
        ap (refuse_at _) (seek_same _ (apart_everywhere T r) (relation_length T.relations r) (relation_start T.relations r) (λ k l u. apart k u))
        ∙ found_same (λ k. refusal 14 r (entry_attribute (entries_of_relations T) k) 0) (λ k. refusal 14 r (entry_attribute T.entries k) 0)
        (apart_everywhere T r) (relation_length T.relations r) (relation_start T.relations r)
        (λ k l u. ap (λ (a : ℕ). refusal 14 r a 0) (part.attribute k (in_part k u) ∙ ap (entry_attribute T.entries) (omega arith)))

    -- the rule by rows is the check
    pub relation_rule_lem : relation_rule rows permits (entries_of_relations T) T.relations r (relation_start T.relations r) ≡ relation_check T r
    unfolding relation_rule
    relation_rule_lem =
        ap₂ or_else (ap (λ (b : Bool). refuse_if b (refusal 13 r 0 0)) (ap (row_is_empty 16) presence ∙ somewhere_row T F.few _)) list_rule_lem

-- ---- the loop over the relations

-- those below r have been seen, none is refused, and the list of r starts at `start`
pub record RelationsChecked (rows permits entries relations : List ℕ) (start r : ℕ) : Type 0 where
  pub most : r ≤ length relations / 2
  pub starts : start ≡ relation_start relations r
  pub each : (j : ℕ) → j < r → relation_rule rows permits entries relations j (relation_start relations j) ≡ Ok tt

module _ (rows permits entries relations : List ℕ) where
  abbrev rule : ℕ → Verdict
  rule r = relation_rule rows permits entries relations r (relation_start relations r)

  rule_is : {T : Tables} → SchemaReads T rows permits entries relations → (r : ℕ) → r < length relations / 2 → rule r ≡ relation_check T r
  rule_is {T} R r h = rw (R.entries_are, R.relations_are) (relation_rule_lem R.formed R.filled r (rw R.relations_are at h) R.permitting)

  pub related_none : RelationsChecked rows permits entries relations 0 0
  related_none = record { most = omega arith; starts = refl; each = λ j h. absurd (omega arith) }

  module _ {start r : ℕ} (S : RelationsChecked rows permits entries relations start r) (h : r < length relations / 2) where
    pub related_read : SchemaReadable rows permits entries relations → RelationRead rows entries relations r start
    related_read A =
        let R = A.reads in
        rw (S.starts, R.entries_are, R.relations_are) (relation_read R.formed R.filled r (rw R.relations_are at h))

    module _ {v : Verdict} (gave : v ≡ relation_rule rows permits entries relations r start) where
      is_rule : v ≡ rule r
      is_rule = gave ∙ ap (relation_rule rows permits entries relations r) S.starts

      pub related_more : v ≡ Ok tt → {n : ℕ} → n ≡ relation_length relations r
          → RelationsChecked rows permits entries relations (start + n) (r + 1)
      related_more e p = record {
        most = omega arith;
        starts = ap₂ ◌+◌ S.starts p ∙ ap (relation_start relations) (sym (add-one r));
        each = λ j l. ⊎_elim (λ (s : j ≡ r). ap rule s ∙ sym is_rule ∙ e) (λ (m : j < r). S.each j m) (eq-or-lt_of_le (below_next l));
      }

      pub related_here : {x : Refusal} → v ≡ Err x → (T : Tables) → SchemaReads T rows permits entries relations → v ≡ schema_check T
      related_here {x} e T R =
          e ∙ sym (refused_first (relation_check T) (relation_count T) 0 r x (omega arith) (let b = rw R.relations_are at h in omega arith)
          (λ j l m. sym (rule_is R j (omega arith)) ∙ S.each j m) (sym (rule_is R r h) ∙ sym is_rule ∙ e))

  pub related_all : {start r : ℕ} → RelationsChecked rows permits entries relations start r → length relations / 2 ≤ r → (T : Tables)
      → SchemaReads T rows permits entries relations
      → (Ok tt) ≡ schema_check T
  related_all {start} {r} S h T R =
      sym (accepted_first (relation_check T) (relation_count T) 0
      (λ j l m. let b : j < length relations / 2 = rw R.relations_are (omega arith) in sym (rule_is R j b) ∙ S.each j (omega arith)))
