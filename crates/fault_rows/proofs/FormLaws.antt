-- Laws of the faults of one item in one form.
use Prim.Native.Nat.{ℕ, ◌^◌, ◌<◌}
use mathlib.Core.Path.{◌≡◌, refl, sym, ap, ap₂, ◌∙◌}
use mathlib.Core.Bool.{Bool, true, false, cond, not, ◌&&◌, ◌||◌, xor, and-true, and-false}
use mathlib.Core.List.{List}
use native.Mathlib.Omega.{arith}
use borrow.Author.Tests.{lt-ltb}
use lib.Bits.{bit_and, bit_xor}
use lib.Dec.{ltb, eqb}
use Rattle.sets.specs.Bits.{bit, difference}
use Rattle.sets.specs.Rows.{row_of, row_in, row_join, row_intersect, row_minus, within, RowsAre}
use Rattle.sets.proofs.BitLaws.{bit_none, bit_pow, bit-difference, bit-xor}
use Rattle.sets.proofs.RowLaws.{row_of_same, intersect_row_of, minus_row_of, join_within, minus_within}
use Rattle.report.specs.Tables.{Tables, query, query_count, report, relation_count, relation_expression, comparison_count, project_length, project_start}
use Rattle.report.specs.Expressions.{permitted}
use Rattle.report.specs.Typing.{at, leads, present, names, project_set, set_of, reached, faults_of, faults}
use Rattle.report.specs.Readings.{spared, faults_by}
use Rattle.report.specs.Formed.{Formed, QueryLower}
use Rattle.report.specs.declared.Query.{Query}
use Rattle.report.specs.declared.Reading.{Reading}
use Rattle.report.proofs.FormedFacts.{query_at, relation_expression_lem}
use Rattle.report.proofs.ReadingLaws.{faults-spared}
use Rattle.comparisons.specs.declared.Gathered.{Gathered}
use Rattle.expression_rows.specs.ExpressionRows.{TruthFilled, reach_row}
use Rattle.attribute_rows.specs.AttributeRows.{has_row, list_row, gathered_row, set_row}
use Rattle.attribute_rows.proofs.AttributeLaws.{row_same, has_none, has_and}
use Rattle.fault_rows.specs.FaultRows.{fault_row}
use Rattle.fault_rows.specs.FaultRules.{unequal_row, fault_step, FaultRead}

-- ---- rows of sets

module _ (T : Tables) (a : ℕ) (f g : ℕ → ℕ) where
  has_difference : row_minus 16 (has_row T a f) (has_row T a g) ≡ has_row T a (λ c. difference (f c) (g c))
  has_difference =
      minus_within 16 T.features (λ c. bit (f c) a) (λ c. bit (g c) a)
      ∙ row_same T.features (λ c. bit (f c) a && not (bit (g c) a)) (λ c. bit (difference (f c) (g c)) a)
      (λ c. sym (bit-difference (f c) (g c) a))

  has_unequal : unequal_row (has_row T a f) (has_row T a g) ≡ has_row T a (λ c. bit_xor (f c) (g c))
  unfolding xor
  has_unequal =
      ap₂ (row_join 16) (minus_within 16 T.features (λ c. bit (f c) a) (λ c. bit (g c) a))
      (minus_within 16 T.features (λ c. bit (g c) a) (λ c. bit (f c) a))
      ∙ join_within 16 T.features (λ c. bit (f c) a && not (bit (g c) a)) (λ c. bit (g c) a && not (bit (f c) a))
      ∙ row_same T.features (λ c. (bit (f c) a && not (bit (g c) a)) || (bit (g c) a && not (bit (f c) a)))
      (λ c. bit (bit_xor (f c) (g c)) a)
      (λ c. go (bit (f c) a) (bit (g c) a) ∙ sym (bit-xor (f c) (g c) a))
    where
      go : (x y : Bool) → ((x && not y) || (y && not x)) ≡ xor x y
      go true true = refl
      go true false = refl
      go false true = refl
      go false false = refl

-- ---- an absent relation

-- a row, or none
row_if : (p : ℕ → Bool) (t : Bool) → cond t (row_of 16 p) (row_of 16 (λ c. false)) ≡ row_of 16 (λ c. p c && t)
row_if p true = row_of_same 16 p (λ c. p c && true) (λ c h. sym (and-true (p c)))
row_if p false = row_of_same 16 (λ c. false) (λ c. p c && false) (λ c h. sym (and-false (p c)))

-- ---- one form, cut by what reaches it: a configuration that reaches a form is one of the features' configurations

-- the row of a test
pub cut_within : (T : Tables) (q : ℕ) (p : ℕ → Bool)
    → row_intersect 16 (row_of 16 (within T.features p)) (reach_row T q) ≡ row_of 16 (λ c. reached T c q && p c)
unfolding reached permitted
cut_within T q p =
    intersect_row_of 16 (within T.features p) (λ c. reached T c q)
    ∙ row_of_same 16 (λ c. within T.features p c && reached T c q) (λ c. reached T c q && p c)
    (λ c h. go (ltb c (2 ^ T.features)) (T.truth c T.model) (leads T c q (report T)) (p c))
  where
    go : (l m d b : Bool) → ((l && b) && ((l && m) && d)) ≡ (((l && m) && d) && b)
    go true true true b = and-true b
    go true true false b = and-false b
    go true false d b = and-false b
    go false m d b = refl

-- that of attribute a
cut_row : (T : Tables) (q a : ℕ) (set : ℕ → ℕ) {row : List ℕ} → row ≡ has_row T a set
    → row_intersect 16 row (reach_row T q) ≡ row_of 16 (λ c. reached T c q && bit (set c) a)
cut_row T q a set e = ap (λ (r : List ℕ). row_intersect 16 r (reach_row T q)) e ∙ cut_within T q (λ c. bit (set c) a)

-- that of an absent relation, where the expression e is the relation's
cut_absent : (T : Tables) (q e : ℕ) (t : Bool)
    → row_intersect 16
    (cond t (row_minus 16 (reach_row T q) (row_of 16 (within T.features (λ c. at T c e)))) (row_of 16 (λ c. false)))
    (reach_row T q)
    ≡ row_of 16 (λ c. reached T c q && (not (at T c e) && t))
unfolding reached permitted
cut_absent T q e t =
    ap (λ (r : List ℕ). row_intersect 16 r (reach_row T q))
    (ap (λ (r : List ℕ). cond t r (row_of 16 (λ c. false))) (minus_row_of 16 (λ c. reached T c q) (within T.features (λ c. at T c e)))
    ∙ row_if (λ c. reached T c q && not (within T.features (λ d. at T d e) c)) t)
    ∙ intersect_row_of 16 (λ c. (reached T c q && not (within T.features (λ d. at T d e) c)) && t) (λ c. reached T c q)
    ∙ row_of_same 16 (λ c. ((reached T c q && not (within T.features (λ d. at T d e) c)) && t) && reached T c q)
    (λ c. reached T c q && (not (at T c e) && t))
    (λ c h. go (ltb c (2 ^ T.features)) (T.truth c T.model) (leads T c q (report T)) (at T c e))
  where
    go : (l m d h : Bool) → (((((l && m) && d) && not (l && h)) && t) && ((l && m) && d)) ≡ (((l && m) && d) && (not h && t))
    go true true true h = and-true (not h && t)
    go true true false h = refl
    go true false d h = refl
    go false m d h = refl

-- ---- an item that is spared is not at fault, and any other as in the strict reading

held_row : (T : Tables) (R : Reading) (a q : ℕ) {t : Bool} → t ≡ bit (spared T R q) a
    → cond t (row_of 16 (λ c. false)) (row_of 16 (λ c. reached T c q && bit (faults T c 0 q) a)) ≡ fault_row T R a q
held_row T R a q {t} e = go t (sym e)
  where
    held : (t : Bool) → bit (spared T R q) a ≡ t → (c : ℕ) → bit (faults_by T R c 0 q) a ≡ (bit (faults T c 0 q) a && not t)
    held t e c =
        ap (λ (x : ℕ). bit x a) (faults-spared T R c q) ∙ bit-difference (faults T c 0 q) (spared T R q) a
        ∙ ap (λ (u : Bool). bit (faults T c 0 q) a && not u) e

    go : (t : Bool) → bit (spared T R q) a ≡ t
        → cond t (row_of 16 (λ c. false)) (row_of 16 (λ c. reached T c q && bit (faults T c 0 q) a)) ≡ fault_row T R a q
    go true e =
        row_of_same 16 (λ c. false) (λ c. reached T c q && bit (faults_by T R c 0 q) a)
        (λ c h. sym (ap (λ (u : Bool). reached T c q && u) (held true e c ∙ and-false (bit (faults T c 0 q) a)) ∙ and-false (reached T c q)))
    go false e =
        row_of_same 16 (λ c. reached T c q && bit (faults T c 0 q) a) (λ c. reached T c q && bit (faults_by T R c 0 q) a)
        (λ c h. sym (ap (λ (u : Bool). reached T c q && u) (held false e c ∙ and-true (bit (faults T c 0 q) a))))

-- ---- one form

-- the rows that the faults of form q are made of
module _ {T : Tables} (F : Formed T) (a : ℕ) {expression_rows named_rows form_rows : List ℕ} (C : TruthFilled T expression_rows)
    (compared : RowsAre 16 (comparison_count T) (gathered_row T Gathered.Names a) named_rows) {q : ℕ} (B : RowsAre 16 q (set_row T a) form_rows) where
  -- where item a is at fault in a form, cut by what reaches form q
  abbrev cut_faults : Query → List ℕ
  cut_faults x =
      row_intersect 16
      (fault_step expression_rows T.relations named_rows form_rows (list_row T a (project_start T q) (project_length x)) (reach_row T q) a x)
      (reach_row T q)

  absent_rule : (r : ℕ) → r < relation_count T
      → cut_faults (Query.Relation r) ≡ row_of 16 (λ c. reached T c q && bit (cond (present T c r) 0 (2 ^ r)) a)
  absent_rule r h =
      let e = relation_expression T.relations r in
      ap (λ (l : List ℕ). row_intersect 16 (cond (eqb a r) (row_minus 16 (reach_row T q) l) (row_of 16 (λ c. false)))
      (reach_row T q))
      (C.each e (relation_expression_lem F r h))
      ∙ cut_absent T q e (eqb a r)
      ∙ row_of_same 16 (λ c. reached T c q && (not (at T c e) && eqb a r)) (λ c. reached T c q && bit (cond (present T c r) 0 (2 ^ r)) a)
      (λ c l. ap (λ (t : Bool). reached T c q && t)
      (own (at T c e) ∙ ap (λ (t : Bool). bit (cond (t && at T c e) 0 (2 ^ r)) a) (sym (lt-ltb r (relation_count T) h))))
    where
      own : (t : Bool) → (not t && eqb a r) ≡ bit (cond t 0 (2 ^ r)) a
      own true = sym (bit_none a)
      own false = sym (bit_pow r a)

  unequal_rule : (b d : ℕ) → b < q → d < q
      → row_intersect 16 (unequal_row (row_in 16 form_rows b) (row_in 16 form_rows d)) (reach_row T q)
      ≡ row_of 16 (λ c. reached T c q && bit (bit_xor (set_of T c b) (set_of T c d)) a)
  unequal_rule b d l m =
      cut_row T q a (λ c. bit_xor (set_of T c b) (set_of T c d))
      (ap₂ unequal_row (B.each b l) (B.each d m) ∙ has_unequal T a (λ c. set_of T c b) (λ c. set_of T c d))

  fault_rule : (x : Query) → QueryLower T q x → cut_faults x ≡ row_of 16 (λ c. reached T c q && bit (faults_of T c q x) a)
  fault_rule Query.Malformed l = absurd l
  fault_rule Query.Empty l = cut_row T q a (λ c. 0) (has_none T a)
  fault_rule (Query.Relation r) l = absent_rule r l
  fault_rule (Query.Select f b) l =
      cut_row T q a (λ c. difference (names T c f) (set_of T c b))
      (ap₂ (row_minus 16) (compared.each f l.0) (B.each b l.1.lower) ∙ has_difference T a (λ c. names T c f) (λ c. set_of T c b))
  fault_rule (Query.Project n b) l =
      cut_row T q a (λ c. difference (project_set T c q n) (set_of T c b))
      (ap (row_minus 16 (list_row T a (project_start T q) n)) (B.each b l.1.lower)
      ∙ has_difference T a (λ c. project_set T c q n) (λ c. set_of T c b))
  fault_rule (Query.Choice e b d) l = cut_row T q a (λ c. 0) (has_none T a)
  fault_rule (Query.Product b d) l =
      cut_row T q a (λ c. bit_and (set_of T c b) (set_of T c d))
      (ap₂ (row_intersect 16) (B.each b l.first.lower) (B.each d l.second.lower) ∙ has_and T a (λ c. set_of T c b) (λ c. set_of T c d))
  fault_rule (Query.Union b d) l = unequal_rule b d l.first.lower l.second.lower
  fault_rule (Query.Intersection b d) l = unequal_rule b d l.first.lower l.second.lower

  module _ (h : q < query_count T) {x : Query} (e : x ≡ query T.queries q) where
    pub fault_read : {relations : List ℕ} → relations ≡ T.relations → FaultRead expression_rows relations named_rows form_rows x
    fault_read is = record {
      read = record {
        tables = T;
        form = q;
        lower = rw e (query_at F q h);
        related = λ r l. rw is (record { inside = l; rowed = let m = relation_expression_lem F r l in let s = C.room in omega arith });
        below = B.room;
      };
      compared = compared.room;
    }

    -- made so, with the row of the form's own list and the row of what reaches it, unless the reading spares the form item a
    pub fault_is : {relations listed among row : List ℕ} → relations ≡ T.relations → listed ≡ list_row T a (project_start T q) (project_length x)
        → among ≡ reach_row T q → (R : Reading) {t : Bool} → t ≡ bit (spared T R q) a
        → row ≡ cond t (row_of 16 (λ c. false)) (row_intersect 16 (fault_step expression_rows relations named_rows form_rows listed among a x) among)
        → row ≡ fault_row T R a q
    unfolding faults
    fault_is is list reach R {t} spares step =
        (rw (is, list, reach) at step)
        ∙ ap (cond t (row_of 16 (λ c. false))) (ap cut_faults e ∙ fault_rule (query T.queries q) (query_at F q h))
        ∙ held_row T R a q spares
