-- Laws of what a query form finds of one item, and of what the reading so spares it.
use Prim.Native.Nat.{ℕ, ◌+◌, ◌^◌, ◌<◌, ◌≤◌}
use mathlib.Core.Path.{◌≡◌, refl, sym, ap, ap₂, ◌∙◌}
use mathlib.Core.Bool.{Bool, true, false, cond, not, not-not, ◌&&◌, and-true, and-false}
use mathlib.Core.List.{List}
use native.Mathlib.Nat.{not-suc-le-zero}
use native.Mathlib.Decide.{dec_lt}
use native.Mathlib.Omega.{arith}
use borrow.Author.Tests.{lt-ltb, le-ltb}
use lib.Bits.{bit_and, bit_or}
use lib.Dec.{ltb, eqb}
use lib.Pow.{pow_mono}
use Rattle.sets.specs.Search.{some_below}
use Rattle.sets.specs.Bits.{bit, bits_of}
use Rattle.sets.specs.Rows.{row_of, row_in, row_is_empty, row_intersect, within, RowsAre}
use Rattle.sets.proofs.SearchLaws.{some_same, some_narrow, none_some}
use Rattle.sets.proofs.BitLaws.{bit_none, bit_pow, bit-and, bit_above, bit-bits_of, bits_of_lt, bits_of_none, one_more, all_below}
use Rattle.sets.proofs.RowLaws.{row_of_same, intersect_row_of, empty_row_of}
use Rattle.report.specs.Tables.{Tables, query, query_count, report, relation_count, relation_expression, project_length, project_start}
use Rattle.report.specs.Expressions.{configurations, permitted}
use Rattle.report.specs.Typing.{at, leads, present, project_set, set_of, reached}
use Rattle.report.specs.Readings.{found_in, spared}
use Rattle.report.specs.Formed.{Formed, QueryLower}
use Rattle.report.specs.declared.Query.{Query}
use Rattle.report.specs.declared.Reading.{Reading}
use Rattle.report.proofs.FormedFacts.{query_at, relation_expression_lem}
use Rattle.report.proofs.ReadingLaws.{found_bit}
use Rattle.report.proofs.TreeLaws.{reached-permitted}
use Rattle.report.proofs.TypingLaws.{permitted_within}
use Rattle.expression_rows.specs.ExpressionRows.{TruthFilled, reach_row}
use Rattle.attribute_rows.specs.AttributeRows.{list_row, set_row}
use Rattle.fault_rows.specs.FaultRules.{present_in, found_step, spared_step, spared_below}
use Rattle.fault_rows.proofs.FormLaws.{cut_within}

-- ---- rows that meet

-- a search that counts only if a test holds
some_if : (p : ℕ → Bool) (n : ℕ) (t : Bool) → (t && some_below p n) ≡ some_below (λ c. p c && t) n
some_if p n true = some_same p (λ c. p c && true) n (λ c h. sym (and-true (p c)))
some_if p n false = sym (none_some (λ c. p c && false) n (λ c h. and-false (p c)))

module _ (T : Tables) (q : ℕ) where
  -- a row cut by what reaches form q meets the row of a test where the test holds at any configuration of it
  meets_within : (f p : ℕ → Bool)
      → not (row_is_empty 16 (row_intersect 16 (row_of 16 (λ c. reached T c q && f c)) (row_of 16 (within T.features p))))
      ≡ some_below (λ c. reached T c q && (f c && p c)) 1024
  unfolding reached permitted
  meets_within f p =
      ap (λ (row : List ℕ). not (row_is_empty 16 row))
      (intersect_row_of 16 (λ c. reached T c q && f c) (within T.features p)
      ∙ row_of_same 16 (λ c. (reached T c q && f c) && within T.features p c) (λ c. reached T c q && (f c && p c))
      (λ c h. go (ltb c (2 ^ T.features)) (T.truth c T.model) (leads T c q (report T)) (f c) (p c)))
      ∙ ap not (empty_row_of 16 (λ c. reached T c q && (f c && p c)))
      ∙ not-not (some_below (λ c. reached T c q && (f c && p c)) 1024)
    where
      go : (l m d x y : Bool) → ((((l && m) && d) && x) && (l && y)) ≡ (((l && m) && d) && (x && y))
      go true true true x y = refl
      go true true false x y = refl
      go true false d x y = refl
      go false m d x y = refl

  -- nothing is found by a form that asks for nothing
  none_found : (a : ℕ) → false ≡ some_below (λ c. reached T c q && bit 0 a) 1024
  none_found a =
      sym (none_some (λ c. reached T c q && bit 0 a) 1024
      (λ c h. ap (λ (t : Bool). reached T c q && t) (bit_none a) ∙ and-false (reached T c q)))

  -- a form is reached at configurations of the features only, of which there are no more than a row has room for
  found_narrow : Formed T → (p : ℕ → Bool) → some_below (λ c. reached T c q && p c) 1024 ≡ some_below (λ c. reached T c q && p c) (configurations T)
  found_narrow F p = some_narrow (λ c. reached T c q && p c) (configurations T) 1024 (pow_mono {j = 10} F.few) (λ c l. go c l (reached T c q) refl)
    where
      go : (c : ℕ) → configurations T ≤ c → (t : Bool) → reached T c q ≡ t → (t && p c) ≡ false
      go c l true e = absurd (let b = permitted_within T c (reached-permitted T c q e) in omega arith)
      go c l false e = refl

-- ---- one form

module _ {T : Tables} (F : Formed T) (a : ℕ) {expression_rows form_rows : List ℕ} (C : TruthFilled T expression_rows) {q : ℕ}
    (B : RowsAre 16 q (set_row T a) form_rows) where
  present_rule : (r : ℕ) → r < relation_count T
      → present_in expression_rows (reach_row T q) T.relations a r ≡ some_below (λ c. reached T c q && bit (cond (present T c r) (2 ^ r) 0) a) 1024
  present_rule r h =
      let e = relation_expression T.relations r in
      ap (λ (t : Bool). eqb a r && t)
      (ap₂ (λ (l s : List ℕ). not (row_is_empty 16 (row_intersect 16 l s)))
      (row_of_same 16 (λ c. reached T c q) (λ c. reached T c q && true) (λ c l. sym (and-true (reached T c q))))
      (C.each e (relation_expression_lem F r h))
      ∙ meets_within T q (λ c. true) (λ c. at T c e))
      ∙ some_if (λ c. reached T c q && at T c e) 1024 (eqb a r)
      ∙ some_same (λ c. (reached T c q && at T c e) && eqb a r) (λ c. reached T c q && bit (cond (present T c r) (2 ^ r) 0) a) 1024
      (λ c l. own (reached T c q) (at T c e)
      ∙ ap (λ (t : Bool). reached T c q && bit (cond (t && at T c e) (2 ^ r) 0) a) (sym (lt-ltb r (relation_count T) h)))
    where
      own : (x t : Bool) → ((x && t) && eqb a r) ≡ (x && bit (cond t (2 ^ r) 0) a)
      own true true = sym (bit_pow r a)
      own true false = sym (bit_none a)
      own false t = refl

  projected_rule : (n b : ℕ) → b < q
      → not (row_is_empty 16 (row_intersect 16 (row_intersect 16 (list_row T a (project_start T q) n) (reach_row T q)) (row_in 16 form_rows b)))
      ≡ some_below (λ c. reached T c q && bit (bit_and (project_set T c q n) (set_of T c b)) a) 1024
  projected_rule n b l =
      ap₂ (λ (x y : List ℕ). not (row_is_empty 16 (row_intersect 16 x y))) (cut_within T q (λ c. bit (project_set T c q n) a)) (B.each b l)
      ∙ meets_within T q (λ c. bit (project_set T c q n) a) (λ c. bit (set_of T c b) a)
      ∙ some_same (λ c. reached T c q && (bit (project_set T c q n) a && bit (set_of T c b) a))
      (λ c. reached T c q && bit (bit_and (project_set T c q n) (set_of T c b)) a) 1024
      (λ c h. ap (λ (t : Bool). reached T c q && t) (sym (bit-and (project_set T c q n) (set_of T c b) a)))

  -- item a is found by a form, at any configuration that reaches form q
  found_rule : (x : Query) → QueryLower T q x
      → found_step expression_rows T.relations form_rows (list_row T a (project_start T q) (project_length x)) (reach_row T q) a x
      ≡ some_below (λ c. reached T c q && bit (found_in T c q x) a) 1024
  found_rule Query.Malformed l = absurd l
  found_rule Query.Empty l = none_found T q a
  found_rule (Query.Relation r) l = present_rule r l
  found_rule (Query.Select f b) l = none_found T q a
  found_rule (Query.Project n b) l = projected_rule n b l.1.lower
  found_rule (Query.Choice e b d) l = none_found T q a
  found_rule (Query.Product b d) l = none_found T q a
  found_rule (Query.Union b d) l = none_found T q a
  found_rule (Query.Intersection b d) l = none_found T q a

  -- the reading spares form q item a: worked out so, with the row of the form's own list and the row of what reaches it
  pub spared_is : q < query_count T → {x : Query} → x ≡ query T.queries q → {relations listed among : List ℕ} → relations ≡ T.relations
      → listed ≡ list_row T a (project_start T q) (project_length x) → among ≡ reach_row T q
      → (R : Reading) {t : Bool} → t ≡ spared_step R expression_rows relations form_rows listed among a x → t ≡ bit (spared T R q) a
  unfolding spared
  spared_is h e is list reach Reading.Strict step = step ∙ sym (bit_none a)
  spared_is h {x} e is list reach Reading.Filled step =
      (rw (is, list, reach) at step)
      ∙ ap (λ (y : Query). found_step expression_rows T.relations form_rows (list_row T a (project_start T q) (project_length y)) (reach_row T q) a y) e
      ∙ found_rule (query T.queries q) (query_at F q h)
      ∙ found_narrow T q F (λ c. bit (found_in T c q (query T.queries q)) a)
      ∙ sym (found_bit T (configurations T) q a)

-- ---- of what a form is spared, the items below a

-- of those of which a test holds
low_bit : (test : ℕ → Bool) (a i : ℕ) → bit (bits_of a test) i ≡ (ltb i a && test i)
low_bit test a i = go (dec_lt i a)
  where
    go : Dec (i < a) → bit (bits_of a test) i ≡ (ltb i a && test i)
    go (yes l) = bit-bits_of a test i l ∙ ap (λ (t : Bool). t && test i) (sym (lt-ltb i a l))
    go (no l) = bit_above a (bits_of a test) i (bits_of_lt a test) (omega arith) ∙ ap (λ (t : Bool). t && test i) (sym (le-ltb i a (omega arith)))

module _ (T : Tables) (R : Reading) (q : ℕ) where
  pub spared_none : spared_below T R 0 q ≡ 0
  spared_none = bits_of_none 0 (bit (spared T R q)) (λ i l. absurd (not-suc-le-zero l))

  -- one item more
  pub spared_more : (a : ℕ) {t : Bool} → t ≡ bit (spared T R q) a
      → cond t (bit_or (spared_below T R a q) (2 ^ a)) (spared_below T R a q) ≡ spared_below T R (a + 1) q
  spared_more a e =
      ap (λ (t : Bool). cond t (bit_or (spared_below T R a q) (2 ^ a)) (spared_below T R a q)) e
      ∙ all_below (bit (spared T R q)) (a + 1) (cond (bit (spared T R q) a) (bit_or (spared_below T R a q) (2 ^ a)) (spared_below T R a q))
      (λ i. one_more (bit (spared T R q)) a i (spared_below T R a q) (low_bit (bit (spared T R q)) a i))
