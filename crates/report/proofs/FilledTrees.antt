-- The configured report as a tree in the filled reading. Its columns are the set of the form, whatever is at fault; it passes the plain
-- rules at c exactly where no form that it leads to has a fault of its own by 16, 18, 19 or 25.
use Prim.Native.Nat.{ℕ, ◌<◌}
use mathlib.Core.Path.{◌≡◌, refl, sym, ap, ap₂, ◌∙◌}
use mathlib.Core.Bool.{Bool, true, false, cond, ◌&&◌, ◌||◌, not, and-eq-true_iff, and-true, not-not, false≢true}
use native.Mathlib.Omega.{arith}
use borrow.Author.Tests.{eq-eqb, not-true}
use lib.Dec.{eqb}
use lib.Bits.{bit_and, bit_or}
use Rattle.sets.specs.Bits.{bit, difference, subset}
use Rattle.sets.proofs.BitLaws.{bit_none, bit-and, bit-difference, bits_equal, xor_zero}
use Rattle.report.specs.Tables.{Tables, kind_of, query_count, report, project_start}
use Rattle.report.specs.Operands.{query_operands}
use Rattle.report.specs.Expressions.{permitted}
use Rattle.report.specs.Typing.{at, passes_on, reached, present, relation_set, project_set, joined_set, set_rule, set_of, faults_of, clashes_in}
use Rattle.report.specs.PlainAlgebra.{PlainQuery, set_from, columns, passes}
use Rattle.report.specs.ConfiguredReport.{plain_query_of, plain_query_at, kept_attributes, configured_schema}
use Rattle.report.specs.Formed.{Formed, OperandsBelow}
use Rattle.report.specs.declared.Query.{Query}
use Rattle.report.proofs.ValueLaws.{strong}
use Rattle.report.proofs.FormedFacts.{query_operands_lem, report_in}
use Rattle.report.proofs.StepLaws.{taken_below, set_in, plain_query_in}
use Rattle.report.proofs.KeptLists.{kept_staying}
use Rattle.report.proofs.PassingOn.{passed_to, to_passed}
use Rattle.report.proofs.LeadLaws.{form_at, passed_lower, along}
use Rattle.report.proofs.ReachLaws.{reached-leads, reached_in, reached_next}
use Rattle.report.proofs.ReadingLaws.{asks}
use Rattle.report.proofs.TreeLaws.{reached-permitted, named-names, one_kind_lem}
use Rattle.report.specs.declared.Reading.{Reading}

module _ {T : Tables} (F : Formed T) (c : ℕ) where
  abbrev tree : ℕ → PlainQuery
  tree = plain_query_at T c Reading.Filled

  abbrev Agree : ℕ → Type 0
  Agree q = (k : ℕ) → k < q → columns (configured_schema T c) (tree k) ≡ set_of T c k

  -- ---- its columns

  relation_columns : (a : ℕ) (t : Bool) → present T c a ≡ t
      → columns (configured_schema T c) (cond t (PlainQuery.relation a) PlainQuery.empty) ≡ cond t (relation_set T c a) 0
  relation_columns a true e = rw e refl
  relation_columns a false e = refl

  columns_rule : (q : ℕ) (y : Query) → OperandsBelow q (query_operands y) → Agree q
      → columns (configured_schema T c) (plain_query_of T c Reading.Filled tree q y) ≡ set_rule T c (set_of T c) q y
  columns_rule q Query.Malformed l ih = refl
  columns_rule q Query.Empty l ih = refl
  columns_rule q (Query.Relation a) l ih = relation_columns a (present T c a) refl
  columns_rule q (Query.Select a b) l ih = ih b l
  columns_rule q (Query.Project a b) l ih =
      bits_equal _ (bit_and (project_set T c q a) (set_of T c b))
      (λ x. kept_staying T c (project_start T q) (bit (columns (configured_schema T c) (tree b))) a x
      ∙ ap (λ (s : ℕ). bit (project_set T c q a) x && bit s x) (ih b l) ∙ sym (bit-and (project_set T c q a) (set_of T c b) x))
  columns_rule q (Query.Choice a b d) l ih = ih _ (taken_below (at T c a) l)
  columns_rule q (Query.Product a b) l ih = ap₂ bit_or (ih a l.0) (ih b l.1)
  columns_rule q (Query.Union a b) l ih = ih a l.0
  columns_rule q (Query.Intersection a b) l ih = ih a l.0

  pub filled_columns : (q : ℕ) → q < query_count T → columns (configured_schema T c) (plain_query_at T c Reading.Filled q) ≡ set_of T c q
  filled_columns =
      strong (λ q. q < query_count T → columns (configured_schema T c) (tree q) ≡ set_of T c q)
      (λ q ih h.
      ap (columns (configured_schema T c)) (plain_query_in F c q h Reading.Filled)
      ∙ columns_rule q (form_at T q) (query_operands_lem F q h) (λ k l. ih k l (omega arith))
      ∙ sym (set_in F c q h))

  -- what stays of a list is inside the set by which it stays
  stays_inside : (s start count : ℕ) → subset (set_from (kept_attributes T c (bit s) start count)) s ≡ true
  stays_inside s start count =
      eq-eqb (difference (set_from (kept_attributes T c (bit s) start count)) s) 0
      (bits_equal (difference (set_from (kept_attributes T c (bit s) start count)) s) 0
      (λ i. bit-difference (set_from (kept_attributes T c (bit s) start count)) s i
      ∙ ap (λ (t : Bool). t && not (bit s i)) (kept_staying T c start (bit s) count i) ∙ go (bit (joined_set T c start count) i) (bit s i) ∙ sym (bit_none i)))
    where
      go : (t u : Bool) → ((t && u) && not u) ≡ false
      go true true = refl
      go true false = refl
      go false u = refl

  -- ---- it passes where its operands pass and nothing is at fault in the form, 15 and 17 left aside

  abbrev pub filled_passes : ℕ → Bool
  filled_passes q = passes (kind_of T) (configured_schema T c) (plain_query_at T c Reading.Filled q)

  abbrev operands_pass : Query → Bool
  operands_pass y = not (passes_on T c (λ k. not (filled_passes k)) y)

  -- nothing of 16, 18, 19 and 25 is at fault in the form's own node
  abbrev pub node_keeps : ℕ → Query → Bool
  node_keeps q y = eqb (cond (asks y) 0 (faults_of T c q y)) 0 && eqb (clashes_in T c y) 0

  one : (t u v : Bool) → u ≡ v → (t && u) ≡ (not (not t) && v)
  one true u v e = e
  one false u v e = refl

  two : (s t u v : Bool) → u ≡ v → (s && t && u) ≡ (not (not s || not t) && (v && true))
  two true true u v e = e ∙ sym (and-true v)
  two true false u v e = refl
  two false t u v e = refl

  relation_passes : (a : ℕ) (t : Bool) → present T c a ≡ t
      → passes (kind_of T) (configured_schema T c) (cond t (PlainQuery.relation a) PlainQuery.empty) ≡ true
  relation_passes a true e = rw e refl
  relation_passes a false e = refl

  passes_rule : (q : ℕ) (y : Query) → OperandsBelow q (query_operands y) → Agree q
      → passes (kind_of T) (configured_schema T c) (plain_query_of T c Reading.Filled tree q y) ≡ (operands_pass y && node_keeps q y)
  passes_rule q Query.Malformed l ih = refl
  passes_rule q Query.Empty l ih = refl
  passes_rule q (Query.Relation a) l ih = relation_passes a (present T c a) refl
  passes_rule q (Query.Select a b) l ih =
      one (filled_passes b) _ _ (ap₂ ◌&&◌ (ap₂ (λ (x y : ℕ). eqb (difference x y) 0) (named-names T c a) (ih b l)) (one_kind_lem T c a))
  passes_rule q (Query.Project a b) l ih =
      one (filled_passes b) _ true (stays_inside (columns (configured_schema T c) (tree b)) (project_start T q) a)
  passes_rule q (Query.Choice a b d) l ih = sym (and-true _ ∙ not-not _)
  passes_rule q (Query.Product a b) l ih =
      two (filled_passes a) (filled_passes b) _ _ (ap₂ (λ (x y : ℕ). eqb (bit_and x y) 0) (ih a l.0) (ih b l.1))
  passes_rule q (Query.Union a b) l ih =
      two (filled_passes a) (filled_passes b) _ _ (ap₂ eqb (ih a l.0) (ih b l.1) ∙ sym (xor_zero (set_of T c a) (set_of T c b)))
  passes_rule q (Query.Intersection a b) l ih =
      two (filled_passes a) (filled_passes b) _ _ (ap₂ eqb (ih a l.0) (ih b l.1) ∙ sym (xor_zero (set_of T c a) (set_of T c b)))

  pub filled_passes_lem : (q : ℕ) → q < query_count T → filled_passes q ≡ (operands_pass (form_at T q) && node_keeps q (form_at T q))
  filled_passes_lem q h =
      ap (passes (kind_of T) (configured_schema T c)) (plain_query_in F c q h Reading.Filled)
      ∙ passes_rule q (form_at T q) (query_operands_lem F q h) (λ k l. filled_columns k (omega arith))

  -- ---- the whole report

  -- where no reached form up to it has a fault of its own the tree of a reached form passes
  pub filled_clean : permitted T c ≡ true → ((x : ℕ) → reached T c x ≡ true → node_keeps x (form_at T x) ≡ true)
      → (q : ℕ) → reached T c q ≡ true → filled_passes q ≡ true
  filled_clean ok f =
      strong (λ q. reached T c q ≡ true → filled_passes q ≡ true)
      (λ q ih r.
      let h = reached_in F c ok q r in
      filled_passes_lem q h
      ∙ (and-eq-true_iff (operands_pass (form_at T q)) (node_keeps q (form_at T q))).1
      (go q h r ih (passes_on T c (λ k. not (filled_passes k)) (form_at T q)) refl, f q r))
    where
      go : (q : ℕ) → q < query_count T → reached T c q ≡ true → ((k : ℕ) → k < q → reached T c k ≡ true → filled_passes k ≡ true)
          → (t : Bool) → passes_on T c (λ k. not (filled_passes k)) (form_at T q) ≡ t → not t ≡ true
      go q h r ih false e = refl
      go q h r ih true e =
          let p = passed_to T c (λ k. not (filled_passes k)) (form_at T q) e in
          let l = passed_lower F c p.form q h p.passed in
          absurd (false≢true (sym (not-true _ p.is_marked) ∙ ih p.form l (reached_next F c ok p.form q r p.passed)))

  -- where a reached form has one the tree of the report breaks a rule
  pub filled_breaks : (x : ℕ) → reached T c x ≡ true → node_keeps x (form_at T x) ≡ false → filled_passes (report T) ≡ false
  filled_breaks x r e =
      along F c x (λ q. filled_passes q ≡ false)
      (λ h. filled_passes_lem x h ∙ second (operands_pass (form_at T x)) (node_keeps x (form_at T x)) e)
      (λ z q h k p l ih.
      filled_passes_lem q h
      ∙ first (operands_pass (form_at T q)) (node_keeps q (form_at T q)) (ap not (to_passed T c (λ k. not (filled_passes k)) z (ap not ih) (form_at T q) p)))
      (report T) (report_in F) (sym (reached-leads F c (reached-permitted T c x r) x) ∙ r)
    where
      first : (s t : Bool) → s ≡ false → (s && t) ≡ false
      first s t u = ap (λ (b : Bool). b && t) u

      second : (s t : Bool) → t ≡ false → (s && t) ≡ false
      second true t u = u
      second false t u = refl
