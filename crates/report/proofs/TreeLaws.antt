-- The configured report as a tree keeps the plain rules at c exactly where no form that c reaches has a fault; there its columns are the
-- report's set. And node by node: where the trees of its operands pass, a form's own node breaks its rule exactly where the form has a fault.
use Prim.Native.Nat.{ℕ, zero, suc, ◌^◌, ◌<◌, ◌≤◌}
use mathlib.Core.Path.{◌≡◌, refl, sym, ap, ap₂, ◌∙◌}
use mathlib.Core.Bool.{Bool, true, false, cond, ◌&&◌, ◌||◌, not, and-eq-true_iff, and-true, not-not, false≢true}
use mathlib.Core.Logic.{◌↔◌, ◌≢◌, ⊎_elim}
use mathlib.Core.Option.{none, some}
use native.Mathlib.Omega.{arith}
use borrow.Author.Tests.{eqb-true, eq-eqb, ne_eqb, not-true, not-false}
use lib.Dec.{eqb}
use lib.Bits.{bit_and, bit_or}
use lib.Pow.{pow_pos}
use Rattle.sets.specs.Bits.{difference}
use Rattle.sets.proofs.BitLaws.{or_none, xor_zero, subset-and}
use Rattle.report.specs.Tables.{Tables, kind_of, comparison, query_count, report, project_start}
use Rattle.report.specs.Operands.{comparison_operands, query_operands, comparison_sides, sides_in}
use Rattle.report.specs.Expressions.{permitted}
use Rattle.report.specs.Typing.{phases, at, taken, passes_on, leads, reached, present, relation_set, project_set, gathered_of, gathered, names_of, names}
use Rattle.report.specs.Typing.{clash_of, clashes, set_rule, set_of, faults_of, clashes_in, faults, fails, keeps}
use Rattle.report.specs.PlainAlgebra.{PlainComparison, PlainQuery, named, one_kind, in_schema, attributes_in, columns, passes}
use Rattle.report.specs.ConfiguredReport.{plain_comparison_of, plain_comparison_at, plain_query_of, plain_query_at, configured_report, configured_schema}
use Rattle.report.specs.Formed.{Formed, OperandsBelow}
use Rattle.report.specs.TypingFaults.{PartOf, compared_there, compared_alike}
use Rattle.report.specs.declared.Comparison.{Comparison}
use Rattle.report.specs.declared.Query.{Query}
use Rattle.report.specs.declared.Operands.{Operands}
use Rattle.report.specs.declared.Reading.{Reading}
use Rattle.report.proofs.ValueLaws.{strong, value-map}
use Rattle.report.proofs.FormedFacts.{query_operands_lem, report_in}
use Rattle.report.proofs.StepLaws.{taken_below, set_in, plain_query_in}
use Rattle.report.proofs.KeptLists.{kept_joined}
use Rattle.report.proofs.PassingOn.{passes_to, PassedTo, passed_to, to_passed, or_either, same_number}
use Rattle.report.proofs.LeadLaws.{form_at, passed_lower, leads_self, leads_next, leads_cases, leads_lower, along}
use Rattle.report.proofs.ReadingLaws.{fails_by_lem}
use Rattle.report.proofs.ReachLaws.{reached-leads, reached_in, reached_next, reached-report, reached_led}

-- ---- where a form fails

module _ (T : Tables) (c x : ℕ) where
  -- a form is reached at permitted configurations only
  pub reached-permitted : reached T c x ≡ true → permitted T c ≡ true
  unfolding reached
  reached-permitted e = ((and-eq-true_iff (permitted T c) (leads T c x (report T))).0 e).0

  -- in a phase it fails where it is reached and has a fault
  pub fails_where : (phase : ℕ) → (fails T c phase x ≡ true) ↔ ((reached T c x ≡ true) × (faults T c phase x ≢ 0))
  fails_where phase = fails_by_lem T Reading.Strict c phase x

  -- and does not where, if reached, it has none
  pub holds_where : (phase : ℕ) → (fails T c phase x ≡ false) ↔ (reached T c x ≡ true → faults T c phase x ≡ 0)
  holds_where phase = (back (reached T c x), forth (reached T c x))
    where
      back : (t : Bool) → (t && not (eqb (faults T c phase x) 0)) ≡ false → t ≡ true → faults T c phase x ≡ 0
      back true e r = eqb-true (faults T c phase x) 0 (not-false _ e)
      back false e r = absurd (false≢true r)

      forth : (t : Bool) → (t ≡ true → faults T c phase x ≡ 0) → (t && not (eqb (faults T c phase x) 0)) ≡ false
      forth true f = ap not (eq-eqb (faults T c phase x) 0 (f refl))
      forth false f = refl

  -- it keeps its rule where neither phase finds anything
  pub keeps-phases : (keeps T c x ≡ true) ↔ ((phase : ℕ) → phase < 2 → faults T c phase x ≡ 0)
  keeps-phases = (forth, λ f. ap₂ ◌&&◌ (eq-eqb (faults T c 0 x) 0 (f 0 (omega arith))) (eq-eqb (faults T c 1 x) 0 (f 1 (omega arith))))
    where
      forth : keeps T c x ≡ true → (phase : ℕ) → phase < 2 → faults T c phase x ≡ 0
      forth e zero h = eqb-true (faults T c 0 x) 0 ((and-eq-true_iff _ (eqb (faults T c 1 x) 0)).0 e).0
      forth e (suc zero) h = eqb-true (faults T c 1 x) 0 ((and-eq-true_iff (eqb (faults T c 0 x) 0) _).0 e).1
      forth e (suc (suc phase)) h = absurd (omega arith)

  -- so it fails in no phase where, if reached, it keeps its rule
  pub keeps_where : ((phase : ℕ) → phase < 2 → fails T c phase x ≡ false) ↔ (reached T c x ≡ true → keeps T c x ≡ true)
  keeps_where = (
    λ f r. keeps-phases.1 (λ phase h. (holds_where phase).0 (f phase h) r),
    λ f phase h. (holds_where phase).1 (λ r. keeps-phases.0 (f r) phase h),
  )

  -- and where it fails in one it does not keep it
  pub fails_breaks : (phase : ℕ) → phase < 2 → fails T c phase x ≡ true → (reached T c x ≡ true) × (keeps T c x ≡ false)
  fails_breaks phase h e = let p = (fails_where phase).0 e in (p.0, go (keeps T c x) refl p.1)
    where
      go : (t : Bool) → keeps T c x ≡ t → faults T c phase x ≢ 0 → t ≡ false
      go true k n = absurd (n (keeps-phases.0 k phase h))
      go false k n = refl

-- ---- comparisons

module _ (T : Tables) (c : ℕ) where
  named_rule : (f : ℕ → PlainComparison) (x : Comparison)
      → named (plain_comparison_of T c f x) ≡ gathered_of T c (λ k. named (f k)) (names_of (comparison_sides x)) (comparison_operands x)
  named_rule f Comparison.Malformed = refl
  named_rule f Comparison.Never = refl
  named_rule f Comparison.Always = refl
  named_rule f (Comparison.Constant o a b k) = refl
  named_rule f (Comparison.Attribute o a b) = refl
  named_rule f (Comparison.Not a) = refl
  named_rule f (Comparison.And a b) = refl
  named_rule f (Comparison.Or a b) = refl
  named_rule f (Comparison.Choice a b d) = refl

  -- what a configured comparison names
  pub named-names : (f : ℕ) → named (plain_comparison_at T c f) ≡ names T c f
  unfolding plain_comparison_at gathered
  named-names =
      value-map named PlainComparison.never (λ tree f. plain_comparison_of T c tree (comparison T.comparisons f))
      (λ tree f. gathered_of T c tree (names_of (sides_in T.comparisons f)) (comparison_operands (comparison T.comparisons f)))
      (λ g n. named_rule g (comparison T.comparisons n))

  like : (a : ℕ) (t : Bool) → t ≡ eqb (cond (not t) (2 ^ a) 0) 0
  like a true = refl
  like a false = sym (ne_eqb (2 ^ a) 0 (λ e. let p = pow_pos a in omega arith))

  -- that of all that a comparison compares, its choices taken, the sides have one kind; `own` is so of the comparison by itself
  abbrev pub agreed : (ℕ → Bool) → Bool → Operands → Bool
  agreed one own Operands.Nothing = own
  agreed one own (Operands.One a) = one a
  agreed one own (Operands.Both a b) = one a && one b
  agreed one own (Operands.Choice e a b) = one (taken T c e a b)

  tree_agreed : (tree : ℕ → PlainComparison) (x : Comparison)
      → one_kind (kind_of T) (plain_comparison_of T c tree x)
      ≡ agreed (λ k. one_kind (kind_of T) (tree k)) (eqb (clash_of (kind_of T) (comparison_sides x)) 0) (comparison_operands x)
  tree_agreed tree Comparison.Malformed = refl
  tree_agreed tree Comparison.Never = refl
  tree_agreed tree Comparison.Always = refl
  tree_agreed tree (Comparison.Constant o a b k) = like a (eqb (kind_of T a) k)
  tree_agreed tree (Comparison.Attribute o a b) = like a (eqb (kind_of T a) (kind_of T b))
  tree_agreed tree (Comparison.Not a) = refl
  tree_agreed tree (Comparison.And a b) = refl
  tree_agreed tree (Comparison.Or a b) = refl
  tree_agreed tree (Comparison.Choice a b d) = refl

  pub set_agreed : (set : ℕ → ℕ) (own : ℕ) (o : Operands) → eqb (gathered_of T c set own o) 0 ≡ agreed (λ k. eqb (set k) 0) (eqb own 0) o
  set_agreed set own Operands.Nothing = refl
  set_agreed set own (Operands.One a) = refl
  set_agreed set own (Operands.Both a b) = or_none (set a) (set b)
  set_agreed set own (Operands.Choice e a b) = refl

  -- in a configured comparison both sides have one kind where nothing clashes
  pub one_kind_lem : (f : ℕ) → one_kind (kind_of T) (plain_comparison_at T c f) ≡ eqb (clashes T c f) 0
  unfolding plain_comparison_at gathered
  one_kind_lem f =
      value-map (one_kind (kind_of T)) PlainComparison.never (λ tree f. plain_comparison_of T c tree (comparison T.comparisons f)) step
      (λ g n. tree_agreed g (comparison T.comparisons n)) f
      ∙ sym
      (value-map (λ x. eqb x 0) 0
      (λ set f. gathered_of T c set (clash_of (kind_of T) (sides_in T.comparisons f)) (comparison_operands (comparison T.comparisons f))) step
      (λ g n. set_agreed g (clash_of (kind_of T) (sides_in T.comparisons n)) (comparison_operands (comparison T.comparisons n))) f)
    where
      step : (ℕ → Bool) → ℕ → Bool
      step one f = agreed one (eqb (clash_of (kind_of T) (sides_in T.comparisons f)) 0) (comparison_operands (comparison T.comparisons f))

-- ---- one form: its node's own rule, and the trees of its operands

under_one : (t u v : Bool) → (t ≡ true → u ≡ v) → (t && u) ≡ (not (not t) && v)
under_one true u v f = f refl
under_one false u v f = refl

under_two : (s t u v : Bool) → (s ≡ true → t ≡ true → u ≡ v) → (s && t && u) ≡ (not (not s || not t) && v)
under_two true true u v f = f refl refl
under_two true false u v f = refl
under_two false t u v f = refl

two_pass : (s t : Bool) → not (not s || not t) ≡ true → (s ≡ true) × (t ≡ true)
two_pass true true e = (refl, refl)
two_pass true false e = absurd (false≢true e)
two_pass false t e = absurd (false≢true e)

module _ (T : Tables) (c : ℕ) where
  -- the tree of form q keeps the plain rules; its columns
  abbrev pub tree_passes : ℕ → Bool
  tree_passes q = passes (kind_of T) (configured_schema T c) (plain_query_at T c Reading.Strict q)

  abbrev pub tree_columns : ℕ → ℕ
  tree_columns q = columns (configured_schema T c) (plain_query_at T c Reading.Strict q)

  -- a query passes c on to no form whose tree breaks a rule
  abbrev pub operands_pass : Query → Bool
  operands_pass y = not (passes_on T c (λ k. not (tree_passes k)) y)

  -- that is, the tree of each form to which it passes c on passes
  pub operands_pass_lem : (y : Query) → (operands_pass y ≡ true) ↔ ((k : ℕ) → passes_to T c k y ≡ true → tree_passes k ≡ true)
  operands_pass_lem y = (λ e k p. forth e k p (tree_passes k) refl, λ f. back f (passes_on T c (λ k. not (tree_passes k)) y) refl)
    where
      forth : operands_pass y ≡ true → (k : ℕ) → passes_to T c k y ≡ true → (t : Bool) → tree_passes k ≡ t → t ≡ true
      forth e k p true i = refl
      forth e k p false i = absurd (false≢true (sym (not-true _ e) ∙ to_passed T c (λ k. not (tree_passes k)) k (ap not i) y p))

      back : ((k : ℕ) → passes_to T c k y ≡ true → tree_passes k ≡ true) → (t : Bool) → passes_on T c (λ k. not (tree_passes k)) y ≡ t → not t ≡ true
      back f true i =
          let p = passed_to T c (λ k. not (tree_passes k)) y i in
          absurd (false≢true (sym (not-true _ p.is_marked) ∙ f p.form p.passed))
      back f false i = refl

  -- below q, a tree that passes has the set of its form for columns
  abbrev ColumnsAgree : ℕ → Type 0
  ColumnsAgree q = (k : ℕ) → k < q → tree_passes k ≡ true → tree_columns k ≡ set_of T c k

  relation_passes : (t : Bool) (s a : ℕ) → in_schema (cond t (some s) none) ≡ eqb (cond t 0 (2 ^ a)) 0
  relation_passes true s a = refl
  relation_passes false s a = sym (ne_eqb (2 ^ a) 0 (λ e. let p = pow_pos a in omega arith))

  -- nothing is at fault in a form, in either phase
  abbrev keeps_by : ℕ → Query → Bool
  keeps_by q y = eqb (faults_of T c q y) 0 && eqb (clashes_in T c y) 0

  passes_rule : (q : ℕ) (y : Query) → OperandsBelow q (query_operands y) → ColumnsAgree q
      → passes (kind_of T) (configured_schema T c) (plain_query_of T c Reading.Strict (plain_query_at T c Reading.Strict) q y) ≡ (operands_pass y && keeps_by q y)
  passes_rule q Query.Malformed l ih = refl
  passes_rule q Query.Empty l ih = refl
  passes_rule q (Query.Relation a) l ih = relation_passes (present T c a) (relation_set T c a) a ∙ sym (and-true _)
  passes_rule q (Query.Select a b) l ih =
      under_one (tree_passes b) _ _
      (λ e. ap₂ ◌&&◌ (ap₂ (λ (x y : ℕ). eqb (difference x y) 0) (named-names T c a) (ih b l e)) (one_kind_lem T c a))
  passes_rule q (Query.Project a b) l ih =
      under_one (tree_passes b) _ _ (λ e. ap₂ (λ (x y : ℕ). eqb (difference x y) 0) (kept_joined T c (project_start T q) a) (ih b l e) ∙ sym (and-true _))
  passes_rule q (Query.Choice a b d) l ih = sym (and-true _ ∙ not-not _)
  passes_rule q (Query.Product a b) l ih =
      under_two (tree_passes a) (tree_passes b) _ _ (λ e f. ap₂ (λ (x y : ℕ). eqb (bit_and x y) 0) (ih a l.0 e) (ih b l.1 f) ∙ sym (and-true _))
  passes_rule q (Query.Union a b) l ih =
      under_two (tree_passes a) (tree_passes b) _ _ (λ e f. ap₂ eqb (ih a l.0 e) (ih b l.1 f) ∙ sym (xor_zero (set_of T c a) (set_of T c b)) ∙ sym (and-true _))
  passes_rule q (Query.Intersection a b) l ih =
      under_two (tree_passes a) (tree_passes b) _ _ (λ e f. ap₂ eqb (ih a l.0 e) (ih b l.1 f) ∙ sym (xor_zero (set_of T c a) (set_of T c b)) ∙ sym (and-true _))

  relation_columns : (t : Bool) (s : ℕ) → attributes_in (cond t (some s) none) ≡ cond t s 0
  relation_columns true s = refl
  relation_columns false s = refl

  columns_rule : (q : ℕ) (y : Query) → OperandsBelow q (query_operands y) → ColumnsAgree q → operands_pass y ≡ true → faults_of T c q y ≡ 0
      → columns (configured_schema T c) (plain_query_of T c Reading.Strict (plain_query_at T c Reading.Strict) q y) ≡ set_rule T c (set_of T c) q y
  columns_rule q Query.Malformed l ih e f = refl
  columns_rule q Query.Empty l ih e f = refl
  columns_rule q (Query.Relation a) l ih e f = relation_columns (present T c a) (relation_set T c a)
  columns_rule q (Query.Select a b) l ih e f = ih b l (sym (not-not (tree_passes b)) ∙ e)
  columns_rule q (Query.Project a b) l ih e f = kept_joined T c (project_start T q) a ∙ sym (subset-and (project_set T c q a) (set_of T c b) f)
  columns_rule q (Query.Choice a b d) l ih e f = ih _ (taken_below (at T c a) l) (sym (not-not _) ∙ e)
  columns_rule q (Query.Product a b) l ih e f =
      let p = two_pass (tree_passes a) (tree_passes b) e in
      ap₂ bit_or (ih a l.0 p.0) (ih b l.1 p.1)
  columns_rule q (Query.Union a b) l ih e f = ih a l.0 (two_pass (tree_passes a) (tree_passes b) e).0
  columns_rule q (Query.Intersection a b) l ih e f = ih a l.0 (two_pass (tree_passes a) (tree_passes b) e).0

module _ {T : Tables} (F : Formed T) (c : ℕ) where
  passes_at : (q : ℕ) → q < query_count T → ColumnsAgree T c q → tree_passes T c q ≡ (operands_pass T c (form_at T q) && keeps T c q)
  unfolding faults
  passes_at q h ih = ap (passes (kind_of T) (configured_schema T c)) (plain_query_in F c q h Reading.Strict) ∙ passes_rule T c q (form_at T q) (query_operands_lem F q h) ih

  columns-at : (q : ℕ) → q < query_count T → ColumnsAgree T c q → operands_pass T c (form_at T q) ≡ true → keeps T c q ≡ true → tree_columns T c q ≡ set_of T c q
  unfolding faults
  columns-at q h ih e f =
      ap (columns (configured_schema T c)) (plain_query_in F c q h Reading.Strict) ∙ columns_rule T c q (form_at T q) (query_operands_lem F q h) ih e ((keeps-phases T c q).0 f 0 (omega arith))
      ∙ sym (set_in F c q h)

  -- where the tree of a form passes, its columns are the set of the form
  pub passes-columns : (q : ℕ) → q < query_count T → passes (kind_of T) (configured_schema T c) (plain_query_at T c Reading.Strict q) ≡ true
      → columns (configured_schema T c) (plain_query_at T c Reading.Strict q) ≡ set_of T c q
  passes-columns =
      strong (λ q. q < query_count T → tree_passes T c q ≡ true → tree_columns T c q ≡ set_of T c q)
      (λ q ih h e.
      let agree : ColumnsAgree T c q = λ k l. ih k l (omega arith) in
      let p = (and-eq-true_iff (operands_pass T c (form_at T q)) (keeps T c q)).0 (sym (passes_at q h agree) ∙ e) in
      columns-at q h agree p.0 p.1)

  -- a tree passes where those of its operands do and the form has no fault
  pub tree_passes_lem : (q : ℕ) → q < query_count T
      → passes (kind_of T) (configured_schema T c) (plain_query_at T c Reading.Strict q) ≡ (operands_pass T c (form_at T q) && keeps T c q)
  tree_passes_lem q h = passes_at q h (λ k l. passes-columns k (omega arith))

  -- ---- all forms to which it leads

  abbrev Known : ℕ → Type 0
  Known q = (tree_passes T c q ≡ true) ↔ ((x : ℕ) → leads T c x q ≡ true → keeps T c x ≡ true)

  -- the trees of q's operands pass where no form to which they lead has a fault
  operands_known : (q : ℕ) → q < query_count T → ((k : ℕ) → k < q → Known k)
      → (operands_pass T c (form_at T q) ≡ true) ↔ ((x : ℕ) → passes_on T c (leads T c x) (form_at T q) ≡ true → keeps T c x ≡ true)
  operands_known q h ih = (
    λ e x u.
        let p = passed_to T c (leads T c x) (form_at T q) u in
        (ih p.form (passed_lower F c p.form q h p.passed)).0 ((operands_pass_lem T c (form_at T q)).0 e p.form p.passed) x p.is_marked,
    λ f.
        (operands_pass_lem T c (form_at T q)).1
        (λ k p. (ih k (passed_lower F c k q h p)).1 (λ x l. f x (to_passed T c (leads T c x) k l (form_at T q) p))),
  )

  passed_on : (x q : ℕ) → PassedTo T c (leads T c x) (form_at T q) → passes_on T c (leads T c x) (form_at T q) ≡ true
  passed_on x q p = to_passed T c (leads T c x) p.form p.is_marked (form_at T q) p.passed

  led_on : (x q : ℕ) → q < query_count T → passes_on T c (leads T c x) (form_at T q) ≡ true → leads T c x q ≡ true
  led_on x q h u = let p = passed_to T c (leads T c x) (form_at T q) u in leads_next F c x p.form q h p.passed p.is_marked

  -- the tree of a form passes the plain rules exactly where no form to which it leads has a fault
  pub passes_clean : (q : ℕ) → q < query_count T
      → (passes (kind_of T) (configured_schema T c) (plain_query_at T c Reading.Strict q) ≡ true) ↔ ((x : ℕ) → leads T c x q ≡ true → keeps T c x ≡ true)
  passes_clean = strong (λ q. q < query_count T → Known q) (λ q ih h. step q h (operands_known q h (λ k l. ih k l (omega arith))))
    where
      step : (q : ℕ) → q < query_count T
          → (operands_pass T c (form_at T q) ≡ true) ↔ ((x : ℕ) → passes_on T c (leads T c x) (form_at T q) ≡ true → keeps T c x ≡ true) → Known q
      step q h o = (
        λ e x l.
            let p = (and-eq-true_iff (operands_pass T c (form_at T q)) (keeps T c q)).0 (sym (tree_passes_lem q h) ∙ e) in
            ⊎_elim (λ (s : x ≡ q). ap (keeps T c) s ∙ p.1)
            (λ (s : PassedTo T c (leads T c x) (form_at T q)). o.0 p.0 x (passed_on x q s)) (leads_cases F c x q h l),
        λ f.
            tree_passes_lem q h
            ∙ (and-eq-true_iff (operands_pass T c (form_at T q)) (keeps T c q)).1
            (o.1 (λ x u. f x (led_on x q h u)), f q (leads_self F c q h)),
      )

  -- ---- node by node

  operands_clean : (q : ℕ) → q < query_count T
      → (operands_pass T c (form_at T q) ≡ true) ↔ ((x : ℕ) → passes_on T c (leads T c x) (form_at T q) ≡ true → keeps T c x ≡ true)
  operands_clean q h = operands_known q h (λ k l. passes_clean k (omega arith))

  broken : (q : ℕ) → q < query_count T → operands_pass T c (form_at T q) ≡ true → (tree_passes T c q ≡ false) ↔ (keeps T c q ≡ false)
  broken q h o = let own = tree_passes_lem q h ∙ ap (λ (t : Bool). t && keeps T c q) o in (λ e. sym own ∙ e, λ f. own ∙ f)

  -- a form's own node breaks its rule, with all nodes below keeping theirs, exactly where something is at fault in the form and nothing below it
  pub node_breaks : (q : ℕ) → q < query_count T
      → ((operands_pass T c (form_at T q) ≡ true) × (passes (kind_of T) (configured_schema T c) (plain_query_at T c Reading.Strict q) ≡ false))
      ↔ ((keeps T c q ≡ false) × ((x : ℕ) → leads T c x q ≡ true → x ≢ q → keeps T c x ≡ true))
  node_breaks q h = (
    λ e. (
      (broken q h e.0).0 e.1,
      λ x l d.
          ⊎_elim (λ (s : x ≡ q). absurd (d s))
          (λ (s : PassedTo T c (leads T c x) (form_at T q)). (operands_clean q h).0 e.0 x (passed_on x q s)) (leads_cases F c x q h l),
    ),
    λ f.
        let o = (operands_clean q h).1 (λ x u. f.1 x (led_on x q h u) (below x u)) in
        (o, (broken q h o).1 f.0),
  )
    where
      below : (x : ℕ) → passes_on T c (leads T c x) (form_at T q) ≡ true → x ≢ q
      below x u e =
          let p = passed_to T c (leads T c x) (form_at T q) u in
          let l = passed_lower F c p.form q h p.passed in
          let m = leads_lower F c x p.form (omega arith) p.is_marked in
          omega arith

  -- ---- the whole report

  -- the tree of a reached form passes where no form up to it fails
  pub reached-passes : (q : ℕ) → reached T c q ≡ true → ((x phase : ℕ) → x ≤ q → phase < 2 → fails T c phase x ≡ false) → passes (kind_of T) (configured_schema T c) (plain_query_at T c Reading.Strict q) ≡ true
  reached-passes q r f =
      let ok = reached-permitted T c q r in
      let h = reached_in F c ok q r in
      (passes_clean q h).1 (λ x l. (keeps_where T c x).0 (λ phase. f x phase (leads_lower F c x q h l)) (reached_led F c ok x q r l))

  -- of the lowest form that fails at c the own node breaks its rule, with all nodes below keeping theirs
  pub lowest_breaks : (q phase : ℕ) → phase < 2 → fails T c phase q ≡ true → ((x phase : ℕ) → x < q → phase < 2 → fails T c phase x ≡ false)
      → (operands_pass T c (form_at T q) ≡ true) × (passes (kind_of T) (configured_schema T c) (plain_query_at T c Reading.Strict q) ≡ false)
  lowest_breaks q phase n e f =
      let p = fails_breaks T c q phase n e in
      let ok = reached-permitted T c q p.0 in
      let h = reached_in F c ok q p.0 in
      (node_breaks q h).1
      (p.1, λ x l d. let m = leads_lower F c x q h l in (keeps_where T c x).0 (λ phase. f x phase (omega arith)) (reached_led F c ok x q p.0 l))

  -- in a reached select below which no form fails, every compared attribute is there exactly where the first phase finds nothing
  pub compared_where : (q a b : ℕ) → form_at T q ≡ Query.Select a b → reached T c q ≡ true
      → ((x phase : ℕ) → x < q → phase < phases → fails T c phase x ≡ false)
      → compared_there (configured_schema T c) (plain_query_at T c Reading.Strict q) ≡ eqb (faults T c 0 q) 0
  unfolding faults
  compared_where q a b e r below =
      let ok = reached-permitted T c q r in
      let h = reached_in F c ok q r in
      let p : passes_to T c b (form_at T q) ≡ true = ap (passes_to T c b) e ∙ same_number b in
      let l = passed_lower F c b q h p in
      let s = passes-columns b (omega arith) (reached-passes b (reached_next F c ok b q r p) (λ x phase k. below x phase (omega arith))) in
      ap (compared_there (configured_schema T c)) (plain_query_in F c q h Reading.Strict ∙ ap (plain_query_of T c Reading.Strict (plain_query_at T c Reading.Strict) q) e)
      ∙ ap₂ (λ (x y : ℕ). eqb (difference x y) 0) (named-names T c a) s
      ∙ ap (λ (y : Query). eqb (faults_of T c q y) 0) (sym e)

  -- in a select both sides of all that is compared have one kind exactly where the second phase finds nothing
  pub alike_where : (q a b : ℕ) → q < query_count T → form_at T q ≡ Query.Select a b
      → compared_alike (kind_of T) (plain_query_at T c Reading.Strict q) ≡ eqb (faults T c 1 q) 0
  unfolding faults
  alike_where q a b h e =
      ap (compared_alike (kind_of T)) (plain_query_in F c q h Reading.Strict ∙ ap (plain_query_of T c Reading.Strict (plain_query_at T c Reading.Strict) q) e)
      ∙ one_kind_lem T c a
      ∙ ap (λ (y : Query). eqb (clashes_in T c y) 0) (sym e)

  -- at a permitted configuration the configured report passes exactly where no form fails
  pub report-passes : permitted T c ≡ true → (passes (kind_of T) (configured_schema T c) (configured_report T c Reading.Strict) ≡ true)
      ↔ ((q phase : ℕ) → q < query_count T → phase < 2 → fails T c phase q ≡ false)
  report-passes ok = (
    λ e q phase h. (keeps_where T c q).1 (λ r. (passes_clean (report T) (report_in F)).0 e q (sym (reached-leads F c ok q) ∙ r)) phase,
    λ f. reached-passes (report T) (reached-report F c ok) (λ x phase l. f x phase (let i = report_in F in omega arith)),
  )

  -- where it passes its columns are the set of the report
  pub report-columns : passes (kind_of T) (configured_schema T c) (configured_report T c Reading.Strict) ≡ true → columns (configured_schema T c) (configured_report T c Reading.Strict) ≡ set_of T c (report T)
  report-columns e = passes-columns (report T) (report_in F) e

-- ---- the tree of a form that c reaches is a part of the configured report

module _ (T : Tables) (c : ℕ) (t : PlainQuery) (z : ℕ) (part : PartOf t (plain_query_at T c Reading.Strict z)) where
  part_same : (b : ℕ) → eqb z b ≡ true → PartOf t (plain_query_at T c Reading.Strict b)
  part_same b e = rw (← eqb-true z b e) part

  part_two : (a b : ℕ) {w : PlainQuery} → (PartOf t (plain_query_at T c Reading.Strict a) → PartOf t w) → (PartOf t (plain_query_at T c Reading.Strict b) → PartOf t w)
      → (eqb z a || eqb z b) ≡ true → PartOf t w
  part_two a b left right e = ⊎_elim (λ u. left (part_same a u)) (λ u. right (part_same b u)) (or_either (eqb z a) (eqb z b) e)

  part_rule : (q : ℕ) (y : Query) → passes_to T c z y ≡ true → PartOf t (plain_query_of T c Reading.Strict (plain_query_at T c Reading.Strict) q y)
  part_rule q Query.Malformed e = absurd (false≢true e)
  part_rule q Query.Empty e = absurd (false≢true e)
  part_rule q (Query.Relation a) e = absurd (false≢true e)
  part_rule q (Query.Select a b) e = PartOf.of_select (part_same b e)
  part_rule q (Query.Project a b) e = PartOf.of_project (part_same b e)
  part_rule q (Query.Choice a b d) e = part_same (taken T c a b d) e
  part_rule q (Query.Product a b) e = part_two a b PartOf.left_of_product PartOf.right_of_product e
  part_rule q (Query.Union a b) e = part_two a b PartOf.left_of_union PartOf.right_of_union e
  part_rule q (Query.Intersection a b) e = part_two a b PartOf.left_of_intersection PartOf.right_of_intersection e

pub reached_part : {T : Tables} → Formed T → (c x : ℕ) → reached T c x ≡ true → PartOf (plain_query_at T c Reading.Strict x) (configured_report T c Reading.Strict)
reached_part {T} F c x r =
    along F c x (λ q. PartOf (plain_query_at T c Reading.Strict x) (plain_query_at T c Reading.Strict q)) (λ h. PartOf.whole)
    (λ z q h k e l ih. rw (plain_query_in F c q h Reading.Strict) (part_rule T c (plain_query_at T c Reading.Strict x) z ih q (form_at T q) e)) (report T) (report_in F)
    (sym (reached-leads F c (reached-permitted T c x r) x) ∙ r)
