-- Where a form keeps its rule its set is the one of docs/FORMAT.md, "Typing rules". And sets are of attributes: they fit 64 bits.
use Prim.Native.Nat.{ℕ, zero, suc, ◌+◌, ◌^◌, ◌<◌, ◌≤◌}
use mathlib.Core.Path.{◌≡◌, refl, ap, ◌∙◌}
use mathlib.Core.Bool.{Bool, true, false, cond, and-eq-true_iff}
use native.Mathlib.Nat.{lt_of_lt_of_le}
use native.Mathlib.Omega.{arith}
use borrow.Author.Tests.{eq-eqb, eqb-true}
use lib.Dec.{eqb}
use lib.Bits.{and_lt, or_lt, xor_lt}
use lib.Pow.{pow_pos, pow-lt, pow_mono}
use Rattle.sets.specs.Bits.{difference}
use Rattle.sets.proofs.BitLaws.{difference_lt, subset-and, xor_same}
use Rattle.report.specs.Tables.{Tables, kind_of, entry_expression, comparison, query}
use Rattle.report.specs.Operands.{comparison_operands, comparison_sides}
use Rattle.report.specs.Tables.{entry_count, comparison_count, query_count}
use Rattle.report.specs.Typing.{at, joined_set, present, relation_set, project_set, gathered_of, gathered, names_of, names, kinds_differ, left_of, clashes}
use Rattle.report.specs.Typing.{set_rule, set_of, faults_of, clashes_in, faults, keeps}
use Rattle.report.specs.Readings.{spared, faults_by}
use Rattle.report.specs.Rules.{Rule}
use Rattle.report.specs.Formed.{Formed, OperandsBelow, SidesBelow, QueryLower}
use Rattle.report.specs.declared.Comparison.{Comparison}
use Rattle.report.specs.declared.Query.{Query}
use Rattle.report.specs.declared.Operands.{Operands}
use Rattle.report.specs.declared.Sides.{Sides}
use Rattle.report.specs.declared.Reading.{Reading}
use Rattle.report.proofs.ValueLaws.{strong}
use Rattle.report.proofs.FormedFacts.{comparison_operands_lem, comparison_sides_lem, query_at, entry_attribute_lem, relation_list_lem, counts}
use Rattle.report.proofs.StepLaws.{taken_below, gathered_in, set_in}
use Rattle.report.proofs.KindMembers.{no_clash}
use Rattle.report.proofs.ReadingLaws.{faults-spared, faults_later}

-- ---- the sets of forms that keep their rule

module _ (T : Tables) (c : ℕ) where
  is_present : (t : Bool) (a : ℕ) → cond t 0 (2 ^ a) ≡ 0 → t ≡ true
  is_present true a e = refl
  is_present false a e = absurd (let p = pow_pos a in omega arith)

  keeps_rule : (q : ℕ) (x : Query) → QueryLower T q x → set_of T c q ≡ set_rule T c (set_of T c) q x → faults_of T c q x ≡ 0 → clashes_in T c x ≡ 0
      → Rule T c (set_of T c) q x
  keeps_rule q Query.Malformed l s e k = l
  keeps_rule q Query.Empty l s e k = s
  keeps_rule q (Query.Relation a) l s e k =
      let p = is_present (present T c a) a e in
      (p, s ∙ ap (λ (t : Bool). cond t (relation_set T c a) 0) p)
  keeps_rule q (Query.Select a b) l s e k = (eq-eqb (difference (names T c a) (set_of T c b)) 0 e, (no_clash T c a).0 k, s)
  keeps_rule q (Query.Project a b) l s e k =
      (eq-eqb (difference (project_set T c q a) (set_of T c b)) 0 e, s ∙ subset-and (project_set T c q a) (set_of T c b) e)
  keeps_rule q (Query.Choice a b d) l s e k = s
  keeps_rule q (Query.Product a b) l s e k = (e, s)
  keeps_rule q (Query.Union a b) l s e k = (xor_same (set_of T c a) (set_of T c b) e, s)
  keeps_rule q (Query.Intersection a b) l s e k = (xor_same (set_of T c a) (set_of T c b) e, s)

-- a form of accepted tables in which nothing is at fault at c keeps its rule there, and has the set that the rule gives it
pub kept_sets : {T : Tables} → Formed T → (c q : ℕ) → q < query_count T → keeps T c q ≡ true → Rule T c (set_of T c) q (query T.queries q)
unfolding faults
kept_sets {T} F c q h e =
    let p = (and-eq-true_iff (eqb (faults T c 0 q) 0) (eqb (faults T c 1 q) 0)).0 e in
    keeps_rule T c q (query T.queries q) (query_at F q h) (set_in F c q h) (eqb-true _ 0 p.0) (eqb-true _ 0 p.1)

-- ---- sets are of attributes

zero_narrow : (m : ℕ) (t : Bool) {x : ℕ} → x < 2 ^ m → cond t x 0 < 2 ^ m
zero_narrow m true h = h
zero_narrow m false h = pow_pos m

-- a set of attributes is below 2 ^ 64
pub narrow_word : {T : Tables} → Formed T → {x : ℕ} → x < 2 ^ T.attributes → x < 2 ^ 64
narrow_word F h = lt_of_lt_of_le h (pow_mono F.narrow)

module _ {T : Tables} (F : Formed T) (c : ℕ) where
  -- a list of table 1
  pub joined_narrow : (start count : ℕ) → start + count ≤ entry_count T → joined_set T c start count < 2 ^ T.attributes
  unfolding joined_set
  joined_narrow start zero h = pow_pos T.attributes
  joined_narrow start (suc count) h =
      or_lt T.attributes _ _ (joined_narrow start count (omega arith))
      (zero_narrow T.attributes (at T c (entry_expression T.entries (start + count))) (pow-lt (entry_attribute_lem F (start + count) (omega arith))))

  -- what is gathered of a comparison, where what each gives by itself is a set of attributes
  module _ (own : Comparison → ℕ)
      (narrow : (x : Comparison) → SidesBelow T.attributes (comparison_sides x) → own x < 2 ^ T.attributes)
    where
      gathered_rule : (f own : ℕ) → own < 2 ^ T.attributes → (o : Operands) → OperandsBelow f o → (set : ℕ → ℕ)
          → ((k : ℕ) → k < f → set k < 2 ^ T.attributes) → gathered_of T c set own o < 2 ^ T.attributes
      gathered_rule f own n Operands.Nothing l set ih = n
      gathered_rule f own n (Operands.One a) l set ih = ih a l
      gathered_rule f own n (Operands.Both a b) l set ih = or_lt T.attributes _ _ (ih a l.0) (ih b l.1)
      gathered_rule f own n (Operands.Choice e a b) l set ih = ih _ (taken_below (at T c e) l)

      pub gathered_narrow : (f : ℕ) → f < comparison_count T → gathered T c own f < 2 ^ T.attributes
      gathered_narrow =
          strong (λ f. f < comparison_count T → gathered T c own f < 2 ^ T.attributes)
          (λ f ih h.
          rw (gathered_in F c f h own)
          (gathered_rule f _ (narrow (comparison T.comparisons f) (comparison_sides_lem F f h)) (comparison_operands (comparison T.comparisons f))
          (comparison_operands_lem F f h) (gathered T c own) (λ k l. ih k l (omega arith))))

  own_names : (s : Sides) → SidesBelow T.attributes s → names_of s < 2 ^ T.attributes
  own_names (Sides.Constant a k) l = pow-lt l
  own_names (Sides.Attributes a b) l = or_lt T.attributes _ _ (pow-lt l.0) (pow-lt l.1)
  own_names Sides.Neither l = pow_pos T.attributes

  -- the attributes that a comparison names
  pub names_narrow : (f : ℕ) → f < comparison_count T → names T c f < 2 ^ T.attributes
  names_narrow = gathered_narrow _ (λ x. own_names (comparison_sides x))

  left_narrow : (s : Sides) → SidesBelow T.attributes s → left_of s < 2 ^ T.attributes
  left_narrow (Sides.Constant a k) l = pow-lt l
  left_narrow (Sides.Attributes a b) l = pow-lt l.0
  left_narrow Sides.Neither l = pow_pos T.attributes

  -- the left attributes at fault in it
  pub clashes_narrow : (f : ℕ) → f < comparison_count T → clashes T c f < 2 ^ T.attributes
  clashes_narrow =
      gathered_narrow _
      (λ x l. let s = comparison_sides x in zero_narrow T.attributes (kinds_differ (kind_of T) s) (left_narrow s l))

  set_rule_lem : (q : ℕ) (x : Query) → QueryLower T q x → ((k : ℕ) → k < q → set_of T c k < 2 ^ T.attributes)
      → set_rule T c (set_of T c) q x < 2 ^ T.attributes
  set_rule_lem q Query.Malformed l ih = absurd l
  set_rule_lem q Query.Empty l ih = pow_pos T.attributes
  set_rule_lem q (Query.Relation a) l ih = zero_narrow T.attributes (present T c a) (joined_narrow _ _ (relation_list_lem F a l))
  set_rule_lem q (Query.Select a b) l ih = ih b l.1.lower
  set_rule_lem q (Query.Project a b) l ih = and_lt T.attributes _ _ (joined_narrow _ a l.0) (ih b l.1.lower)
  set_rule_lem q (Query.Choice a b d) l ih = ih _ (taken_below (at T c a) (l.1.first.lower, l.1.second.lower))
  set_rule_lem q (Query.Product a b) l ih = or_lt T.attributes _ _ (ih a l.first.lower) (ih b l.second.lower)
  set_rule_lem q (Query.Union a b) l ih = ih a l.first.lower
  set_rule_lem q (Query.Intersection a b) l ih = ih a l.first.lower

  -- the set of a query form
  pub set_narrow : (q : ℕ) → q < query_count T → set_of T c q < 2 ^ T.attributes
  set_narrow =
      strong (λ q. q < query_count T → set_of T c q < 2 ^ T.attributes)
      (λ q ih h. rw (set_in F c q h) (set_rule_lem q (query T.queries q) (query_at F q h) (λ k l. ih k l (omega arith))))

  operand_word : {a q : ℕ} → a < q → q < query_count T → set_of T c a < 2 ^ 64
  operand_word {a} l h = narrow_word F (set_narrow a (omega arith))

  faults_rule : (q : ℕ) → q < query_count T → (x : Query) → QueryLower T q x → faults_of T c q x < 2 ^ 64
  faults_rule q h Query.Malformed l = absurd l
  faults_rule q h Query.Empty l = pow_pos 64
  faults_rule q h (Query.Relation a) l = fault (present T c a)
    where
      fault : (t : Bool) → cond t 0 (2 ^ a) < 2 ^ 64
      fault true = pow_pos 64
      fault false = pow-lt {i = a} {j = 64} (let n = (counts F).most2 in omega arith)
  faults_rule q h (Query.Select a b) l = difference_lt 64 _ _ (narrow_word F (names_narrow a l.0))
  faults_rule q h (Query.Project a b) l = difference_lt 64 _ _ (narrow_word F (joined_narrow _ a l.0))
  faults_rule q h (Query.Choice a b d) l = pow_pos 64
  faults_rule q h (Query.Product a b) l = and_lt 64 _ _ (operand_word l.first.lower h) (operand_word l.second.lower h)
  faults_rule q h (Query.Union a b) l = xor_lt 64 _ _ (operand_word l.first.lower h) (operand_word l.second.lower h)
  faults_rule q h (Query.Intersection a b) l = xor_lt 64 _ _ (operand_word l.first.lower h) (operand_word l.second.lower h)

  clashes_rule : (q : ℕ) (x : Query) → QueryLower T q x → clashes_in T c x < 2 ^ 64
  clashes_rule q Query.Malformed l = absurd l
  clashes_rule q Query.Empty l = pow_pos 64
  clashes_rule q (Query.Relation a) l = pow_pos 64
  clashes_rule q (Query.Select a b) l = narrow_word F (clashes_narrow a l.0)
  clashes_rule q (Query.Project a b) l = pow_pos 64
  clashes_rule q (Query.Choice a b d) l = pow_pos 64
  clashes_rule q (Query.Product a b) l = pow_pos 64
  clashes_rule q (Query.Union a b) l = pow_pos 64
  clashes_rule q (Query.Intersection a b) l = pow_pos 64

  -- what breaks a form's rule, in each phase
  pub faults_narrow : (phase q : ℕ) → q < query_count T → faults T c phase q < 2 ^ 64
  unfolding faults
  faults_narrow zero q h = faults_rule q h (query T.queries q) (query_at F q h)
  faults_narrow (suc zero) q h = clashes_rule q (query T.queries q) (query_at F q h)
  faults_narrow (suc (suc phase)) q h = pow_pos 64

-- and what is at fault in either reading
pub narrow_by : {T : Tables} → Formed T → (R : Reading) (c phase q : ℕ) → q < query_count T → faults_by T R c phase q < 2 ^ 64
narrow_by {T} F R c zero q h =
    rw (faults-spared T R c q) (difference_lt 64 (faults T c 0 q) (spared T R q) (faults_narrow F c 0 q h))
narrow_by {T} F R c (suc phase) q h = rw (faults_later T R c phase q) (faults_narrow F c (suc phase) q h)
