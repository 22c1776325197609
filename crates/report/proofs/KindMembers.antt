-- What the words of a comparison with a constant say; and what is at fault in a select whose comparison compares two kinds, in the words of specs/Kinds:
-- the left attributes of the comparisons that it reaches and whose sides have two kinds. It asks nothing of the tables.
use Prim.Native.Nat.{ℕ, ◌^◌, ◌≤◌, ◌<◌}
use mathlib.Core.Path.{◌≡◌, refl, sym, ap, ap₂, ◌∙◌}
use mathlib.Core.Bool.{Bool, true, false, cond, ◌||◌, not, false≢true}
use mathlib.Core.Logic.{◌↔◌, ⊎_elim}
use borrow.Author.Tests.{eqb-true, leb-true, le-leb}
use lib.Dec.{eqb}
use lib.Bits.{bit_or, or_zero_l, or_zero_r}
use Rattle.sets.specs.Bits.{bit}
use Rattle.sets.proofs.BitLaws.{bit_none, bit_pow, bit-or, bits_equal}
use Rattle.report.specs.Tables.{Tables, kind_of, word, comparison_of, comparison, query, expression_count}
use Rattle.report.specs.Operands.{comparison_operands, comparison_sides, sides_in}
use Rattle.report.specs.Typing.{taken, onward, reached, kinds_differ, left_of, clash_of, gathered_of, gathered, compares, clashes, clashes_in, faults, fails}
use Rattle.report.specs.FormChecks.{constant_kind, comparison_fits, comparison_ok, constant_ok}
use Rattle.report.specs.Kinds.{IsKind2, Differing}
use Rattle.report.specs.declared.Comparison.{Comparison}
use Rattle.report.specs.declared.Query.{Query}
use Rattle.report.specs.declared.Operands.{Operands}
use Rattle.report.specs.declared.Sides.{Sides}
use Rattle.report.proofs.ValueLaws.{value_related}
use Rattle.report.proofs.FormFacts.{comparison_lower}
use Rattle.report.proofs.FitLaws.{comparison_fits_lem}
use Rattle.report.proofs.PassingOn.{or_either, or_first, or_second, same_number}
use Rattle.report.proofs.TreeLaws.{holds_where}

-- ---- "A constant's kind stands in word c of comparison kind 2, which 7 no longer wants 0"

module _ {T : Tables} {f operator attribute constant word_c : ℕ} (K : IsKind2 T f operator attribute constant word_c) where
  kind_2 : comparison T.comparisons f ≡ Comparison.Constant operator attribute constant word_c
  kind_2 =
      ap
      (λ (kind : ℕ).
      comparison_of kind (word T.comparisons 5 f 1) (word T.comparisons 5 f 2) (word T.comparisons 5 f 3) (word T.comparisons 5 f 4))
      K.kind
      ∙ ap₂ (λ (o a : ℕ). Comparison.Constant o a (word T.comparisons 5 f 3) (word T.comparisons 5 f 4)) K.operator_is K.attribute_is
      ∙ ap₂ (Comparison.Constant operator attribute) K.constant_is K.word_c_is

  -- the constant's kind is word c
  pub constant_kind_lem : constant_kind (sides_in T.comparisons f) ≡ word_c
  constant_kind_lem = ap (λ (x : Comparison). constant_kind (comparison_sides x)) kind_2

  -- and that is what the attribute's kind is held against
  pub constant_differs : kinds_differ (kind_of T) (sides_in T.comparisons f) ≡ not (eqb (kind_of T attribute) word_c)
  constant_differs = ap (λ (x : Comparison). kinds_differ (kind_of T) (comparison_sides x)) kind_2

  -- 7 asks of the form an operator up to 5 and an attribute below m, and nothing of word c
  pub seven_asks : (comparison_ok T f ≡ true) ↔ ((operator ≤ 5) × (attribute < T.attributes))
  seven_asks =
      rw kind_2 (
        comparison_lower T.attributes (expression_count T) f (Comparison.Constant operator attribute constant word_c),
        comparison_fits_lem T.attributes (expression_count T) f (Comparison.Constant operator attribute constant word_c),
      )

  -- 24 asks that it is a kind
  pub constant_asks : (constant_ok T f ≡ true) ↔ (word_c ≤ 2)
  constant_asks = rw constant_kind_lem (leb-true word_c 2, le-leb word_c 2)

-- so whatever word c is, 7 answers the same of the form
pub seven_same : {T U : Tables} {f operator attribute constant word_c word_c' : ℕ} → T.attributes ≡ U.attributes
    → IsKind2 T f operator attribute constant word_c → IsKind2 U f operator attribute constant word_c' → comparison_ok T f ≡ comparison_ok U f
seven_same {T} {U} {f} {operator} {attribute} {constant} {word_c} {word_c'} same K L =
    ap (comparison_fits T.attributes (expression_count T) f) (kind_2 K)
    ∙ ap (λ (m : ℕ). comparison_fits m (expression_count U) f (Comparison.Constant operator attribute constant word_c')) same
    ∙ sym (ap (comparison_fits U.attributes (expression_count U) f) (kind_2 L))

-- ---- one comparison

no_member : {A : Type 0} (a : ℕ) → bit 0 a ≡ true → A
no_member a e = absurd (false≢true (sym (bit_none a) ∙ e))

one_member : (a b : ℕ) → bit (2 ^ b) a ≡ true → 2 ^ b ≡ 2 ^ a
one_member a b e = ap (λ (k : ℕ). 2 ^ k) (sym (eqb-true a b (sym (bit_pow b a) ∙ e)))

-- a comparison has one left attribute, or none
left_member : (a : ℕ) (s : Sides) → bit (left_of s) a ≡ true → left_of s ≡ 2 ^ a
left_member a (Sides.Constant b k) e = one_member a b e
left_member a (Sides.Attributes b d) e = one_member a b e
left_member a Sides.Neither e = no_member a e

-- it is at fault where the sides have two kinds
own_clash : (kind : ℕ → ℕ) (a : ℕ) (s : Sides) → (bit (clash_of kind s) a ≡ true) ↔ ((kinds_differ kind s ≡ true) × (left_of s ≡ 2 ^ a))
own_clash kind a s = (
  λ e. forth (kinds_differ kind s) e,
  λ p. ap (λ (t : Bool). bit (cond t (left_of s) 0) a) p.0 ∙ ap (λ (n : ℕ). bit n a) p.1 ∙ bit_pow a a ∙ same_number a,
)
  where
    forth : (t : Bool) → bit (cond t (left_of s) 0) a ≡ true → (t ≡ true) × (left_of s ≡ 2 ^ a)
    forth true e = (refl, left_member a s e)
    forth false e = no_member a e

-- one that refers to others compares nothing itself
gathered_own : (T : Tables) (c : ℕ) (set kind : ℕ → ℕ) (x : Comparison)
    → gathered_of T c set (clash_of kind (comparison_sides x)) (comparison_operands x)
    ≡ bit_or (clash_of kind (comparison_sides x)) (gathered_of T c set 0 (comparison_operands x))
gathered_own T c set kind Comparison.Malformed = sym (or_zero_l 0)
gathered_own T c set kind Comparison.Never = sym (or_zero_l 0)
gathered_own T c set kind Comparison.Always = sym (or_zero_l 0)
gathered_own T c set kind (Comparison.Constant o a b k) = sym (or_zero_r (clash_of kind (Sides.Constant a k)))
gathered_own T c set kind (Comparison.Attribute o a b) = sym (or_zero_r (clash_of kind (Sides.Attributes a b)))
gathered_own T c set kind (Comparison.Not a) = sym (or_zero_l (set a))
gathered_own T c set kind (Comparison.And a b) = sym (or_zero_l (bit_or (set a) (set b)))
gathered_own T c set kind (Comparison.Or a b) = sym (or_zero_l (bit_or (set a) (set b)))
gathered_own T c set kind (Comparison.Choice e a b) = sym (or_zero_l (set (taken T c e a b)))

-- ---- all that a comparison reaches

module _ (T : Tables) (c a : ℕ) where
  -- the set has a exactly where one of the marked comparisons compares a, on its left, with another kind
  abbrev Clashing : ℕ → (ℕ → Bool) → Type 0
  Clashing s marked =
      (bit s a ≡ true)
      ↔ ((g : ℕ) × (marked g ≡ true) × (kinds_differ (kind_of T) (sides_in T.comparisons g) ≡ true) × (left_of (sides_in T.comparisons g) ≡ 2 ^ a))

  clashing_none : Clashing 0 (λ g. false)
  clashing_none = (λ e. no_member a e, λ p. absurd (false≢true p.1))

  clashing_or : (s t : ℕ) {u v : ℕ → Bool} → Clashing s u → Clashing t v → Clashing (bit_or s t) (λ g. u g || v g)
  clashing_or s t {u} {v} x y = (
    λ e.
        ⊎_elim (λ l. let p = x.0 l in (p.0, or_first (u p.0) (v p.0) p.1, p.2, p.3))
        (λ l. let p = y.0 l in (p.0, or_second (u p.0) (v p.0) p.1, p.2, p.3)) (or_either (bit s a) (bit t a) (sym (bit-or s t a) ∙ e)),
    λ p.
        bit-or s t a
        ∙ ⊎_elim (λ l. or_first (bit s a) (bit t a) (x.1 (p.0, l, p.2, p.3))) (λ l. or_second (bit s a) (bit t a) (y.1 (p.0, l, p.2, p.3)))
        (or_either (u p.0) (v p.0) p.1),
  )

  clashing_own : (f : ℕ) → Clashing (clash_of (kind_of T) (sides_in T.comparisons f)) (λ g. eqb g f)
  clashing_own f =
      let own = own_clash (kind_of T) a (sides_in T.comparisons f) in (
        λ e. (f, same_number f, (own.0 e).0, (own.0 e).1),
        λ p. own.1 (rw (← eqb-true p.0 f p.1) (p.2, p.3)),
      )

  clashing_operands : (set : ℕ → ℕ) (marked : ℕ → ℕ → Bool) → ((k : ℕ) → Clashing (set k) (λ g. marked g k)) → (o : Operands)
      → Clashing (gathered_of T c set 0 o) (λ g. onward T c (marked g) o)
  clashing_operands set marked h Operands.Nothing = clashing_none
  clashing_operands set marked h (Operands.One b) = h b
  clashing_operands set marked h (Operands.Both b d) = clashing_or (set b) (set d) (h b) (h d)
  clashing_operands set marked h (Operands.Choice e b d) = h (taken T c e b d)

  clashing_step : (set : ℕ → ℕ) (marked : ℕ → ℕ → Bool) → ((k : ℕ) → Clashing (set k) (λ g. marked g k)) → (f : ℕ)
      → Clashing (gathered_of T c set (clash_of (kind_of T) (sides_in T.comparisons f)) (comparison_operands (comparison T.comparisons f)))
      (λ g. eqb g f || onward T c (marked g) (comparison_operands (comparison T.comparisons f)))
  clashing_step set marked h f =
      rw (gathered_own T c set (kind_of T) (comparison T.comparisons f))
      (clashing_or _ _ (clashing_own f) (clashing_operands set marked h (comparison_operands (comparison T.comparisons f))))

-- the left attributes at fault in comparison f are those of the comparisons to which it leads and whose sides have two kinds
pub clash_members : (T : Tables) (c f a : ℕ)
    → (bit (clashes T c f) a ≡ true)
    ↔ ((g : ℕ)
    × (compares T c g f ≡ true)
    × (kinds_differ (kind_of T) (sides_in T.comparisons g) ≡ true)
    × (left_of (sides_in T.comparisons g) ≡ 2 ^ a))
unfolding gathered compares
clash_members T c f a =
    value_related (Clashing T c a) 0 _ false
    (λ g marked f. eqb g f || onward T c marked (comparison_operands (comparison T.comparisons f))) (clashing_none T c a) (clashing_step T c a) f

-- a comparison whose sides have two kinds has a left attribute
left_of_lem : (kind : ℕ → ℕ) (s : Sides) → kinds_differ kind s ≡ true → (a : ℕ) × (left_of s ≡ 2 ^ a)
left_of_lem kind (Sides.Constant a k) e = (a, refl)
left_of_lem kind (Sides.Attributes a b) e = (a, refl)
left_of_lem kind Sides.Neither e = absurd (false≢true e)

-- so there are none exactly where both sides have one kind in all of them
pub no_clash : (T : Tables) (c f : ℕ)
    → (clashes T c f ≡ 0) ↔ ((g : ℕ) → compares T c g f ≡ true → kinds_differ (kind_of T) (sides_in T.comparisons g) ≡ false)
no_clash T c f = (λ e g l. forth e g l (kinds_differ (kind_of T) (sides_in T.comparisons g)) refl, back)
  where
    forth : clashes T c f ≡ 0 → (g : ℕ) → compares T c g f ≡ true → (t : Bool) → kinds_differ (kind_of T) (sides_in T.comparisons g) ≡ t → t ≡ false
    forth e g l true d =
        let a = left_of_lem (kind_of T) (sides_in T.comparisons g) d in
        no_member a.0 (ap (λ (s : ℕ). bit s a.0) (sym e) ∙ (clash_members T c f a.0).1 (g, l, d, a.1))
    forth e g l false d = refl

    back : ((g : ℕ) → compares T c g f ≡ true → kinds_differ (kind_of T) (sides_in T.comparisons g) ≡ false) → clashes T c f ≡ 0
    back h = bits_equal (clashes T c f) 0 (λ a. none a (bit (clashes T c f) a) refl ∙ sym (bit_none a))
      where
        none : (a : ℕ) (t : Bool) → bit (clashes T c f) a ≡ t → bit (clashes T c f) a ≡ false
        none a true e = let m = (clash_members T c f a).0 e in absurd (false≢true (sym (h m.0 m.1) ∙ m.2))
        none a false e = e

-- ---- query forms

module _ (T : Tables) (c q : ℕ) where
  -- a select alone compares
  selected : (a : ℕ) (y : Query) → bit (clashes_in T c y) a ≡ true
      → (x : ℕ) × (b : ℕ) × (y ≡ Query.Select x b) × (bit (clashes T c x) a ≡ true)
  selected a Query.Malformed e = no_member a e
  selected a Query.Empty e = no_member a e
  selected a (Query.Relation x) e = no_member a e
  selected a (Query.Select x b) e = (x, b, refl, e)
  selected a (Query.Project x b) e = no_member a e
  selected a (Query.Choice x b d) e = no_member a e
  selected a (Query.Product x b) e = no_member a e
  selected a (Query.Union x b) e = no_member a e
  selected a (Query.Intersection x b) e = no_member a e

  -- what the second phase finds in a form that c reaches: "kinds differ", "the left attribute at fault"
  pub fault_differing : (a : ℕ) → ((reached T c q ≡ true) × (bit (faults T c 1 q) a ≡ true)) ↔ ((g : ℕ) × Differing T c q a g)
  unfolding faults
  fault_differing a = (
    λ p.
        let s = selected a (query T.queries q) p.1 in
        let m = (clash_members T c s.0 a).0 s.3 in
        (m.0, record { selects = s.0; of = s.1; form = s.2; reaches = p.0; leads = m.1; two = m.2; left = m.3 }),
    λ p.
        let d = p.1 in (
          d.reaches,
          ap (λ (y : Query). bit (clashes_in T c y) a) d.form ∙ (clash_members T c d.selects a).1 (p.0, d.leads, d.two, d.left),
        ),
  )

  -- it finds nothing exactly where both sides have one kind in all comparisons that the form reaches
  pub fails_differing : (fails T c 1 q ≡ false) ↔ ((a g : ℕ) → Differing T c q a g → ⊥)
  fails_differing = (
    λ e a g d.
        let p = (fault_differing a).1 (g, d) in
        no_member a (ap (λ (s : ℕ). bit s a) (sym ((holds_where T c q 1).0 e p.0)) ∙ p.1),
    λ f. (holds_where T c q 1).1 (λ r. bits_equal (faults T c 1 q) 0 (λ a. go f r a (bit (faults T c 1 q) a) refl ∙ sym (bit_none a))),
  )
    where
      go : ((a g : ℕ) → Differing T c q a g → ⊥) → reached T c q ≡ true → (a : ℕ) (t : Bool) → bit (faults T c 1 q) a ≡ t → bit (faults T c 1 q) a ≡ false
      go f r a true e = let d = (fault_differing a).0 (r, e) in absurd (f a d.0 d.1)
      go f r a false e = e
