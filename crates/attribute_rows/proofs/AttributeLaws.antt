-- Laws of the rows of one attribute, for the functions of this crate and for the crates above.
use Prim.Native.Nat.{ℕ, ◌^◌}
use mathlib.Core.Path.{◌≡◌, refl, sym, ap, ap₂, ◌∙◌}
use mathlib.Core.Bool.{Bool, true, false, cond, not, ◌&&◌, ◌||◌, and-true, and-false}
use mathlib.Core.List.{List}
use lib.Dec.{ltb}
use lib.Bits.{bit_and, bit_or}
use lib.ListN.{length}
use Rattle.sets.specs.Lists.{concat}
use Rattle.sets.specs.Bits.{bit}
use Rattle.sets.specs.Rows.{row_of, row_join, row_intersect, within, RowsAre}
use Rattle.sets.proofs.BitLaws.{bit_none, bit-and, bit-or}
use Rattle.sets.proofs.RowLaws.{row_of_same, row_of_row, none_within, join_within, intersect_within, minus_within, rows_are}
use Rattle.report.specs.Tables.{Tables, kind_of, relation_count, comparison_count, query_count}
use Rattle.report.specs.Typing.{present, relation_set, gathered, set_of}
use Rattle.report.specs.Configuring.{written}
use Rattle.comparisons.specs.Gathering.{own_of, shows}
use Rattle.comparisons.specs.declared.Gathered.{Gathered}
use Rattle.attribute_rows.specs.AttributeRows.{has_row, relation_row, gathered_row, set_row}
use Rattle.attribute_rows.specs.RowRules.{choice_row}

-- ---- rows of the configurations of n features

module _ (n : ℕ) where
  -- tests that agree have one row
  pub row_same : (p q : ℕ → Bool) → ((c : ℕ) → p c ≡ q c) → row_of 16 (within n p) ≡ row_of 16 (within n q)
  row_same p q e = row_of_same 16 (within n p) (within n q) (λ c h. ap (λ (t : Bool). ltb c (2 ^ n) && t) (e c))

  -- a choice: the row of the side that the test takes
  pub choice_within : (h p q : ℕ → Bool)
      → choice_row (row_of 16 (within n h)) (row_of 16 (within n p)) (row_of 16 (within n q)) ≡ row_of 16 (within n (λ c. cond (h c) (p c) (q c)))
  choice_within h p q =
      ap₂ (row_join 16) (intersect_within 16 n p h) (minus_within 16 n q h)
      ∙ join_within 16 n (λ c. p c && h c) (λ c. q c && not (h c))
      ∙ row_same (λ c. (p c && h c) || (q c && not (h c))) (λ c. cond (h c) (p c) (q c)) (λ c. side (h c) (p c) (q c))
    where
      side : (t x y : Bool) → ((x && t) || (y && not t)) ≡ cond t x y
      side true true y = refl
      side true false true = refl
      side true false false = refl
      side false true true = refl
      side false true false = refl
      side false false true = refl
      side false false false = refl

  -- the row of the form that a choice takes, where p is a test of all forms
  pub taken_within : (h : ℕ → Bool) (p : ℕ → ℕ → Bool) (b d : ℕ)
      → choice_row (row_of 16 (within n h)) (row_of 16 (within n (λ c. p c b))) (row_of 16 (within n (λ c. p c d)))
      ≡ row_of 16 (within n (λ c. p c (cond (h c) b d)))
  taken_within h p b d =
      choice_within h (λ c. p c b) (λ c. p c d)
      ∙ row_same (λ c. cond (h c) (p c b) (p c d)) (λ c. p c (cond (h c) b d)) (λ c. go c (h c))
    where
      go : (c : ℕ) (t : Bool) → cond t (p c b) (p c d) ≡ p c (cond t b d)
      go c true = refl
      go c false = refl

-- rows that are equal are chosen from alike
pub choice_of : {h i x y u v : List ℕ} → h ≡ i → x ≡ u → y ≡ v → choice_row h x y ≡ choice_row i u v
choice_of {h} {i} {x} {y} {u} {v} p q r = ap₂ (choice_row h) q r ∙ ap (λ (j : List ℕ). choice_row j u v) p

-- ---- the rows of attribute a

module _ (T : Tables) (a : ℕ) where
  pub has_wide : (set : ℕ → ℕ) → length (has_row T a set) ≡ 16
  has_wide set = (row_of_row 16 (within T.features (λ c. bit (set c) a))).size

  pub relation_wide : (r : ℕ) → length (relation_row T a r) ≡ 16
  relation_wide r = has_wide (λ c. cond (present T c r) (relation_set T c r) 0)

  pub set_wide : (q : ℕ) → length (set_row T a q) ≡ 16
  set_wide q = has_wide (λ c. set_of T c q)

  pub has_same : (f g : ℕ → ℕ) → ((c : ℕ) → f c ≡ g c) → has_row T a f ≡ has_row T a g
  has_same f g e = row_same T.features (λ c. bit (f c) a) (λ c. bit (g c) a) (λ c. ap (λ (s : ℕ). bit s a) (e c))

  -- of the empty set, of a union, of an intersection
  pub has_none : row_of 16 (λ c. false) ≡ has_row T a (λ c. 0)
  has_none = none_within 16 T.features ∙ row_same T.features (λ c. false) (λ c. bit 0 a) (λ c. sym (bit_none a))

  module _ (f g : ℕ → ℕ) where
    pub has_or : row_join 16 (has_row T a f) (has_row T a g) ≡ has_row T a (λ c. bit_or (f c) (g c))
    has_or =
        join_within 16 T.features (λ c. bit (f c) a) (λ c. bit (g c) a)
        ∙ row_same T.features (λ c. bit (f c) a || bit (g c) a) (λ c. bit (bit_or (f c) (g c)) a) (λ c. sym (bit-or (f c) (g c) a))

    pub has_and : row_intersect 16 (has_row T a f) (has_row T a g) ≡ has_row T a (λ c. bit_and (f c) (g c))
    has_and =
        intersect_within 16 T.features (λ c. bit (f c) a) (λ c. bit (g c) a)
        ∙ row_same T.features (λ c. bit (f c) a && bit (g c) a) (λ c. bit (bit_and (f c) (g c)) a) (λ c. sym (bit-and (f c) (g c) a))

  -- of a set where a test holds, and the empty one elsewhere
  pub has_where : (h : ℕ → Bool) (f : ℕ → ℕ)
      → row_intersect 16 (has_row T a f) (row_of 16 (within T.features h)) ≡ has_row T a (λ c. cond (h c) (f c) 0)
  has_where h f =
      intersect_within 16 T.features (λ c. bit (f c) a) h
      ∙ row_same T.features (λ c. bit (f c) a && h c) (λ c. bit (cond (h c) (f c) 0) a) (λ c. go (f c) (h c))
    where
      go : (s : ℕ) (t : Bool) → (bit s a && t) ≡ bit (cond t s 0) a
      go s true = and-true (bit s a)
      go s false = and-false (bit s a) ∙ sym (bit_none a)

pub gathered_wide : (T : Tables) (what : Gathered) (a f : ℕ) → length (gathered_row T what a f) ≡ 16
gathered_wide T what a f = (row_of_row 16 (within T.features (λ c. shows what a (gathered T c (own_of (kind_of T) what) f)))).size

-- ---- rows that were written are those of the forms

module _ (T : Tables) (a : ℕ) (lent : List ℕ) {rows : List ℕ} where
  pub relations_are_lem : rows ≡ written (concat (relation_count T) (relation_row T a)) lent → RowsAre 16 (relation_count T) (relation_row T a) rows
  relations_are_lem = rows_are 16 (relation_count T) (relation_row T a) (λ r l. relation_wide T a r) _

  pub gathered_are : (what : Gathered) → rows ≡ written (concat (comparison_count T) (gathered_row T what a)) lent
      → RowsAre 16 (comparison_count T) (gathered_row T what a) rows
  gathered_are what = rows_are 16 (comparison_count T) (gathered_row T what a) (λ f l. gathered_wide T what a f) _

  pub sets_are : rows ≡ written (concat (query_count T) (set_row T a)) lent → RowsAre 16 (query_count T) (set_row T a) rows
  sets_are = rows_are 16 (query_count T) (set_row T a) (λ q l. set_wide T a q) _
