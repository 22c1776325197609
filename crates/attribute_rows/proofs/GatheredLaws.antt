-- Laws of the rows of comparisons, of names and of clashes alike.
use Prim.Native.Nat.{ℕ, ◌+◌, ◌/◌, ◌<◌}
use mathlib.Core.Path.{◌≡◌, sym, ap, ap₂, ◌∙◌}
use mathlib.Core.Bool.{Bool, true, false, cond, ◌||◌}
use mathlib.Core.List.{List}
use native.Mathlib.Omega.{arith}
use lib.Bits.{bit_or}
use lib.ListN.{length}
use Rattle.sets.specs.Rows.{row_of, row_join, with_row, within, RowsAre}
use Rattle.sets.proofs.RowLaws.{join_within, none_within}
use Rattle.report.specs.Tables.{Tables, comparison, comparison_count, expression_count, kind_in, kind_of}
use Rattle.report.specs.Typing.{at, gathered_of, gathered}
use Rattle.report.specs.Operands.{comparison_operands}
use Rattle.report.specs.Formed.{Formed, ComparisonLower}
use Rattle.report.specs.declared.Comparison.{Comparison}
use Rattle.report.specs.declared.Operands.{Operands}
use Rattle.report.proofs.FormedFacts.{comparison_at}
use Rattle.report.proofs.StepLaws.{gathered_in}
use Rattle.comparisons.specs.Gathering.{own_of, shows}
use Rattle.comparisons.specs.declared.Gathered.{Gathered}
use Rattle.comparisons.proofs.OwnLaws.{shows-or}
use Rattle.expression_rows.proofs.RowsFilling.{RowsFilling, filling_more}
use Rattle.attribute_rows.specs.AttributeRows.{gathered_row, GatheredReads, GatheredReadable}
use Rattle.attribute_rows.specs.RowRules.{gathered_step, OperandsLower, GatheredRead}
use Rattle.attribute_rows.proofs.AttributeLaws.{row_same, taken_within, choice_of, gathered_wide}

-- the operands of a comparison that fits as form f
operands_lower : (m n f : ℕ) (x : Comparison) → ComparisonLower m n f x → OperandsLower n f (comparison_operands x)
operands_lower m n f Comparison.Malformed l = absurd l
operands_lower m n f Comparison.Never l = l
operands_lower m n f Comparison.Always l = l
operands_lower m n f (Comparison.Constant o b d k) l = tt
operands_lower m n f (Comparison.Attribute o b d) l = tt
operands_lower m n f (Comparison.Not b) l = l
operands_lower m n f (Comparison.And b d) l = l
operands_lower m n f (Comparison.Or b d) l = l
operands_lower m n f (Comparison.Choice e b d) l = l

operands_at : {T : Tables} → Formed T → (f : ℕ) → f < comparison_count T
    → OperandsLower (expression_count T) f (comparison_operands (comparison T.comparisons f))
operands_at {T} F f h = operands_lower T.attributes (expression_count T) f (comparison T.comparisons f) (comparison_at F f h)

-- all configurations of n features or none: those of a test that is the same everywhere
all_or_none : (n : ℕ) {full : List ℕ} → full ≡ row_of 16 (within n (λ c. true)) → (t : Bool)
    → cond t full (row_of 16 (λ c. false)) ≡ row_of 16 (within n (λ c. t))
all_or_none n whole true = whole
all_or_none n whole false = none_within 16 n

module _ {T : Tables} {expression_rows comparisons kinds full : List ℕ} (R : GatheredReads T expression_rows comparisons kinds full)
    (what : Gathered) (a : ℕ)
    {rows : List ℕ} {f : ℕ} (B : RowsAre 16 f (gathered_row T what a) rows) where
  -- what is gathered from comparison k at configuration c
  abbrev gathered_at : ℕ → ℕ → ℕ
  gathered_at c = gathered T c (own_of (kind_of T) what)

  -- by operands below f, where `own` is what the comparison gives by itself
  gathered_rule : (own : ℕ) (to : Operands) → OperandsLower (expression_count T) f to
      → gathered_step expression_rows rows full (shows what a own) to
      ≡ row_of 16 (within T.features (λ c. shows what a (gathered_of T c (gathered_at c) own to)))
  gathered_rule own Operands.Nothing l = all_or_none T.features R.whole (shows what a own)
  gathered_rule own (Operands.One b) l = B.each b l
  gathered_rule own (Operands.Both b d) l =
      ap₂ (row_join 16) (B.each b l.0) (B.each d l.1)
      ∙ join_within 16 T.features (λ c. shows what a (gathered_at c b)) (λ c. shows what a (gathered_at c d))
      ∙ row_same T.features (λ c. shows what a (gathered_at c b) || shows what a (gathered_at c d))
      (λ c. shows what a (bit_or (gathered_at c b) (gathered_at c d))) (λ c. sym (shows-or what a (gathered_at c b) (gathered_at c d)))
  gathered_rule own (Operands.Choice e b d) l =
      choice_of (R.filled.each e l.0) (B.each b l.1) (B.each d l.2)
      ∙ taken_within T.features (λ c. at T c e) (λ c k. shows what a (gathered_at c k)) b d

  gathered_is : f < length comparisons / 5 → {x : Comparison} {row : List ℕ} → x ≡ comparison comparisons f
      → row ≡ gathered_step expression_rows rows full (shows what a (own_of (kind_in kinds) what x)) (comparison_operands x) → row ≡ gathered_row T what a f
  gathered_is h e step =
      let F = R.formed in
      let k : f < comparison_count T = rw R.comparisons_are at h in
      let y = comparison T.comparisons f in
      let same = e ∙ ap (λ (t : List ℕ). comparison t f) R.comparisons_are in
      step
      ∙ ap₂ (λ (l : List ℕ) (z : Comparison). gathered_step expression_rows rows full (shows what a (own_of (kind_in l) what z)) (comparison_operands z))
      R.kinds_are same
      ∙ gathered_rule (own_of (kind_of T) what y) (comparison_operands y) (operands_at F f k)
      ∙ row_same T.features (λ c. shows what a (gathered_of T c (gathered_at c) (own_of (kind_of T) what y) (comparison_operands y)))
      (λ c. shows what a (gathered_at c f)) (λ c. ap (shows what a) (sym (gathered_in F c f k (own_of (kind_of T) what))))

-- ---- the loop

module _ (what : Gathered) {expression_rows comparisons kinds full : List ℕ} {a : ℕ} {lent rows : List ℕ} {f : ℕ}
    (S : RowsFilling (λ T. GatheredReads T expression_rows comparisons kinds full) (λ T. gathered_row T what) a
    (length comparisons / 5) lent rows f) where
  module _ (h : f < length comparisons / 5) {x : Comparison} (e : x ≡ comparison comparisons f) where
    -- what the next row is made of has a row
    pub gathered_read : GatheredReadable expression_rows comparisons kinds full lent → GatheredRead expression_rows rows (comparison_operands x)
    gathered_read A =
        let R = A.reads in
        record {
          expressions = expression_count A.tables;
          form = f;
          lower = rw (e, R.comparisons_are) (operands_at R.formed f (rw R.comparisons_are at h));
          rowed = R.filled.room;
          below = let m = A.room in let s = S.size in omega arith;
        }

    pub gathered_more : {row after : List ℕ}
        → row ≡ gathered_step expression_rows rows full (shows what a (own_of (kind_in kinds) what x)) (comparison_operands x)
        → length after ≡ length rows → after ≡ with_row 16 rows f row
        → RowsFilling (λ T. GatheredReads T expression_rows comparisons kinds full) (λ T. gathered_row T what) a (length comparisons / 5) lent after
        (f + 1)
    gathered_more step = filling_more (λ T. gathered_wide T what) S h (λ T R B. gathered_is R what a B h e step)
