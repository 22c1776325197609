-- The loops that fill rows: which rows stand there so far. Which tables T they are of is left open: all those that the loop can read.
use Prim.Native.Nat.{ℕ, ◌+◌, ◌-◌, ◌*◌, ◌<◌, ◌≤◌}
use mathlib.Core.Path.{◌≡◌, refl, sym, ap, ap₂, ◌∙◌}
use mathlib.Core.List.{List, ◌++◌}
use native.Mathlib.Omega.{arith}
use lib.ListN.{length, drop, get_or}
use lib.Seq.{get_or-append-add, get_or-drop}
use Rattle.sets.specs.Lists.{concat}
use Rattle.sets.specs.Rows.{row_in, with_row, RowsAre}
use Rattle.sets.proofs.ListLaws.{table_same, concat-length}
use Rattle.sets.proofs.RowLaws.{rows_are, with_row_more}
use Rattle.report.specs.Tables.{Tables}
use Rattle.report.specs.Configuring.{written}

-- of `count` rows of attribute a those below k stand over `lent`: for tables that the loop can read, the rows `row` of these
pub record RowsFilling (Reads : Tables → Type 0) (row : Tables → ℕ → ℕ → List ℕ) (a count : ℕ) (lent rows : List ℕ) (k : ℕ) : Type 0 where
  pub most : k ≤ count
  pub size : length rows ≡ length lent
  pub filled : (T : Tables) → Reads T → rows ≡ concat k (row T a) ++ drop (k * 16) lent

pub filling_none : {Reads : Tables → Type 0} {row : Tables → ℕ → ℕ → List ℕ} {a count : ℕ} {lent : List ℕ}
    → RowsFilling Reads row a count lent lent 0
filling_none = record { most = omega arith; size = refl; filled = λ T R. refl }

module _ {Reads : Tables → Type 0} {row : Tables → ℕ → ℕ → List ℕ} (wide : (T : Tables) (a k : ℕ) → length (row T a k) ≡ 16)
    {a count : ℕ} {lent rows : List ℕ} {k : ℕ} (S : RowsFilling Reads row a count lent rows k) where
  pub filling_more : k < count → {new after : List ℕ} → ((T : Tables) → Reads T → RowsAre 16 k (row T a) rows → new ≡ row T a k)
      → length after ≡ length rows → after ≡ with_row 16 rows k new → RowsFilling Reads row a count lent after (k + 1)
  filling_more h next same stored = record {
    most = omega arith;
    size = same ∙ S.size;
    filled =
        λ T R. stored
        ∙ ap₂ (λ (l r : List ℕ). with_row 16 l k r) (S.filled T R)
        (next T R (rows_are 16 k (row T a) (λ i l. wide T a i) (drop (k * 16) lent) (S.filled T R)))
        ∙ with_row_more 16 (row T a) k lent (λ i l. wide T a i);
  }

  -- the rows from k on are still those of `lent`
  pub filling_rest : (T : Tables) → Reads T → (j : ℕ) → k ≤ j → row_in 16 rows j ≡ row_in 16 lent j
  filling_rest T R j h =
      ap (λ (l : List ℕ). row_in 16 l j) (S.filled T R)
      ∙ table_same 16 (λ i. get_or (concat k (row T a) ++ drop (k * 16) lent) (j * 16 + i) 0) (λ i. get_or lent (j * 16 + i) 0) (λ i g. later i)
    where
      later : (i : ℕ) → get_or (concat k (row T a) ++ drop (k * 16) lent) (j * 16 + i) 0 ≡ get_or lent (j * 16 + i) 0
      later i =
          let n = (j - k) * 16 + i in
          let e : j * 16 + i ≡ length (concat k (row T a)) + n = omega (arith, concat-length (row T a) 16 k (λ i l. wide T a i)) in
          let d : k * 16 + n ≡ j * 16 + i = omega arith in
          ap (λ (x : ℕ). get_or (concat k (row T a) ++ drop (k * 16) lent) x 0) e ∙ get_or-append-add (concat k (row T a)) (drop (k * 16) lent) n 0
          ∙ get_or-drop (k * 16) lent n 0 ∙ ap (λ (x : ℕ). get_or lent x 0) d

  pub filling_all : count ≤ k → (T : Tables) → Reads T → {whole : ℕ} → count ≡ whole → rows ≡ written (concat whole (row T a)) lent
  filling_all h T R {whole} e =
      let m : k ≡ whole = (let l = S.most in omega arith) in
      S.filled T R
      ∙ ap₂ (λ (i j : ℕ). concat i (row T a) ++ drop j lent) m
      (ap (λ (i : ℕ). i * 16) m ∙ sym (concat-length (row T a) 16 whole (λ i l. wide T a i)))
