-- Laws of the second phase: clashes of kinds, in the forms that fail nowhere in the first.
use Prim.Native.Nat.{ℕ, ◌+◌, ◌/◌, ◌<◌, ◌≤◌}
use mathlib.Core.Path.{◌≡◌, refl, sym, ap, ap₂, ◌∙◌}
use mathlib.Core.Bool.{Bool, true, false, cond, not, ◌&&◌, and-false}
use mathlib.Core.List.{List}
use native.Mathlib.Nat.{le_refl}
use lib.Dec.{eqb}
use lib.ListN.{length}
use Rattle.sets.specs.Search.{some_below}
use Rattle.sets.specs.Lists.{concat}
use Rattle.sets.specs.Rows.{row_of, row_in, row_intersect, with_row, RowsAre}
use Rattle.sets.proofs.SearchLaws.{same_truth, some_at, at_some}
use Rattle.sets.proofs.RowLaws.{row_of_same, row_of_row, empty_row_of, rows_are}
use Rattle.report.specs.Tables.{Tables, query, comparison_count, query_count}
use Rattle.report.specs.Expressions.{configurations}
use Rattle.report.specs.Typing.{reached, clashes, clashes_in, faults}
use Rattle.report.specs.Readings.{fails_by}
use Rattle.report.specs.Configuring.{written}
use Rattle.report.specs.Formed.{Formed, QueryLower}
use Rattle.report.specs.declared.Query.{Query}
use Rattle.report.specs.declared.Reading.{Reading}
use Rattle.report.proofs.FormedFacts.{query_at}
use Rattle.report.proofs.ReadingLaws.{faults_later}
use Rattle.report.proofs.TypingLaws.{permitted_within, permitted_1024, fails_permitted}
use Rattle.comparisons.specs.declared.Gathered.{Gathered}
use Rattle.expression_rows.specs.ExpressionRows.{reach_row}
use Rattle.expression_rows.proofs.RowsFilling.{RowsFilling, filling_more, filling_rest, filling_all}
use Rattle.attribute_rows.specs.AttributeRows.{gathered_row}
use Rattle.fault_rows.specs.FaultRows.{fails_row, fails_at, failing_row, ClashReads, ClashReadable}
use Rattle.fault_rows.specs.FaultRules.{clash_step, ClashRead, first_found}
use Rattle.fault_rows.proofs.FormLaws.{cut_within}

-- ---- one form

module _ {T : Tables} (F : Formed T) {rows : List ℕ} (compared : RowsAre 16 (comparison_count T) (gathered_row T Gathered.Clashes 0) rows) (q : ℕ) where
  no_clash : row_of 16 (λ c. false) ≡ row_of 16 (λ c. reached T c q && false)
  no_clash = row_of_same 16 (λ c. false) (λ c. reached T c q && false) (λ c h. sym (and-false (reached T c q)))

  clash_rule : (x : Query) → QueryLower T q x
      → clash_step rows (reach_row T q) x ≡ row_of 16 (λ c. reached T c q && not (eqb (clashes_in T c x) 0))
  clash_rule Query.Malformed l = no_clash
  clash_rule Query.Empty l = no_clash
  clash_rule (Query.Relation r) l = no_clash
  clash_rule (Query.Select f b) l =
      ap (λ (r : List ℕ). row_intersect 16 r (reach_row T q)) (compared.each f l.0) ∙ cut_within T q (λ c. not (eqb (clashes T c f) 0))
  clash_rule (Query.Project n b) l = no_clash
  clash_rule (Query.Choice e b d) l = no_clash
  clash_rule (Query.Product b d) l = no_clash
  clash_rule (Query.Union b d) l = no_clash
  clash_rule (Query.Intersection b d) l = no_clash

  -- the row of form q, made so, with the row of what reaches it: the same in both readings
  clash_is : q < query_count T → {x : Query} → x ≡ query T.queries q → {among row : List ℕ} → among ≡ reach_row T q
      → row ≡ clash_step rows among x → (R : Reading) → row ≡ fails_row T R 1 q
  unfolding faults
  clash_is h e reach step R =
      step ∙ ap₂ (clash_step rows) reach e ∙ clash_rule (query T.queries q) (query_at F q h)
      ∙ row_of_same 16 (λ c. reached T c q && not (eqb (faults T c 1 q) 0)) (λ c. fails_by T R c 1 q)
      (λ c l. ap (λ (x : ℕ). reached T c q && not (eqb x 0)) (sym (faults_later T R c 0 q)))

-- ---- the first phase that fails at any configuration

module _ {T : Tables} (F : Formed T) (R : Reading) (q : ℕ) where
  -- a form fails at permitted configurations only, and rows have room for them all
  some_fails : (phase : ℕ) → some_below (λ c. fails_by T R c phase q) 1024 ≡ some_below (λ c. fails_by T R c phase q) (configurations T)
  some_fails phase =
      same_truth (some_below (λ c. fails_by T R c phase q) 1024) (some_below (λ c. fails_by T R c phase q) (configurations T))
      (λ e.
      let s = some_at (λ c. fails_by T R c phase q) 1024 e in
      at_some (λ c. fails_by T R c phase q) (configurations T) s.0 (permitted_within T s.0 (fails_permitted T R s.0 phase q s.2)) s.2)
      (λ e.
      let s = some_at (λ c. fails_by T R c phase q) (configurations T) e in
      at_some (λ c. fails_by T R c phase q) 1024 s.0 (permitted_1024 F s.0 (fails_permitted T R s.0 phase q s.2)) s.2)

  first_fails : first_found (fails_row T R 0 q) (fails_row T R 1 q) ≡ failing_row T R q
  first_fails =
      ap (λ (t : Bool). cond t (fails_row T R 1 q) (fails_row T R 0 q)) (empty_row_of 16 (λ c. fails_by T R c 0 q) ∙ ap not (some_fails 0))
      ∙ go (some_below (λ c. fails_by T R c 0 q) (configurations T))
    where
      go : (t : Bool) → cond (not t) (fails_row T R 1 q) (fails_row T R 0 q) ≡ row_of 16 (λ c. cond t (fails_by T R c 0 q) (fails_by T R c 1 q))
      go true = refl
      go false = refl

failing_wide : (R : Reading) (T : Tables) (x q : ℕ) → length (failing_row T R q) ≡ 16
failing_wide R T x q = (row_of_row 16 (fails_at T R q)).size

-- ---- the loop

-- of the forms below q the rows are of the first phase that fails, over `lent`, which has those of the first phase: whatever the reading
abbrev pub ClashesAdding : List ℕ → List ℕ → List ℕ → List ℕ → List ℕ → ℕ → Type 0
ClashesAdding queries reach clash_rows lent fault_rows q =
    (R : Reading)
    → RowsFilling (λ T. ClashReads T R queries reach clash_rows lent) (λ T x k. failing_row T R k) 0 (length queries / 4) lent fault_rows q

module _ {queries reach clash_rows lent fault_rows : List ℕ} {q : ℕ} (S : ClashesAdding queries reach clash_rows lent fault_rows q) where
  module _ (h : q < length queries / 4) where
    in_table : {T : Tables} {R : Reading} → ClashReads T R queries reach clash_rows lent → q < query_count T
    in_table C = rw C.queries_are at h

    -- the code finds it to be x
    module _ {x : Query} (e : x ≡ query queries q) where
      form : {T : Tables} {R : Reading} → ClashReads T R queries reach clash_rows lent → x ≡ query T.queries q
      form C = e ∙ ap (λ (t : List ℕ). query t q) C.queries_are

      pub adding_clash : ClashReadable queries reach clash_rows lent → ClashRead clash_rows x
      adding_clash A =
          let C = A.reads in
          record { tables = A.tables; form = q; lower = rw (form C) (query_at C.formed q (in_table C)); compared = C.clashing.room }

      pub adding_more : {among first second row after : List ℕ} → among ≡ row_in 16 reach q → second ≡ clash_step clash_rows among x
          → first ≡ row_in 16 fault_rows q → row ≡ first_found first second → length after ≡ length fault_rows → after ≡ with_row 16 fault_rows q row
          → ClashesAdding queries reach clash_rows lent after (q + 1)
      adding_more load clash before found same stored R =
          filling_more (failing_wide R) (S R) h
          (λ T C B.
          found
          ∙ ap₂ first_found (before ∙ filling_rest (failing_wide R) (S R) T C q (le_refl q) ∙ C.failing.each q (in_table C))
          (clash_is C.formed C.clashing q (in_table C) (form C) (load ∙ C.reaching.each q (in_table C)) clash R)
          ∙ first_fails C.formed R q)
          same stored

  pub adding_all : length queries / 4 ≤ q → (T : Tables) (R : Reading) → ClashReads T R queries reach clash_rows lent
      → fault_rows ≡ written (concat (query_count T) (failing_row T R)) lent
  adding_all h T R C = filling_all (failing_wide R) (S R) h T C (ap (λ (t : List ℕ). length t / 4) C.queries_are)

-- for the caller: the rows that were filled
pub failing_rows : (T : Tables) (R : Reading) (lent : List ℕ) {fault_rows : List ℕ} → fault_rows ≡ written (concat (query_count T) (failing_row T R)) lent
    → RowsAre 16 (query_count T) (failing_row T R) fault_rows
failing_rows T R lent = rows_are 16 (query_count T) (failing_row T R) (λ q l. failing_wide R T 0 q) _
