-- Laws of the loop over the items that fills the rows of faults and the column rows.
use Prim.Native.Nat.{ℕ, ◌+◌, ◌-◌, ◌*◌, ◌/◌, ◌^◌, ◌<◌, ◌≤◌}
use mathlib.Core.Path.{◌≡◌, refl, sym, ap, ap₂, ◌∙◌}
use mathlib.Core.Bool.{Bool, true, false, ◌&&◌, and-false}
use mathlib.Core.List.{List, ◌++◌}
use native.Mathlib.Omega.{arith}
use lib.Dec.{ltb}
use lib.ListN.{length, drop, replicate, length-replicate, get_or, get_or-replicate}
use Rattle.sets.specs.Search.{some_below}
use Rattle.sets.specs.Lists.{table, concat, NumbersAre}
use Rattle.sets.specs.Bits.{bit}
use Rattle.sets.specs.Rows.{word_of, row_of, row_in, row_intersect, with_row, within, RowsAre}
use Rattle.sets.proofs.ListLaws.{table-length, table_same, concat-length, numbers_are}
use Rattle.sets.proofs.BitLaws.{bits_of_none}
use Rattle.sets.proofs.RowLaws.{row_of_same, intersect_row_of, rows_are, rows_all}
use Rattle.report.specs.Tables.{Tables, relation_count, comparison_count, query_count, report}
use Rattle.report.specs.Expressions.{permitted}
use Rattle.report.specs.Typing.{set_of, reached}
use Rattle.report.specs.Readings.{spared, faults_by}
use Rattle.report.specs.ColumnRows.{has_column, column_row}
use Rattle.report.specs.Configuring.{written}
use Rattle.report.specs.Formed.{Formed}
use Rattle.report.specs.declared.Reading.{Reading}
use Rattle.report.proofs.FormedFacts.{counts, report_in}
use Rattle.report.proofs.OverLaws.{written_over, written_same}
use Rattle.comparisons.specs.declared.Gathered.{Gathered}
use Rattle.expression_rows.specs.declared.Scope.{Scope}
use Rattle.expression_rows.specs.TypingReads.{Items, TypingReads}
use Rattle.expression_rows.proofs.RowsFilling.{RowsFilling, filling_none, filling_more, filling_all}
use Rattle.report.proofs.TypingLaws.{column_wide}
use Rattle.attribute_rows.specs.AttributeRows.{relation_row, gathered_row, RelationRowReads, GatheredReads}
use Rattle.attribute_rows.proofs.AttributeLaws.{relations_are_lem, gathered_are}
use Rattle.fault_rows.specs.FaultRows.{faulty_row, fails_row, FailReadable, FailsFilled}
use Rattle.fault_rows.specs.FaultRules.{spared_below, FormRowsReads, FormRowsReadable, FormsFilled, stored_column}
use Rattle.fault_rows.proofs.TypeLaws.{faulty_wide}
use Rattle.fault_rows.proofs.FoundLaws.{spared_none}
use Rattle.fault_rows.proofs.FaultLaws.{spared_all, faulty_fails}

-- ---- what the rows of one attribute are worked out from, and room for them

-- the local arrays
pub record Arrays (named_rows relation_rows form_rows : List ℕ) : Type 0 where
  pub compared : length named_rows ≡ 4096
  pub related : length relation_rows ≡ 512
  pub shaped : length form_rows ≡ 4096

pub arrays_clear : Arrays (replicate 4096 0) (replicate 512 0) (replicate 4096 0)
arrays_clear = record {
  compared = length-replicate {A = ℕ} 4096 0;
  related = length-replicate {A = ℕ} 512 0;
  shaped = length-replicate {A = ℕ} 4096 0;
}

pub arrays_kept : {named_rows relation_rows form_rows after later last : List ℕ} → Arrays named_rows relation_rows form_rows → length after ≡ length named_rows
    → length later ≡ length relation_rows → length last ≡ length form_rows → Arrays after later last
arrays_kept S p q r = record { compared = p ∙ S.compared; related = q ∙ S.related; shaped = r ∙ S.shaped }

module _ {T : Tables} {scope : Scope} {expression_rows relation_entries project_entries relations comparisons queries kinds reach : List ℕ}
    (R : TypingReads T scope expression_rows relation_entries project_entries relations comparisons queries kinds reach) where
  reads_named : GatheredReads T expression_rows comparisons kinds scope.full.words
  reads_named =
      let P = R.report.prepared in
      record { formed = P.formed; filled = P.filled; comparisons_are = P.comparisons_are; kinds_are = R.report.kinds_are; whole = R.scoped.whole }

  reads_relations : RelationRowReads T expression_rows relation_entries relations
  reads_relations =
      let P = R.report.prepared in
      record { formed = P.formed; filled = P.filled; entries_are = P.relation_entries_are; relations_are = P.relations_are }

  module _ {named_rows relation_rows form_rows : List ℕ} (S : Arrays named_rows relation_rows form_rows) where
    arrays_sets : length queries / 4 * 16 ≤ length form_rows
    arrays_sets =
        let n = counts R.report.prepared.formed in let e = ap (λ (t : List ℕ). length t / 4) R.report.prepared.queries_are in
        let s = S.shaped in
        omega arith

-- ---- one column

column_row_lem : (T : Tables) (a : ℕ) → row_intersect 16 (row_of 16 (within T.features (λ c. bit (set_of T c (report T)) a))) (row_of 16 (permitted T))
    ≡ column_row T a
unfolding permitted
column_row_lem T a =
    intersect_row_of 16 (within T.features (λ c. bit (set_of T c (report T)) a)) (permitted T)
    ∙ row_of_same 16 (λ c. within T.features (λ d. bit (set_of T d (report T)) a) c && permitted T c) (has_column T a)
    (λ c h. go (ltb c (2 ^ T.features)) (bit (set_of T c (report T)) a) (T.truth c T.model))
  where
    go : (l b m : Bool) → ((l && b) && (l && m)) ≡ ((l && m) && b)
    go true true true = refl
    go true true false = refl
    go true false true = refl
    go true false false = refl
    go false b m = refl

-- ---- the loop

-- with no item looked at no form has a fault
none_faulty : (T : Tables) (R : Reading) (words : ℕ) → query_count T * 16 ≤ words → RowsAre 16 (query_count T) (faulty_row T R 0) (replicate words 0)
none_faulty T R words h = record {
  room = let l = length-replicate {A = ℕ} words 0 in omega arith;
  each = λ q l.
      table_same 16 (λ i. get_or (replicate words 0) (q * 16 + i) 0) (word_of (λ c. false))
      (λ i m. get_or-replicate {A = ℕ} words (q * 16 + i) 0 0 (omega arith) ∙ sym (bits_of_none 64 (λ j. false) (λ j k. refl)))
      ∙ row_of_same 16 (λ c. false) (λ c. reached T c q && some_below (bit (faults_by T R c 0 q)) 0) (λ c m. sym (and-false (reached T c q)));
}

-- and none is spared anything
none_spared : (T : Tables) (R : Reading) (words : ℕ) → query_count T ≤ words → NumbersAre (query_count T) (spared_below T R 0) (replicate words 0)
none_spared T R words h = record {
  room = let l = length-replicate {A = ℕ} words 0 in omega arith;
  each = λ q l. get_or-replicate {A = ℕ} words q 0 0 (omega arith) ∙ sym (spared_none T R q);
}

module _ (T : Tables) (R : Reading) (items : ℕ) where
  faulty_length : length (concat (query_count T) (faulty_row T R items)) ≡ query_count T * 16
  faulty_length = concat-length (faulty_row T R items) 16 (query_count T) (λ q l. faulty_wide R T items q)

  faulty_rows : (lent : List ℕ) {fault_rows : List ℕ} → fault_rows ≡ written (concat (query_count T) (faulty_row T R items)) lent
      → RowsAre 16 (query_count T) (faulty_row T R items) fault_rows
  faulty_rows lent = rows_are 16 (query_count T) (faulty_row T R items) (λ q l. faulty_wide R T items q) _

-- the items below a have been looked at
pub record Failing (scope : Scope)
    (expression_rows relation_entries project_entries relations comparisons queries kinds reach lent lent_sets before fault_rows spared_sets columns : List ℕ)
    (a : ℕ) : Type 0 where
  pub size : length fault_rows ≡ length lent
  pub faulty : (T : Tables) → TypingReads T scope expression_rows relation_entries project_entries relations comparisons queries kinds reach
      → fault_rows ≡ written (concat (query_count T) (faulty_row T scope.reading a)) lent
  pub set_size : length spared_sets ≡ length lent_sets
  pub sparing : (T : Tables) → TypingReads T scope expression_rows relation_entries project_entries relations comparisons queries kinds reach
      → spared_sets ≡ written (table (query_count T) (spared_below T scope.reading a)) lent_sets
  pub shown : RowsFilling (λ T. TypingReads T scope expression_rows relation_entries project_entries relations comparisons queries kinds reach)
      (λ T x k. column_row T k) 0 scope.items before columns a

module _ {scope : Scope} {expression_rows relation_entries project_entries relations comparisons queries kinds reach : List ℕ}
    {lent lent_sets before : List ℕ}
    (A : FailReadable scope expression_rows relation_entries project_entries relations comparisons queries kinds reach lent lent_sets before) where
  -- tables that are read so have as many forms
  same_count : {T : Tables} → TypingReads T scope expression_rows relation_entries project_entries relations comparisons queries kinds reach
      → query_count T ≡ query_count A.tables
  same_count R = ap (λ (t : List ℕ). length t / 4) (sym R.report.prepared.queries_are ∙ A.reads.report.prepared.queries_are)

  pub failing_none : Failing scope expression_rows relation_entries project_entries relations comparisons queries kinds reach lent lent_sets before lent
      lent_sets before 0
  failing_none = record {
    size = refl;
    faulty = λ T R.
        rows_all 16 (query_count T) (faulty_row T scope.reading 0)
        (rw A.clear (none_faulty T scope.reading A.words (let m = A.room in let e = same_count R in omega arith)))
        ∙ ap (λ (k : ℕ). concat (query_count T) (faulty_row T scope.reading 0) ++ drop k lent) (sym (faulty_length T scope.reading 0));
    set_size = refl;
    sparing = λ T R.
        written_same (query_count T) (spared_below T scope.reading 0)
        (rw A.clear_sets (none_spared T scope.reading A.set_words (let m = A.set_room in let e = same_count R in omega arith)));
    shown = filling_none;
  }

  module _ {fault_rows spared_sets columns : List ℕ} {a : ℕ}
      (S : Failing scope expression_rows relation_entries project_entries relations comparisons queries kinds reach lent lent_sets before fault_rows
      spared_sets columns a) where
    -- the rows of attribute a: of the comparisons and the relations
    module _ {old_named_rows named_rows old_related relation_rows old_form_rows : List ℕ} (arrays : Arrays old_named_rows old_related old_form_rows)
        (names : (T : Tables) → GatheredReads T expression_rows comparisons kinds scope.full.words
        → named_rows ≡ written (concat (comparison_count T) (gathered_row T Gathered.Names a)) old_named_rows)
        (relates : (T : Tables) → RelationRowReads T expression_rows relation_entries relations
        → relation_rows ≡ written (concat (relation_count T) (relation_row T a)) old_related)
        (h : a < scope.items) where
      failing_reads : {T : Tables} → TypingReads T scope expression_rows relation_entries project_entries relations comparisons queries kinds reach
          → FormRowsReads T scope.reading expression_rows project_entries relations queries reach named_rows relation_rows a fault_rows spared_sets
      failing_reads {T} R = record {
        formed = R.report.prepared.formed;
        filled = R.report.prepared.filled;
        entries_are = R.report.prepared.project_entries_are;
        relations_are = R.report.prepared.relations_are;
        queries_are = R.report.prepared.queries_are;
        reaching = R.report.reaching;
        compared = gathered_are T a old_named_rows Gathered.Names (names T (reads_named R));
        related = relations_are_lem T a old_related (relates T (reads_relations R));
        faulty = faulty_rows T scope.reading a lent (S.faulty T R);
        sparing = numbers_are (query_count T) (spared_below T scope.reading a) _ (S.sparing T R);
      }

      pub failing_forms : FormRowsReadable scope.reading expression_rows project_entries relations queries reach named_rows relation_rows a old_form_rows
          fault_rows spared_sets
      failing_forms = record {
        tables = A.tables;
        reads = failing_reads A.reads;
        room = arrays_sets A.reads arrays;
        item = let m = A.reads.scoped.bounded.most in omega arith;
      }

      -- and of the forms
      module _ {form_rows after after_sets : List ℕ}
          (forms : (T : Tables)
          → FormRowsReads T scope.reading expression_rows project_entries relations queries reach named_rows relation_rows a fault_rows spared_sets
          → FormsFilled T scope.reading a form_rows fault_rows after spared_sets after_sets) where
        failing_row : {T : Tables} → TypingReads T scope expression_rows relation_entries project_entries relations comparisons queries kinds reach
            → stored_column scope.permitted.words queries form_rows ≡ column_row T a
        failing_row {T} R =
            ap₂ (row_intersect 16)
            (ap (λ (t : List ℕ). row_in 16 form_rows (length t / 4 - 1)) R.report.prepared.queries_are
            ∙ (forms T (failing_reads R)).shaped.each (report T) (report_in R.report.prepared.formed))
            R.scoped.permitting
            ∙ column_row_lem T a

        pub failing_more : {shown : List ℕ} → length after ≡ length fault_rows → length after_sets ≡ length spared_sets → length shown ≡ length columns
            → shown ≡ with_row 16 columns a (stored_column scope.permitted.words queries form_rows)
            → Failing scope expression_rows relation_entries project_entries relations comparisons queries kinds reach lent lent_sets before after
            after_sets shown (a + 1)
        failing_more same alike wide stored = record {
          size = same ∙ S.size;
          faulty = λ T R.
              (forms T (failing_reads R)).joined
              ∙ ap (written (concat (query_count T) (faulty_row T scope.reading (a + 1)))) (S.faulty T R)
              ∙ written_over (concat (query_count T) (faulty_row T scope.reading (a + 1)))
              (concat (query_count T) (faulty_row T scope.reading a)) lent
              (faulty_length T scope.reading (a + 1) ∙ sym (faulty_length T scope.reading a));
          set_size = alike ∙ S.set_size;
          sparing = λ T R.
              (forms T (failing_reads R)).sparing
              ∙ ap (written (table (query_count T) (spared_below T scope.reading (a + 1)))) (S.sparing T R)
              ∙ written_over (table (query_count T) (spared_below T scope.reading (a + 1)))
              (table (query_count T) (spared_below T scope.reading a)) lent_sets
              (table-length (query_count T) (spared_below T scope.reading (a + 1))
              ∙ sym (table-length (query_count T) (spared_below T scope.reading a)));
          shown = filling_more (λ T x. column_wide T) S.shown h (λ T R B. failing_row R) wide stored;
        }

    pub failing_all : scope.items ≤ a → (T : Tables)
        → TypingReads T scope expression_rows relation_entries project_entries relations comparisons queries kinds reach
        → FailsFilled T scope.reading scope.items lent fault_rows lent_sets spared_sets before columns
    failing_all h T R =
        let e : a ≡ scope.items = (let m = S.shown.most in omega arith) in
        record {
          rows = rw e at (S.faulty T R);
          sparing =
              (rw e at (S.sparing T R))
              ∙ ap (λ (l : List ℕ). written l lent_sets)
              (table_same (query_count T) (spared_below T scope.reading scope.items) (spared T scope.reading)
              (λ q l. spared_all R.report.prepared.formed R.scoped.bounded q l scope.reading));
          shown = filling_all (λ T x. column_wide T) S.shown h T R refl;
        }

-- for the caller: the rows that were filled are of the configurations at which each form fails
pub fails_rows : {T : Tables} → Formed T → {items : ℕ} → Items T items → {R : Reading} {lent fault_rows lent_sets spared_sets before columns : List ℕ}
    → FailsFilled T R items lent fault_rows lent_sets spared_sets before columns → RowsAre 16 (query_count T) (fails_row T R 0) fault_rows
fails_rows {T} F {items} I {R} {lent} L =
    let f = faulty_rows T R items lent L.rows in
    record { room = f.room; each = λ q h. f.each q h ∙ faulty_fails F I R q h }
