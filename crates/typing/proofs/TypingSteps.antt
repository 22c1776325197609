-- What the parts of the typing check hand to one another.
use Rattle.std.specs.Prelude.{Some, None, Ok, Option}
use Prim.Native.Nat.{ℕ, ◌+◌, ◌*◌, ◌/◌, ◌≤◌}
use mathlib.Core.Path.{◌≡◌, refl, sym, ap, ◌∙◌}
use mathlib.Core.List.{List}
use native.Mathlib.Omega.{arith}
use lib.ListN.{length, replicate, length-replicate}
use Rattle.sets.specs.Search.{lowest}
use Rattle.sets.specs.Lists.{concat}
use Rattle.sets.proofs.ListLaws.{numbers_are}
use Rattle.sets.specs.Rows.{row_in, row_lowest}
use Rattle.report.specs.Tables.{Tables, comparison_count, query_count}
use Rattle.report.specs.Configuring.{written}
use Rattle.report.specs.Readings.{spared}
use Rattle.report.specs.Checks.{typing_check}
use Rattle.report.specs.Verdicts.{Verdict}
use Rattle.report.specs.declared.Reading.{Reading}
use Rattle.report.proofs.FormedFacts.{counts}
use Rattle.report.proofs.TypingLaws.{permitted_within}
use Rattle.comparisons.specs.declared.Gathered.{Gathered}
use Rattle.expression_rows.specs.declared.Scope.{Scope}
use Rattle.expression_rows.specs.TypingReads.{TypingReads, TypingReadable, Checked}
use Rattle.expression_rows.proofs.ColumnLaws.{columns_shown}
use Rattle.attribute_rows.specs.AttributeRows.{gathered_row, GatheredReads, GatheredReadable}
use Rattle.attribute_rows.proofs.AttributeLaws.{gathered_are}
use Rattle.fault_rows.specs.FaultRows.{failing_row, FailReadable, FailsFilled, ClashReads}
use Rattle.fault_rows.proofs.FailLaws.{fails_rows}
use Rattle.fault_rows.proofs.ClashLaws.{failing_rows}
use Rattle.typing_at.specs.declared.Here.{Here}
use Rattle.typing_at.specs.TypingAt.{HereReads, HereChecked}
use Rattle.typing.specs.Typed.{rowed, RowsReads, SecondReads, SecondReadable}
use Rattle.typing.proofs.RowsVerdict.{rows_accepted, form_in, row_some, configuration_permitted, rows_refused}

-- ---- the answer from the rows

module _ {T : Tables} {R : Reading} {expression_rows relation_entries project_entries relations comparisons queries kinds reach spared_sets fault_rows : List ℕ}
    (A : RowsReads T R expression_rows relation_entries project_entries relations comparisons queries kinds reach spared_sets fault_rows)
  where
    count_is : length queries / 4 ≡ query_count T
    count_is = ap (λ (t : List ℕ). length t / 4) A.report.prepared.queries_are

    pub rows_room : length queries / 4 * 16 ≤ length fault_rows
    rows_room = let e = count_is in let m = A.failing.room in omega arith

    module _ {form : Option ℕ} (f : form ≡ lowest (rowed fault_rows) (length queries / 4)) where
      found_form : form ≡ lowest (rowed fault_rows) (query_count T)
      found_form = f ∙ ap (lowest (rowed fault_rows)) count_is

      pub no_form : form ≡ None → (Ok tt) ≡ typing_check T R
      no_form e = sym (rows_accepted A.report.prepared.formed R A.failing (sym found_form ∙ e))

      module _ {q : ℕ} (e : form ≡ Some q) where
        at_form : lowest (rowed fault_rows) (query_count T) ≡ Some q
        at_form = sym found_form ∙ e

        pub form_room : q * 16 + 16 ≤ length fault_rows
        form_room = let i = form_in A.report.prepared.formed R A.failing at_form in let m = A.failing.room in omega arith

        -- its row was read as `row`
        module _ {row : List ℕ} {configuration : Option ℕ} (read : row ≡ row_in 16 fault_rows q) (l : configuration ≡ row_lowest 16 row) where
          found_row : configuration ≡ row_lowest 16 (row_in 16 fault_rows q)
          found_row = l ∙ ap (row_lowest 16) read

          pub no_configuration : {A : Type 0} → configuration ≡ None → A
          no_configuration d = absurd (row_some A.report.prepared.formed R A.failing at_form (sym found_row ∙ d))

          module _ {c : ℕ} (d : configuration ≡ Some c) where
            pub here_reads : HereReads T R c expression_rows relation_entries project_entries relations comparisons queries kinds reach spared_sets
            here_reads = record {
              inside = permitted_within T c (configuration_permitted A.report.prepared.formed R A.failing at_form (sym found_row ∙ d));
              report = A.report;
              sparing = A.sparing;
            }

            pub here_answers : {here : Here}
                → ((T : Tables) (R : Reading) → HereReads T R c expression_rows relation_entries project_entries relations comparisons queries kinds reach spared_sets
                → HereChecked T R c here)
                → here.verdict ≡ typing_check T R
            here_answers told = (told T R here_reads).answers ∙ rows_refused A.report.prepared.formed R A.failing at_form (sym found_row ∙ d)

-- ---- the first phase

-- 4,096 fresh words are enough for the rows of the most forms there can be, and 256 for their sets
pub fails_readable : {scope : Scope} {expression_rows relation_entries project_entries relations comparisons queries kinds reach columns : List ℕ}
    → TypingReadable scope expression_rows relation_entries project_entries relations comparisons queries kinds reach columns
    → FailReadable scope expression_rows relation_entries project_entries relations comparisons queries kinds reach (replicate 4096 0) (replicate 256 0) columns
fails_readable A = record {
  tables = A.tables;
  reads = A.reads;
  words = 4096;
  clear = refl;
  room = let m = (counts A.reads.report.prepared.formed).most4 in omega arith;
  set_words = 256;
  clear_sets = refl;
  set_room = (counts A.reads.report.prepared.formed).most4;
  column = let l = ap length A.clear in let m = A.reads.scoped.bounded.most in omega (arith, length-replicate {A = ℕ} 1024 0);
}

-- ---- the second phase

module _ {full expression_rows comparisons queries kinds reach fault_rows : List ℕ} where
  pub gathered_readable : SecondReadable full expression_rows comparisons queries kinds reach fault_rows
      → GatheredReadable expression_rows comparisons kinds full (replicate 4096 0)
  gathered_readable A =
      let G = A.reads.gathers in
      record {
        tables = A.tables;
        reads = G;
        room = let m = (counts G.formed).most3 in
            let e = ap (λ (t : List ℕ). length t / 5) G.comparisons_are in
            omega (arith, length-replicate {A = ℕ} 4096 0);
      }

  pub clash_reads : {T : Tables} {R : Reading} → SecondReads T R full expression_rows comparisons queries kinds reach fault_rows → (fresh : List ℕ) {clash_rows : List ℕ}
      → ((T : Tables) → GatheredReads T expression_rows comparisons kinds full
      → clash_rows ≡ written (concat (comparison_count T) (gathered_row T Gathered.Clashes 0)) fresh)
      → ClashReads T R queries reach clash_rows fault_rows
  clash_reads {T} A fresh filled = record {
    formed = A.gathers.formed;
    queries_are = A.queries_are;
    reaching = A.reaching;
    clashing = gathered_are T 0 fresh Gathered.Clashes (filled T A.gathers);
    failing = A.failing;
  }

-- ---- both: `failed` has the rows of the first phase, `fault_rows` those of the second besides

module _ {T : Tables} {scope : Scope} {expression_rows relation_entries project_entries relations comparisons queries kinds reach : List ℕ}
    (R : TypingReads T scope expression_rows relation_entries project_entries relations comparisons queries kinds reach)
    {lent failed lent_sets spared_sets before columns : List ℕ}
    (L : (T : Tables) → TypingReads T scope expression_rows relation_entries project_entries relations comparisons queries kinds reach
    → FailsFilled T scope.reading scope.items lent failed lent_sets spared_sets before columns)
  where
    pub second_reads : SecondReads T scope.reading scope.full.words expression_rows comparisons queries kinds reach failed
    second_reads =
        let P = R.report.prepared in
        record {
          gathers = record {
            formed = P.formed;
            filled = P.filled;
            comparisons_are = P.comparisons_are;
            kinds_are = R.report.kinds_are;
            whole = R.scoped.whole;
          };
          queries_are = P.queries_are;
          reaching = R.report.reaching;
          failing = fails_rows P.formed R.scoped.bounded (L T R);
        }

    module _ {fault_rows : List ℕ}
        (added : (T : Tables) (R : Reading) → SecondReads T R scope.full.words expression_rows comparisons queries kinds reach failed
        → fault_rows ≡ written (concat (query_count T) (failing_row T R)) failed)
      where
        pub rows_read : RowsReads T scope.reading expression_rows relation_entries project_entries relations comparisons queries kinds reach spared_sets
            fault_rows
        rows_read = record {
          report = R.report;
          sparing = numbers_are (query_count T) (spared T scope.reading) _ (L T R).sparing;
          failing = failing_rows T scope.reading failed (added T scope.reading second_reads);
        }

        pub rows_checked : before ≡ replicate 1024 0 → {v : Verdict}
            → ((T : Tables) (R : Reading)
            → RowsReads T R expression_rows relation_entries project_entries relations comparisons queries kinds reach spared_sets fault_rows
            → v ≡ typing_check T R)
            → Checked T scope.reading v columns
        rows_checked clear told = record {
          answers = told T scope.reading rows_read;
          shows = columns_shown R.report.prepared.formed R.scoped.bounded (rw (← clear) (L T R).shown);
        }
