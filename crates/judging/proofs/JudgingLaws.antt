-- How the parts of judging make its answer, what each part leaves for the next, and what a caller has of tables that pass.
use Rattle.std.specs.Prelude.{Ok, Err}
use Prim.Native.Nat.{ℕ, ◌*◌, ◌/◌, ◌%◌, ◌^◌, ◌≤◌, max}
use mathlib.Core.Path.{◌≡◌, refl, sym, ap, subst, ◌∙◌}
use mathlib.Core.Bool.{true, false}
use mathlib.Core.List.{List}
use native.Mathlib.Nat.{le_refl, le-max_left, le-max_right, max-le}
use native.Mathlib.Omega.{arith}
use lib.ListN.{length, replicate, length-replicate}
use lib.Pow.{pow_mono}
use Rattle.sets.specs.Rows.{row_of, row_in, row_is_empty, within}
use Rattle.sets.proofs.BitLaws.{shl_one}
use Rattle.report.specs.Tables.{Tables, expression_count, relation_count, query_count}
use Rattle.report.specs.Expressions.{configurations, permitted}
use Rattle.report.specs.ColumnRows.{column_rows}
use Rattle.report.specs.Configuring.{written}
use Rattle.report.specs.Verdicts.{Verdict, refusal, refuse_if, or_else, first_of, after}
use Rattle.report.specs.FormChecks.{form_check}
use Rattle.report.specs.Checks.{model_check, schema_check, typing_check, model_and_schema_check}
use Rattle.report.specs.Calls.{Call, answer}
use Rattle.report.specs.Formed.{Formed}
use Rattle.report.specs.declared.Refusal.{Refusal}
use Rattle.report.specs.declared.Head.{Head}
use Rattle.report.specs.declared.Reading.{Reading}
use Rattle.report.proofs.Formed.{formed}
use Rattle.report.proofs.FormedFacts.{counts}
use Rattle.report.proofs.VerdictLaws.{or_else_assoc, both_accepted, then_next, then_refused}
use Rattle.report.proofs.CallLaws.{answer_run}
use Rattle.expression_rows.specs.ExpressionRows.{rows_of, TruthFilled, SchemaReads, ReachFilled, Prepared}
use Rattle.expression_rows.proofs.FillLaws.{filled}
use Rattle.expression_rows.proofs.PermittedLaws.{model_check_lem, model_row}
use Rattle.reach.specs.Reach.{reach_rows, ReachReads}
use Rattle.reach.proofs.ReachRows.{reach_rows_lem}
use Rattle.forms.proofs.Chain.{stops, goes_on}
use Rattle.expression_rows.specs.TypingReads.{Items, TypingReads, Checked}
use Rattle.expression_rows.specs.declared.Scope.{Scope}
use Rattle.judging.specs.Judging.{SplitReads, IsSplit, meaning_check, report_check, early_check, JudgeReads, JudgeReadable, Judged, ColumnsReadable}
use Rattle.judging.specs.Judging.{TablesFillable, TablesFilled, TablesReadable, TablesJudged, ColumnsChecked, RowsLent, RowsChecked}

-- ---- the answer of any call

-- its parts, in the order in which they run
pub answer_parts : (T : Tables) (R : Reading) (call : Call)
    → answer T R call ≡ or_else (form_check T) (or_else (first_of (call.before_model T)) (or_else (meaning_check T R) (first_of (call.after_typing T))))
answer_parts T R call = answer_run T R call ∙ simp or_else_assoc

-- a call whose own conditions before 12 do not hold answers what 1 to 10, 24, 12 to 19 and 25 answer, and then what its own after typing do
module _ (T : Tables) (R : Reading) (call : Call) (none : first_of (call.before_model T) ≡ Ok tt) where
  pub call_parts : answer T R call ≡ or_else (report_check T R) (first_of (call.after_typing T))
  call_parts =
      answer_parts T R call ∙ ap (λ (v : Verdict). or_else (form_check T) (or_else v (or_else (meaning_check T R) (first_of (call.after_typing T))))) none
      ∙ simp or_else_assoc

  module _ {v : Verdict} (checked : v ≡ report_check T R) where
    pub call_refused : {r : Refusal} → v ≡ Err r → Err r ≡ answer T R call
    call_refused f = sym f ∙ stops _ checked f ∙ sym call_parts

    pub call_late : v ≡ Ok tt → first_of (call.after_typing T) ≡ answer T R call
    call_late f = goes_on checked f refl ∙ sym call_parts

-- ---- 12 to 14

module _ {T : Tables} {expression_rows permits relation_entries relations : List ℕ} (R : SchemaReads T expression_rows permits relation_entries relations)
    {v : Verdict} (model : v ≡ refuse_if (row_is_empty 16 permits) (refusal 12 0 0 0)) where
  own : v ≡ model_check T
  own = model ∙ model_check_lem R.formed R.permitting

  pub model_refuses : {r : Refusal} → v ≡ Err r → v ≡ model_and_schema_check T
  model_refuses f = stops (schema_check T) own f

  pub schema_answers : v ≡ Ok tt → {w : Verdict} → w ≡ schema_check T → w ≡ model_and_schema_check T
  schema_answers f e = goes_on own f e

-- ---- what the parts read

-- no item is over the larger of the two numbers
enough : {T : Tables} → Formed T → {m relations items : ℕ} → m ≡ T.attributes → relations ≡ relation_count T → items ≡ max m relations → Items T items
enough {T} F e f g =
    rw (g, e, f)
    record {
      attributes = le-max_left T.attributes (relation_count T);
      relations = le-max_right T.attributes (relation_count T);
      most = max-le F.narrow (let s = F.sized2.fits in omega arith);
    }

module _ {T : Tables} {head : Head} {expression_rows relation_entries project_entries relations comparisons queries kinds : List ℕ}
    (R : JudgeReads T head expression_rows relation_entries project_entries relations comparisons queries kinds) where
  module _ {permits : List ℕ} (load : permits ≡ row_in 16 expression_rows head.model) where
    permitting : permits ≡ row_of 16 (permitted T)
    permitting = load ∙ model_row R.prepared.formed R.prepared.filled R.model

    pub schema_reads : SchemaReads T expression_rows permits relation_entries relations
    schema_reads = record {
      formed = R.prepared.formed;
      filled = R.prepared.filled;
      permitting = permitting;
      entries_are = R.prepared.relation_entries_are;
      relations_are = R.prepared.relations_are;
    }

    pub reach_reads : ReachReads T queries expression_rows permits
    reach_reads = record { formed = R.prepared.formed; filled = R.prepared.filled; queries_are = R.prepared.queries_are; permitting = permitting }

    pub typing_reads : {words : ℕ} {reach full : List ℕ} {items : ℕ} → query_count T * 16 ≤ words → reach ≡ reach_rows T words
        → full ≡ row_of 16 (within head.features (λ c. true)) → items ≡ max head.attributes (length relations / 2) → {scope : Scope}
        → scope.full.words ≡ full → scope.permitted.words ≡ permits → scope.items ≡ items
        → TypingReads T scope expression_rows relation_entries project_entries relations comparisons queries kinds reach
    typing_reads room reaching whole most f p i = record {
      scoped = record {
        whole = f ∙ whole ∙ ap (λ (k : ℕ). row_of 16 (within k (λ c. true))) R.features;
        permitting = p ∙ permitting;
        bounded = enough R.prepared.formed R.attributes (ap (λ (t : List ℕ). length t / 2) R.prepared.relations_are) (i ∙ most);
      };
      report = record { prepared = R.prepared; kinds_are = R.kinds_are; reaching = reach_rows_lem T room reaching };
    }

-- there is room for the reach rows of all such tables
pub reach_room : {T : Tables} {head : Head} {expression_rows relation_entries project_entries relations comparisons queries kinds reach columns : List ℕ}
    → JudgeReadable head expression_rows relation_entries project_entries relations comparisons queries kinds reach columns
    → JudgeReads T head expression_rows relation_entries project_entries relations comparisons queries kinds → query_count T * 16 ≤ length reach
reach_room A R = let l = A.forms in let e = ap length (sym A.reads.prepared.queries_are ∙ R.prepared.queries_are) in omega arith

-- ---- 12 to 19 and 25

module _ {T : Tables} (R : Reading) {v : Verdict} (early : v ≡ model_and_schema_check T) (lent_reach lent_columns : List ℕ) where
  -- 12 to 14 refuse
  pub early_refuses : {r : Refusal} → v ≡ Err r → Judged T R v lent_reach lent_columns lent_reach lent_columns
  early_refuses f = record {
    answers = stops (typing_check T R) early f;
    reaching = ap (λ (x : Verdict). after x (reach_rows T (length lent_reach)) lent_reach) (sym f ∙ early);
    shows = ap (λ (x : Verdict). after x (column_rows T) lent_columns) (sym f ∙ early);
  }

  -- 15 to 19 and 25 answer
  pub typing_answers : v ≡ Ok tt → {w : Verdict} {reach columns : List ℕ} → reach ≡ reach_rows T (length lent_reach) → Checked T R w columns
      → Judged T R w lent_reach lent_columns reach columns
  typing_answers f reaching C = record {
    answers = goes_on early f C.answers;
    reaching = reaching ∙ ap (λ (x : Verdict). after x (reach_rows T (length lent_reach)) lent_reach) (sym f ∙ early);
    shows = C.shows ∙ ap (λ (x : Verdict). after x (column_rows T) lent_columns) (sym f ∙ early);
  }

-- ---- reach rows of its own

-- `most` rows are enough for tables that have at most so many query forms
pub own_reach : (most : ℕ) {head : Head} {expression_rows relation_entries project_entries relations comparisons queries kinds columns : List ℕ}
    → ColumnsReadable most head expression_rows relation_entries project_entries relations comparisons queries kinds columns
    → JudgeReadable head expression_rows relation_entries project_entries relations comparisons queries kinds (replicate (most * 16) 0) columns
own_reach most A =
    let l = length-replicate {A = ℕ} (most * 16) 0 in
    record {
      tables = A.tables;
      reads = A.reads;
      forms = let f = A.few in let e = ap length A.reads.prepared.queries_are in omega arith;
      unreached = ap (λ (k : ℕ). replicate {A = ℕ} k 0) (sym l);
      unshown = A.unshown;
    }

-- tables with any number of query forms
pub any_forms : {head : Head} {expression_rows relation_entries project_entries relations comparisons queries kinds columns : List ℕ} {T : Tables}
    → JudgeReads T head expression_rows relation_entries project_entries relations comparisons queries kinds → columns ≡ replicate 1024 0
    → ColumnsReadable 256 head expression_rows relation_entries project_entries relations comparisons queries kinds columns
any_forms {T} R unshown = record {
  tables = T;
  reads = R;
  few = let m = (counts R.prepared.formed).most4 in let e = ap length R.prepared.queries_are in omega arith;
  unshown = unshown;
}

-- ---- whole tables, with expression rows of its own

module _ {T : Tables} (F : Formed T) where
  -- what `split_tables` is given
  pub split_reads : SplitReads T T.entries T.relations T.comparisons T.queries T.kinds
  split_reads = record { formed = F; entries_are = refl; relations_are = refl; comparisons_are = refl; queries_are = refl; kinds_are = refl }

  -- the tables, split
  pub split_prepared : {rows expression_rows relation_entries project_entries relations comparisons queries kinds : List ℕ}
      → IsSplit T rows expression_rows relation_entries project_entries relations comparisons queries kinds → TruthFilled T rows
      → Prepared T expression_rows relation_entries project_entries relations comparisons queries
  split_prepared S C = record {
    formed = F;
    filled = subst (TruthFilled T) (sym S.rows_are) C;
    relation_entries_are = S.relation_entries_are;
    project_entries_are = S.project_entries_are;
    relations_are = S.relations_are;
    comparisons_are = S.comparisons_are;
    queries_are = S.queries_are;
  }

  -- with their head
  pub tables_read : {rows expression_rows relation_entries project_entries relations comparisons queries kinds : List ℕ}
      → IsSplit T rows expression_rows relation_entries project_entries relations comparisons queries kinds → TruthFilled T rows → {head : Head}
      → head.features ≡ T.features → head.attributes ≡ T.attributes → head.model ≡ T.model
      → JudgeReads T head expression_rows relation_entries project_entries relations comparisons queries kinds
  tables_read S C n m k = record {
    prepared = split_prepared S C;
    features = n;
    attributes = m;
    model = k;
    kinds_are = S.kinds_are;
  }

  -- tables with any number of expressions
  pub any_tables : {columns : List ℕ} → columns ≡ replicate 1024 0 → TablesReadable 256 T columns
  any_tables unshown = record { formed = F; few = (counts F).most0; unshown = unshown }

-- `most` rows are enough for tables that have at most so many expressions
pub own_expressions : (most : ℕ) {T : Tables} {columns : List ℕ} → TablesReadable most T columns → TablesFillable T (replicate (most * 16) 0) columns
own_expressions most A = record {
  formed = A.formed;
  room = let f = A.few in let l = length-replicate {A = ℕ} (most * 16) 0 in omega arith;
  unshown = A.unshown;
}

-- so many words are enough, and the model has a row in them
module _ (words : ℕ) {T : Tables} {R : Reading} {lent_columns : List ℕ} (A : TablesReadable (words / 16) T lent_columns) {v : Verdict}
    {expression_rows columns : List ℕ} (J : TablesFilled T R v (replicate words 0) lent_columns expression_rows columns) where
  pub own_judged : {permits : List ℕ} → permits ≡ row_in 16 expression_rows T.model → TablesJudged T R v permits lent_columns columns
  own_judged load =
      let room : expression_count T * 16 ≤ length (replicate {A = ℕ} words 0) = (let f = A.few in omega (arith, length-replicate {A = ℕ} words 0)) in
      let truth = filled T.features T.truth (expression_count T) (replicate words 0) room J.fills in
      record { judged = J.judged; permitting = load ∙ model_row A.formed truth refl }

-- ---- whole tables, with all rows lent

-- rows enough for all tables are enough for these
module _ {T : Tables} {expression_rows reach columns : List ℕ} (F : Formed T) (L : RowsLent expression_rows reach columns) where
  pub rows_room : expression_count T * 16 ≤ length expression_rows
  rows_room = let s = (counts F).most0 in let l = L.expressions in omega arith

  pub rows_read : {head : Head} {filled_rows relation_entries project_entries relations comparisons queries kinds : List ℕ}
      → JudgeReads T head filled_rows relation_entries project_entries relations comparisons queries kinds
      → JudgeReadable head filled_rows relation_entries project_entries relations comparisons queries kinds reach columns
  rows_read R = record {
    tables = T;
    reads = R;
    forms = let s = (counts F).most4 in let l = L.forms in omega arith;
    unreached = L.unreached;
    unshown = L.unshown;
  }

module _ {T : Tables} (R : Reading) {v : Verdict} (forms : v ≡ form_check T) {lent_expression_rows lent_reach lent_columns : List ℕ} where
  -- a form check refuses
  pub forms_refuse : {r : Refusal} → v ≡ Err r
      → RowsChecked T R v lent_expression_rows lent_reach lent_columns lent_expression_rows lent_reach lent_columns
  forms_refuse {r} f = record {
    answers = stops (meaning_check T R) forms f;
    fills = ap (λ (x : Verdict). after x (written (rows_of T) lent_expression_rows) lent_expression_rows) refused;
    reaching = ap (λ (x : Verdict). after x (reach_rows T (length lent_reach)) lent_reach) early;
    shows = ap (λ (x : Verdict). after x (column_rows T) lent_columns) early;
  }
    where
      refused : Err r ≡ form_check T
      refused = sym f ∙ forms

      early : Err r ≡ early_check T
      early = sym (then_refused (model_and_schema_check T) (sym refused))

  -- the rest is judged
  pub judging_answers : v ≡ Ok tt → {w : Verdict} {expression_rows reach columns : List ℕ}
      → expression_rows ≡ written (rows_of T) lent_expression_rows → Judged T R w lent_reach lent_columns reach columns
      → RowsChecked T R w lent_expression_rows lent_reach lent_columns expression_rows reach columns
  judging_answers f fills J = record {
    answers = goes_on forms f J.answers;
    fills = fills ∙ ap (λ (x : Verdict). after x (written (rows_of T) lent_expression_rows) lent_expression_rows) passed;
    reaching = J.reaching ∙ ap (λ (x : Verdict). after x (reach_rows T (length lent_reach)) lent_reach) early;
    shows = J.shows ∙ ap (λ (x : Verdict). after x (column_rows T) lent_columns) early;
  }
    where
      passed : (Ok tt) ≡ form_check T
      passed = sym f ∙ forms

      early : model_and_schema_check T ≡ early_check T
      early = sym (then_next (sym passed))

-- ---- for the callers

-- tables that pass have passed the form checks, and 12 to 14
module _ (T : Tables) (R : Reading) {v : Verdict} (checked : v ≡ report_check T R) (accepted : v ≡ Ok tt) where
  passed : (form_check T ≡ Ok tt) × (meaning_check T R ≡ Ok tt)
  passed = both_accepted (form_check T) (meaning_check T R) (sym checked ∙ accepted)

  early_passed : early_check T ≡ Ok tt
  early_passed = then_next passed.0 ∙ (both_accepted (model_and_schema_check T) (typing_check T R) passed.1).0

-- what a caller has of tables that pass: their rows
pub record Rows (T : Tables) (expression_rows reach columns : List ℕ) : Type 0 where
  pub formed : Formed T
  pub filled : TruthFilled T expression_rows
  pub reaching : ReachFilled T reach
  pub shows : columns ≡ column_rows T

checked_rows : {T : Tables} {R : Reading} {v : Verdict} {lent_expression_rows lent_reach lent_columns expression_rows reach columns : List ℕ}
    → RowsLent lent_expression_rows lent_reach lent_columns → RowsChecked T R v lent_expression_rows lent_reach lent_columns expression_rows reach columns
    → v ≡ Ok tt → Rows T expression_rows reach columns
checked_rows {T} {R} {v} {lent_expression_rows} {lent_reach} {lent_columns} L J e = record {
  formed = F;
  filled = filled T.features T.truth (expression_count T) lent_expression_rows (let s = (counts F).most0 in let l = L.expressions in omega arith)
      (J.fills ∙ ap (λ (x : Verdict). after x (written (rows_of T) lent_expression_rows) lent_expression_rows) forms);
  reaching = reach_rows_lem T (let s = (counts F).most4 in let l = L.forms in omega arith)
      (J.reaching ∙ ap (λ (x : Verdict). after x (reach_rows T (length lent_reach)) lent_reach) early);
  shows = J.shows ∙ ap (λ (x : Verdict). after x (column_rows T) lent_columns) early;
}
  where
    forms : form_check T ≡ Ok tt
    forms = (passed T R J.answers e).0

    F : Formed T
    F = formed T forms

    early : early_check T ≡ Ok tt
    early = early_passed T R J.answers e

-- with rows of the call's own, which are all 0 and have room for every table
pub own_rows : {T : Tables} {R : Reading} {v : Verdict} {expression_rows reach columns : List ℕ}
    → RowsChecked T R v (replicate 4096 0) (replicate 4096 0) (replicate 1024 0) expression_rows reach columns → v ≡ Ok tt → Rows T expression_rows reach columns
own_rows = checked_rows (record { expressions = le_refl 4096; forms = le_refl 4096; unreached = refl; unshown = refl })

-- what a caller has of tables that pass, where judging has rows of its own: the permitted configurations and the column rows
pub record Columns (T : Tables) (permits columns : List ℕ) : Type 0 where
  pub formed : Formed T
  pub permitting : permits ≡ row_of 16 (permitted T)
  pub shows : columns ≡ column_rows T

pub own_columns : {T : Tables} {R : Reading} {v : Verdict} {permits columns : List ℕ} → ColumnsChecked T R v permits (replicate 1024 0) columns → v ≡ Ok tt
    → Columns T permits columns
own_columns {T} {R} J e = record {
  formed = formed T forms;
  permitting = J.permitting ∙ ap (λ (x : Verdict). after x (row_of 16 (permitted T)) (row_of 16 (λ c. false))) forms;
  shows = J.shows ∙ ap (λ (x : Verdict). after x (column_rows T) (replicate 1024 0)) (early_passed T R J.answers e);
}
  where
    forms : form_check T ≡ Ok tt
    forms = (passed T R J.answers e).0

module _ {T : Tables} (F : Formed T) where
  -- 1 << n is the number of configurations
  pub shifted_configurations : {n : ℕ} → n ≡ T.features → (1 * 2 ^ n) % 2 ^ 64 ≡ configurations T
  shifted_configurations {n} e = shl_one 64 n (let f = F.few in omega arith) ∙ ap (λ (k : ℕ). 2 ^ k) e

  pub shifted_few : {n : ℕ} → n ≡ T.features → (1 * 2 ^ n) % 2 ^ 64 ≤ 1024
  shifted_few e = let s = shifted_configurations e in let p = pow_mono {i = T.features} {j = 10} F.few in omega arith
