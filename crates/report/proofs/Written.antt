-- The tables that configuring writes are, as a tree, the configured report with its relations renumbered, under the configured schema renumbered
-- (docs/FORMAT.md, "Configuring"). Nothing here asks that the report passes, only that every relation that c reaches is present.
use Rattle.std.specs.Prelude.{Ok}
use Prim.Native.Nat.{ℕ, ◌<◌, ◌≤◌}
use mathlib.Core.Path.{◌≡◌, refl, sym, ap, ap₂, ◌∙◌}
use mathlib.Core.Bool.{Bool, true, false, ◌&&◌, ◌||◌, false≢true}
use native.Mathlib.Omega.{arith}
use lib.Dec.{eqb}
use lib.Bits.{bit_and, bit_or}
use Rattle.sets.specs.Search.{count_below}
use Rattle.sets.specs.Bits.{bit, subset}
use Rattle.sets.proofs.SearchLaws.{count_lt}
use Rattle.report.specs.Tables.{Tables, kind_of, entry_count, query_count, project_start, report}
use Rattle.report.specs.Expressions.{permitted}
use Rattle.report.specs.Typing.{taken, present, reached}
use Rattle.report.specs.Formed.{Formed, QueryLower}
use Rattle.report.specs.Operands.{query_operands, is_choice}
use Rattle.report.specs.FormChecks.{is_operand, form_check}
use Rattle.report.specs.Configuring.{staying_over, read_as, query_kept, new_relation, new_query, configured}
use Rattle.report.specs.PlainAlgebra.{PlainQuery, Schema, Kinds, comparison_keeps, set_from, in_schema, attributes_in, columns, passes}
use Rattle.report.specs.ConfiguredReport.{kept_attributes, plain_query_of, plain_query_at, configured_report, configured_schema, plain_relation, plain_staying}
use Rattle.report.specs.WrittenTables.{renamed, WrittenTables}
use Rattle.report.specs.declared.Query.{Query}
use Rattle.report.specs.declared.Reading.{Reading}
use Rattle.report.proofs.ValueLaws.{strong}
use Rattle.report.proofs.Formed.{formed_accepted}
use Rattle.report.proofs.FormedFacts.{query_at, operand_lower, report_in}
use Rattle.report.proofs.StepLaws.{plain_query_in}
use Rattle.report.proofs.FilledTrees.{filled_columns}
use Rattle.report.proofs.OperandLaws.{View, choice, plain, view, choice_query}
use Rattle.report.proofs.PassingOn.{or_first, or_second, same_number}
use Rattle.report.proofs.LeadLaws.{form_at, operands_at, passed_lower, target_plain, target_choice, alternative_passed}
use Rattle.report.proofs.ReachLaws.{both_kept, reached-report, reached_next, operand_reached, kept_count}
use Rattle.report.proofs.CarriedLists.{carried_attributes}
use Rattle.report.proofs.WrittenComparisons.{plain_comparison_same}
use Rattle.report.proofs.WrittenEntries.{entry_holds_lem, new_relation_lem, relation_of, relations_once, schema_written, schema_end_lem}
use Rattle.report.proofs.WrittenQueries.{renumbered_query, entries_room, queries_count, query_written, project_stands}
use Rattle.report.proofs.WrittenFormed.{RelationsPresent, queries_once, written_formed}

-- ---- a tree with other numbers for its relations

module _ (old new : Schema) (f : ℕ → ℕ) where
  -- each relation of a tree is under its new number what it was
  abbrev pub RelationsAgree : PlainQuery → Type 0
  RelationsAgree PlainQuery.empty = Unit {0}
  RelationsAgree (PlainQuery.relation r) = new (f r) ≡ old r
  RelationsAgree (PlainQuery.select t q) = RelationsAgree q
  RelationsAgree (PlainQuery.project l q) = RelationsAgree q
  RelationsAgree (PlainQuery.product p q) = RelationsAgree p × RelationsAgree q
  RelationsAgree (PlainQuery.union p q) = RelationsAgree p × RelationsAgree q
  RelationsAgree (PlainQuery.intersection p q) = RelationsAgree p × RelationsAgree q

  -- then the tree has the columns that it had, and passes where it passed
  pub columns-renamed : (t : PlainQuery) → RelationsAgree t → columns new (renamed f t) ≡ columns old t
  columns-renamed PlainQuery.empty a = refl
  columns-renamed (PlainQuery.relation r) a = ap attributes_in a
  columns-renamed (PlainQuery.select t q) a = columns-renamed q a
  columns-renamed (PlainQuery.project l q) a = refl
  columns-renamed (PlainQuery.product p q) a = ap₂ bit_or (columns-renamed p a.0) (columns-renamed q a.1)
  columns-renamed (PlainQuery.union p q) a = columns-renamed p a.0
  columns-renamed (PlainQuery.intersection p q) a = columns-renamed p a.0

  module _ (kind : Kinds) where
    two_pass : (rule : ℕ → ℕ → Bool) (p q : PlainQuery) → RelationsAgree p × RelationsAgree q → passes kind new (renamed f p) ≡ passes kind old p
        → passes kind new (renamed f q) ≡ passes kind old q
        → (passes kind new (renamed f p) && passes kind new (renamed f q) && rule (columns new (renamed f p)) (columns new (renamed f q)))
        ≡ (passes kind old p && passes kind old q && rule (columns old p) (columns old q))
    two_pass rule p q a x y = λ i. x i && y i && rule (columns-renamed p a.0 i) (columns-renamed q a.1 i)

    pub passes-renamed : (t : PlainQuery) → RelationsAgree t → passes kind new (renamed f t) ≡ passes kind old t
    passes-renamed PlainQuery.empty a = refl
    passes-renamed (PlainQuery.relation r) a = ap in_schema a
    passes-renamed (PlainQuery.select t q) a = ap₂ (λ (b : Bool) (x : ℕ). b && comparison_keeps kind x t) (passes-renamed q a) (columns-renamed q a)
    passes-renamed (PlainQuery.project l q) a = ap₂ (λ (b : Bool) (x : ℕ). b && subset (set_from l) x) (passes-renamed q a) (columns-renamed q a)
    passes-renamed (PlainQuery.product p q) a = two_pass (λ x y. eqb (bit_and x y) 0) p q a (passes-renamed p a.0) (passes-renamed q a.1)
    passes-renamed (PlainQuery.union p q) a = two_pass eqb p q a (passes-renamed p a.0) (passes-renamed q a.1)
    passes-renamed (PlainQuery.intersection p q) a = two_pass eqb p q a (passes-renamed p a.0) (passes-renamed q a.1)

-- u is the tree t of T at c with its relations renumbered, each of which the tables written have as it was
pub record Renumbered (T : Tables) (c : ℕ) (R : Reading) (u t : PlainQuery) : Type 0 where
  pub same : u ≡ renamed (new_relation T c) t
  pub agree : RelationsAgree (configured_schema T c) (configured_schema (configured T c R) 0) (new_relation T c) t

-- the tables written have the same kinds
pub kinds_written : (T : Tables) (c : ℕ) (R : Reading) → kind_of (configured T c R) ≡ kind_of T
unfolding configured
kinds_written T c R = refl

-- ---- the tree of the tables written

module _ {T : Tables} (F : Formed T) (c : ℕ) (R : Reading) (ok : permitted T c ≡ true) (P : RelationsPresent T c R) where
  -- the tree of a form that is written, by the rule
  written_step : (q : ℕ) → q < query_count T → query_kept T c q ≡ true
      → plain_query_at (configured T c R) 0 Reading.Strict (count_below (query_kept T c) q)
      ≡ plain_query_of (configured T c R) 0 Reading.Strict (plain_query_at (configured T c R) 0 Reading.Strict) (count_below (query_kept T c) q) (renumbered_query T c R q (form_at T q))
  written_step q h k =
      plain_query_in (written_formed F c R ok P) 0 (count_below (query_kept T c) q)
      (let l = count_lt (query_kept T c) q (query_count T) h k in let e = queries_count F c R in omega arith) Reading.Strict
      ∙ ap (plain_query_of (configured T c R) 0 Reading.Strict (plain_query_at (configured T c R) 0 Reading.Strict) (count_below (query_kept T c) q)) (query_written F c R q h k)

  abbrev SameTree : ℕ → Type 0
  SameTree q = Renumbered T c R (plain_query_at (configured T c R) 0 Reading.Strict (new_query T c q)) (plain_query_at T c R q)

  both : (a b : ℕ) → ((x : ℕ) → (eqb x a || eqb x b) ≡ true → SameTree x) → SameTree a × SameTree b
  both a b ih = (ih a (or_first _ _ (same_number a)), ih b (or_second (eqb b a) _ (same_number b)))

  -- what stays by the operand's set stays by its tree's columns
  stay_same : (R : Reading) (b : ℕ) → b < query_count T → staying_over T c R b ≡ plain_staying T c R (plain_query_at T c R b)
  stay_same Reading.Strict b h = refl
  stay_same Reading.Filled b h = ap bit (sym (filled_columns F c b h))

  operand_in : (q a b : ℕ) → q < query_count T → form_at T q ≡ Query.Project a b → b < query_count T
  operand_in q a b h e = let l = operand_lower F q b h (ap (is_operand b) e ∙ same_number b) in omega arith

  -- a plain form, from its operands
  plain_same : (q : ℕ) → q < query_count T → query_kept T c q ≡ true → reached T c q ≡ true → (y : Query) → form_at T q ≡ y → is_choice (query_operands y) ≡ false
      → QueryLower T q y → ((x : ℕ) → is_operand x y ≡ true → SameTree x)
      → Renumbered T c R (plain_query_of (configured T c R) 0 Reading.Strict (plain_query_at (configured T c R) 0 Reading.Strict) (count_below (query_kept T c) q) (renumbered_query T c R q y))
      (plain_query_of T c R (plain_query_at T c R) q y)
  plain_same q h k r Query.Malformed e v l ih = absurd l
  plain_same q h k r Query.Empty e v l ih = record { same = refl; agree = tt }
  plain_same q h k r (Query.Relation a) e v l ih = go R P (present T c a) refl
    where
      go : (R : Reading) → RelationsPresent T c R → (t : Bool) → present T c a ≡ t
          → Renumbered T c R (plain_query_of (configured T c R) 0 Reading.Strict (plain_query_at (configured T c R) 0 Reading.Strict) (count_below (query_kept T c) q) (renumbered_query T c R q (Query.Relation a)))
          (plain_relation T c R a)
      go Reading.Strict P t i = record { same = refl; agree = schema_written F c Reading.Strict a (P q a r (ap (read_as T c Reading.Strict) e)) }
      go Reading.Filled P true i = rw i (record { same = refl; agree = schema_written F c Reading.Filled a i })
      go Reading.Filled P false i = rw i (record { same = refl; agree = tt })
  plain_same q h k r (Query.Select a b) e v l ih =
      let x = ih b (same_number b) in
      record { same = ap₂ PlainQuery.select (plain_comparison_same F c R a l.0) x.same; agree = x.agree }
  plain_same q h k r (Query.Project a b) e v l ih =
      let x = ih b (same_number b) in
      record {
        same =
            ap₂ PlainQuery.project
            (carried_attributes T c (staying_over T c R b) (project_start T q) a (configured T c R) _ (project_stands F c R q a b h k e) (entry_holds_lem F c R)
            ∙ ap (λ (stay : ℕ → Bool). kept_attributes T c stay (project_start T q) a) (stay_same R b (operand_in q a b h e)))
            x.same;
        agree = x.agree;
      }
  plain_same q h k r (Query.Choice a b d) e v l ih = absurd (false≢true (sym v))
  plain_same q h k r (Query.Product a b) e v l ih =
      let x = both a b ih in
      record { same = ap₂ PlainQuery.product x.0.same x.1.same; agree = (x.0.agree, x.1.agree) }
  plain_same q h k r (Query.Union a b) e v l ih =
      let x = both a b ih in
      record { same = ap₂ PlainQuery.union x.0.same x.1.same; agree = (x.0.agree, x.1.agree) }
  plain_same q h k r (Query.Intersection a b) e v l ih =
      let x = both a b ih in
      record { same = ap₂ PlainQuery.intersection x.0.same x.1.same; agree = (x.0.agree, x.1.agree) }

  -- the tree that a reached reference leads to is the one that it was, its relations renumbered
  pub tree_same : (q : ℕ) → q < query_count T → reached T c q ≡ true
      → Renumbered T c R (plain_query_at (configured T c R) 0 Reading.Strict (new_query T c q)) (plain_query_at T c R q)
  tree_same = strong (λ q. q < query_count T → reached T c q ≡ true → SameTree q) (λ q ih h r. go q ih h r (view (operands_at T q)))
    where
      go : (q : ℕ) → ((k : ℕ) → k < q → k < query_count T → reached T c k ≡ true → SameTree k) → q < query_count T → reached T c q ≡ true
          → View (operands_at T q) → SameTree q
      go q ih h r (plain v) =
          let k = both_kept T c q r v in
          rw (target_plain F c q h v, written_step q h k, plain_query_in F c q h R)
          (plain_same q h k r (form_at T q) refl v (query_at F q h)
          (λ x o. let l = operand_lower F q x h o in ih x l (omega arith) (operand_reached F c ok q x k o)))
      go q ih h r (choice a b d e) =
          let z = taken T c a b d in
          let p = alternative_passed F c q a b d h e in
          let l = passed_lower F c z q h p in
          rw (target_choice F c q a b d h e, plain_query_in F c q h R ∙ ap (plain_query_of T c R (plain_query_at T c R) q) (choice_query (form_at T q) e))
          (ih z l (omega arith) (reached_next F c ok z q r p))

  -- ---- of the report

  -- the last form written is what the report leads to
  pub report_new : report (configured T c R) ≡ new_query T c (report T)
  report_new = let e = queries_count F c R in let k = kept_count F c ok in omega arith

  report_same : Renumbered T c R (configured_report (configured T c R) 0 Reading.Strict) (configured_report T c R)
  report_same = rw report_new (tree_same (report T) (report_in F) (reached-report F c ok))

  -- the tables written decode to the configured report, its relations renumbered
  pub report_written : configured_report (configured T c R) 0 Reading.Strict ≡ renamed (new_relation T c) (configured_report T c R)
  report_written = report_same.same

  -- it passes where the configured report passes, and has its columns
  pub passes_written : passes (kind_of (configured T c R)) (configured_schema (configured T c R) 0) (configured_report (configured T c R) 0 Reading.Strict)
      ≡ passes (kind_of T) (configured_schema T c) (configured_report T c R)
  passes_written =
      ap (passes (kind_of (configured T c R)) (configured_schema (configured T c R) 0)) report_written
      ∙ passes-renamed (configured_schema T c) (configured_schema (configured T c R) 0) (new_relation T c) (kind_of (configured T c R)) (configured_report T c R)
      report_same.agree
      ∙ ap (λ (kind : Kinds). passes kind (configured_schema T c) (configured_report T c R)) (kinds_written T c R)

  pub columns_written : columns (configured_schema (configured T c R) 0) (configured_report (configured T c R) 0 Reading.Strict)
      ≡ columns (configured_schema T c) (configured_report T c R)
  columns_written =
      ap (columns (configured_schema (configured T c R) 0)) report_written
      ∙ columns-renamed (configured_schema T c) (configured_schema (configured T c R) 0) (new_relation T c) (configured_report T c R) report_same.agree

-- checks 1 to 10 and 24 accept what is written of tables with at most 512 entries
pub tables_accepted : {T : Tables} → Formed T → entry_count T ≤ 512 → (c : ℕ) (R : Reading) → permitted T c ≡ true → RelationsPresent T c R
    → form_check (configured T c R) ≡ Ok tt
tables_accepted {T} F few c R ok P = formed_accepted (configured T c R) (written_formed F c R ok P) (let m = entries_room F c R in omega arith)

pub tables_written : {T : Tables} → Formed T → (c : ℕ) (R : Reading) → permitted T c ≡ true → RelationsPresent T c R → WrittenTables T c R
tables_written {T} F c R ok P = record {
  tree = report_written F c R ok P;
  schema = schema_written F c R;
  schema_end = schema_end_lem (configured T c R) 0;
  in_order = λ r s l p. count_lt (present T c) r s l p;
  numbered = new_relation_lem T c R;
  onto = relation_of F c R;
  once = record { relations = λ r h f. relations_once F c R r h; projects = λ q h f. queries_once F c R ok P q h };
}
