-- What kinds have not changed (specs/Kinds): the answers of every call, and the comparisons that configuring writes, are what they were where all kinds
-- are 0 or nothing is compared; and where nothing is compared no answer depends on the kinds.
use Rattle.std.specs.Prelude.{Ok}
use Prim.Native.Nat.{ℕ, zero, suc, ◌*◌, ◌+◌, ◌<◌}
use mathlib.Core.Path.{◌≡◌, refl, sym, ap, ap₂, ◌∙◌, fun_ext}
use mathlib.Core.Bool.{Bool, true, false, cond, ◌&&◌, not, false≢true}
use mathlib.Core.List.{List, [], ◌∷◌}
use native.Mathlib.Decide.{dec_lt}
use native.Mathlib.Omega.{arith}
use lib.ListN.{length, get_or, replicate, length-replicate, get_or-replicate, get_or-eq_default}
use lib.Dec.{eqb}
use borrow.Author.Tests.{eq-eqb}
use Rattle.sets.proofs.SearchLaws.{nothing_lowest, lowest_same}
use Rattle.sets.proofs.ListLaws.{kept_same}
use Rattle.report.specs.Tables.{Tables, kind_of, word, all_zero, comparison_of, comparison}
use Rattle.report.specs.Tables.{expression_count, relation_count, comparison_count, query_count, relations_end}
use Rattle.report.specs.Operands.{comparison_sides, sides_in}
use Rattle.report.specs.Expressions.{configurations, permitted}
use Rattle.report.specs.Typing.{leads, reached, kinds_differ, joined_set, gathered, set_of, faults, fails}
use Rattle.report.specs.ColumnRows.{column_rows}
use Rattle.report.specs.Verdicts.{Verdict, refusal, refuse_at, or_else, first_from, Condition, first_of}
use Rattle.report.specs.FormChecks.{is_kind, constant_kind, comparison_ok, kind_ok, constant_ok}
use Rattle.report.specs.FormChecks.{relations_check, comparisons_check, queries_check, kinds_check, tables_check, form_check}
use Rattle.report.specs.Checks.{phase_at, typing_at, typing_check, model_and_schema_check}
use Rattle.report.specs.Configuring.{comparison_kept, comparison_form_of, configured, entry_kept, comparison_target, query_target}
use Rattle.report.specs.Calls.{Call, answer, checking, configuring}
use Rattle.report.specs.Repeats.{tables_check_with}
use Rattle.report.specs.Kinds.{Differing, ConstantsAre0, AllKinds0, comparisons_check_before, tables_check_before, typing_check_before}
use Rattle.report.specs.Kinds.{answer_without, answer_before_kinds, with_kinds, NoSelect, KindFree, with_kind_0, comparisons_before}
use Rattle.report.specs.declared.Comparison.{Comparison}
use Rattle.report.specs.declared.Sides.{Sides}
use Rattle.report.specs.declared.Reading.{Reading}
use Rattle.report.proofs.VerdictLaws.{or_else_accepted, accepted_both, accepted_if}
use Rattle.report.proofs.Formed.{fit_all}
use Rattle.report.proofs.CallLaws.{answer_checks}
use Rattle.report.proofs.KindMembers.{fails_differing}

-- ---- where 24 finds nothing and kinds differ nowhere, the answer is the one without these two checks

module _ (T : Tables) where
  -- then 15 to 19 are all that is looked for in a form
  first_alone : ((c q : ℕ) → fails T c 1 q ≡ false) → (q : ℕ) → typing_at T Reading.Strict q ≡ phase_at T Reading.Strict q 0
  first_alone f q =
      ap (or_else (phase_at T Reading.Strict q 0))
      (accepted_both {a = phase_at T Reading.Strict q 1} (ap (refuse_at _) (nothing_lowest (λ c. fails T c 1 q) (configurations T) (λ c h. f c q))) refl)
      ∙ or_else_accepted (phase_at T Reading.Strict q 0)

  typing_before : ((c q : ℕ) → fails T c 1 q ≡ false) → typing_check T Reading.Strict ≡ typing_check_before T
  unfolding typing_check typing_check_before
  typing_before f = ap (λ (check : ℕ → Verdict). first_from check (query_count T) 0) (fun_ext (first_alone f))

  pub without_kinds : kinds_check T.attributes T.kinds T.comparisons ≡ Ok tt → ((c q : ℕ) → fails T c 1 q ≡ false)
      → (call : Call) → answer T Reading.Strict call ≡ answer_without T (tables_check T) call
  unfolding form_check
  without_kinds e f call =
      answer_checks T Reading.Strict call
      ∙ ap₂
      (λ (tables typing : Verdict).
      or_else (or_else tables (or_else (first_of (call.before_model T)) (model_and_schema_check T))) (or_else typing (first_of (call.after_typing T))))
      (ap (or_else (tables_check T)) e ∙ or_else_accepted (tables_check T)) (typing_before f)

-- ---- constants of kind 0

module _ (T : Tables) (zeros : ConstantsAre0 T) where
  -- 1 to 10 find what they found
  tables_before : tables_check T ≡ tables_check_before T
  unfolding tables_check comparisons_check comparisons_check_before
  tables_before =
      ap
      (λ (seven : Verdict).
      tables_check_with T (relations_check (expression_count T) T.entries T.relations) seven
      (queries_check (expression_count T) (relation_count T) (comparison_count T) T.entries (relations_end T) T.queries))
      (ap (refuse_at (λ f. refusal 7 f 0 0)) (lowest_same _ _ (comparison_count T) (λ f h. go (comparison_ok T f) (eq-eqb _ 0 (zeros f h)))))
    where
      go : (ok : Bool) {same : Bool} → same ≡ true → not ok ≡ not (ok && same)
      go true e = ap not (sym e)
      go false e = refl

  -- so every answer is what it was, if 24 finds nothing and kinds differ nowhere
  answer_before_lem : kinds_check T.attributes T.kinds T.comparisons ≡ Ok tt → ((c q a g : ℕ) → Differing T c q a g → ⊥)
      → (call : Call) → answer T Reading.Strict call ≡ answer_before_kinds T call
  unfolding answer_before_kinds
  answer_before_lem e never call =
      without_kinds T e (λ c q. (fails_differing T c q).1 (never c q)) call ∙ ap (λ (v : Verdict). answer_without T v call) tables_before

  -- and so is what configuring writes of the comparisons
  pub comparisons_before_lem : (c : ℕ) → (configured T c Reading.Strict).comparisons ≡ comparisons_before T c
  unfolding configured
  comparisons_before_lem c =
      kept_same (comparison_count T) {keep = comparison_kept T c} (λ f h. refl)
      (λ f h. ap (comparison_form_of T c) (go (comparison T.comparisons f) (zeros f h)))
    where
      go : (x : Comparison) → constant_kind (comparison_sides x) ≡ 0 → x ≡ with_kind_0 x
      go Comparison.Malformed e = refl
      go Comparison.Never e = refl
      go Comparison.Always e = refl
      go (Comparison.Constant o a b k) e = ap (Comparison.Constant o a b) e
      go (Comparison.Attribute o a b) e = refl
      go (Comparison.Not a) e = refl
      go (Comparison.And a b) e = refl
      go (Comparison.Or a b) e = refl
      go (Comparison.Choice a b d) e = refl

-- ---- all kinds 0

-- the kind of a constant is a comparison's fifth word: where that is 0 so is the kind
unused_kind : (t : Bool) (x : Comparison) → constant_kind (comparison_sides x) ≡ 0 → constant_kind (comparison_sides (cond t x Comparison.Malformed)) ≡ 0
unused_kind true x e = e
unused_kind false x e = refl

fifth_word : (kind o a b : ℕ) → constant_kind (comparison_sides (comparison_of kind o a b 0)) ≡ 0
fifth_word zero o a b = unused_kind (all_zero (o ∷ a ∷ b ∷ 0 ∷ [])) Comparison.Never refl
fifth_word (suc zero) o a b = unused_kind (all_zero (o ∷ a ∷ b ∷ 0 ∷ [])) Comparison.Always refl
fifth_word (suc (suc zero)) o a b = refl
fifth_word (suc (suc (suc zero))) o a b = refl
fifth_word (suc (suc (suc (suc zero)))) o a b = unused_kind (all_zero (o ∷ b ∷ 0 ∷ [])) (Comparison.Not a) refl
fifth_word (suc (suc (suc (suc (suc zero))))) o a b = unused_kind (all_zero (o ∷ 0 ∷ [])) (Comparison.And a b) refl
fifth_word (suc (suc (suc (suc (suc (suc zero)))))) o a b = unused_kind (all_zero (o ∷ 0 ∷ [])) (Comparison.Or a b) refl
fifth_word (suc (suc (suc (suc (suc (suc (suc zero))))))) o a b = unused_kind (all_zero (o ∷ [])) (Comparison.Choice a b 0) refl
fifth_word (suc (suc (suc (suc (suc (suc (suc (suc kind)))))))) o a b = refl

-- where all kinds are 0 both sides have one
zero_kinds : (kind : ℕ → ℕ) → ((a : ℕ) → kind a ≡ 0) → (s : Sides) → constant_kind s ≡ 0 → kinds_differ kind s ≡ false
zero_kinds kind z (Sides.Constant a k) e = ap₂ (λ (i j : ℕ). not (eqb i j)) (z a) e
zero_kinds kind z (Sides.Attributes a b) e = ap₂ (λ (i j : ℕ). not (eqb i j)) (z a) (z b)
zero_kinds kind z Sides.Neither e = refl

module _ {T : Tables} (K : AllKinds0 T) where
  attribute_0 : (a : ℕ) → kind_of T a ≡ 0
  attribute_0 a = ap (λ (kinds : List ℕ). get_or kinds a 0) K.attributes ∙ go (dec_lt a T.attributes)
    where
      go : Dec (a < T.attributes) → get_or {A = ℕ} (replicate T.attributes 0) a 0 ≡ 0
      go (yes h) = get_or-replicate T.attributes a 0 0 h
      go (no h) = get_or-eq_default (replicate T.attributes 0) 0 (omega (arith, length-replicate {A = ℕ} T.attributes 0))

  -- past the table the fifth word is read as 0
  constant_0 : (f : ℕ) → constant_kind (sides_in T.comparisons f) ≡ 0
  constant_0 f = go (dec_lt f (comparison_count T))
    where
      go : Dec (f < comparison_count T) → constant_kind (sides_in T.comparisons f) ≡ 0
      go (yes h) = K.constants f h
      go (no h) =
          let t = T.comparisons in
          rw (get_or-eq_default t 0 {n = f * 5 + 4} (omega arith)) (fifth_word (get_or t (f * 5) 0) (word t 5 f 1) (word t 5 f 2) (word t 5 f 3))

  all_kinds : kinds_check T.attributes T.kinds T.comparisons ≡ Ok tt
  unfolding kinds_check
  all_kinds =
      accepted_both
      (accepted_both
      (accepted_if _ (ap not (eq-eqb (length T.kinds) T.attributes (ap length K.attributes ∙ length-replicate T.attributes 0))))
      (fit_all _ (kind_ok T) (length T.kinds) (λ a h. ap is_kind (attribute_0 a))))
      (fit_all _ (constant_ok T) (comparison_count T) (λ f h. ap is_kind (constant_0 f)))

  -- "with all kinds 0, the constants' too, every answer is what it was"
  pub kinds_0_before : (call : Call) → answer T Reading.Strict call ≡ answer_before_kinds T call
  kinds_0_before =
      answer_before_lem T K.constants all_kinds
      (λ c q a g d. false≢true (sym (zero_kinds (kind_of T) attribute_0 (sides_in T.comparisons g) (constant_0 g)) ∙ d.two))

-- ---- nothing compared

-- a table without words has no comparison whose sides have two kinds
nothing_differs : {T : Tables} → T.comparisons ≡ [] → (c q a g : ℕ) → Differing T c q a g → ⊥
nothing_differs {T} none c q a g d = false≢true (ap (λ (t : List ℕ). kinds_differ (kind_of T) (sides_in t g)) (sym none) ∙ d.two)

-- "Where 24 finds nothing, a report with no comparisons is judged as before"
pub no_comparisons_before : (T : Tables) → T.comparisons ≡ [] → kinds_check T.attributes T.kinds T.comparisons ≡ Ok tt
    → (call : Call) → answer T Reading.Strict call ≡ answer_before_kinds T call
no_comparisons_before T none e =
    answer_before_lem T (λ f h. ap (λ (t : List ℕ). constant_kind (sides_in t f)) none) e (nothing_differs none)

-- and so is one without a select, where comparisons that no query names have kind 0
pub no_select_before : (T : Tables) → NoSelect T → ConstantsAre0 T → kinds_check T.attributes T.kinds T.comparisons ≡ Ok tt
    → (call : Call) → answer T Reading.Strict call ≡ answer_before_kinds T call
no_select_before T none zeros e = answer_before_lem T zeros e (λ c q a g d. none q d.selects d.of d.form)

-- ---- the kinds are not read

module _ (T : Tables) {call : Call} (free : KindFree call) where
  -- where 24 finds nothing and kinds differ nowhere, no answer reads them
  unread : (kinds : List ℕ) → kinds_check T.attributes kinds T.comparisons ≡ Ok tt
      → ((c q a g : ℕ) → Differing (with_kinds T kinds) c q a g → ⊥) → answer (with_kinds T kinds) Reading.Strict call ≡ answer_without T (tables_check T) call
  unfolding tables_check typing_check_before permitted reached leads set_of joined_set gathered faults
  unread kinds e never =
      without_kinds (with_kinds T kinds) e (λ c q. (fails_differing (with_kinds T kinds) c q).1 (never c q)) call
      ∙ ap₂
      (λ (early late : List Condition).
      or_else (or_else (tables_check T) (or_else (first_of early) (model_and_schema_check T))) (or_else (typing_check_before T) (first_of late)))
      (free.early T kinds) (free.late T kinds)

  -- so any two kind tables in which 24 finds nothing give the same answer
  same_answer : ((kinds : List ℕ) (c q a g : ℕ) → Differing (with_kinds T kinds) c q a g → ⊥) → (k k' : List ℕ)
      → kinds_check T.attributes k T.comparisons ≡ Ok tt → kinds_check T.attributes k' T.comparisons ≡ Ok tt
      → answer (with_kinds T k) Reading.Strict call ≡ answer (with_kinds T k') Reading.Strict call
  same_answer never k k' e e' = unread k e (never k) ∙ sym (unread k' e' (never k'))

-- of a report without a select
pub kinds_unread : (T : Tables) → NoSelect T → {call : Call} → KindFree call → (k k' : List ℕ)
    → kinds_check T.attributes k T.comparisons ≡ Ok tt → kinds_check T.attributes k' T.comparisons ≡ Ok tt
    → answer (with_kinds T k) Reading.Strict call ≡ answer (with_kinds T k') Reading.Strict call
kinds_unread T none free = same_answer T free (λ kinds c q a g d. none q d.selects d.of d.form)

-- and of one with no comparisons
pub no_comparisons_unread : (T : Tables) → T.comparisons ≡ [] → {call : Call} → KindFree call → (k k' : List ℕ)
    → kinds_check T.attributes k T.comparisons ≡ Ok tt → kinds_check T.attributes k' T.comparisons ≡ Ok tt
    → answer (with_kinds T k) Reading.Strict call ≡ answer (with_kinds T k') Reading.Strict call
no_comparisons_unread T none free = same_answer T free (λ kinds. nothing_differs none)

-- the column rows do not depend on them
pub rows_unread : (T : Tables) (k : List ℕ) → column_rows (with_kinds T k) ≡ column_rows T
unfolding column_rows permitted set_of joined_set
rows_unread T k = refl

-- nor what configuring writes, but for the kind table itself
pub configured_unread : (T : Tables) (k : List ℕ) (c : ℕ) (R : Reading) → configured (with_kinds T k) c R ≡ with_kinds (configured T c R) k
unfolding configured permitted reached leads joined_set set_of entry_kept comparison_target query_target
configured_unread T k c Reading.Strict = refl
configured_unread T k c Reading.Filled = refl

-- the two calls' own conditions do not read them
pub checking_free : (room : ℕ) → KindFree (checking room)
checking_free room = record { early = λ T kinds. refl; late = λ T kinds. refl }

pub configuring_free : (c r1 r2 r3 r4 : ℕ) → KindFree (configuring c r1 r2 r3 r4)
unfolding permitted
configuring_free c r1 r2 r3 r4 = record { early = λ T kinds. refl; late = λ T kinds. refl }
