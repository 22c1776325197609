-- What calls refuse, whatever they are given: by which numbers before typing, and demand 3's second half: a call that gets as far as typing refuses for a
-- typing fault exactly where, at some permitted configuration, the configured report breaks a plain rule.
use Rattle.std.specs.Prelude.{Option, Some, None, Ok, Err}
use Prim.Native.Nat.{ℕ, zero, suc, ◌-◌, ◌<◌}
use mathlib.Core.Path.{◌≡◌, refl, sym, ap, ◌∙◌}
use mathlib.Core.Bool.{Bool, true, false, ◌||◌, not, and-eq-true_iff, false≢true}
use mathlib.Core.Logic.{◌↔◌, ◌≢◌, ⊎_elim}
use native.Mathlib.Nat.{eq-or-lt_of_le}
use mathlib.Core.List.{List, [], ◌∷◌}
use native.Mathlib.Omega.{arith}
use borrow.Author.Tests.{eqb-true, eq-eqb, ne_eqb, not-true, not-false}
use lib.ListN.{length, get_or}
use lib.Dec.{leb, ltb, eqb}
use Rattle.sets.specs.Search.{seek, lowest}
use Rattle.report.specs.Tables.{Tables, kind_of, shapes, shape_of, words, entry_attribute, relation_length, relation_start}
use Rattle.report.specs.Tables.{expression_count, entry_count, relation_count, comparison_count, query_count}
use Rattle.report.specs.Expressions.{configurations}
use Rattle.report.specs.Typing.{reached, clashes_in, faults, fails}
use Rattle.report.specs.PlainAlgebra.{passes}
use Rattle.report.specs.ConfiguredReport.{plain_query_at, configured_report, configured_schema}
use Rattle.report.specs.Verdicts.{Verdict, refusal, refuse_if, refuse_at, or_else, first_from, Condition, ◌gives◌, first_of}
use Rattle.report.specs.FormChecks.{length_fits, expression_ok, entry_ok, relation_ok, comparison_ok, query_ok, kind_ok, constant_ok, taken_below, lists_end}
use Rattle.report.specs.FormChecks.{length_check, lengths_check, expressions_check, entries_check, relations_check, comparisons_check, queries_check, untaken_check, tables_check, kinds_check, form_check}
use Rattle.report.specs.Formed.{Formed}
use Rattle.report.specs.Checks.{somewhere, absent_everywhere, apart_everywhere, relation_check, model_and_schema_check, typing_check}
use Rattle.report.specs.Checks.{rule_number, fault_number, typing_numbers, is_one_of, is_early, is_of_typing, is_late, is_typing_fault}
use Rattle.report.specs.Calls.{Call, Given, before_typing_to, answer_to, GetsTo, whole, answer, Sound, GetsAsFarAsTyping, all_give, OwnNumbers, checking, configuring}
use Rattle.report.specs.GivenDemands.{Forms, EarlyFirst, PassesThroughout}
use Rattle.report.specs.TypingFaults.{Broken, TypingFault, Breaks, NamedBy, Named}
use Rattle.report.specs.declared.Refusal.{Refusal}
use Rattle.report.specs.declared.Query.{Query}
use Rattle.report.specs.declared.Reading.{Reading}
use Rattle.report.specs.Readings.{fails_by}
use Rattle.report.proofs.VerdictLaws.{accepted_not_refused, then_refused, if_accepted, accepted_if, or_else_accepted}
use Rattle.report.proofs.FirstFault.{first_none, first_one, first_form}
use Rattle.report.proofs.CallLaws.{given_answer, given_before, own_gets, gets_given, given_formed, whole_forms}
use Rattle.report.proofs.TextLaws.{every}
use Rattle.report.proofs.PassingOn.{or_either}
use Rattle.report.proofs.LeadLaws.{form_at}
use Rattle.report.proofs.TreeLaws.{operands_pass, operands_pass_lem, reached-permitted, fails_where, holds_where, reached-passes, compared_where, alike_where, lowest_breaks, report-passes}
use Rattle.report.proofs.TreeLaws.{reached_part}
use Rattle.report.proofs.TypingLaws.{permitted_within, fails_permitted, typing_accepted, typing_passes, typing_refused, fault_number_lem, fault_item}

-- ---- "gets as far as typing"

module _ (T : Tables) where
  -- on sound tables the calls that get as far as typing are checking with 1,024 words of rows, and configuring whatever it is given
  pub check_gets : Sound T → (room : ℕ) → GetsAsFarAsTyping T (checking room) ↔ (room ≡ 1024)
  check_gets s room =
      let own = own_gets (whole T) (checking room) s in (
        λ g. eqb-true room 1024 (not-false (eqb room 1024) (if_accepted _ _ (sym (first_one _ _) ∙ own.0 g))),
        λ e. own.1 (first_one _ _ ∙ accepted_if _ (ap not (eq-eqb room 1024 e))),
      )

  pub configure_gets : Sound T → (c r1 r2 r3 r4 : ℕ) → GetsAsFarAsTyping T (configuring c r1 r2 r3 r4)
  configure_gets s c r1 r2 r3 r4 = (own_gets (whole T) (configuring c r1 r2 r3 r4) s).1 first_none

-- ---- the numbers of refusals

-- the answer accepts, or refuses by such a number
data Numbered (test : ℕ → Bool) : Verdict → Type 0 where
  accepts : Numbered test (Ok tt)
  refuses : {r : Refusal} → test r.number ≡ true → Numbered test (Err r)

module _ {test : ℕ → Bool} where
  numbered_or : {a b : Verdict} → Numbered test a → Numbered test b → Numbered test (or_else a b)
  numbered_or Numbered.accepts k = k
  numbered_or (Numbered.refuses h) k = Numbered.refuses h

  numbered_if : (t : Bool) (r : Refusal) → test r.number ≡ true → Numbered test (refuse_if t r)
  numbered_if true r h = Numbered.refuses h
  numbered_if false r h = Numbered.accepts

  numbered_at : (r : ℕ → Refusal) (x : Option ℕ) → ((k : ℕ) → test (r k).number ≡ true) → Numbered test (refuse_at r x)
  numbered_at r None h = Numbered.accepts
  numbered_at r (Some k) h = Numbered.refuses (h k)

  numbered_first : (check : ℕ → Verdict) (count from : ℕ) → ((k : ℕ) → Numbered test (check k)) → Numbered test (first_from check count from)
  numbered_first check zero from h = Numbered.accepts
  numbered_first check (suc count) from h = numbered_or (h from) (numbered_first check count (suc from) h)

  -- the conditions of a list
  numbered_list : (xs : List Condition) → all_give test xs ≡ true → Numbered test (first_of xs)
  unfolding first_of
  numbered_list [] h = Numbered.accepts
  numbered_list (x ∷ xs) h =
      let p = (and-eq-true_iff (test x.gives.number) (all_give test xs)).0 h in
      numbered_or (numbered_if x.holds x.gives p.0) (numbered_list xs p.1)

  number_of : {v : Verdict} {r : Refusal} → Numbered test v → v ≡ Err r → test r.number ≡ true
  number_of Numbered.accepts e = accepted_not_refused e refl
  number_of {r} (Numbered.refuses {r = s} h) e = let same : s ≡ r = cc in rw (← same) h

-- the checks of the forms of one table
forms_numbered : {test : ℕ → Bool} (k : ℕ) (tested : ℕ → Bool) (count : ℕ) → test k ≡ true
    → Numbered test (refuse_at (λ f. refusal k f 0 0) (lowest tested count))
forms_numbered k tested count h = numbered_at (λ f. refusal k f 0 0) (lowest tested count) (λ f. h)

module _ (T : Tables) where
  lengths_numbered : Numbered is_early (lengths_check T)
  lengths_numbered =
      numbered_first (λ t. length_check (get_or shapes t (shape_of 1 0 0)) t (length (get_or (words T) t []))) 5 0
      (λ t. numbered_if (not (length_fits (get_or shapes t (shape_of 1 0 0)) (length (get_or (words T) t [])))) (refusal 2 t 0 0) refl)

  form_numbered : Numbered is_early (form_check T)
  unfolding form_check tables_check kinds_check expressions_check entries_check relations_check comparisons_check queries_check untaken_check
  form_numbered =
      numbered_or
      (numbered_or (numbered_or (numbered_if (ltb 10 T.features) (refusal 1 0 0 0) refl) (numbered_if (ltb 64 T.attributes) (refusal 1 1 0 0) refl))
      (numbered_or lengths_numbered
      (numbered_or (forms_numbered 3 (λ f. not (expression_ok T f)) (expression_count T) refl)
      (numbered_or (numbered_if (leb (expression_count T) T.model) (refusal 4 0 0 0) refl)
      (numbered_or (forms_numbered 5 (λ i. not (entry_ok T i)) (entry_count T) refl)
      (numbered_or (forms_numbered 6 (λ r. not (relation_ok T r)) (relation_count T) refl)
      (numbered_or (forms_numbered 7 (λ f. not (comparison_ok T f)) (comparison_count T) refl)
      (numbered_or (forms_numbered 8 (λ q. not (query_ok T q)) (query_count T) refl)
      (numbered_or (forms_numbered 9 (λ q. not (taken_below T.queries (query_count T) q)) (query_count T - 1) refl)
      (numbered_if (ltb (lists_end T) (entry_count T)) (refusal 10 (lists_end T) 0 0) refl))))))))))
      (numbered_or
      (numbered_or (numbered_if (not (eqb (length T.kinds) T.attributes)) (refusal 24 0 0 0) refl)
      (forms_numbered 24 (λ a. not (kind_ok T a)) (length T.kinds) refl))
      (forms_numbered 24 (λ f. not (constant_ok T f)) (comparison_count T) refl))

  relation_numbered : (r : ℕ) → Numbered is_early (relation_check T r)
  relation_numbered r =
      numbered_or (numbered_if (absent_everywhere T r) (refusal 13 r 0 0) refl)
      (numbered_at (λ i. refusal 14 r (entry_attribute T.entries i) 0)
      (seek (apart_everywhere T r) (relation_length T.relations r) (relation_start T.relations r)) (λ i. refl))

  schema_numbered : Numbered is_early (model_and_schema_check T)
  schema_numbered =
      numbered_or (numbered_if (not (somewhere T (λ c. true))) (refusal 12 0 0 0) refl)
      (numbered_first (relation_check T) (relation_count T) 0 relation_numbered)

  typing_numbered : (R : Reading) → Numbered is_of_typing (typing_check T R)
  typing_numbered R = go (typing_check T R) refl
    where
      go : (v : Verdict) → typing_check T R ≡ v → Numbered is_of_typing v
      go (Ok tt) e = Numbered.accepts
      go (Err r) e = Numbered.refuses (fault_number_lem T R r ((typing_refused T R r).0 e))

-- what holds of each number of a list
one_of : (test : ℕ → Bool) (ns : List ℕ) → every test ns ≡ true → (k : ℕ) → is_one_of ns k ≡ true → test k ≡ true
one_of test [] h k e = absurd (false≢true e)
one_of test (n ∷ ns) h k e =
    let p = (and-eq-true_iff (test n) (every test ns)).0 h in
    ⊎_elim (λ (s : eqb k n ≡ true). rw (eqb-true k n s) p.0) (λ (s : is_one_of ns k ≡ true). one_of test ns p.1 k s) (or_either (eqb k n) (is_one_of ns k) e)

-- no number is of two places
typing_not_early : (k : ℕ) → is_of_typing k ≡ true → is_early k ≡ false
typing_not_early k e = not-true (is_early k) (one_of (λ n. not (is_early n)) typing_numbers refl k e)

late_not : (k : ℕ) → is_late k ≡ true → (is_early k ≡ false) × (is_of_typing k ≡ false)
late_not k e = go (is_early k) (is_of_typing k) e
  where
    go : (s t : Bool) → not (s || t) ≡ true → (s ≡ false) × (t ≡ false)
    go true t e = absurd (false≢true e)
    go false true e = absurd (false≢true e)
    go false false e = (refl, refl)

-- ---- refused before typing

module _ (G : Given) (early : EarlyFirst G) {call : Call} (own : OwnNumbers call) (R : Reading) where
  before_early : (r : Refusal) → before_typing_to G call ≡ Err r → is_early r.number ≡ true
  before_early r = go (first_of G.first) refl
    where
      go : (v : Verdict) → first_of G.first ≡ v
          → or_else v (or_else (first_of (call.before_model G.tables)) (model_and_schema_check G.tables)) ≡ Err r → is_early r.number ≡ true
      go (Ok tt) p u =
          number_of (numbered_or (numbered_list (call.before_model G.tables) (own.early G.tables)) (schema_numbered G.tables)) u
      go (Err s) p u = early r (p ∙ u)

  late : GetsTo G call → (r : Refusal) → answer_to G R call ≡ Err r → is_early r.number ≡ false
  late g r e = go (typing_check G.tables R) refl (sym (given_answer G R call g) ∙ e)
    where
      go : (v : Verdict) → typing_check G.tables R ≡ v → or_else v (first_of (call.after_typing G.tables)) ≡ Err r → is_early r.number ≡ false
      go (Ok tt) p u = (late_not r.number (number_of (numbered_list (call.after_typing G.tables) (own.late G.tables)) u)).0
      go (Err s) p u = typing_not_early r.number (number_of (typing_numbered G.tables R) (p ∙ u))

  -- a call refuses by an early number exactly where it does not get as far as typing
  pub given_early : ((r : Refusal) × (answer_to G R call ≡ Err r) × (is_early r.number ≡ true)) ↔ (GetsTo G call → ⊥)
  given_early = (
    λ p g. false≢true (sym (late g p.0 p.1) ∙ p.2),
    λ g. go g (before_typing_to G call) refl,
  )
    where
      go : (GetsTo G call → ⊥) → (v : Verdict) → before_typing_to G call ≡ v
          → (r : Refusal) × (answer_to G R call ≡ Err r) × (is_early r.number ≡ true)
      go g (Ok tt) e = absurd (g e)
      go g (Err r) e = (r, given_before G R call e, before_early r e)

whole_early : (T : Tables) → EarlyFirst (whole T)
whole_early T r e = number_of (form_numbered T) (sym (first_form T) ∙ e)

pub refused_early : (T : Tables) {call : Call} → OwnNumbers call → (R : Reading)
    → ((r : Refusal) × (answer T R call ≡ Err r) × (is_early r.number ≡ true)) ↔ (GetsAsFarAsTyping T call → ⊥)
refused_early T own = given_early (whole T) (whole_early T) own

-- the two calls' own numbers are of their places
pub checking_own : (room : ℕ) → OwnNumbers (checking room)
unfolding ◌gives◌
checking_own room = record { early = λ T. refl; late = λ T. refl }

pub configuring_own : (c r1 r2 r3 r4 : ℕ) → OwnNumbers (configuring c r1 r2 r3 r4)
unfolding ◌gives◌
configuring_own c r1 r2 r3 r4 = record { early = λ T. refl; late = λ T. refl }

module _ (T : Tables) (R : Reading) where
  -- a call whose own conditions before 12 do not hold does so exactly where the tables are not sound
  pub own_early : {call : Call} → OwnNumbers call → first_of (call.before_model T) ≡ Ok tt
      → ((r : Refusal) × (answer T R call ≡ Err r) × (is_early r.number ≡ true)) ↔ (Sound T → ⊥)
  own_early {call} own none =
      let e = refused_early T own R in (λ p s. e.0 p ((own_gets (whole T) call s).1 none), λ n. e.1 (λ g. n (gets_given (whole T) call g)))

  -- checking with 1,024 words of rows, and configuring
  pub check_early : ((r : Refusal) × (answer T R (checking 1024) ≡ Err r) × (is_early r.number ≡ true)) ↔ (Sound T → ⊥)
  check_early = own_early (checking_own 1024) (first_one _ _)

  pub configure_early : (c r1 r2 r3 r4 : ℕ)
      → ((r : Refusal) × (answer T R (configuring c r1 r2 r3 r4) ≡ Err r) × (is_early r.number ≡ true)) ↔ (Sound T → ⊥)
  configure_early c r1 r2 r3 r4 = own_early (configuring_own c r1 r2 r3 r4) first_none

  -- ---- accepted

  -- of sound tables a check with 1,024 words of rows answers as typing does
  pub check_typing : Sound T → answer T R (checking 1024) ≡ typing_check T R
  check_typing s =
      given_answer (whole T) R (checking 1024) ((check_gets T s 1024).1 refl) ∙ ap (or_else (typing_check T R)) first_none ∙ or_else_accepted (typing_check T R)

  -- so it accepts them exactly where no form fails at any configuration
  pub accepted_exactly : Sound T
      → (answer T R (checking 1024) ≡ Ok tt)
      ↔ ((c q phase : ℕ) → c < configurations T → q < query_count T → phase < 2 → fails_by T R c phase q ≡ false)
  accepted_exactly s = let e = check_typing s in (λ a. (typing_accepted T R).0 (sym e ∙ a), λ f. e ∙ (typing_accepted T R).1 f)

-- ---- refused for a typing fault

-- the second phase finds nothing in a form that is no select
other_phase : (T : Tables) (c q : ℕ) → rule_number (form_at T q) ≢ 16 → fails T c 1 q ≡ false
unfolding faults
other_phase T c q n = (holds_where T c q 1).1 (λ r. go (form_at T q) n)
  where
    go : (y : Query) → rule_number y ≢ 16 → clashes_in T c y ≡ 0
    go Query.Malformed n = refl
    go Query.Empty n = refl
    go (Query.Relation a) n = refl
    go (Query.Select a b) n = absurd (n refl)
    go (Query.Project a b) n = refl
    go (Query.Choice a b d) n = refl
    go (Query.Product a b) n = refl
    go (Query.Union a b) n = refl
    go (Query.Intersection a b) n = refl

-- the number of a rule is below 25
pub rule_below : (y : Query) → rule_number y < 25
rule_below Query.Malformed = omega arith
rule_below Query.Empty = omega arith
rule_below (Query.Relation a) = omega arith
rule_below (Query.Select a b) = omega arith
rule_below (Query.Project a b) = omega arith
rule_below (Query.Choice a b d) = omega arith
rule_below (Query.Product a b) = omega arith
rule_below (Query.Union a b) = omega arith
rule_below (Query.Intersection a b) = omega arith

-- 15 is of a relation form, 16 of a select, 17 of a project, all of the first phase
pub number_form : (phase : ℕ) (y : Query) → (fault_number phase y ≡ 15 → (phase ≡ 0) × (a : ℕ) × (y ≡ Query.Relation a))
    × (fault_number phase y ≡ 16 → (phase ≡ 0) × (a : ℕ) × (b : ℕ) × (y ≡ Query.Select a b))
    × (fault_number phase y ≡ 17 → (phase ≡ 0) × (a : ℕ) × (b : ℕ) × (y ≡ Query.Project a b))
number_form zero Query.Malformed = (λ e. absurd (omega arith), λ e. absurd (omega arith), λ e. absurd (omega arith))
number_form zero Query.Empty = (λ e. absurd (omega arith), λ e. absurd (omega arith), λ e. absurd (omega arith))
number_form zero (Query.Relation a) = (λ e. (refl, a, refl), λ e. absurd (omega arith), λ e. absurd (omega arith))
number_form zero (Query.Select a b) = (λ e. absurd (omega arith), λ e. (refl, a, b, refl), λ e. absurd (omega arith))
number_form zero (Query.Project a b) = (λ e. absurd (omega arith), λ e. absurd (omega arith), λ e. (refl, a, b, refl))
number_form zero (Query.Choice a b d) = (λ e. absurd (omega arith), λ e. absurd (omega arith), λ e. absurd (omega arith))
number_form zero (Query.Product a b) = (λ e. absurd (omega arith), λ e. absurd (omega arith), λ e. absurd (omega arith))
number_form zero (Query.Union a b) = (λ e. absurd (omega arith), λ e. absurd (omega arith), λ e. absurd (omega arith))
number_form zero (Query.Intersection a b) = (λ e. absurd (omega arith), λ e. absurd (omega arith), λ e. absurd (omega arith))
number_form (suc phase) y = (λ e. absurd (omega arith), λ e. absurd (omega arith), λ e. absurd (omega arith))

-- 25 is of a later phase, and in that a select alone has faults
clash_select : (T : Tables) (phase c q : ℕ) → fault_number phase (form_at T q) ≡ 25 → faults T c phase q ≢ 0
    → (0 < phase) × (a : ℕ) × (b : ℕ) × (form_at T q ≡ Query.Select a b)
unfolding faults
clash_select T zero c q e n = absurd (omega (arith, rule_below (form_at T q), e))
clash_select T (suc zero) c q e n = go (form_at T q) refl n
  where
    go : (y : Query) → form_at T q ≡ y → clashes_in T c y ≢ 0 → (0 < 1) × (a : ℕ) × (b : ℕ) × (form_at T q ≡ Query.Select a b)
    go Query.Malformed p n = absurd (n refl)
    go Query.Empty p n = absurd (n refl)
    go (Query.Relation a) p n = absurd (n refl)
    go (Query.Select a b) p n = (omega arith, a, b, p)
    go (Query.Project a b) p n = absurd (n refl)
    go (Query.Choice a b d) p n = absurd (n refl)
    go (Query.Product a b) p n = absurd (n refl)
    go (Query.Union a b) p n = absurd (n refl)
    go (Query.Intersection a b) p n = absurd (n refl)
clash_select T (suc (suc phase)) c q e n = absurd (n refl)

module _ {T : Tables} (F : Formed T) where
  -- where a form fails the report breaks a rule
  pub report_breaks_lem : (c phase q : ℕ) → q < query_count T → phase < 2 → fails T c phase q ≡ true
      → passes (kind_of T) (configured_schema T c) (configured_report T c Reading.Strict) ≡ false
  report_breaks_lem c phase q h n e = go (passes (kind_of T) (configured_schema T c) (configured_report T c Reading.Strict)) refl
    where
      go : (t : Bool) → passes (kind_of T) (configured_schema T c) (configured_report T c Reading.Strict) ≡ t → t ≡ false
      go true p = absurd (false≢true (sym ((report-passes F c (fails_permitted T Reading.Strict c phase q e)).0 p q phase h n) ∙ e))
      go false p = refl

  fault_breaks : (r : Refusal) → TypingFault T Reading.Strict r → Breaks T r
  fault_breaks r f = record {
    permits = f.permits;
    report_breaks = report_breaks_lem r.configuration f.phase r.place f.inside f.is_phase f.failing;
    reaches = here;
    part = reached_part F r.configuration r.place here;
    operands_keep = (operands_pass_lem T r.configuration (form_at T r.place)).0 node.0;
    form_breaks = node.1;
    lower_forms = λ q c l e. reached-passes F c q e (λ x phase k n. f.lower_forms x phase c (omega arith) n (within c q e));
    lower_configurations =
        λ not16 c l e.
        reached-passes F c r.place e
        (λ x phase k n.
        ⊎_elim (λ (s : x ≡ r.place). ap (fails T c phase) s ∙ own_phases not16 c l e phase n)
        (λ (s : x < r.place). f.lower_forms x phase c s n (within c r.place e)) (eq-or-lt_of_le k));
    lower_compared = λ is16 c l e.
        let s = the_select is16 in
        compared_where F c r.place s.0 s.1 s.2 e (below_forms c e)
        ∙ eq-eqb (faults T c 0 r.place) 0 ((holds_where T c r.place 0).0 (first_phase is16 c l) e);
    missing = λ is16.
        let s = the_select is16 in
        compared_where F r.configuration r.place s.0 s.1 s.2 here (below_forms r.configuration here)
        ∙ ne_eqb (faults T r.configuration 0 r.place) 0 (rw (is_first is16) at ((fails_where T r.configuration r.place f.phase).0 f.failing).1);
    compared_always = λ is25 c e.
        let s = kind_select is25 in
        compared_where F c r.place s.1 s.2 s.3 e (below_forms c e)
        ∙ eq-eqb (faults T c 0 r.place) 0 ((holds_where T c r.place 0).0 (f.lower_phases 0 c (let z = s.0 in omega arith) (within c r.place e)) e);
    two_kinds = λ is25.
        let s = kind_select is25 in
        let second : f.phase ≡ 1 = (let l = s.0 in let n = f.is_phase in omega arith) in
        alike_where F r.configuration r.place s.1 s.2 f.inside s.3
        ∙ ne_eqb (faults T r.configuration 1 r.place) 0 (rw second at ((fails_where T r.configuration r.place f.phase).0 f.failing).1);
  }
    where
      here : reached T r.configuration r.place ≡ true
      here = ((fails_where T r.configuration r.place f.phase).0 f.failing).0

      within : (c q : ℕ) → reached T c q ≡ true → c < configurations T
      within c q e = permitted_within T c (reached-permitted T c q e)

      node : (operands_pass T r.configuration (form_at T r.place) ≡ true)
          × (passes (kind_of T) (configured_schema T r.configuration) (plain_query_at T r.configuration Reading.Strict r.place) ≡ false)
      node =
          lowest_breaks F r.configuration r.place f.phase f.is_phase f.failing
          (λ x phase l n. f.lower_forms x phase r.configuration l n (permitted_within T r.configuration f.permits))

      -- at a lower configuration the forms below keep their rules
      below_forms : (c : ℕ) → reached T c r.place ≡ true → (x phase : ℕ) → x < r.place → phase < 2 → fails T c phase x ≡ false
      below_forms c e x phase l n = f.lower_forms x phase c l n (within c r.place e)

      -- 25 is of the second phase, so 16 of the first
      is_first : r.number ≡ 16 → f.phase ≡ 0
      is_first is16 = ((number_form f.phase (form_at T r.place)).1 (sym f.numbered ∙ is16)).0

      the_select : r.number ≡ 16 → (a : ℕ) × (b : ℕ) × (form_at T r.place ≡ Query.Select a b)
      the_select is16 = let s = (number_form f.phase (form_at T r.place)).1 (sym f.numbered ∙ is16) in (s.1, s.2, s.3)

      kind_select : r.number ≡ 25 → (0 < f.phase) × (a : ℕ) × (b : ℕ) × (form_at T r.place ≡ Query.Select a b)
      kind_select is25 =
          clash_select T f.phase r.configuration r.place (sym f.numbered ∙ is25)
          ((fails_where T r.configuration r.place f.phase).0 f.failing).1

      first_phase : r.number ≡ 16 → (c : ℕ) → c < r.configuration → fails T c 0 r.place ≡ false
      first_phase is16 c l = ap (λ (i : ℕ). fails T c i r.place) (sym (is_first is16)) ∙ f.lower_configurations c l

      -- where it is not 16 the form fails at no lower configuration in either phase: a form other than a select has one phase, and before the second
      -- the first has found nothing anywhere
      own_phases : r.number ≢ 16 → (c : ℕ) → c < r.configuration → reached T c r.place ≡ true → (phase : ℕ) → phase < 2
          → fails T c phase r.place ≡ false
      own_phases not16 c l e phase n = go f.phase refl phase n
        where
          go : (i : ℕ) → f.phase ≡ i → (phase : ℕ) → phase < 2 → fails T c phase r.place ≡ false
          go zero p zero m = ap (λ (i : ℕ). fails T c i r.place) (sym p) ∙ f.lower_configurations c l
          go zero p (suc zero) m = other_phase T c r.place (λ s. not16 (f.numbered ∙ ap (λ (i : ℕ). fault_number i (form_at T r.place)) p ∙ s))
          go (suc i) p zero m = f.lower_phases 0 c (omega arith) (within c r.place e)
          go (suc zero) p (suc zero) m = ap (λ (i : ℕ). fails T c i r.place) (sym p) ∙ f.lower_configurations c l
          go (suc (suc i)) p (suc zero) m = absurd (let k = f.is_phase in omega arith)
          go i p (suc (suc phase)) m = absurd (omega arith)

  typing_broken : (is_typing_fault (typing_check T Reading.Strict) ≡ true) ↔ Broken T
  typing_broken = (forth (typing_check T Reading.Strict) refl, back (typing_check T Reading.Strict) refl)
    where
      forth : (v : Verdict) → typing_check T Reading.Strict ≡ v → is_typing_fault v ≡ true → Broken T
      forth (Ok tt) e t = absurd (false≢true t)
      forth (Err r) e t = let b = fault_breaks r ((typing_refused T Reading.Strict r).0 e) in (r.configuration, b.permits, b.report_breaks)

      back : (v : Verdict) → typing_check T Reading.Strict ≡ v → Broken T → is_typing_fault v ≡ true
      back (Ok tt) e b = absurd (false≢true (sym b.2 ∙ (typing_passes F).0 e b.0 b.1))
      back (Err r) e b = fault_number_lem T Reading.Strict r ((typing_refused T Reading.Strict r).0 e)

-- what comes after typing is no typing fault
no_fault : {v : Verdict} → Numbered is_late v → is_typing_fault v ≡ false
no_fault Numbered.accepts = refl
no_fault (Numbered.refuses {r} h) = (late_not r.number h).1

late_fault : (t : Verdict) (xs : List Condition) → all_give is_late xs ≡ true → is_typing_fault (or_else t (first_of xs)) ≡ is_typing_fault t
late_fault (Ok tt) xs h = no_fault (numbered_list xs h)
late_fault (Err r) xs h = refl

-- a call that gets as far as typing refuses for a typing fault exactly where typing refuses
pub given_fault : (G : Given) (R : Reading) {call : Call} → OwnNumbers call → GetsTo G call
    → is_typing_fault (answer_to G R call) ≡ is_typing_fault (typing_check G.tables R)
given_fault G R {call} own gets =
    ap is_typing_fault (given_answer G R call gets) ∙ late_fault (typing_check G.tables R) (call.after_typing G.tables) (own.late G.tables)

-- ---- demand 3, of any answer that is typing's, and then that of conditions with late numbers

module _ {T : Tables} (F : Formed T) {v : Verdict} (xs : List Condition) (late_numbers : all_give is_late xs ≡ true)
    (is : v ≡ or_else (typing_check T Reading.Strict) (first_of xs))
  where
    same_fault : is_typing_fault v ≡ is_typing_fault (typing_check T Reading.Strict)
    same_fault = ap is_typing_fault is ∙ late_fault (typing_check T Reading.Strict) xs late_numbers

    -- it refuses for a typing fault exactly where the report breaks a plain rule at some permitted configuration
    typed_broken : (is_typing_fault v ≡ true) ↔ Broken T
    typed_broken = let b = typing_broken F in (λ e. b.0 (sym same_fault ∙ e), λ e. same_fault ∙ b.1 e)

    -- the configuration that it then names is one of those, and the form, the configuration and the item are the lowest
    typed_named : is_typing_fault v ≡ true → NamedBy T v
    typed_named e = go (typing_check T Reading.Strict) refl (sym same_fault ∙ e)
      where
        go : (t : Verdict) → typing_check T Reading.Strict ≡ t → is_typing_fault (typing_check T Reading.Strict) ≡ true → NamedBy T v
        go (Ok tt) p t = absurd (false≢true (sym (ap is_typing_fault p) ∙ t))
        go (Err r) p t =
            let f = (typing_refused T Reading.Strict r).0 p in
            record { refuses = r; answers = is ∙ then_refused _ p; fault = f; lowest_item = fault_item F r f; breaks = fault_breaks F r f }

    -- no report that passes at every permitted configuration is refused so
    typed_never : PassesThroughout T → is_typing_fault v ≡ false
    typed_never h = go (is_typing_fault v) refl
      where
        go : (t : Bool) → is_typing_fault v ≡ t → t ≡ false
        go true e = let b = typed_broken.0 e in absurd (false≢true (sym b.2 ∙ h b.0 b.1))
        go false e = refl

-- of a call that gets as far as typing, whatever it is given
module _ (G : Given) (forms : Forms G) {call : Call} (own : OwnNumbers call) (gets : GetsTo G call) where
  pub given_broken : (is_typing_fault (answer_to G Reading.Strict call) ≡ true) ↔ Broken G.tables
  given_broken = typed_broken (given_formed G call forms gets) (call.after_typing G.tables) (own.late G.tables) (given_answer G Reading.Strict call gets)

  pub given_named : is_typing_fault (answer_to G Reading.Strict call) ≡ true → NamedBy G.tables (answer_to G Reading.Strict call)
  given_named = typed_named (given_formed G call forms gets) (call.after_typing G.tables) (own.late G.tables) (given_answer G Reading.Strict call gets)

  pub given_never : PassesThroughout G.tables → is_typing_fault (answer_to G Reading.Strict call) ≡ false
  given_never = typed_never (given_formed G call forms gets) (call.after_typing G.tables) (own.late G.tables) (given_answer G Reading.Strict call gets)

-- and so of whole tables
module _ (T : Tables) {call : Call} (own : OwnNumbers call) (gets : GetsAsFarAsTyping T call) where
  pub refused_broken : (is_typing_fault (answer T Reading.Strict call) ≡ true) ↔ Broken T
  refused_broken = given_broken (whole T) (whole_forms T) own gets

  pub refused_named : is_typing_fault (answer T Reading.Strict call) ≡ true → Named T call
  refused_named = given_named (whole T) (whole_forms T) own gets

  pub never_refused : PassesThroughout T → is_typing_fault (answer T Reading.Strict call) ≡ false
  never_refused = given_never (whole T) (whole_forms T) own gets
