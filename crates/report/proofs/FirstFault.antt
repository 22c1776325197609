-- The checks as lists of conditions (specs/Conditions): each answers the first of its conditions that holds, and accepts exactly when none holds.
use Rattle.std.specs.Prelude.{Option, Some, None, Ok, Err}
use Prim.Native.Nat.{ℕ, zero, suc, ◌+◌, ◌-◌, ◌^◌, ◌≤◌, ◌<◌}
use mathlib.Core.Path.{◌≡◌, refl, sym, ap, ap₂, ◌∙◌, fun_ext}
use mathlib.Core.Logic.{◌↔◌}
use mathlib.Core.Bool.{Bool, true, false, ◌&&◌, not, false≢true}
use mathlib.Core.List.{List, [], ◌∷◌, ◌++◌}
use native.Mathlib.Nat.{add-zero, add-suc, suc-add, zero-add, le_refl, not-suc-le-zero, le_of_suc-le-suc}
use native.Mathlib.Omega.{arith}
use borrow.Author.Tests.{eq-eqb, ne_eqb, le-ltb, ltb-false}
use lib.ListN.{length, get_or}
use lib.Dec.{ltb, eqb}
use Rattle.sets.specs.Search.{seek, lowest, found_or_0}
use Rattle.sets.specs.Lists.{concat}
use Rattle.sets.specs.Bits.{bit, lowest_member}
use Rattle.report.specs.Tables.{Tables, shape_of, shapes, words, entry_attribute, relation_length, relation_start, query}
use Rattle.report.specs.Tables.{relation_count, query_count}
use Rattle.report.specs.Expressions.{configurations, permitted}
use Rattle.report.specs.Typing.{reached}
use Rattle.report.specs.Readings.{faults_by, fails_by}
use Rattle.report.specs.Verdicts.{Verdict, refusal, refuse_if, refuse_at, or_else, first_from}
use Rattle.report.specs.Verdicts.{Condition, ◌gives◌, each, first_of, condition, NoneHolds, Foremost}
use Rattle.report.specs.FormChecks.{form_check, tables_check, kinds_check, length_fits, lengths_check, expressions_check, entries_check, relations_check, comparisons_check, queries_check, untaken_check}
use Rattle.report.specs.Checks.{fault_number, somewhere, absent_everywhere, apart_everywhere, relation_check, model_and_schema_check, phase_at, typing_at, typing_check}
use Rattle.report.specs.Conditions.{form_conditions, relation_conditions, schema_conditions, typing_conditions}
use Rattle.report.specs.Calls.{permitted_condition, room_conditions, configuring}
use Rattle.report.specs.declared.Refusal.{Refusal}
use Rattle.report.specs.declared.Reading.{Reading}
use Rattle.sets.proofs.SearchLaws.{lowest_nothing, nothing_lowest, lowest_at}
use Rattle.sets.proofs.BitLaws.{zero_bits, bit_none}
use Rattle.report.proofs.VerdictLaws.{or_else_assoc, or_else_accepted, both_accepted, accepted_both, if_accepted, accepted_if, accepted_not_refused}

-- ---- the first of a list

pub first_none : first_of [] ≡ Ok tt
unfolding first_of
first_none = refl

pub first_one : (b : Bool) (r : Refusal) → first_of (b gives r) ≡ refuse_if b r
unfolding first_of ◌gives◌
first_one b r = or_else_accepted (refuse_if b r)

pub first_append : (xs ys : List Condition) → first_of (xs ++ ys) ≡ or_else (first_of xs) (first_of ys)
unfolding first_of
first_append [] ys = refl
first_append (x ∷ xs) ys =
    ap (or_else (refuse_if x.holds x.gives)) (first_append xs ys) ∙ sym (or_else_assoc (refuse_if x.holds x.gives) (first_of xs) (first_of ys))

-- one check more at the end, and checks counted from another number
first_last : (check : ℕ → Verdict) (n from : ℕ) → first_from check (suc n) from ≡ or_else (first_from check n from) (check (from + n))
first_last check zero from = or_else_accepted (check from) ∙ ap check (sym (add-zero from))
first_last check (suc n) from =
    ap (or_else (check from))
    (first_last check n (suc from)
    ∙ ap (λ (k : ℕ). or_else (first_from check n (suc from)) (check k)) (suc-add from n ∙ sym (add-suc from n)))
    ∙ sym (or_else_assoc (check from) (first_from check n (suc from)) (check (from + suc n)))

first_shift : (check : ℕ → Verdict) (n from at : ℕ) → first_from check n (from + at) ≡ first_from (λ k. check (from + k)) n at
first_shift check zero from at = refl
first_shift check (suc n) from at =
    ap (or_else (check (from + at))) (ap (first_from check n) (sym (add-suc from at)) ∙ first_shift check n from (suc at))

pub first_concat : (n : ℕ) (f : ℕ → List Condition) → first_of (concat n f) ≡ first_from (λ k. first_of (f k)) n 0
first_concat zero f = first_none
first_concat (suc n) f =
    first_append (concat n f) (f n) ∙ ap₂ or_else (first_concat n f) (ap (λ (k : ℕ). first_of (f k)) (sym (zero-add n)))
    ∙ sym (first_last (λ k. first_of (f k)) n 0)

first_same : (f g : ℕ → Verdict) (n from : ℕ) → ((k : ℕ) → from ≤ k → k < from + n → f k ≡ g k) → first_from f n from ≡ first_from g n from
first_same f g zero from h = refl
first_same f g (suc n) from h =
    ap₂ or_else (h from (le_refl from) (omega arith)) (first_same f g n (suc from) (λ k l m. h k (omega arith) (omega arith)))

-- a search refuses at the first number whose condition holds
first_search : (r : ℕ → Refusal) (test : ℕ → Bool) (n from : ℕ) → refuse_at r (seek test n from) ≡ first_from (λ k. refuse_if (test k) (r k)) n from
first_search r test zero from = refl
first_search r test (suc n) from = go (test from) refl (first_search r test n (suc from))
  where
    rest : Verdict
    rest = first_from (λ k. refuse_if (test k) (r k)) n (suc from)

    go : (b : Bool) → test from ≡ b → refuse_at r (seek test n (suc from)) ≡ rest
        → refuse_at r (seek test (suc n) from) ≡ or_else (refuse_if (test from) (r from)) rest
    go true e ih = rw (e, seek)
    go false e ih = rw (e, seek) ih

-- the conditions of forms 0 to n - 1 of a table
first_every : (n : ℕ) (test : ℕ → Bool) (r : ℕ → Refusal) → first_of (each n test r) ≡ first_from (λ k. refuse_if (test k) (r k)) n 0
unfolding each
first_every n test r =
    first_concat n (λ k. test k gives r k) ∙ ap (λ (check : ℕ → Verdict). first_from check n 0) (fun_ext (λ k. first_one (test k) (r k)))

first_each : (n : ℕ) (test : ℕ → Bool) (r : ℕ → Refusal) → first_of (each n test r) ≡ refuse_at r (lowest test n)
first_each n test r = first_every n test r ∙ sym (first_search r test n 0)

-- the conditions of a list of n entries from `start` on
first_list : (n start : ℕ) (test : ℕ → Bool) (r : ℕ → Refusal) → first_of (each n (λ i. test (start + i)) (λ i. r (start + i))) ≡ refuse_at r (seek test n start)
first_list n start test r =
    first_every n (λ i. test (start + i)) (λ i. r (start + i)) ∙ sym (first_shift (λ k. refuse_if (test k) (r k)) n start 0)
    ∙ sym (first_search r test n (start + 0)) ∙ ap (λ (k : ℕ). refuse_at r (seek test n k)) (add-zero start)

module _ (T : Tables) where
  first_lengths : first_of (each 5 (λ t. not (length_fits (get_or shapes t (shape_of 1 0 0)) (length (get_or (words T) t [])))) (λ t. refusal 2 t 0 0)) ≡ lengths_check T
  first_lengths = first_every 5 _ _

  pub first_form : first_of (form_conditions T) ≡ form_check T
  unfolding form_check tables_check kinds_check form_conditions expressions_check entries_check relations_check comparisons_check queries_check untaken_check
  first_form = simp (first_append, first_one, first_lengths, first_each, or_else_assoc)

  first_relation : (r : ℕ) → first_of (relation_conditions T r) ≡ relation_check T r
  first_relation r =
      first_append (absent_everywhere T r gives refusal 13 r 0 0) _
      ∙ ap₂ or_else (first_one _ _)
      (first_list (relation_length T.relations r) (relation_start T.relations r) (apart_everywhere T r)
      (λ i. refusal 14 r (entry_attribute T.entries i) 0))

  pub first_schema : first_of (schema_conditions T) ≡ model_and_schema_check T
  unfolding schema_conditions
  first_schema =
      first_append (not (somewhere T (λ c. true)) gives refusal 12 0 0 0) (concat (relation_count T) (relation_conditions T))
      ∙ ap₂ or_else (first_one _ _)
      (first_concat (relation_count T) (relation_conditions T) ∙ ap (λ (check : ℕ → Verdict). first_from check (relation_count T) 0) (fun_ext first_relation))

-- the lowest item of a set that is not empty
first_item : (s : ℕ) (r : ℕ → Refusal) → s < 2 ^ 64 → refuse_if (not (eqb s 0)) (r (lowest_member s)) ≡ refuse_at r (lowest (bit s) 64)
first_item s r h = go (lowest (bit s) 64) refl
  where
    go : (f : Option ℕ) → lowest (bit s) 64 ≡ f → refuse_if (not (eqb s 0)) (r (lowest_member s)) ≡ refuse_at r f
    go None e =
        ap (λ (b : Bool). refuse_if (not b) (r (lowest_member s))) (eq-eqb s 0 (zero_bits 64 s h (λ i l. lowest_nothing (bit s) 64 e i l)))
    go (Some k) e =
        ap₂ (λ (b : Bool) (f : Option ℕ). refuse_if (not b) (r (found_or_0 f)))
        (ne_eqb s 0 (λ z. false≢true (sym (bit_none k) ∙ ap (λ (x : ℕ). bit x k) (sym z) ∙ (lowest_at (bit s) 64 k e).holds))) e

-- the items at fault of a form at one configuration, which may not be reached
first_fault : (t : Bool) (s : ℕ) (r : ℕ → Refusal) → s < 2 ^ 64
    → first_of (each 64 (λ a. t && bit s a) r) ≡ refuse_if (t && not (eqb s 0)) (r (lowest_member s))
first_fault true s r h = first_each 64 (bit s) r ∙ sym (first_item s r h)
first_fault false s r h = first_each 64 (λ a. false) r ∙ ap (refuse_at r) (nothing_lowest (λ a. false) 64 (λ k l. refl))

module _ (T : Tables) (R : Reading) (narrow : (c phase q : ℕ) → q < query_count T → faults_by T R c phase q < 2 ^ 64) where
  -- one form in one phase
  abbrev phase_conditions : ℕ → ℕ → List Condition
  phase_conditions q phase =
      concat (configurations T)
      (λ c. each 64 (λ a. reached T c q && bit (faults_by T R c phase q) a) (λ a. refusal (fault_number phase (query T.queries q)) q a c))

  first_at : (q phase : ℕ) → q < query_count T → first_of (phase_conditions q phase) ≡ phase_at T R q phase
  first_at q phase h =
      first_concat (configurations T) _
      ∙ ap (λ (check : ℕ → Verdict). first_from check (configurations T) 0)
      (fun_ext (λ c. first_fault (reached T c q) (faults_by T R c phase q) _ (narrow c phase q h)))
      ∙ sym (first_search _ (λ c. fails_by T R c phase q) (configurations T) 0)

  first_phases : (q : ℕ) → q < query_count T → first_of (concat 2 (phase_conditions q)) ≡ typing_at T R q
  first_phases q h = first_concat 2 (phase_conditions q) ∙ first_same _ (phase_at T R q) 2 0 (λ phase l n. first_at q phase h)

  pub first_typing : first_of (typing_conditions T R) ≡ typing_check T R
  unfolding typing_check typing_conditions
  first_typing = first_concat (query_count T) _ ∙ first_same _ (typing_at T R) (query_count T) 0 (λ q l h. first_phases q (omega arith))

-- ---- what 'first' says: the least in the order of the list

-- what is known of the later conditions, where the first does not hold
later : {x : Condition} {xs : List Condition} {r : Refusal} → x.holds ≡ false → Foremost xs r → Foremost (x ∷ xs) r
later {x} {xs} e f =
    record { at = suc f.at; below = let b = f.below in omega arith; holds = f.holds; refuses = f.refuses; before = go }
  where
    go : (j : ℕ) → j < suc f.at → (condition (x ∷ xs) j).holds ≡ false
    go zero l = e
    go (suc j) l = f.before j (le_of_suc-le-suc l)

refused_is : {a b : Refusal} → ◌≡◌ {A = Verdict} (Err a) (Err b) → a ≡ b
refused_is e = cc

pub first_foremost : (xs : List Condition) (r : Refusal) → first_of xs ≡ Err r → Foremost xs r
unfolding first_of
first_foremost [] r e = accepted_not_refused e refl
first_foremost (x ∷ xs) r e = go x.holds refl (first_foremost xs r)
  where
    go : (b : Bool) → x.holds ≡ b → (first_of xs ≡ Err r → Foremost xs r) → Foremost (x ∷ xs) r
    go true p ih =
        record {
          at = 0;
          below = omega arith;
          holds = p;
          refuses = refused_is (sym (ap (λ (b : Bool). or_else (refuse_if b x.gives) (first_of xs)) p) ∙ e);
          before = λ j l. absurd (not-suc-le-zero l);
        }
    go false p ih = later p (ih (sym (ap (λ (b : Bool). or_else (refuse_if b x.gives) (first_of xs)) p) ∙ e))

pub foremost_first : (xs : List Condition) (r : Refusal) → Foremost xs r → first_of xs ≡ Err r
unfolding first_of
foremost_first [] r f = absurd (not-suc-le-zero f.below)
foremost_first (x ∷ xs) r f = go f.at refl (foremost_first xs r)
  where
    go : (k : ℕ) → f.at ≡ k → (Foremost xs r → first_of xs ≡ Err r) → first_of (x ∷ xs) ≡ Err r
    go zero e ih =
        ap₂ (λ (b : Bool) (g : Refusal). or_else (refuse_if b g) (first_of xs)) (ap (λ (k : ℕ). (condition (x ∷ xs) k).holds) (sym e) ∙ f.holds)
        (ap (λ (k : ℕ). (condition (x ∷ xs) k).gives) (sym e) ∙ f.refuses)
    go (suc k) e ih =
        ap (λ (b : Bool). or_else (refuse_if b x.gives) (first_of xs)) (f.before 0 (omega arith))
        ∙ ih
        (record {
          at = k;
          below = let b = f.below in omega arith;
          holds = ap (λ (k : ℕ). (condition (x ∷ xs) k).holds) (sym e) ∙ f.holds;
          refuses = ap (λ (k : ℕ). (condition (x ∷ xs) k).gives) (sym e) ∙ f.refuses;
          before = λ j l. f.before (suc j) (omega arith);
        })

pub none_holds : (xs : List Condition) → first_of xs ≡ Ok tt → NoneHolds xs
unfolding first_of
none_holds [] e k = refl
none_holds (x ∷ xs) e zero = if_accepted x.holds x.gives (both_accepted (refuse_if x.holds x.gives) (first_of xs) e).0
none_holds (x ∷ xs) e (suc k) = none_holds xs (both_accepted (refuse_if x.holds x.gives) (first_of xs) e).1 k

pub holds_none : (xs : List Condition) → NoneHolds xs → first_of xs ≡ Ok tt
unfolding first_of
holds_none [] h = refl
holds_none (x ∷ xs) h = accepted_both (accepted_if x.gives (h 0)) (holds_none xs (λ k. h (suc k)))

-- ---- configuring's own conditions, one after another

module _ (T : Tables) (r1 r2 r3 r4 : ℕ) where
  pub first_room : first_of (room_conditions r1 r2 r3 r4 T)
      ≡ or_else (refuse_if (ltb r1 (length T.entries)) (refusal 21 1 0 0))
      (or_else (refuse_if (ltb r2 (length T.relations)) (refusal 21 2 0 0))
      (or_else (refuse_if (ltb r3 (length T.comparisons)) (refusal 21 3 0 0)) (refuse_if (ltb r4 (length T.queries)) (refusal 21 4 0 0))))
  first_room = simp (first_append, first_one, or_else_assoc)

  -- 21 accepts exactly where each table lent for writing is as long as its source
  pub room_fits : (first_of (room_conditions r1 r2 r3 r4 T) ≡ Ok tt)
      ↔ ((length T.entries ≤ r1) × (length T.relations ≤ r2) × (length T.comparisons ≤ r3) × (length T.queries ≤ r4))
  room_fits = (
    λ e.
        let a = both_accepted _ _ (sym first_room ∙ e) in
        let b = both_accepted _ _ a.1 in
        let c = both_accepted _ _ b.1 in
        (fits _ r1 _ a.0, fits _ r2 _ b.0, fits _ r3 _ c.0, fits _ r4 _ c.1),
    λ h.
        first_room
        ∙ accepted_both (accepted_if _ (le-ltb r1 _ h.0))
        (accepted_both (accepted_if _ (le-ltb r2 _ h.1))
        (accepted_both (accepted_if _ (le-ltb r3 _ h.2)) (accepted_if _ (le-ltb r4 _ h.3)))),
  )
    where
      fits : (n r : ℕ) (x : Refusal) → refuse_if (ltb r n) x ≡ Ok tt → n ≤ r
      fits n r x e = ltb-false r n (if_accepted (ltb r n) x e)

pub first_own : (T : Tables) (c r1 r2 r3 r4 : ℕ)
    → first_of ((configuring c r1 r2 r3 r4).after_typing T)
    ≡ or_else (refuse_if (not (permitted T c)) (refusal 20 0 0 c)) (first_of (room_conditions r1 r2 r3 r4 T))
first_own T c r1 r2 r3 r4 =
    first_append (permitted_condition c T) (room_conditions r1 r2 r3 r4 T)
    ∙ ap (λ (v : Verdict). or_else v (first_of (room_conditions r1 r2 r3 r4 T))) (first_one _ _)
