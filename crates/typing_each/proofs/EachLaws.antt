-- The typing check from its answers at each configuration alone: taken together they are its answer (each_typing).
use Rattle.std.specs.Prelude.{Ok, Err}
use Prim.Native.Nat.{ℕ, zero, suc, ◌+◌, ◌*◌, ◌≤◌, ◌<◌}
use mathlib.Core.Path.{◌≡◌, refl, sym, ap, ◌∙◌, subst}
use mathlib.Core.Bool.{Bool, true, false, cond}
use native.Mathlib.Numerals.{add-one}
use native.Mathlib.Decide.{dec_lt, ℕ_discrete, le_ind}
use native.Mathlib.Omega.{arith}
use borrow.Author.Tests.{ltb-true, ltb-false, lt-ltb, le-ltb, eq-eqb, ne_eqb}
use lib.Dec.{ltb}
use Rattle.report.specs.Tables.{Tables, query, query_count}
use Rattle.report.specs.Expressions.{configurations, permitted}
use Rattle.report.specs.Typing.{phases}
use Rattle.report.specs.Readings.{fails_by}
use Rattle.report.specs.Verdicts.{Verdict, refuse_if}
use Rattle.report.specs.Checks.{rule_number, fault_number, fault_refusal, typing_check}
use Rattle.report.specs.declared.Query.{Query}
use Rattle.report.specs.declared.Refusal.{Refusal}
use Rattle.report.specs.declared.Reading.{Reading}
use Rattle.report.proofs.VerdictLaws.{accepted_not_refused, if_accepted, first_refused}
use Rattle.report.proofs.TypingLaws.{fails_permitted, typing_accepted, typing_refused}
use Rattle.report.proofs.Refusing.{rule_below}
use Rattle.verdicts.specs.Sooner.{precedes, sooner}
use Rattle.typing_at.specs.TypingAt.{phase_here, form_here, typing_here}
use Rattle.typing_at.proofs.AnswerLaws.{form_accepted, here_accepted, nothing_here}
use Rattle.typing_each.specs.TypingEach.{typing_below}

-- ---- the order of forms and phases

-- the position of a phase of form q where the phases of all forms follow one another, forms ascending
abbrev position : ℕ → ℕ → ℕ
position q phase = q * phases + phase

-- at the configurations from `from` on and below `to`, nothing fails at a position below n
abbrev NoneBefore : Tables → Reading → ℕ → ℕ → ℕ → Type 0
NoneBefore T R from to n = (q phase c : ℕ) → phase < phases → position q phase < n → from ≤ c → c < to → fails_by T R c phase q ≡ false

-- the number of a rule is below that of kinds, so the numbers of form q have the order of its phases
number_order : (q i phase : ℕ) (y : Query) → i < phases → phase < phases
    → ltb (fault_number i y) (fault_number phase y) ≡ ltb (position q i) (position q phase)
number_order q zero zero y h n = le-ltb (rule_number y) (rule_number y) (omega arith) ∙ sym (le-ltb (position q 0) (position q 0) (omega arith))
number_order q zero (suc phase) y h n = lt-ltb (rule_number y) 25 (rule_below y) ∙ sym (lt-ltb (position q 0) (position q (suc phase)) (omega arith))
number_order q (suc i) zero y h n =
    le-ltb 25 (rule_number y) (omega (arith, rule_below y)) ∙ sym (le-ltb (position q (suc i)) (position q 0) (omega arith))
number_order q (suc i) (suc phase) y h n = sym (le-ltb (position q (suc i)) (position q (suc phase)) (omega arith))

-- a refusal precedes another exactly where its position is lower
precedes_order : (T : Tables) (R : Reading) (p i d q phase c : ℕ) → i < phases → phase < phases
    → precedes (fault_refusal T R p i d) (fault_refusal T R q phase c) ≡ ltb (position p i) (position q phase)
precedes_order T R p i d q phase c h n = go (dec_lt p q) (ℕ_discrete p q)
  where
    go : Dec (p < q) → Dec (p ≡ q) → precedes (fault_refusal T R p i d) (fault_refusal T R q phase c) ≡ ltb (position p i) (position q phase)
    go (yes l) s = rw (lt-ltb p q l) (sym (lt-ltb (position p i) (position q phase) (omega arith)))
    go (no l) (yes s) = rw (s, le-ltb q q (omega arith), eq-eqb q q refl) (number_order q i phase (query T.queries q) h n)
    go (no l) (no s) = rw (le-ltb p q (omega arith), ne_eqb p q s) (sym (le-ltb (position p i) (position q phase) (omega arith)))

-- ---- a range of configurations

-- Form q fails at c in this phase. At the configurations from `from` on, nothing fails below `to` at a lower position, and below c at this one either
record FirstFault (T : Tables) (R : Reading) (from to q phase c : ℕ) : Type 0 where
  inside : q < query_count T
  is_phase : phase < phases
  failing : fails_by T R c phase q ≡ true
  earlier : NoneBefore T R from to (position q phase)
  lower : NoneBefore T R from c (suc (position q phase))

-- the answer from the configurations from `from` on and below `to`: by form, then by phase, then by configuration
data Answer (T : Tables) (R : Reading) (from to : ℕ) : Verdict → Type 0 where
  none : NoneBefore T R from to (query_count T * phases) → Answer T R from to (Ok tt)
  first : {q phase c : ℕ} → FirstFault T R from to q phase c → Answer T R from to (Err (fault_refusal T R q phase c))

module _ (T : Tables) (R : Reading) (c : ℕ) where
  -- the range that is c alone
  at_one : (n : ℕ) → ((q phase : ℕ) → phase < phases → position q phase < n → fails_by T R c phase q ≡ false) → NoneBefore T R c (suc c) n
  at_one n f q phase d h l a b = ap (λ (x : ℕ). fails_by T R x phase q) (omega arith) ∙ f q phase h l

  -- the first fault there is that of the lowest form that fails, in its first phase that fails
  first_here : (q phase : ℕ) → q < query_count T → phase < phases → fails_by T R c phase q ≡ true
      → ((p : ℕ) → p < q → form_here T R c p ≡ Ok tt) → ((i : ℕ) → i < phase → phase_here T R c q i ≡ Ok tt)
      → FirstFault T R c (suc c) q phase c
  first_here q phase h n e forms_before phases_before = record {
    inside = h;
    is_phase = n;
    failing = e;
    earlier = at_one (position q phase) (λ p i k l. before p i k l (dec_lt p q));
    lower = λ p i d k l a b. absurd (omega arith);
  }
    where
      before : (p i : ℕ) → i < phases → position p i < position q phase → Dec (p < q) → fails_by T R c i p ≡ false
      before p i k l (yes m) = (form_accepted T R c p).0 (forms_before p m) i k
      before p i k l (no m) =
          ap (fails_by T R c i) (omega arith) ∙ if_accepted (fails_by T R c i q) (fault_refusal T R q i c) (phases_before i (omega arith))

  -- the answer at c alone
  here_answer : Answer T R c (suc c) (typing_here T R c)
  unfolding typing_here
  here_answer = go (typing_here T R c) refl
    where
      refused : (t : Bool) (s : Refusal) {r : Refusal} → refuse_if t s ≡ Err r → (t ≡ true) × (s ≡ r)
      refused true s e = (refl, cc)
      refused false s e = accepted_not_refused e refl

      go : (v : Verdict) → typing_here T R c ≡ v → Answer T R c (suc c) v
      go (Ok tt) e = Answer.none (at_one (query_count T * phases) (λ q phase h l. (here_accepted T R c).0 e q phase (omega arith) h))
      go (Err r) e =
          let f = first_refused (form_here T R c) (query_count T) 0 r e in
          let g = first_refused (phase_here T R c f.at) phases 0 r f.gave in
          let a = refused (fails_by T R c g.at f.at) (fault_refusal T R f.at g.at c) g.gave in
          subst (λ (s : Refusal). Answer T R c (suc c) (Err s)) a.1
          (Answer.first
          (first_here f.at g.at (omega (arith, f.below)) (omega (arith, g.below)) a.0 (λ p. f.before p (omega arith))
          (λ i. g.before i (omega arith))))

-- ---- a range of configurations, and another that starts where it ends

-- where nothing fails in either below a position, nothing does in the two together
join_none : (T : Tables) (R : Reading) (from mid to : ℕ) {n m k : ℕ} → k ≤ n → k ≤ m → NoneBefore T R from mid n → NoneBefore T R mid to m
    → NoneBefore T R from to k
join_none T R from mid to a b f g q phase c h l u v = go (dec_lt c mid)
  where
    go : Dec (c < mid) → fails_by T R c phase q ≡ false
    go (yes w) = f q phase c h (omega arith) u w
    go (no w) = g q phase c h (omega arith) (omega arith) v

module _ (T : Tables) (R : Reading) (from mid to : ℕ) where
  -- the first fault of the one is that of both where nothing fails in the other at a lower position
  first_lower : {q phase c n : ℕ} → position q phase ≤ n → FirstFault T R from mid q phase c → NoneBefore T R mid to n → FirstFault T R from to q phase c
  first_lower a f g = record {
    inside = f.inside;
    is_phase = f.is_phase;
    failing = f.failing;
    earlier = join_none T R from mid to (omega arith) a f.earlier g;
    lower = f.lower;
  }

  -- that of the other where nothing fails in the one up to its position
  first_higher : {q phase c n : ℕ} → position q phase < n → NoneBefore T R from mid n → FirstFault T R mid to q phase c → FirstFault T R from to q phase c
  first_higher {c} a f g = record {
    inside = g.inside;
    is_phase = g.is_phase;
    failing = g.failing;
    earlier = join_none T R from mid to (omega arith) (omega arith) f g.earlier;
    lower = join_none T R from mid c a (omega arith) f g.lower;
  }

  -- of two first faults it is the one whose refusal precedes, and otherwise the lower one
  sooner_fault : {q phase c p i d : ℕ} → FirstFault T R from mid q phase c → FirstFault T R mid to p i d
      → Answer T R from to (sooner (Err (fault_refusal T R q phase c)) (Err (fault_refusal T R p i d)))
  sooner_fault {q} {phase} {c} {p} {i} {d} f g =
      rw (precedes_order T R p i d q phase c g.is_phase f.is_phase) (go (ltb (position p i) (position q phase)) refl)
    where
      go : (t : Bool) → ltb (position p i) (position q phase) ≡ t
          → Answer T R from to (cond t (Err (fault_refusal T R p i d)) (Err (fault_refusal T R q phase c)))
      go true e = Answer.first (first_higher (ltb-true (position p i) (position q phase) e) f.earlier g)
      go false e = Answer.first (first_lower (ltb-false (position p i) (position q phase) e) f g.earlier)

  -- the answer from both is the sooner of their answers
  sooner_answer : {v w : Verdict} → Answer T R from mid v → Answer T R mid to w → Answer T R from to (sooner v w)
  sooner_answer (Answer.none f) (Answer.none g) = Answer.none (join_none T R from mid to (omega arith) (omega arith) f g)
  sooner_answer (Answer.none f) (Answer.first g) = Answer.first (first_higher (omega arith) f g)
  sooner_answer (Answer.first f) (Answer.none g) = Answer.first (first_lower (omega arith) f g)
  sooner_answer (Answer.first f) (Answer.first g) = sooner_fault f g

-- ---- all configurations

module _ (T : Tables) (R : Reading) where
  -- the answer from the configurations below k
  below_answer : (k : ℕ) → Answer T R 0 k (typing_below T R k)
  unfolding typing_below
  below_answer zero = Answer.none (λ q phase c h l a b. absurd (omega arith))
  below_answer (suc k) = sooner_answer T R 0 k (suc k) (below_answer k) (here_answer T R k)

  -- the answer from all configurations is the typing check's
  answer_typing : {k : ℕ} {v : Verdict} → configurations T ≤ k → Answer T R 0 k v → typing_check T R ≡ v
  answer_typing m (Answer.none f) =
      (typing_accepted T R).1 (λ c q phase h l n. f q phase c n (omega arith) (omega arith) (omega arith))
  answer_typing m (Answer.first {q} {phase} {c} f) =
      (typing_refused T R (fault_refusal T R q phase c)).1
      (record {
        inside = f.inside;
        permits = fails_permitted T R c phase q f.failing;
        phase = phase;
        is_phase = f.is_phase;
        failing = f.failing;
        numbered = refl;
        item_of = refl;
        lower_forms = λ p i d l h n. f.earlier p i d h (omega arith) (omega arith) (omega arith);
        lower_phases = λ i d l n. f.earlier q i d (omega (arith, f.is_phase)) (omega arith) (omega arith) (omega arith);
        lower_configurations = λ d l. f.lower q phase d f.is_phase (omega arith) (omega arith) l;
      })

  -- the answers at each configuration alone, taken together, are the typing check's
  pub each_typing : (k : ℕ) → configurations T ≤ k → typing_below T R k ≡ typing_check T R
  each_typing k h = sym (answer_typing h (below_answer k))

  -- ---- configurations that are not permitted

  sooner_accepted : (v : Verdict) → sooner v (Ok tt) ≡ v
  sooner_accepted (Ok tt) = refl
  sooner_accepted (Err r) = refl

  -- they change nothing
  pub below_skips : (j k : ℕ) → j ≤ k → ((c : ℕ) → j ≤ c → c < k → permitted T c ≡ false) → typing_below T R k ≡ typing_below T R j
  unfolding typing_below
  below_skips j =
      le_ind (λ k. ((c : ℕ) → j ≤ c → c < k → permitted T c ≡ false) → typing_below T R k ≡ typing_below T R j) (λ f. refl)
      (λ k l ih f.
      ap (sooner (typing_below T R k)) (nothing_here T R k (f k l (omega arith))) ∙ sooner_accepted (typing_below T R k) ∙ ih (λ c a b. f c a (omega arith)))

  -- so after them the next configuration adds its own answer
  pub below_more : (j c : ℕ) → j ≤ c → ((d : ℕ) → j ≤ d → d < c → permitted T d ≡ false)
      → typing_below T R (c + 1) ≡ sooner (typing_below T R j) (typing_here T R c)
  unfolding typing_below
  below_more j c h f = ap (typing_below T R) (add-one c) ∙ ap (λ (v : Verdict). sooner v (typing_here T R c)) (below_skips j c h f)
