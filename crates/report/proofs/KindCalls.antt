-- Kinds, of every call: where a call accepts both sides have one kind; where they do not a call that gets as far as typing refuses; where exactly it
-- answers by 25; and where 24 refuses.
use Rattle.std.specs.Prelude.{Ok, Err}
use Prim.Native.Nat.{ℕ, zero, suc, ◌≤◌, ◌<◌}
use mathlib.Core.Path.{◌≡◌, refl, sym, ap, ◌∙◌, subst}
use mathlib.Core.Bool.{Bool, true, false, not, false≢true}
use mathlib.Core.Logic.{◌↔◌, ◌≢◌}
use native.Mathlib.Decide.{dec_lt}
use native.Mathlib.Omega.{arith}
use borrow.Author.Tests.{le-leb, lt-leb, eq-eqb, ne_eqb}
use lib.ListN.{length}
use lib.Dec.{eqb}
use Rattle.sets.specs.Search.{First, found_or_0}
use Rattle.sets.specs.Bits.{bit}
use Rattle.sets.proofs.SearchLaws.{at_lowest}
use Rattle.sets.proofs.BitLaws.{bit_none, bit_above}
use Rattle.report.specs.Tables.{Tables, kind_of, comparison_count, query_count}
use Rattle.report.specs.Operands.{sides_in}
use Rattle.report.specs.Expressions.{permitted}
use Rattle.report.specs.Typing.{faults, fails}
use Rattle.report.specs.PlainAlgebra.{PlainComparison, PlainQuery, Schema, Kinds, one_kind, names_there, columns}
use Rattle.report.specs.ConfiguredReport.{plain_query_at, configured_schema}
use Rattle.report.specs.Verdicts.{Verdict, refusal, refuse_if, refuse_at}
use Rattle.report.specs.FormChecks.{constant_kind, kind_ok, constant_ok, kinds_check, tables_check, form_check}
use Rattle.report.specs.Checks.{fault_number, is_early, is_of_typing, is_typing_fault}
use Rattle.report.specs.Formed.{Formed}
use Rattle.report.specs.Calls.{Call, Given, before_typing_to, answer_to, GetsTo, whole, answer, Sound, GetsAsFarAsTyping, OwnNumbers}
use Rattle.report.specs.GivenDemands.{Forms}
use Rattle.report.specs.TypingFaults.{TypingFault, compared_there, compared_alike, Breaks, NamedBy}
use Rattle.report.specs.Kinds.{Differing, KindFault}
use Rattle.report.specs.declared.Query.{Query}
use Rattle.report.specs.declared.Refusal.{Refusal}
use Rattle.report.specs.declared.Reading.{Reading}
use Rattle.report.proofs.VerdictLaws.{accepted_not_refused, then_next, then_refused, accepted_both, accepted_if}
use Rattle.report.proofs.Formed.{fit_all}
use Rattle.report.proofs.SetLaws.{faults_narrow}
use Rattle.report.proofs.ReachLaws.{reached_in}
use Rattle.report.proofs.TreeLaws.{reached-permitted, fails_where}
use Rattle.report.proofs.TypingLaws.{fails_refused, permitted_within, typing_accepted, typing_refused, fault_item}
use Rattle.report.proofs.CallLaws.{given_answer, given_formed, given_gets, given_typed, gets_given, whole_forms, sound_formed, form_refused}
use Rattle.report.proofs.Refusing.{rule_below, refused_early, given_fault, given_named}
use Rattle.report.proofs.ReadingLaws.{fails_later}
use Rattle.report.proofs.KindMembers.{fault_differing, fails_differing}

-- ---- both sides have one kind, or the call refuses

-- "Both sides must have one kind at every configuration that reaches them": where a call accepts, they have
pub accepted_one_kind : (T : Tables) (R : Reading) (call : Call) → answer T R call ≡ Ok tt → (c q a g : ℕ) → Differing T c q a g → ⊥
accepted_one_kind T R call e c q a g d =
    let F = sound_formed T (gets_given (whole T) call (given_gets (whole T) R call e)) in
    let ok = reached-permitted T c q d.reaches in
    let none = (typing_accepted T R).0 (given_typed (whole T) R call e) c q 1 (permitted_within T c ok) (reached_in F c ok q d.reaches) (omega arith) in
    (fails_differing T c q).0 (sym (fails_later T R c 0 q) ∙ none) a g d

-- where they have not, every call that gets as far as typing refuses for a typing fault
pub differing_refused : (T : Tables) (R : Reading) → Sound T → {call : Call} → OwnNumbers call → GetsAsFarAsTyping T call → (c q a g : ℕ)
    → Differing T c q a g → is_typing_fault (answer T R call) ≡ true
differing_refused T R sound own gets c q a g d =
    given_fault (whole T) R own gets ∙ fails_refused (sound_formed T sound) R c 1 q (omega arith) (fails_later T R c 0 q ∙ go (fails T c 1 q) refl)
  where
    go : (t : Bool) → fails T c 1 q ≡ t → t ≡ true
    go true e = refl
    go false e = absurd ((fails_differing T c q).0 e a g d)

-- ---- 25

one_refusal : {v : Verdict} {s t : Refusal} → v ≡ Err s → v ≡ Err t → s ≡ t
one_refusal p q = cc

-- 25 is of the second phase
second_number : (phase : ℕ) (y : Query) → phase < 2 → fault_number phase y ≡ 25 → phase ≡ 1
second_number zero y n e = absurd (omega (arith, rule_below y, e))
second_number (suc phase) y n e = omega arith

module _ {T : Tables} (F : Formed T) (r : Refusal) (is25 : r.number ≡ 25) where
  -- a typing fault by 25 is one of kinds
  typing_kinds : TypingFault T Reading.Strict r → KindFault T r
  typing_kinds f = record {
    at = found.0;
    differs = found.1;
    lower_items = λ a g l d. false≢true (sym (rw second at (item.before a l)) ∙ ((fault_differing T r.configuration r.place a).1 (g, d)).1);
    lower_configurations = λ c a g l. (fails_differing T c r.place).0 (rw second at (f.lower_configurations c l)) a g;
    compared = λ c. f.lower_phases 0 c (omega (arith, second));
    lower_forms = f.lower_forms;
  }
    where
      second : f.phase ≡ 1
      second = second_number f.phase _ f.is_phase (sym f.numbered ∙ is25)

      item : First (bit (faults T r.configuration f.phase r.place)) 64 r.item
      item = fault_item F r f

      found : (g : ℕ) × Differing T r.configuration r.place r.item g
      found =
          (fault_differing T r.configuration r.place r.item).0
          (((fails_where T r.configuration r.place f.phase).0 f.failing).0, rw second at item.holds)

  -- and one of kinds is the typing fault
  kinds_typing : KindFault T r → TypingFault T Reading.Strict r
  kinds_typing k = record {
    inside = inside;
    permits = permits;
    phase = 1;
    is_phase = omega arith;
    failing = (fails_where T r.configuration r.place 1).1 (k.differs.reaches, some);
    numbered = is25;
    item_of = sym (ap found_or_0 (at_lowest (bit set) 64 r.item (record { below = below; holds = holds; before = λ a l. lower a l (bit set a) refl })));
    lower_forms = k.lower_forms;
    lower_phases = λ p c l h. let first : p ≡ 0 = omega arith in ap (λ (i : ℕ). fails T c i r.place) first ∙ k.compared c h;
    lower_configurations = λ c l. (fails_differing T c r.place).1 (λ a g. k.lower_configurations c a g l);
  }
    where
      set : ℕ
      set = faults T r.configuration 1 r.place

      permits : permitted T r.configuration ≡ true
      permits = reached-permitted T r.configuration r.place k.differs.reaches

      inside : r.place < query_count T
      inside = reached_in F r.configuration permits r.place k.differs.reaches

      holds : bit set r.item ≡ true
      holds = ((fault_differing T r.configuration r.place r.item).1 (k.at, k.differs)).1

      some : set ≢ 0
      some e = false≢true (sym (bit_none r.item) ∙ ap (λ (s : ℕ). bit s r.item) (sym e) ∙ holds)

      below : r.item < 64
      below = go (dec_lt r.item 64)
        where
          go : Dec (r.item < 64) → r.item < 64
          go (yes h) = h
          go (no h) =
              absurd (false≢true (sym (bit_above 64 set r.item (faults_narrow F r.configuration 1 r.place inside) (omega arith)) ∙ holds))

      lower : (a : ℕ) → a < r.item → (t : Bool) → bit set a ≡ t → bit set a ≡ false
      lower a l true e =
          let d = (fault_differing T r.configuration r.place a).0 (k.differs.reaches, e) in absurd (k.lower_items a d.0 l d.1)
      lower a l false e = e

-- a node that compares two kinds is a select
two_kinds : (kind : Kinds) (schema : Schema) (x : PlainQuery) → compared_there schema x ≡ true → compared_alike kind x ≡ false
    → (t : PlainComparison) × (q : PlainQuery) × (x ≡ PlainQuery.select t q) × (names_there (columns schema q) t ≡ true) × (one_kind kind t ≡ false)
two_kinds kind schema PlainQuery.empty e f = absurd (false≢true (sym f))
two_kinds kind schema (PlainQuery.relation r) e f = absurd (false≢true (sym f))
two_kinds kind schema (PlainQuery.select t q) e f = (t, q, refl, e, f)
two_kinds kind schema (PlainQuery.project l q) e f = absurd (false≢true (sym f))
two_kinds kind schema (PlainQuery.product p q) e f = absurd (false≢true (sym f))
two_kinds kind schema (PlainQuery.union p q) e f = absurd (false≢true (sym f))
two_kinds kind schema (PlainQuery.intersection p q) e f = absurd (false≢true (sym f))

-- of a call that gets as far as typing, whatever it is given
module _ (G : Given) (forms : Forms G) {call : Call} (own : OwnNumbers call) (gets : GetsTo G call) where
  named_25 : (r : Refusal) → r.number ≡ 25 → answer_to G Reading.Strict call ≡ Err r → NamedBy G.tables (answer_to G Reading.Strict call)
  named_25 r is25 e = given_named G forms own gets (ap is_typing_fault e ∙ ap is_of_typing is25)

  answers_25 : (r : Refusal) → r.number ≡ 25 → (answer_to G Reading.Strict call ≡ Err r) ↔ KindFault G.tables r
  answers_25 r is25 = (
    λ e. let n = named_25 r is25 e in typing_kinds formed r is25 (subst (TypingFault G.tables Reading.Strict) (one_refusal n.answers e) n.fault),
    λ k. given_answer G Reading.Strict call gets ∙ then_refused _ ((typing_refused G.tables Reading.Strict r).1 (kinds_typing formed r is25 k)),
  )
    where
      formed : Formed G.tables
      formed = given_formed G call forms gets

  -- it answers (25 f a c) if, and only if, kinds differ there so
  pub given_25 : (f a c : ℕ) → (answer_to G Reading.Strict call ≡ Err (refusal 25 f a c)) ↔ KindFault G.tables (refusal 25 f a c)
  given_25 f a c = answers_25 (refusal 25 f a c) refl

  -- and then the node of form f in the report configured at c is a select that compares two kinds, while its operand has all that it compares
  pub given_25_plain : (f a c : ℕ) → answer_to G Reading.Strict call ≡ Err (refusal 25 f a c)
      → (t : PlainComparison)
      × (q : PlainQuery)
      × (plain_query_at G.tables c Reading.Strict f ≡ PlainQuery.select t q)
      × (names_there (columns (configured_schema G.tables c) q) t ≡ true)
      × (one_kind (kind_of G.tables) t ≡ false)
  given_25_plain f a c e =
      let n = named_25 (refusal 25 f a c) refl e in
      let b = subst (Breaks G.tables) (one_refusal n.answers e) n.breaks in
      two_kinds (kind_of G.tables) (configured_schema G.tables c) (plain_query_at G.tables c Reading.Strict f) (b.compared_always refl c b.reaches) (b.two_kinds refl)

-- and so of whole tables
module _ (T : Tables) {call : Call} (own : OwnNumbers call) (gets : GetsAsFarAsTyping T call) where
  pub exactly_25 : (f a c : ℕ) → (answer T Reading.Strict call ≡ Err (refusal 25 f a c)) ↔ KindFault T (refusal 25 f a c)
  exactly_25 = given_25 (whole T) (whole_forms T) own gets

  pub plain_25 : (f a c : ℕ) → answer T Reading.Strict call ≡ Err (refusal 25 f a c)
      → (t : PlainComparison)
      × (q : PlainQuery)
      × (plain_query_at T c Reading.Strict f ≡ PlainQuery.select t q)
      × (names_there (columns (configured_schema T c) q) t ≡ true)
      × (one_kind (kind_of T) t ≡ false)
  plain_25 = given_25_plain (whole T) (whole_forms T) own gets

-- any call refuses by 25 for such a fault alone, since one that does so gets as far as typing
pub refused_25 : (T : Tables) {call : Call} → OwnNumbers call → (r : Refusal) → answer T Reading.Strict call ≡ Err r → r.number ≡ 25 → KindFault T r
refused_25 T {call} own r e is25 = (answers_25 (whole T) (whole_forms T) own gets r is25).0 e
  where
    -- 25 is no early number
    gets : GetsAsFarAsTyping T call
    gets = go (before_typing_to (whole T) call) refl
      where
        go : (v : Verdict) → before_typing_to (whole T) call ≡ v → GetsAsFarAsTyping T call
        go (Ok tt) p = p
        go (Err s) p =
            let early = (refused_early T own Reading.Strict).1 (λ g. accepted_not_refused p g) in
            absurd (false≢true (sym (ap is_early is25) ∙ ap (λ (x : Refusal). is_early x.number) (one_refusal e early.1) ∙ early.2))

-- ---- 24, "checked after 10"

module _ (T : Tables) (R : Reading) (call : Call) (ten : tables_check T ≡ Ok tt) where
  refused_24 : {r : Refusal} → kinds_check T.attributes T.kinds T.comparisons ≡ Err r → answer T R call ≡ Err r
  unfolding form_check
  refused_24 e = form_refused T R call (then_next ten ∙ e)

  -- "24 kind table not m words (place 0)"
  pub kind_table_refused : length T.kinds ≢ T.attributes → answer T R call ≡ Err (refusal 24 0 0 0)
  unfolding kinds_check
  kind_table_refused n =
      refused_24
      (then_refused _ (then_refused _ (ap (λ (t : Bool). refuse_if (not t) (refusal 24 0 0 0)) (ne_eqb (length T.kinds) T.attributes n))))

  module _ (long : length T.kinds ≡ T.attributes) where
    long_enough : refuse_if (not (eqb (length T.kinds) T.attributes)) (refusal 24 0 0 0) ≡ Ok tt
    long_enough = accepted_if _ (ap not (eq-eqb (length T.kinds) T.attributes long))

    -- "else a kind over 2 there (place the word)"
    pub kind_word_refused : (a : ℕ) → a < T.attributes → 2 < kind_of T a → ((b : ℕ) → b < a → kind_of T b ≤ 2)
        → answer T R call ≡ Err (refusal 24 a 0 0)
    unfolding kinds_check
    kind_word_refused a h over lower =
        refused_24
        (then_refused _
        (then_next long_enough
        ∙ ap (refuse_at (λ a. refusal 24 a 0 0))
        (at_lowest (λ a. not (kind_ok T a)) (length T.kinds) a
        (record { below = rw long h; holds = ap not (lt-leb _ 2 over); before = λ b l. ap not (le-leb _ 2 (lower b l)) }))))

    -- "else one in a comparison (place the form)", whether a query names it or not
    pub constant_refused : ((a : ℕ) → a < T.attributes → kind_of T a ≤ 2) → (f : ℕ) → f < comparison_count T
        → 2 < constant_kind (sides_in T.comparisons f) → ((g : ℕ) → g < f → constant_kind (sides_in T.comparisons g) ≤ 2)
        → answer T R call ≡ Err (refusal 24 f 0 0)
    unfolding kinds_check
    constant_refused right f h over lower =
        refused_24
        (then_next (accepted_both long_enough (fit_all _ (kind_ok T) (length T.kinds) (λ a l. le-leb _ 2 (right a (rw (← long) l)))))
        ∙ ap (refuse_at (λ f. refusal 24 f 0 0))
        (at_lowest (λ f. not (constant_ok T f)) (comparison_count T) f
        (record {
          below = h;
          holds = ap not (lt-leb _ 2 over);
          before = λ g l. ap not (le-leb _ 2 (lower g l));
        })))
