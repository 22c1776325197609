-- The sentences of docs/FORMAT.md, "Readings", of whatever a call is given (specs/FilledDemands).
use Rattle.std.specs.Prelude.{Ok, Err}
use Prim.Native.Nat.{ℕ, ◌^◌, ◌<◌}
use mathlib.Core.Path.{◌≡◌, refl, sym, ap, ◌∙◌}
use mathlib.Core.Bool.{Bool, true, false, cond, ◌&&◌, not, false≢true}
use mathlib.Core.Logic.{◌≢◌}
use native.Mathlib.Decide.{dec_lt}
use native.Mathlib.Omega.{arith}
use borrow.Author.Tests.{eqb-true}
use lib.Dec.{eqb}
use Rattle.sets.specs.Search.{First}
use Rattle.sets.specs.Bits.{bit}
use Rattle.sets.proofs.BitLaws.{bit_above, bit_none, bit_pow, trailing_member, trailing_first}
use Rattle.sets.proofs.SearchLaws.{at_lowest}
use Rattle.report.specs.Tables.{Tables, query_count}
use Rattle.report.specs.Typing.{reached, present}
use Rattle.report.specs.Readings.{faults_by, fails_by}
use Rattle.report.specs.Verdicts.{Verdict, refusal}
use Rattle.report.specs.Checks.{rule_number, typing_check, is_of_typing, is_typing_fault}
use Rattle.report.specs.Formed.{Formed}
use Rattle.report.specs.Calls.{Call, Given, answer_to, GetsTo, whole, answer, GetsAsFarAsTyping, OwnNumbers}
use Rattle.report.specs.GivenDemands.{Forms}
use Rattle.report.specs.TypingFaults.{TypingFault}
use Rattle.report.specs.declared.Query.{Query}
use Rattle.report.specs.declared.Reading.{Reading}
use Rattle.report.specs.declared.Refusal.{Refusal}
use Rattle.report.proofs.VerdictLaws.{both_accepted, accepted_both, then_refused}
use Rattle.report.proofs.LeadLaws.{form_at}
use Rattle.report.proofs.ReachLaws.{reached_in}
use Rattle.report.proofs.SetLaws.{narrow_by}
use Rattle.report.proofs.ReadingLaws.{fails_by_lem}
use Rattle.report.proofs.TreeLaws.{reached-permitted}
use Rattle.report.proofs.TypingLaws.{fails_permitted, fails_refused, typing_refused, fault_item, fault_accepted}
use Rattle.report.proofs.CallLaws.{given_answer, given_formed, given_typed, whole_forms}
use Rattle.report.proofs.Refusing.{number_form, given_fault}
use Rattle.report.proofs.SameTables.{same_tables}
use Rattle.report.proofs.WrittenAccepted.{given_passes, given_shown, given_written}
use Rattle.filled.specs.FilledDemands.{AbsentThroughout, MissingThroughout, LowestAbsent, LowestMissing, LowerFormsKeep, FilledNamed, FilledDemanded, FilledDemandsTo}
use Rattle.filled.proofs.FilledLaws.{some_bit, filled_fault, relation_faults, relation_fails, entry_fails}
use Rattle.filled.proofs.Sentences.{strict_accepts, never_refused, refusal_breaks}
use Rattle.filled.proofs.ReadRulesLaws.{accepts_by, rows_by}

-- ---- what fails throughout fails

module _ (T : Tables) where
  absent_fails : {c q a : ℕ} → AbsentThroughout T c q a → fails_by T Reading.Filled c 0 q ≡ true
  absent_fails {c} {q} {a} A = (relation_fails T q a A.form c).1 (A.reaches, A.absent)

  -- the item at fault in the form of a relation that is absent is the relation
  relation_item : (c q a : ℕ) → form_at T q ≡ Query.Relation a → present T c a ≡ false → (x : ℕ) → bit (faults_by T Reading.Filled c 0 q) x ≡ true
      → x ≡ a
  relation_item c q a form away x b =
      eqb-true x a
      (sym (bit_pow a x)
      ∙ ap (λ (s : ℕ). bit s x) (sym (relation_faults T q a form c ∙ ap (λ (t : Bool). cond t 0 (2 ^ a)) away))
      ∙ ((filled_fault T q c x).0 b).0)

  missing_bit : {c q x : ℕ} → MissingThroughout T c q x → bit (faults_by T Reading.Filled c 0 q) x ≡ true
  missing_bit {c} {q} {x} M = (entry_fails T q M.count M.of M.form c x M.reaches).1 (M.listed, M.missing)

  missing_fails : {c q x : ℕ} → MissingThroughout T c q x → fails_by T Reading.Filled c 0 q ≡ true
  missing_fails {c} {q} {x} M =
      (fails_by_lem T Reading.Filled c 0 q).1 (M.reaches, λ z. false≢true (sym (bit_none x) ∙ ap (λ (s : ℕ). bit s x) (sym z) ∙ missing_bit M))

-- ---- a refusal

module _ {T : Tables} (F : Formed T) (r : Refusal) (e : typing_check T Reading.Filled ≡ Err r) where
  f : TypingFault T Reading.Filled r
  f = (typing_refused T Reading.Filled r).0 e

  item_first : First (bit (faults_by T Reading.Filled r.configuration f.phase r.place)) 64 r.item
  item_first = fault_item F r f

  -- in the first phase
  module _ (p : f.phase ≡ 0) where
    fails_first : fails_by T Reading.Filled r.configuration 0 r.place ≡ true
    fails_first = ap (λ (i : ℕ). fails_by T Reading.Filled r.configuration i r.place) (sym p) ∙ f.failing

    none_lower : (c : ℕ) → c < r.configuration → fails_by T Reading.Filled c 0 r.place ≡ false
    none_lower c l = ap (λ (i : ℕ). fails_by T Reading.Filled c i r.place) (sym p) ∙ f.lower_configurations c l

    item_at : bit (faults_by T Reading.Filled r.configuration 0 r.place) r.item ≡ true
    item_at = ap (λ (i : ℕ). bit (faults_by T Reading.Filled r.configuration i r.place) r.item) (sym p) ∙ item_first.holds

    none_below : (x : ℕ) → x < r.item → bit (faults_by T Reading.Filled r.configuration 0 r.place) x ≡ false
    none_below x l = ap (λ (i : ℕ). bit (faults_by T Reading.Filled r.configuration i r.place) x) (sym p) ∙ item_first.before x l

  is_relation : r.number ≡ 15 → (f.phase ≡ 0) × (a : ℕ) × (form_at T r.place ≡ Query.Relation a)
  is_relation n = (number_form f.phase (form_at T r.place)).0 (sym f.numbered ∙ n)

  is_project : r.number ≡ 17 → (f.phase ≡ 0) × (a : ℕ) × (b : ℕ) × (form_at T r.place ≡ Query.Project a b)
  is_project n = (number_form f.phase (form_at T r.place)).2 (sym f.numbered ∙ n)

  absent_here : r.number ≡ 15 → AbsentThroughout T r.configuration r.place r.item
  absent_here n =
      let i = is_relation n in
      let p = (relation_fails T r.place i.1 i.2 r.configuration).0 (fails_first i.0) in
      let s = relation_item T r.configuration r.place i.1 i.2 (p.1 r.configuration p.0) r.item (item_at i.0) in
      record {
        form = i.2 ∙ ap (λ (a : ℕ). Query.Relation a) (sym s);
        reaches = p.0;
        absent = λ d u. ap (present T d) s ∙ p.1 d u;
      }

  lowest_reached : r.number ≡ 15 → (c : ℕ) → c < r.configuration → reached T c r.place ≡ false
  lowest_reached n c l = go (reached T c r.place) refl
    where
      go : (t : Bool) → reached T c r.place ≡ t → t ≡ false
      go false u = refl
      go true u =
          let A = absent_here n in
          absurd (false≢true
          (sym (none_lower (is_relation n).0 c l) ∙ absent_fails T (record { form = A.form; reaches = u; absent = A.absent })))

  missing_here : r.number ≡ 17 → MissingThroughout T r.configuration r.place r.item
  missing_here n =
      let i = is_project n in
      let u = ((fails_by_lem T Reading.Filled r.configuration 0 r.place).0 (fails_first i.0)).0 in
      let p = (entry_fails T r.place i.1 i.2 i.3 r.configuration r.item u).0 (item_at i.0) in
      record { count = i.1; of = i.2; form = i.3; reaches = u; listed = p.0; missing = p.1 }

  pub refused_filled : FilledNamed T r
  refused_filled = record {
    breaks = refusal_breaks F r e;
    absent = λ n. record { is = absent_here n; lower = lowest_reached n };
    missing = λ n. record {
      is = missing_here n;
      lower = λ c x l M. false≢true (sym (none_lower (is_project n).0 c l) ∙ missing_fails T M);
      lower_item = λ x l M. false≢true (sym (none_below (is_project n).0 x l) ∙ missing_bit T M);
    };
    lower_forms = f.lower_forms;
  }

-- ---- and where no lower form fails it is refused so

-- there is one first
first_one : (test : ℕ → Bool) {i j : ℕ} → First test 64 i → First test 64 j → i ≡ j
first_one test {i} {j} f g = let p = at_lowest test 64 i f in let q = at_lowest test 64 j g in cc

-- a member of a word is below 64
member_below : (s : ℕ) → s < 2 ^ 64 → (x : ℕ) → bit s x ≡ true → x < 64
member_below s n x b = go (dec_lt x 64)
  where
    go : Dec (x < 64) → x < 64
    go (yes l) = l
    go (no l) = absurd (false≢true (sym (bit_above 64 s x n (omega arith)) ∙ b))

module _ {T : Tables} (F : Formed T) where
  -- a form that fails first at c, its lowest item at fault there being x
  refused_at : (c q x : ℕ) → q < query_count T → fails_by T Reading.Filled c 0 q ≡ true → First (bit (faults_by T Reading.Filled c 0 q)) 64 x
      → ((d : ℕ) → d < c → fails_by T Reading.Filled d 0 q ≡ false) → LowerFormsKeep T q
      → typing_check T Reading.Filled ≡ Err (refusal (rule_number (form_at T q)) q x c)
  refused_at c q x h failing item before lower =
      let s = faults_by T Reading.Filled c 0 q in
      let n = narrow_by F Reading.Filled c 0 q h in
      let z = ((fails_by_lem T Reading.Filled c 0 q).0 failing).1 in
      (typing_refused T Reading.Filled (refusal (rule_number (form_at T q)) q x c)).1
      (record {
        inside = h;
        permits = fails_permitted T Reading.Filled c 0 q failing;
        phase = 0;
        is_phase = omega arith;
        failing = failing;
        numbered = refl;
        item_of = first_one (bit s) item (trailing_first 64 s n z) ∙ sym (trailing_member s n z);
        lower_forms = lower;
        lower_phases = λ p d l. absurd (omega arith);
        lower_configurations = before;
      })

  inside : (c q : ℕ) → reached T c q ≡ true → q < query_count T
  inside c q r = reached_in F c (reached-permitted T c q r) q r

  pub absent_refused_lem : {c q a : ℕ} → LowestAbsent T c q a → LowerFormsKeep T q → typing_check T Reading.Filled ≡ Err (refusal 15 q a c)
  absent_refused_lem {c} {q} {a} L lower =
      let A = L.is in
      let failing = absent_fails T A in
      let s = faults_by T Reading.Filled c 0 q in
      let n = narrow_by F Reading.Filled c 0 q (inside c q A.reaches) in
      let z = ((fails_by_lem T Reading.Filled c 0 q).0 failing).1 in
      let first = trailing_first 64 s n z in
      let e = relation_item T c q a A.form (A.absent c A.reaches) _ first.holds in
      refused_at c q a (inside c q A.reaches) failing (rw (← e) first) (λ d l. none d (reached T d q) (L.lower d l)) lower
      ∙ ap (λ (y : Query). Err (refusal (rule_number y) q a c)) A.form
    where
      none : (d : ℕ) (t : Bool) → t ≡ false → (t && not (eqb (faults_by T Reading.Filled d 0 q) 0)) ≡ false
      none d t e = ap (λ (t : Bool). t && not (eqb (faults_by T Reading.Filled d 0 q) 0)) e

  pub missing_refused_lem : {c q x : ℕ} → LowestMissing T c q x → LowerFormsKeep T q → typing_check T Reading.Filled ≡ Err (refusal 17 q x c)
  missing_refused_lem {c} {q} {x} L lower =
      let M = L.is in
      let h = inside c q M.reaches in
      refused_at c q x h (missing_fails T M)
      (record {
        below = member_below (faults_by T Reading.Filled c 0 q) (narrow_by F Reading.Filled c 0 q h) x (missing_bit T M);
        holds = missing_bit T M;
        before = λ y l. none (bit (faults_by T Reading.Filled c 0 q) y) refl (λ b. L.lower_item y l (throughout c y M.reaches b));
      })
      (λ d l. none (fails_by T Reading.Filled d 0 q) refl (λ f. earlier d l ((fails_by_lem T Reading.Filled d 0 q).0 f)))
      lower
      ∙ ap (λ (y : Query). Err (refusal (rule_number y) q x c)) M.form
    where
      none : (t : Bool) {u : Bool} → u ≡ t → (u ≡ true → ⊥) → u ≡ false
      none true e f = absurd (f e)
      none false e f = e

      -- what is at fault in the form is missing throughout
      throughout : (d y : ℕ) → reached T d q ≡ true → bit (faults_by T Reading.Filled d 0 q) y ≡ true → MissingThroughout T d q y
      throughout d y r b =
          let M = L.is in
          let p = (entry_fails T q M.count M.of M.form d y r).0 b in
          record { count = M.count; of = M.of; form = M.form; reaches = r; listed = p.0; missing = p.1 }

      earlier : (d : ℕ) → d < c → (reached T d q ≡ true) × (faults_by T Reading.Filled d 0 q ≢ 0) → ⊥
      earlier d l p = some_bit (faults_by T Reading.Filled d 0 q) p.1 (λ y. none (bit (faults_by T Reading.Filled d 0 q) y) refl (λ b. L.lower d y l (throughout d y p.0 b)))

-- ---- a call that is told the filled reading

module _ (G : Given) (forms : Forms G) {call : Call} (own : OwnNumbers call) (gets : GetsTo G call) where
  abbrev T : Tables
  T = G.tables

  F : Formed T
  F = given_formed G call forms gets

  same_fault : is_typing_fault (answer_to G Reading.Filled call) ≡ is_typing_fault (typing_check T Reading.Filled)
  same_fault = given_fault G Reading.Filled own gets

  refuses : {r : Refusal} → typing_check T Reading.Filled ≡ Err r → answer_to G Reading.Filled call ≡ Err r
  refuses e = given_answer G Reading.Filled call gets ∙ then_refused _ e

  names : (r : Refusal) → answer_to G Reading.Filled call ≡ Err r → is_of_typing r.number ≡ true → FilledNamed T r
  names r e t = go (typing_check T Reading.Filled) refl
    where
      go : (v : Verdict) → typing_check T Reading.Filled ≡ v → FilledNamed T r
      go (Ok tt) p = absurd (false≢true (sym (ap is_typing_fault p) ∙ sym same_fault ∙ ap is_typing_fault e ∙ t))
      go (Err s) p = let same : s ≡ r = (let q = refuses p in cc) in refused_filled F r (p ∙ ap (λ (x : Refusal). Err x) same)

  failed : (c q : ℕ) → fails_by T Reading.Filled c 0 q ≡ true → is_typing_fault (answer_to G Reading.Filled call) ≡ true
  failed c q u = same_fault ∙ fails_refused F Reading.Filled c 0 q (omega arith) u

  pub filled_demands_to : FilledDemandsTo G call
  filled_demands_to = record {
    named = names;
    absent_refused = λ c q a L lower. refuses (absent_refused_lem F L lower);
    missing_refused = λ c q x L lower. refuses (missing_refused_lem F L lower);
    absent_fault = λ c q a A. failed c q (absent_fails T A);
    missing_fault = λ c q x M. failed c q (missing_fails T M);
    never = λ h. same_fault ∙ ap is_typing_fault (never_refused F h Reading.Filled);
    strictly = λ e.
        let p = both_accepted (typing_check T Reading.Strict) _ (sym (given_answer G Reading.Strict call gets) ∙ e) in
        given_answer G Reading.Filled call gets ∙ accepted_both (strict_accepts T Reading.Filled p.0) p.1;
    same = λ e c. same_tables F (given_typed G Reading.Strict call e) c;
    passing = λ e c ok. given_passes G forms Reading.Filled call e c ok;
    showing = λ e c ok. given_shown G forms Reading.Filled call e c ok;
    writing = λ e c ok. given_written G forms Reading.Filled call e c ok;
    ruled = (
      λ t. (accepts_by F Reading.Filled).0 ((fault_accepted T Reading.Filled).0 (sym same_fault ∙ t)),
      λ p. same_fault ∙ (fault_accepted T Reading.Filled).1 ((accepts_by F Reading.Filled).1 p),
    );
    rows = λ S keep. rows_by F Reading.Filled S keep;
  }

-- of whole tables
pub whole_filled : (T : Tables) {call : Call} → OwnNumbers call → GetsAsFarAsTyping T call
    → FilledDemanded T (answer T Reading.Strict call) (answer T Reading.Filled call)
whole_filled T own gets = filled_demands_to (whole T) (whole_forms T) own gets
