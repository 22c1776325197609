-- Laws of the typing check at one configuration: of one form, of the loop over the forms, and of what the parts hand to one another.
use Rattle.std.specs.Prelude.{Ok, Err}
use Prim.Native.Nat.{ℕ, ◌+◌, ◌-◌, ◌*◌, ◌/◌, ◌<◌, ◌≤◌}
use mathlib.Core.Path.{◌≡◌, refl, sym, ap, ap₂, ◌∙◌}
use mathlib.Core.Bool.{Bool, true, false, not, ◌&&◌}
use mathlib.Core.List.{List}
use native.Mathlib.Nat.{lt_of_lt_of_le}
use native.Mathlib.Numerals.{add-one}
use native.Mathlib.Omega.{arith}
use borrow.Author.Count.{below_more}
use borrow.Author.Tests.{not-true, not-false}
use lib.Dec.{eqb}
use lib.ListN.{length, get_or, replicate, length-replicate}
use lib.Pow.{pow_mono}
use Rattle.sets.specs.Bits.{difference, lowest_member}
use Rattle.sets.specs.Lists.{table}
use Rattle.sets.specs.Rows.{row_bit, row_in}
use Rattle.sets.proofs.ListLaws.{numbers_are}
use Rattle.sets.proofs.RowLaws.{row_bit-row_of}
use Rattle.report.specs.Tables.{Tables, query, kind_of, project_length, projected_before, comparison_count, query_count, report}
use Rattle.report.specs.Typing.{reached, gathered, set_of, faults_of, clashes_in, faults_in, faults}
use Rattle.report.specs.Readings.{faults_by}
use Rattle.report.specs.Configuring.{written}
use Rattle.report.specs.Verdicts.{Verdict, refusal, refuse_if}
use Rattle.report.specs.Checks.{rule_number, fault_number, fault_refusal}
use Rattle.report.specs.declared.Query.{Query}
use Rattle.report.specs.declared.Refusal.{Refusal}
use Rattle.report.specs.declared.Reading.{Reading}
use Rattle.report.proofs.FormedFacts.{counts, report_in}
use Rattle.report.proofs.ReadingLaws.{faults-spared, faults_later}
use Rattle.report.proofs.VerdictLaws.{or_else_accepted, accepted_if, accepted_first, refused_first, then_next, then_refused}
use Rattle.comparisons.specs.Gathering.{own_of}
use Rattle.comparisons.specs.declared.Gathered.{Gathered}
use Rattle.at_configuration.proofs.PreparedLaws.{at_reads, relation_reads, comparison_reads}
use Rattle.faults_at.specs.SetsAt.{GatheredReads, GatheredReadable, FormSetsReads, FormClashesReads, FormClashesReadable}
use Rattle.typing_at.specs.TypingAt.{phase_here, form_here, typing_here, HereReads, HereReadable, SetsLent, HereFillable, HereFilled}
use Rattle.typing_at.specs.Here.{FormHereReads, FormsHereReads, FormsHereReadable}
use Rattle.typing_at.specs.declared.Here.{Here}

-- ---- one form

module _ {T : Tables} {R : Reading} {q : ℕ} {expression_rows entries relations reach spared : List ℕ} {c : ℕ} {named clashing sets : List ℕ} {start : ℕ}
    {x : Query} (H : FormHereReads T R q expression_rows entries relations reach spared c named clashing sets start x) where
  few : c < 1024
  few = lt_of_lt_of_le H.rule.at.reads.inside (pow_mono {j = 10} H.rule.at.reads.formed.few)

  pub reach_read : (q * 16 + 16 ≤ length reach) × (c < 1024)
  reach_read = (let l = H.rule.at.inside in let m = H.reaching.room in omega arith, few)

  reads_clashes : FormClashesReads T q c clashing x
  reads_clashes = record {
    formed = H.rule.at.reads.formed;
    inside = H.rule.at.inside;
    form = H.rule.at.form;
    compared = H.clashed;
  }

  pub clashes_readable : FormClashesReadable clashing x
  clashes_readable = record { tables = T; number = q; configuration = c; reads = reads_clashes }

  -- what is at fault in the form, which is x
  in_form : (phase : ℕ) → faults_in T c phase q x ≡ faults T c phase q
  unfolding faults
  in_form phase = ap (faults_in T c phase q) H.rule.at.form

  -- what is held against it in the first phase: not what is spared
  less_spared : {rule less : ℕ} → rule ≡ faults_of T c q x → less ≡ get_or spared q 0 → difference rule less ≡ faults_by T R c 0 q
  less_spared b l = ap₂ difference (b ∙ in_form 0) (l ∙ H.sparing.each q H.rule.at.inside) ∙ sym (faults-spared T R c q)

  -- a bit of the form's reach row was read
  module _ {t : Bool} (read : t ≡ row_bit (row_in 16 reach q) c) where
    told : t ≡ reached T c q
    told =
        read ∙ ap (λ (r : List ℕ). row_bit r c) (H.reaching.each q H.rule.at.inside) ∙ row_bit-row_of 16 (λ d. reached T d q) c few

    -- a form that c does not reach breaks nothing
    pub unreached : not t ≡ true → Ok tt ≡ form_here T R c q
    unreached e =
        sym
        (accepted_first (phase_here T R c q) 2 0
        (λ phase l h. accepted_if _ (ap (λ (r : Bool). r && not (eqb (faults_by T R c phase q) 0)) (sym told ∙ not-true t e))))

    module _ (e : not t ≡ false) where
      -- one phase, where these items are at fault
      phase_is : (phase : ℕ) {bits number : ℕ} → bits ≡ faults_by T R c phase q → number ≡ fault_number phase x
          → refuse_if (not (eqb bits 0)) (refusal number q (lowest_member bits) c) ≡ phase_here T R c q phase
      phase_is phase b n =
          ap₂ (λ (s i : ℕ). refuse_if (not (eqb s 0)) (refusal i q (lowest_member s) c)) b (n ∙ ap (fault_number phase) H.rule.at.form)
          ∙ ap (λ (r : Bool). refuse_if (r && not (eqb (faults_by T R c phase q) 0)) (fault_refusal T R q phase c)) (sym (not-false t e) ∙ told)

      -- the first phase, of the form's rule less what the form is spared
      module _ {rule less broken number : ℕ} (b : rule ≡ faults_of T c q x) (l : less ≡ get_or spared q 0) (d : broken ≡ difference rule less)
          (n : number ≡ rule_number x) where
        first_is : refuse_if (not (eqb broken 0)) (refusal number q (lowest_member broken) c) ≡ phase_here T R c q 0
        first_is = phase_is 0 (d ∙ less_spared b l) n

        pub first_phase : {y : Refusal} → Err y ≡ refuse_if (not (eqb broken 0)) (refusal number q (lowest_member broken) c) → Err y ≡ form_here T R c q
        first_phase p = sym (then_refused _ (sym (p ∙ first_is)))

        -- the second, where the first finds nothing
        pub second_phase : {clash : ℕ} {v : Verdict} → ((T : Tables) (q c : ℕ) → FormClashesReads T q c clashing x → clash ≡ clashes_in T c x)
            → Ok tt ≡ refuse_if (not (eqb broken 0)) (refusal number q (lowest_member broken) c)
            → v ≡ refuse_if (not (eqb clash 0)) (refusal 25 q (lowest_member clash) c) → v ≡ form_here T R c q
        second_phase k p v =
            v ∙ phase_is 1 (k T q c reads_clashes ∙ in_form 1 ∙ sym (faults_later T R c 0 q)) refl ∙ sym (or_else_accepted (phase_here T R c q 1))
            ∙ sym (then_next (sym (p ∙ first_is)))

-- ---- the loop over the forms

-- the forms below q fail nowhere, and the list of the next project starts at `start`
pub record FormsPassed (expression_rows entries relations queries reach spared : List ℕ) (c : ℕ) (named clashing sets : List ℕ) (q start : ℕ) : Type 0 where
  pub most : q ≤ length queries / 4
  pub starts : start ≡ projected_before queries q
  pub none : (T : Tables) (R : Reading) → FormsHereReads T R expression_rows entries relations queries reach spared c named clashing sets → (k : ℕ) → k < q
      → form_here T R c k ≡ Ok tt

module _ {expression_rows entries relations queries reach spared : List ℕ} {c : ℕ} {named clashing sets : List ℕ} where
  module _ {q start : ℕ} (S : FormsPassed expression_rows entries relations queries reach spared c named clashing sets q start) where
    module _ (h : q < length queries / 4) {x : Query} (e : x ≡ query queries q) where
      here : {T : Tables} {R : Reading} → FormsHereReads T R expression_rows entries relations queries reach spared c named clashing sets
          → FormHereReads T R q expression_rows entries relations reach spared c named clashing sets start x
      here H =
          let inside = rw H.queries_are at h in
          record {
            rule = record {
              at = record {
                reads = H.reads;
                entries_are = H.entries_are;
                inside = inside;
                form = e ∙ ap (λ (t : List ℕ). query t q) H.queries_are;
                starts = S.starts ∙ ap (λ (t : List ℕ). projected_before t q) H.queries_are;
              };
              below = record { room = let m = H.formed.room in omega arith; each = λ k l. H.formed.each k (omega arith) };
              relations_are = H.relations_are;
              compared = H.compared;
            };
            clashed = H.clashed;
            reaching = H.reaching;
            sparing = H.sparing;
          }

      module _ {v : Verdict}
          (answers : (T : Tables) (R : Reading) → FormHereReads T R q expression_rows entries relations reach spared c named clashing sets start x
          → v ≡ form_here T R c q) where
        -- the form fails: it is the lowest
        pub forms_refused : {r : Refusal} → v ≡ Err r → (T : Tables) (R : Reading)
            → FormsHereReads T R expression_rows entries relations queries reach spared c named clashing sets → v ≡ typing_here T R c
        unfolding typing_here
        forms_refused {r} f T R H =
            let inside = rw H.queries_are at h in
            f
            ∙ sym
            (refused_first (form_here T R c) (query_count T) 0 q r (omega arith) (omega arith) (λ k l m. S.none T R H k m)
            (sym (answers T R (here H)) ∙ f))

        -- it does not
        module _ {n : ℕ} (l : n ≡ project_length x) where
          pub forms_more : v ≡ Ok tt → FormsPassed expression_rows entries relations queries reach spared c named clashing sets (q + 1) (start + n)
          forms_more f = record {
            most = omega arith;
            starts = ap₂ ◌+◌ S.starts (l ∙ ap project_length e) ∙ ap (projected_before queries) (sym (add-one q));
            none = λ T R H. below_more _ _ (S.none T R H) (sym (answers T R (here H)) ∙ f);
          }

    pub forms_all : length queries / 4 ≤ q → (T : Tables) (R : Reading)
        → FormsHereReads T R expression_rows entries relations queries reach spared c named clashing sets → Ok tt ≡ typing_here T R c
    unfolding typing_here
    forms_all h T R H =
        let e = ap (λ (t : List ℕ). length t / 4) H.queries_are in
        sym (accepted_first (form_here T R c) (query_count T) 0 (λ k l m. S.none T R H k (omega arith)))

-- ---- one configuration

module _ {T : Tables} {R : Reading} {c : ℕ} {expression_rows relation_entries project_entries relations comparisons queries kinds reach spared : List ℕ}
    (H : HereReads T R c expression_rows relation_entries project_entries relations comparisons queries kinds reach spared) where
  -- what is gathered from the comparisons, over a list as it was
  reads_gathered : GatheredReads T expression_rows comparisons kinds c
  reads_gathered = record { compared = comparison_reads H.report.prepared H.inside; kinds_are = H.report.kinds_are }

  pub gathered_readable : {lent : List ℕ} → comparison_count T ≤ length lent → GatheredReadable expression_rows comparisons kinds c lent
  gathered_readable h = record { tables = T; reads = reads_gathered; room = rw H.report.prepared.comparisons_are h }

  reads_form_sets : FormSetsReads T c expression_rows relation_entries project_entries relations queries
  reads_form_sets = record {
    related = relation_reads H.report.prepared H.inside;
    entries_are = H.report.prepared.project_entries_are;
    queries_are = H.report.prepared.queries_are;
  }

  -- what is gathered and the sets of the forms were worked out
  module _ (lent_named lent_clashing lent_sets : List ℕ) {named clashing sets : List ℕ}
      (names : (T : Tables) → GatheredReads T expression_rows comparisons kinds c
      → named ≡ written (table (comparison_count T) (gathered T c (own_of (kind_of T) Gathered.Names))) lent_named)
      (clashes : (T : Tables) → GatheredReads T expression_rows comparisons kinds c
      → clashing ≡ written (table (comparison_count T) (gathered T c (own_of (kind_of T) Gathered.Clashes))) lent_clashing)
      (forms : (T : Tables) → FormSetsReads T c expression_rows relation_entries project_entries relations queries
      → sets ≡ written (table (query_count T) (set_of T c)) lent_sets)
    where
      reads_forms : FormsHereReads T R expression_rows project_entries relations queries reach spared c named clashing sets
      reads_forms = record {
        reads = at_reads H.report.prepared H.inside;
        entries_are = H.report.prepared.project_entries_are;
        relations_are = H.report.prepared.relations_are;
        queries_are = H.report.prepared.queries_are;
        reaching = H.report.reaching;
        compared = numbers_are (comparison_count T) _ _ (names T reads_gathered);
        clashed = numbers_are (comparison_count T) _ _ (clashes T reads_gathered);
        formed = numbers_are (query_count T) (set_of T c) _ (forms T reads_form_sets);
        sparing = H.sparing;
      }

      pub forms_readable : FormsHereReadable expression_rows project_entries relations queries reach spared c named clashing sets
      forms_readable = record { tables = T; reading = R; reads = reads_forms }

      pub here_filled : {here : Here}
          → ((T : Tables) (R : Reading) → FormsHereReads T R expression_rows project_entries relations queries reach spared c named clashing sets
          → here.verdict ≡ typing_here T R c)
          → here.set.bits ≡ get_or sets (length queries / 4 - 1) 0 → HereFilled T R c here lent_named lent_clashing lent_sets named clashing sets
      here_filled answers shown =
          let f = reads_forms in
          record {
            checked = record {
              answers = answers T R f;
              shows = shown ∙ ap (λ (t : List ℕ). get_or sets (length t / 4 - 1) 0) H.report.prepared.queries_are
                  ∙ f.formed.each (report T) (report_in H.report.prepared.formed);
            };
            compared = names T reads_gathered;
            clashed = clashes T reads_gathered;
            formed = forms T reads_form_sets;
          }

-- ---- words for the sets

-- so many of each are enough for tables that have at most so many comparisons and query forms
pub sets_enough : (most : ℕ) {T : Tables} → comparison_count T ≤ most → query_count T ≤ most
    → SetsLent T (replicate most 0) (replicate most 0) (replicate most 0)
sets_enough most p q =
    let l = length-replicate {A = ℕ} most 0 in
    record { comparisons = omega arith; clashes = omega arith; forms = omega arith }

-- 256 are enough for all
pub here_fillable : {c : ℕ} {expression_rows relation_entries project_entries relations comparisons queries kinds reach spared : List ℕ}
    → HereReadable c expression_rows relation_entries project_entries relations comparisons queries kinds reach spared
    → HereFillable c expression_rows relation_entries project_entries relations comparisons queries kinds reach spared (replicate 256 0)
    (replicate 256 0) (replicate 256 0)
here_fillable A = let n = counts A.reads.report.prepared.formed in record { readable = A; lent = sets_enough 256 n.most3 n.most4 }
