-- What the forms find at all configurations: the loop over the permitted ones.
use Rattle.std.specs.Prelude.{Some, None, Option}
use Prim.Native.Nat.{ℕ, suc, ◌+◌, ◌-◌, ◌<◌, ◌≤◌}
use mathlib.Core.Path.{◌≡◌, refl, sym, ap, ◌∙◌}
use mathlib.Core.Bool.{Bool, true, false, cond, false≢true}
use mathlib.Core.List.{List}
use native.Mathlib.Nat.{lt_of_lt_of_le}
use native.Mathlib.Numerals.{add-one}
use native.Mathlib.Decide.{le_ind}
use native.Mathlib.Omega.{arith}
use lib.Bits.{bit_or, or_zero_r}
use lib.ListN.{length, get_or, replicate, length-replicate, get_or-replicate}
use lib.Pow.{pow_mono}
use Rattle.sets.specs.Lists.{table}
use Rattle.sets.specs.Rows.{row_lowest_from}
use Rattle.sets.proofs.SearchLaws.{Least}
use Rattle.sets.proofs.ListLaws.{table-length, table_same, numbers_are}
use Rattle.report.specs.Tables.{Tables, query, query_count}
use Rattle.report.specs.Expressions.{configurations, permitted}
use Rattle.report.specs.Typing.{reached, set_of}
use Rattle.report.specs.Configuring.{written}
use Rattle.report.specs.Readings.{found_in, found_below, spared}
use Rattle.report.specs.declared.Reading.{Reading}
use Rattle.report.proofs.FormedFacts.{counts}
use Rattle.report.proofs.OverLaws.{written_over, written_same}
use Rattle.report.proofs.TreeLaws.{reached-permitted}
use Rattle.report.proofs.TypingLaws.{permitted_within, permitted_1024}
use Rattle.expression_rows.specs.declared.Scope.{Scope}
use Rattle.expression_rows.proofs.ScopeLaws.{none_permitted, next_permitted}
use Rattle.at_configuration.specs.AtConfiguration.{AtReads}
use Rattle.faults_at.specs.SetsAt.{FormSetsReads, FormSetsReadable}
use Rattle.sparing.specs.Sparing.{SparingReads, SparingReadable}
use Rattle.sparing.specs.FoundAt.{AddReads, AddReadable}

-- ---- configurations that are not permitted

module _ (T : Tables) where
  unreached : (c q : ℕ) → permitted T c ≡ false → reached T c q ≡ false
  unreached c q e = go (reached T c q) refl
    where
      go : (t : Bool) → reached T c q ≡ t → t ≡ false
      go true r = absurd (false≢true (sym e ∙ reached-permitted T c q r))
      go false r = refl

  -- at them nothing is found
  found_skips : (j k : ℕ) → j ≤ k → ((c : ℕ) → j ≤ c → c < k → permitted T c ≡ false) → (q : ℕ) → found_below T k q ≡ found_below T j q
  unfolding found_below
  found_skips j =
      le_ind (λ k. ((c : ℕ) → j ≤ c → c < k → permitted T c ≡ false) → (q : ℕ) → found_below T k q ≡ found_below T j q) (λ f q. refl)
      (λ k l ih f q.
      ap (λ (t : Bool). bit_or (found_below T k q) (cond t (found_in T k q (query T.queries q)) 0)) (unreached k q (f k l (omega arith)))
      ∙ or_zero_r (found_below T k q) ∙ ih (λ c a b. f c a (omega arith)) q)

-- ---- the loop

-- the configurations below `from` were gone through; there are words for the sets at one
pub record FoundPassed (scope : Scope) (expression_rows relation_entries project_entries relations queries reach lent form_sets spared_sets : List ℕ) (from : ℕ)
    : Type 0 where
  pub words : length form_sets ≡ 256
  pub size : length spared_sets ≡ length lent
  pub within : (T : Tables) → SparingReads T scope expression_rows relation_entries project_entries relations queries reach → from ≤ configurations T
  pub joined : (T : Tables) → SparingReads T scope expression_rows relation_entries project_entries relations queries reach
      → spared_sets ≡ written (table (query_count T) (found_below T from)) lent

module _ {scope : Scope} {expression_rows relation_entries project_entries relations queries reach lent : List ℕ}
    (A : SparingReadable scope expression_rows relation_entries project_entries relations queries reach lent) where
  -- the words are 0
  none_yet : {T : Tables} → SparingReads T scope expression_rows relation_entries project_entries relations queries reach → (f : ℕ → ℕ)
      → ((k : ℕ) → f k ≡ 0) → lent ≡ written (table (query_count T) f) lent
  none_yet {T} R f z =
      let room : query_count T ≤ A.words = rw (sym R.queries_are ∙ A.reads.queries_are) A.room in
      written_same (query_count T) f
      (record {
        room = rw A.clear (omega (arith, length-replicate {A = ℕ} A.words 0));
        each = λ k h. ap (λ (l : List ℕ). get_or l k 0) A.clear ∙ get_or-replicate A.words k 0 0 (omega arith) ∙ sym (z k);
      })

  pub found_none : FoundPassed scope expression_rows relation_entries project_entries relations queries reach lent (replicate 256 0) lent 0
  unfolding found_below
  found_none = record { words = refl; size = refl; within = λ T R. omega arith; joined = λ T R. none_yet R (found_below T 0) (λ k. refl) }

  module _ {form_sets spared_sets : List ℕ} {from : ℕ}
      (S : FoundPassed scope expression_rows relation_entries project_entries relations queries reach lent form_sets spared_sets from)
      {next : Option ℕ} (found : next ≡ row_lowest_from 16 scope.permitted.words from) where
    -- what is found up to k, where none is permitted from `from` on
    skipped : {T : Tables} → SparingReads T scope expression_rows relation_entries project_entries relations queries reach → (k : ℕ) → from ≤ k
        → ((d : ℕ) → from ≤ d → d < k → permitted T d ≡ false) → spared_sets ≡ written (table (query_count T) (found_below T k)) lent
    skipped {T} R k h f =
        S.joined T R
        ∙ ap (λ (l : List ℕ). written l lent)
        (table_same (query_count T) (found_below T from) (found_below T k) (λ q l. sym (found_skips T from k h f q)))

    -- none is left
    pub found_all : next ≡ None → (T : Tables) → SparingReads T scope expression_rows relation_entries project_entries relations queries reach
        → spared_sets ≡ written (table (query_count T) (found_below T (configurations T))) lent
    found_all e T R =
        let few : configurations T ≤ 1024 = pow_mono {j = 10} R.formed.few in
        skipped R (configurations T) (S.within T R) (λ d l h. none_permitted R.scoped from found e d l (lt_of_lt_of_le h few))

    -- c is the next
    module _ {c : ℕ} (e : next ≡ Some c) where
      least : {T : Tables} → SparingReads T scope expression_rows relation_entries project_entries relations queries reach
          → Least (permitted T) from (1024 - from) c
      least R = next_permitted R.scoped from found e

      pub found_between : (from ≤ c) × (c < 1024)
      found_between = let R = A.reads in ((least R).within.0, permitted_1024 R.formed c (least R).holds)

      at_reads : {T : Tables} → SparingReads T scope expression_rows relation_entries project_entries relations queries reach → AtReads T expression_rows c
      at_reads {T} R = record { formed = R.formed; filled = R.filled; inside = permitted_within T c (least R).holds }

      sets_reads : {T : Tables} → SparingReads T scope expression_rows relation_entries project_entries relations queries reach
          → FormSetsReads T c expression_rows relation_entries project_entries relations queries
      sets_reads R = record {
        related = record { reads = at_reads R; entries_are = R.relation_entries_are; relations_are = R.relations_are };
        entries_are = R.project_entries_are;
        queries_are = R.queries_are;
      }

      pub found_sets : FormSetsReadable c expression_rows relation_entries project_entries relations queries form_sets
      found_sets = record {
        tables = A.tables;
        reads = sets_reads A.reads;
        room = let l = S.words in let m = (counts A.reads.formed).most4 in omega arith;
      }

      -- the sets at c were worked out
      module _ {next_sets : List ℕ}
          (fills : (T : Tables) → FormSetsReads T c expression_rows relation_entries project_entries relations queries
          → next_sets ≡ written (table (query_count T) (set_of T c)) form_sets)
        where
          add_reads : {T : Tables} → SparingReads T scope expression_rows relation_entries project_entries relations queries reach
              → AddReads T c expression_rows relations queries reach next_sets spared_sets
          add_reads {T} R = record {
            reads = at_reads R;
            relations_are = R.relations_are;
            queries_are = R.queries_are;
            reaching = R.reaching;
            formed = numbers_are (query_count T) (set_of T c) _ (fills T (sets_reads R));
            before = numbers_are (query_count T) (found_below T c) _ (skipped R c (least R).within.0 (least R).before);
          }

          pub found_add : AddReadable c expression_rows relations queries reach next_sets spared_sets
          found_add = record { tables = A.tables; reads = add_reads A.reads }

          -- and what the forms find there was joined
          pub found_more : {next_spared : List ℕ} → length next_sets ≡ length form_sets → length next_spared ≡ length spared_sets
              → ((T : Tables) → AddReads T c expression_rows relations queries reach next_sets spared_sets
              → next_spared ≡ written (table (query_count T) (found_below T (suc c))) spared_sets)
              → FoundPassed scope expression_rows relation_entries project_entries relations queries reach lent next_sets next_spared (c + 1)
          found_more l m adds = record {
            words = l ∙ S.words;
            size = m ∙ S.size;
            within = λ T R. let h = (at_reads R).inside in omega arith;
            joined = λ T R.
                let n = query_count T in
                adds T (add_reads R) ∙ ap (written (table n (found_below T (suc c)))) (S.joined T R)
                ∙ written_over (table n (found_below T (suc c))) (table n (found_below T from)) lent
                (table-length n (found_below T (suc c)) ∙ sym (table-length n (found_below T from)))
                ∙ ap (λ (k : ℕ). written (table n (found_below T k)) lent) (sym (add-one c));
          }

  -- ---- the readings

  module _ {T : Tables} (R : SparingReads T scope expression_rows relation_entries project_entries relations queries reach) where
    pub spared_strict : scope.reading ≡ Reading.Strict → lent ≡ written (table (query_count T) (spared T scope.reading)) lent
    unfolding spared
    spared_strict e = rw e (none_yet R (spared T Reading.Strict) (λ k. refl))

    pub spared_filled : {spared_sets : List ℕ} → scope.reading ≡ Reading.Filled
        → spared_sets ≡ written (table (query_count T) (found_below T (configurations T))) lent
        → spared_sets ≡ written (table (query_count T) (spared T scope.reading)) lent
    unfolding spared
    spared_filled e p = rw e p
