-- Laws of the loop over the permitted configurations: the answer, and the report's sets, at those that were gone through.
use Rattle.std.specs.Prelude.{Some, None, Ok, Option}
use Prim.Native.Nat.{ℕ, suc, ◌+◌, ◌-◌, ◌<◌, ◌≤◌}
use mathlib.Core.Path.{◌≡◌, refl, sym, ap, ap₂, ◌∙◌, subst}
use mathlib.Core.Bool.{false}
use mathlib.Core.List.{List}
use native.Mathlib.Nat.{le_refl, lt_of_lt_of_le}
use native.Mathlib.Numerals.{add-one}
use native.Mathlib.Omega.{arith}
use native.Mathlib.Decide.{ℕ_discrete}
use lib.ListN.{length, get_or, take, set, replicate, length-set, length-replicate}
use Rattle.std.proofs.lemmas.List.{get_or-take, get_or-set_same, get_or-set_other}
use lib.Pow.{pow_mono}
use lib.Seq.{length-take-le}
use Rattle.sets.specs.Search.{count_below}
use Rattle.sets.specs.Lists.{concat, table, NumbersAre}
use Rattle.sets.specs.Rows.{row_of, row_bit, row_count, row_lowest_from}
use Rattle.sets.proofs.SearchLaws.{Least, count_same, count_yes, count_none, count_lt}
use Rattle.sets.proofs.ListLaws.{numbers_are}
use Rattle.sets.proofs.RowLaws.{row_bit-row_of, row_in_zeros}
use Rattle.report.specs.Tables.{Tables, query_count, report}
use Rattle.report.specs.ColumnRows.{column_row}
use Rattle.report.specs.Expressions.{configurations, permitted}
use Rattle.report.specs.Typing.{set_of}
use Rattle.report.specs.Readings.{spared}
use Rattle.report.specs.Configuring.{written}
use Rattle.report.specs.Verdicts.{Verdict}
use Rattle.report.specs.declared.Reading.{Reading}
use Rattle.report.proofs.TypingLaws.{permitted_within, permitted_1024}
use Rattle.verdicts.specs.Sooner.{sooner}
use Rattle.expression_rows.specs.declared.Scope.{Scope}
use Rattle.expression_rows.proofs.ScopeLaws.{none_permitted, next_permitted}
use Rattle.expression_rows.specs.TypingReads.{TypingReads, Checked}
use Rattle.expression_rows.proofs.ColumnLaws.{columns_shown}
use Rattle.sparing.specs.Sparing.{SparingReads, SparingReadable}
use Rattle.typing_at.specs.declared.Here.{Here}
use Rattle.typing_at.specs.TypingAt.{HereReads, HereChecked, SetsLent, HereFillable}
use Rattle.typing_at.proofs.HereLaws.{sets_enough}
use Rattle.column_rows.specs.declared.SetAt.{SetAt}
use Rattle.column_rows.specs.GatheredSets.{permitted_at, permitted_in_all, IsSetAt, SetsGathered, ColumnsFillable}
use Rattle.column_rows.proofs.ColumnLaws.{permitted_at_lem}
use Rattle.typing_each.specs.TypingEach.{typing_below, EachReadable, EachFillable, SizeReadable}
use Rattle.typing_each.proofs.EachLaws.{each_typing, below_skips, below_more}

-- ---- words for the sets at one configuration

-- they stay as long as they were
pub record SetsKept (lent_named lent_clashing lent_sets named clashing sets : List ℕ) : Type 0 where
  pub compared : length named ≡ length lent_named
  pub clashed : length clashing ≡ length lent_clashing
  pub formed : length sets ≡ length lent_sets

pub kept_none : {named clashing sets : List ℕ} → SetsKept named clashing sets named clashing sets
kept_none = record { compared = refl; clashed = refl; formed = refl }

module _ {lent_named lent_clashing lent_sets named clashing sets : List ℕ} (K : SetsKept lent_named lent_clashing lent_sets named clashing sets) where
  pub kept_more : {named' clashing' sets' : List ℕ} → length named' ≡ length named → length clashing' ≡ length clashing
      → length sets' ≡ length sets → SetsKept lent_named lent_clashing lent_sets named' clashing' sets'
  kept_more p q s = record { compared = p ∙ K.compared; clashed = q ∙ K.clashed; formed = s ∙ K.formed }

  pub kept_lent : {T : Tables} → SetsLent T lent_named lent_clashing lent_sets → SetsLent T named clashing sets
  kept_lent L = record {
    comparisons = rw K.compared L.comparisons;
    clashes = rw K.clashed L.clashes;
    forms = rw K.formed L.forms;
  }

-- what is read to work out what is spared
sparing_reads : {T : Tables} {scope : Scope} {expression_rows relation_entries project_entries relations comparisons queries kinds reach : List ℕ}
    → TypingReads T scope expression_rows relation_entries project_entries relations comparisons queries kinds reach
    → SparingReads T scope expression_rows relation_entries project_entries relations queries reach
sparing_reads R =
    let P = R.report.prepared in
    record {
      scoped = R.scoped;
      formed = P.formed;
      filled = P.filled;
      relation_entries_are = P.relation_entries_are;
      project_entries_are = P.project_entries_are;
      relations_are = P.relations_are;
      queries_are = P.queries_are;
      reaching = R.report.reaching;
    }

module _ {scope : Scope} {expression_rows relation_entries project_entries relations comparisons queries kinds reach columns : List ℕ} where
  module _ (most : ℕ) (A : SizeReadable most scope expression_rows relation_entries project_entries relations comparisons queries kinds reach columns) where
    forms_few_lem : query_count A.each.readable.tables ≤ most
    forms_few_lem = rw A.each.readable.reads.report.prepared.queries_are at A.forms_few

    pub sparing_readable : SparingReadable scope expression_rows relation_entries project_entries relations queries reach (replicate most 0)
    sparing_readable = record {
      tables = A.each.readable.tables;
      reads = sparing_reads A.each.readable.reads;
      words = most;
      clear = refl;
      room = forms_few_lem;
    }

    -- it was worked out
    pub size_enough : {spares : List ℕ}
        → ((T : Tables) → SparingReads T scope expression_rows relation_entries project_entries relations queries reach
        → spares ≡ written (table (query_count T) (spared T scope.reading)) (replicate most 0))
        → EachFillable scope expression_rows relation_entries project_entries relations comparisons queries kinds reach spares columns (replicate most 0)
        (replicate most 0) (replicate most 0)
    size_enough filled = record {
      each = A.each;
      sparing = λ T R. numbers_are (query_count T) (spared T scope.reading) _ (filled T (sparing_reads R));
      lent = sets_enough most (rw A.each.readable.reads.report.prepared.comparisons_are at A.comparisons_few) forms_few_lem;
    }

-- ---- the loop

-- the configurations below `from` were gone through: `gathered` starts with the `count` of them that are permitted, with the report's set at each
pub record EachPassed (scope : Scope) (expression_rows relation_entries project_entries relations comparisons queries kinds reach : List ℕ)
    (gathered : List SetAt) (count : ℕ) (answer : Verdict) (from : ℕ) : Type 0 where
  pub most : from ≤ 1024
  pub size : length gathered ≡ 64
  pub room : count ≤ 64
  pub within : (T : Tables) → TypingReads T scope expression_rows relation_entries project_entries relations comparisons queries kinds reach
      → from ≤ configurations T
  pub told : (T : Tables) → TypingReads T scope expression_rows relation_entries project_entries relations comparisons queries kinds reach
      → answer ≡ typing_below T scope.reading from
  pub counted : (T : Tables) → TypingReads T scope expression_rows relation_entries project_entries relations comparisons queries kinds reach
      → count ≡ count_below (permitted T) from
  pub each : (T : Tables) → TypingReads T scope expression_rows relation_entries project_entries relations comparisons queries kinds reach
      → (k : ℕ) (d : SetAt) → k < count → IsSetAt T k (get_or gathered k d)

module _ {scope : Scope} {expression_rows relation_entries project_entries relations comparisons queries kinds reach lent : List ℕ}
    (A : EachReadable scope expression_rows relation_entries project_entries relations comparisons queries kinds reach lent) where
  pub each_none : (x : SetAt) → EachPassed scope expression_rows relation_entries project_entries relations comparisons queries kinds reach (replicate 64 x)
      0 (Ok tt) 0
  unfolding typing_below
  each_none x = record {
    most = omega arith;
    size = length-replicate {A = SetAt} 64 x;
    room = omega arith;
    within = λ T R. omega arith;
    told = λ T R. refl;
    counted = λ T R. refl;
    each = λ T R k d h. absurd (omega arith);
  }

  -- all that are permitted
  few_permitted : {T : Tables} → TypingReads T scope expression_rows relation_entries project_entries relations comparisons queries kinds reach
      → count_below (permitted T) 1024 ≤ 64
  few_permitted {T} R =
      subst (λ (n : ℕ). n ≤ 64)
      (ap (row_count 16) R.scoped.permitting ∙ count_same (row_bit (row_of 16 (permitted T))) (permitted T) 1024 (row_bit-row_of 16 (permitted T)))
      A.few

  module _ {gathered : List SetAt} {count : ℕ} {answer : Verdict} {from : ℕ}
      (S : EachPassed scope expression_rows relation_entries project_entries relations comparisons queries kinds reach gathered count answer from)
      {next : Option ℕ} (found : next ≡ row_lowest_from 16 scope.permitted.words from) where
    -- none is left
    module _ (e : next ≡ None) where
      none : {T : Tables} → TypingReads T scope expression_rows relation_entries project_entries relations comparisons queries kinds reach
          → (d : ℕ) → from ≤ d → d < 1024 → permitted T d ≡ false
      none R = none_permitted R.scoped from found e

      gathers : {T : Tables} → TypingReads T scope expression_rows relation_entries project_entries relations comparisons queries kinds reach
          → SetsGathered T (take count gathered)
      unfolding permitted_in_all
      gathers {T} R =
          let front : length (take count gathered) ≡ count = length-take-le count gathered (rw S.size S.room) in
          record {
            all = front ∙ S.counted T R ∙ sym (count_none (permitted T) from 1024 S.most (none R));
            each = λ k d h. let l : k < count = rw front at h in rw get_or-take (S.each T R k d l);
          }

      pub each_columns : ColumnsFillable scope.items (take count gathered) lent
      each_columns =
          let R = A.readable.reads in
          let l = ap length A.readable.clear in
          let m = R.scoped.bounded.most in
          record {
            some = record { tables = A.readable.tables; gathers = gathers R };
            most = m;
            room = omega (arith, length-replicate {A = ℕ} 1024 0);
            clear = λ a h. rw A.readable.clear (row_in_zeros 16 1024 a (omega arith));
          }

      pub each_all : {columns : List ℕ}
          → ((T : Tables) → SetsGathered T (take count gathered) → columns ≡ written (concat scope.items (column_row T)) lent)
          → (T : Tables) → TypingReads T scope expression_rows relation_entries project_entries relations comparisons queries kinds reach
          → Checked T scope.reading answer columns
      each_all stored T R =
          let few : configurations T ≤ 1024 = pow_mono {j = 10} R.report.prepared.formed.few in
          record {
            answers = S.told T R ∙ sym (below_skips T scope.reading from (configurations T) (S.within T R) (λ d l h. none R d l (lt_of_lt_of_le h few)))
                ∙ each_typing T scope.reading (configurations T) (le_refl (configurations T));
            shows =
                columns_shown R.report.prepared.formed R.scoped.bounded
                (stored T (gathers R) ∙ ap (written (concat scope.items (column_row T))) A.readable.clear);
          }

    -- c is the next
    module _ {c : ℕ} (e : next ≡ Some c) where
      least : {T : Tables} → TypingReads T scope expression_rows relation_entries project_entries relations comparisons queries kinds reach
          → Least (permitted T) from (1024 - from) c
      least R = next_permitted R.scoped from found e

      inside : {T : Tables} → TypingReads T scope expression_rows relation_entries project_entries relations comparisons queries kinds reach → c < 1024
      inside R = permitted_1024 R.report.prepared.formed c (least R).holds

      pub each_between : (from ≤ c) × (c < 1024)
      each_between = ((least A.readable.reads).within.0, inside A.readable.reads)

      -- its number
      ranked : {T : Tables} → TypingReads T scope expression_rows relation_entries project_entries relations comparisons queries kinds reach
          → count ≡ count_below (permitted T) c
      ranked {T} R = let L = least R in S.counted T R ∙ sym (count_none (permitted T) from c L.within.0 L.before)

      numbered : {T : Tables} → TypingReads T scope expression_rows relation_entries project_entries relations comparisons queries kinds reach
          → permitted_at T count ≡ c
      numbered {T} R = ap (permitted_at T) (ranked R) ∙ permitted_at_lem T c (inside R) (least R).holds

      -- there is room for it
      pub each_room : count < 64
      each_room =
          let R = A.readable.reads in
          subst (λ (n : ℕ). n < 64) (sym (ranked R))
          (lt_of_lt_of_le (count_lt (permitted A.readable.tables) c 1024 (inside R) (least R).holds) (few_permitted R))

      -- with what the reading does not hold against each form
      module _ {spares : List ℕ}
          (sparing : (T : Tables) → TypingReads T scope expression_rows relation_entries project_entries relations comparisons queries kinds reach
          → NumbersAre (query_count T) (spared T scope.reading) spares)
        where
          here_reads : {T : Tables} → TypingReads T scope expression_rows relation_entries project_entries relations comparisons queries kinds reach
              → HereReads T scope.reading c expression_rows relation_entries project_entries relations comparisons queries kinds reach spares
          here_reads {T} R = record { inside = permitted_within T c (least R).holds; report = R.report; sparing = sparing T R }

          pub each_here : {named clashing sets : List ℕ} → SetsLent A.readable.tables named clashing sets
              → HereFillable c expression_rows relation_entries project_entries relations comparisons queries kinds reach spares named clashing sets
          each_here L = record {
            readable = record { tables = A.readable.tables; reading = scope.reading; reads = here_reads A.readable.reads };
            lent = L;
          }

          -- this was worked out at c
          pub each_more : {here : Here} {after : Verdict}
              → ((T : Tables) (R : Reading)
              → HereReads T R c expression_rows relation_entries project_entries relations comparisons queries kinds reach spares → HereChecked T R c here)
              → after ≡ sooner answer here.verdict
              → EachPassed scope expression_rows relation_entries project_entries relations comparisons queries kinds reach
              (set gathered count (record { configuration = c; set = here.set })) (count + 1) after (c + 1)
          each_more {here} checked told =
              record {
                most = let l = each_between.1 in omega arith;
                size = length-set gathered count y ∙ S.size;
                room = let l = each_room in omega arith;
                within = λ T R. let l = permitted_within T c (least R).holds in omega arith;
                told = λ T R.
                    let L = least R in
                    told ∙ ap₂ sooner (S.told T R) (checked T scope.reading (here_reads R)).answers
                    ∙ sym (below_more T scope.reading from c L.within.0 L.before);
                counted = λ T R.
                    add-one count ∙ ap suc (ranked R) ∙ sym (count_yes (permitted T) c (least R).holds)
                    ∙ ap (count_below (permitted T)) (sym (add-one c));
                each = λ T R k d h. gathered_more R (checked T scope.reading (here_reads R)).shows k d h (ℕ_discrete k count);
              }
            where
              y : SetAt
              y = record { configuration = c; set = here.set }

              gathered_more : {T : Tables} → TypingReads T scope expression_rows relation_entries project_entries relations comparisons queries kinds reach
                  → here.set.bits ≡ set_of T c (report T) → (k : ℕ) (d : SetAt) → k < count + 1 → Dec (k ≡ count)
                  → IsSetAt T k (get_or (set gathered count y) k d)
              gathered_more {T} R e k d h (yes i) =
                  rw (i, get_or-set_same gathered count y d (omega (arith, S.size, each_room)))
                  (record { permits = sym (numbered R); shown = e ∙ ap (λ (d : ℕ). set_of T d (report T)) (sym (numbered R)) })
              gathered_more {T} R e k d h (no n) = rw (get_or-set_other gathered count k y d n) (S.each T R k d (omega (arith, n)))
