-- The writing of configured tables: what each writer reads, that there is room, and that together they write the tables of `configured`.
use Rattle.std.specs.Prelude.{Ok}
use Prim.Native.Nat.{ℕ, ◌+◌, ◌*◌, ◌/◌, ◌≤◌}
use mathlib.Core.Path.{◌≡◌, refl, sym, ap, ap₂, ◌∙◌}
use mathlib.Core.Bool.{true}
use mathlib.Core.List.{List, ◌++◌}
use native.Mathlib.Omega.{arith}
use lib.ListN.{length, replicate, length-append, take-append-drop}
use Rattle.sets.specs.Lists.{table, NumbersAre}
use Rattle.sets.specs.Rows.{row_in}
use Rattle.sets.specs.Writing.{Room, WrittenAt}
use Rattle.sets.proofs.ListLaws.{numbers_are}
use Rattle.sets.proofs.WritingLaws.{from_start}
use Rattle.report.specs.Tables.{Tables, comparison_count, query_count, relations_end, entries_of_relations, entries_of_projects}
use Rattle.report.specs.Typing.{set_of}
use Rattle.report.specs.Expressions.{permitted}
use Rattle.report.specs.Configuring.{new_comparison, new_query, configured, written}
use Rattle.report.specs.Formed.{Formed}
use Rattle.report.specs.declared.Reading.{Reading}
use Rattle.report.proofs.TypingLaws.{permitted_within}
use Rattle.report.proofs.WrittenQueries.{entries_room, relations_room, comparisons_room, queries_room}
use Rattle.expression_rows.specs.declared.SplitTables.{SplitTables}
use Rattle.expression_rows.proofs.PermittedLaws.{model_row}
use Rattle.at_configuration.specs.AtConfiguration.{RelationReads, ComparisonReads}
use Rattle.at_configuration.proofs.PreparedLaws.{at_reads, relation_reads, comparison_reads}
use Rattle.faults_at.specs.SetsAt.{FormSetsReads}
use Rattle.kept_lists.specs.Keeping.{relation_lists, project_lists, relation_forms, KeptRelationWritable, ProjectReads}
use Rattle.kept_forms.specs.Numbering.{comparison_forms, query_forms, ComparisonFormReads, ComparisonFormWritable}
use Rattle.kept_forms.specs.Numbering.{QueryReads, QueryFormReads, QueryFormWritable}
use Rattle.late_checks.specs.LateReads.{LateReads}
use Rattle.configuring.specs.Promises.{form_counts, Rooms, Leaves}
use Rattle.configuring.specs.AfterTyping.{ConfigureReads, EntriesReads, EntriesWritable, KeptReads, KeptWritable, TypedReads, TypedWritable}

-- ---- the texts are the tables of `configured`

module _ (T : Tables) (c : ℕ) where
  entries_text : (configured T c Reading.Filled).entries ≡ relation_lists T c ++ project_lists T c
  unfolding configured relation_lists project_lists
  entries_text = refl

  relations_text : (configured T c Reading.Filled).relations ≡ relation_forms T c
  unfolding configured relation_forms
  relations_text = refl

  comparisons_text : (configured T c Reading.Filled).comparisons ≡ comparison_forms T c
  unfolding configured comparison_forms
  comparisons_text = refl

  queries_text : (configured T c Reading.Filled).queries ≡ query_forms T c
  unfolding configured query_forms
  queries_text = refl

-- a text has room where its table has
text_room : {text new lent : List ℕ} {source : ℕ} → new ≡ text → length new ≤ source → source ≤ length lent → Room text lent 0
text_room e f g = record { fits = omega (arith, ap length e) }

-- a text written from the start of a table: the place after it, and the table
text_written : {text new lent after : List ℕ} {place : ℕ} → new ≡ text → Room text lent 0 → WrittenAt text lent 0 after place
    → (place ≡ length new) × (after ≡ written new lent)
text_written e room w = rw e (omega (arith, w.place), from_start room w)

parts_length : (T : Tables) → length T.entries ≡ length (entries_of_relations T) + length (entries_of_projects T)
parts_length T = ap length (sym (take-append-drop (relations_end T * 2) T.entries)) ∙ length-append (entries_of_relations T) (entries_of_projects T)

-- there is as much room for the tables of another reading
pub same_rooms : {T U : Tables} {split : SplitTables} {reach : List ℕ} {c : ℕ} {new_entries new_relations new_comparisons new_queries : List ℕ}
    → KeptReads U split reach c → KeptReads T split reach c → Rooms U new_entries new_relations new_comparisons new_queries
    → Rooms T new_entries new_relations new_comparisons new_queries
same_rooms {T} {U} S R H = record {
  entries =
      let t = parts_length T in let u = parts_length U in let h = H.entries in
      let a = ap length (sym S.prepared.relation_entries_are ∙ R.prepared.relation_entries_are) in
      let b = ap length (sym S.prepared.project_entries_are ∙ R.prepared.project_entries_are) in
      omega arith;
  relations = let h = H.relations in rw (← R.prepared.relations_are, S.prepared.relations_are) h;
  comparisons = let h = H.comparisons in rw (← R.prepared.comparisons_are, S.prepared.comparisons_are) h;
  queries = let h = H.queries in rw (← R.prepared.queries_are, S.prepared.queries_are) h;
}

module _ {T : Tables} (F : Formed T) (c : ℕ) {new_entries new_relations new_comparisons new_queries : List ℕ}
    (S : Rooms T new_entries new_relations new_comparisons new_queries) where
  entries_fit : Room (relation_lists T c ++ project_lists T c) new_entries 0
  entries_fit = text_room (entries_text T c) (entries_room F c Reading.Filled) S.entries

  relations_fit : Room (relation_forms T c) new_relations 0
  relations_fit = text_room (relations_text T c) (relations_room F c Reading.Filled) S.relations

  comparisons_fit : Room (comparison_forms T c) new_comparisons 0
  comparisons_fit = text_room (comparisons_text T c) (comparisons_room F c Reading.Filled) S.comparisons

  queries_fit : Room (query_forms T c) new_queries 0
  queries_fit = text_room (queries_text T c) (queries_room F c Reading.Filled) S.queries

  -- what the writers leave
  pub tables_left : {new_entries' new_relations' new_comparisons' new_queries' : List ℕ} {e r f q : ℕ}
      → WrittenAt (relation_lists T c ++ project_lists T c) new_entries 0 new_entries' e
      → WrittenAt (relation_forms T c) new_relations 0 new_relations' r → WrittenAt (comparison_forms T c) new_comparisons 0 new_comparisons' f
      → WrittenAt (query_forms T c) new_queries 0 new_queries' q
      → Leaves (Ok tt) (configured T c Reading.Filled) new_entries new_relations new_comparisons new_queries
      (Ok (form_counts (e / 2) (r / 2) (f / 5) (q / 4))) new_entries' new_relations' new_comparisons' new_queries'
  tables_left entries_written relations_written comparisons_written queries_written =
      let w1 = text_written (entries_text T c) entries_fit entries_written in
      let w2 = text_written (relations_text T c) relations_fit relations_written in
      let w3 = text_written (comparisons_text T c) comparisons_fit comparisons_written in
      let w4 = text_written (queries_text T c) queries_fit queries_written in
      record {
        answers = rw (w1.0, w2.0, w3.0, w4.0);
        entries = w1.1;
        relations = w2.1;
        comparisons = w3.1;
        queries = w4.1;
      }

-- ---- what the writers read

module _ {T : Tables} {split : SplitTables} {reach : List ℕ} {c : ℕ} (R : KeptReads T split reach c) where
  pub lists_read : RelationReads T split.expression_rows.now split.relation_entries.now split.relations.now c
  lists_read = relation_reads R.prepared R.inside

  -- the sets of the query forms, and what they are worked out from
  pub sets_reads : FormSetsReads T c split.expression_rows.now split.relation_entries.now split.project_entries.now split.relations.now split.queries.now
  sets_reads = record { related = lists_read; entries_are = R.prepared.project_entries_are; queries_are = R.prepared.queries_are }

  pub typed_reads : {form_sets : List ℕ} → form_sets ≡ written (table (query_count T) (set_of T c)) (replicate 256 0)
      → TypedReads T split reach form_sets c
  typed_reads e = record { kept = R; typed = numbers_are (query_count T) (set_of T c) _ e }

  pub comparisons_read : ComparisonReads T split.expression_rows.now split.comparisons.now c
  comparisons_read = comparison_reads R.prepared R.inside

  pub query_reads : QueryReads T split.expression_rows.now reach split.queries.now c
  query_reads = record { reads = at_reads R.prepared R.inside; reaching = R.reaching; queries_are = R.prepared.queries_are }

module _ {T : Tables} {split : SplitTables} {reach form_sets : List ℕ} {c : ℕ} (R : TypedReads T split reach form_sets c) where
  project_reads : ProjectReads T split.expression_rows.now reach form_sets split.project_entries.now split.queries.now c
  project_reads =
      let K = R.kept in
      record {
        reads = at_reads K.prepared K.inside;
        reaching = K.reaching;
        typed = R.typed;
        entries_are = K.prepared.project_entries_are;
        queries_are = K.prepared.queries_are;
      }

  pub entries_reads : EntriesReads T split reach form_sets c
  entries_reads = record { lists = lists_read R.kept; projects = project_reads }

  module _ {comparison_numbers : List ℕ}
      (first_numbers : comparison_numbers ≡ written (table (comparison_count T) (new_comparison T c)) (replicate 256 0)) where
    compared : NumbersAre (comparison_count T) (new_comparison T c) comparison_numbers
    compared = numbers_are (comparison_count T) (new_comparison T c) _ first_numbers

    pub comparison_form_reads : ComparisonFormReads T c split.comparisons.now comparison_numbers
    comparison_form_reads =
        let P = R.kept.prepared in
        record { formed = P.formed; comparisons_are = P.comparisons_are; numbered = compared }

    pub form_reads : {query_numbers : List ℕ} → query_numbers ≡ written (table (query_count T) (new_query T c)) (replicate 256 0)
        → QueryFormReads T split.expression_rows.now reach form_sets split.relations.now split.queries.now c comparison_numbers query_numbers
    form_reads e = record {
      reads = query_reads R.kept;
      typed = R.typed;
      relations_are = R.kept.prepared.relations_are;
      comparisons_numbered = compared;
      queries_numbered = numbers_are (query_count T) (new_query T c) _ e;
    }

-- ---- and that there is room

module _ {split : SplitTables} {reach : List ℕ} {c : ℕ} {new_entries new_relations new_comparisons new_queries : List ℕ}
    (W : KeptWritable split reach c new_entries new_relations new_comparisons new_queries)
  where
    pub typed_writable : {form_sets : List ℕ} → form_sets ≡ written (table (query_count W.tables) (set_of W.tables c)) (replicate 256 0)
        → TypedWritable split reach form_sets c new_entries new_relations new_comparisons new_queries
    typed_writable e = record { tables = W.tables; reads = typed_reads W.reads e; rooms = W.rooms }

module _ {split : SplitTables} {reach form_sets : List ℕ} {c : ℕ} {new_entries new_relations new_comparisons new_queries : List ℕ}
    (W : TypedWritable split reach form_sets c new_entries new_relations new_comparisons new_queries)
  where
    formed : Formed W.tables
    formed = W.reads.kept.prepared.formed

    pub entries_writable : EntriesWritable split reach form_sets c new_entries
    entries_writable = record { tables = W.tables; reads = entries_reads W.reads; room = entries_fit formed c W.rooms }

    pub relations_writable : KeptRelationWritable relation_forms split.expression_rows.now split.relation_entries.now split.relations.now c
        new_relations 0
    relations_writable = record { tables = W.tables; reads = lists_read W.reads.kept; room = relations_fit formed c W.rooms }

    module _ {comparison_numbers : List ℕ}
        (first_numbers : comparison_numbers ≡ written (table (comparison_count W.tables) (new_comparison W.tables c)) (replicate 256 0))
      where
        pub comparisons_writable : ComparisonFormWritable split.comparisons.now comparison_numbers new_comparisons
        comparisons_writable = record {
          tables = W.tables;
          configuration = c;
          reads = comparison_form_reads W.reads first_numbers;
          room = comparisons_fit formed c W.rooms;
        }

        pub queries_writable : {query_numbers : List ℕ}
            → query_numbers ≡ written (table (query_count W.tables) (new_query W.tables c)) (replicate 256 0)
            → QueryFormWritable split.expression_rows.now reach form_sets split.relations.now split.queries.now c comparison_numbers query_numbers
            new_queries
        queries_writable e =
            record { tables = W.tables; reads = form_reads W.reads first_numbers e; room = queries_fit formed c W.rooms }

-- ---- from the prepared tables

module _ {T : Tables} {model : ℕ} {split : SplitTables} {reach : List ℕ} (R : ConfigureReads T model split reach) where
  pub late_reads : {permits : List ℕ} → permits ≡ row_in 16 split.expression_rows.now model
      → LateReads T permits (split.relation_entries.now ++ split.project_entries.now) split.relations.now split.comparisons.now split.queries.now
  late_reads load =
      let P = R.prepared in
      record {
        few = P.formed.few;
        permitting = load ∙ model_row P.formed P.filled R.number;
        source = record {
          entries_are = ap₂ (λ (k l : List ℕ). k ++ l) P.relation_entries_are P.project_entries_are ∙ take-append-drop (relations_end T * 2) T.entries;
          relations_are = P.relations_are;
          comparisons_are = P.comparisons_are;
          queries_are = P.queries_are;
        };
      }

  -- at a permitted configuration
  pub kept_reads : {c : ℕ} → permitted T c ≡ true → KeptReads T split reach c
  kept_reads {c} p = record { prepared = R.prepared; inside = permitted_within T c p; reaching = R.reaching }
