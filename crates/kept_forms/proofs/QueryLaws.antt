-- Laws of the words of query forms, and of the loop that writes them.
use Prim.Native.Nat.{ℕ, ◌+◌, ◌/◌, ◌<◌, ◌≤◌}
use mathlib.Core.Path.{◌≡◌, refl, sym, ap, ap₂, ◌∙◌}
use mathlib.Core.Bool.{Bool, true, false, cond, not, ◌&&◌}
use mathlib.Core.List.{List, [], ◌∷◌}
use native.Mathlib.Omega.{arith}
use lib.ListN.{length, get_or}
use Rattle.sets.specs.Bits.{member_count}
use Rattle.sets.specs.Lists.{concat}
use Rattle.sets.specs.Rows.{row_bit, row_in}
use Rattle.sets.specs.Writing.{WrittenAt}
use Rattle.sets.proofs.WritingLaws.{same_written, same_room, kept_room}
use Rattle.report.specs.Tables.{Tables, query, comparison_count, query_count}
use Rattle.report.specs.Typing.{reached, present, set_of}
use Rattle.report.specs.Operands.{query_operands, is_choice}
use Rattle.report.specs.Configuring.{query_kept, new_relation, new_comparison, new_query, relation_as, query_words_of, query_form_of}
use Rattle.report.specs.Formed.{Formed, QueryLower}
use Rattle.report.specs.declared.Query.{Query}
use Rattle.report.specs.declared.Reading.{Reading}
use Rattle.report.proofs.FormedFacts.{query_at}
use Rattle.at_configuration.specs.AtConfiguration.{PresentReads}
use Rattle.kept_lists.proofs.BlockLaws.{Keeping, keeping_room, keeping_more, keeping_all}
use Rattle.kept_lists.proofs.ProjectSets.{project_count}
use Rattle.kept_forms.specs.Numbering.{query_forms, QueryFormReads, QueryFormWritable}
use Rattle.kept_forms.specs.FormWords.{relation_words, query_words, QueryWritable}
use Rattle.kept_forms.proofs.NumberLaws.{query_in, query_is, reached-at}

-- ---- a relation

-- its words are those of an empty form where it is absent, whatever the numbers of other forms
pub relation_words_lem : (T : Tables) (c : ℕ) (to_comparison to_query entries : ℕ → ℕ) (a : ℕ)
    → query_words_of (new_relation T c) to_comparison to_query entries (relation_as T c Reading.Filled a) ≡ relation_words T c a
relation_words_lem T c to_comparison to_query entries a = go (present T c a)
  where
    go : (t : Bool)
        → query_words_of (new_relation T c) to_comparison to_query entries (cond t (Query.Relation a) Query.Empty)
        ≡ cond t (1 ∷ new_relation T c a ∷ 0 ∷ 0 ∷ []) (0 ∷ 0 ∷ 0 ∷ 0 ∷ [])
    go true = refl
    go false = refl

-- ---- what query form q writes: a choice, or a form that c does not reach, nothing, any other its words

module _ (T : Tables) (c : ℕ) where
  abbrev pub query_part : ℕ → List ℕ
  query_part q = cond (query_kept T c q) (query_form_of T c Reading.Filled q (query T.queries q)) []

  module _ (F : Formed T) (form_sets comparison_numbers query_numbers : List ℕ) (q : ℕ) (inside : q < query_count T)
      (typed : get_or form_sets q 0 ≡ set_of T c q)
      (compared : (j : ℕ) → j < comparison_count T → get_or comparison_numbers j 0 ≡ new_comparison T c j)
      (below : (j : ℕ) → j < q → get_or query_numbers j 0 ≡ new_query T c j) where
    pair : (kind : ℕ) {a b : ℕ} → a < q → b < q
        → kind ∷ new_query T c a ∷ new_query T c b ∷ 0 ∷ [] ≡ kind ∷ get_or query_numbers a 0 ∷ get_or query_numbers b 0 ∷ 0 ∷ []
    pair kind {a} {b} l m = sym (ap₂ (λ (i j : ℕ). kind ∷ i ∷ j ∷ 0 ∷ []) (below a l) (below b m))

    query_words_lem : (t : Bool) (y : Query) → query T.queries q ≡ y → QueryLower T q y
        → cond (t && not (is_choice (query_operands y))) (query_form_of T c Reading.Filled q y) []
        ≡ cond t (query_words T c q form_sets comparison_numbers query_numbers y) []
    query_words_lem false y e l = refl
    query_words_lem true Query.Malformed e l = refl
    query_words_lem true Query.Empty e l = refl
    query_words_lem true (Query.Relation a) e l = relation_words_lem T c _ _ _ a ∙ sym (relation_words_lem T c _ _ _ a)
    query_words_lem true (Query.Select a b) e l =
        sym (ap₂ (λ (i j : ℕ). 2 ∷ i ∷ j ∷ 0 ∷ []) (compared a l.0) (below b l.1.lower))
    query_words_lem true (Query.Project a b) e l =
        ap₂ (λ (i j : ℕ). 3 ∷ i ∷ j ∷ 0 ∷ []) (project_count F c q inside e ∙ ap member_count (sym typed)) (sym (below b l.1.lower))
    query_words_lem true (Query.Choice a b d) e l = refl
    query_words_lem true (Query.Product a b) e l = pair 5 l.first.lower l.second.lower
    query_words_lem true (Query.Union a b) e l = pair 6 l.first.lower l.second.lower
    query_words_lem true (Query.Intersection a b) e l = pair 7 l.first.lower l.second.lower

module _ {T : Tables} {expression_rows reach form_sets relations queries : List ℕ} {c : ℕ} {comparison_numbers query_numbers : List ℕ}
    (R : QueryFormReads T expression_rows reach form_sets relations queries c comparison_numbers query_numbers) where
  -- what all query forms write, one after another
  query_text : query_forms T c ≡ concat (length queries / 4) (query_part T c)
  unfolding query_forms
  query_text = ap (λ (t : List ℕ). concat (length t / 4) (query_part T c)) (sym R.reads.queries_are)

  relation_reads : PresentReads T expression_rows relations c
  relation_reads = record { reads = R.reads.reads; relations_are = R.relations_are }

  module _ {q : ℕ} (h : q < length queries / 4) {x : Query} (e : x ≡ query queries q) where
    part_is : {b : Bool} → b ≡ row_bit (row_in 16 reach q) c
        → query_part T c q ≡ cond b (query_words T c q form_sets comparison_numbers query_numbers x) []
    part_is r =
        let k = query_in R.reads h in
        let F = R.reads.reads.formed in
        query_words_lem T c F form_sets comparison_numbers query_numbers q k (R.typed.each q k) R.comparisons_numbered.each
        (λ j l. R.queries_numbered.each j (omega arith)) (reached T c q) (query T.queries q) refl (query_at F q k)
        ∙ ap₂ (λ (t : Bool) (y : Query). cond t (query_words T c q form_sets comparison_numbers query_numbers y) []) (sym (r ∙ reached-at R.reads h))
        (sym (query_is R.reads h e))

-- ---- the loop over the query forms

-- what those below q write stands at the front, up to p
pub record QueryWriting (expression_rows reach form_sets relations queries : List ℕ) (c : ℕ) (comparison_numbers query_numbers first out : List ℕ)
    (q p : ℕ) : Type 0 where
  pub keeping : Keeping (λ T. QueryFormReads T expression_rows reach form_sets relations queries c comparison_numbers query_numbers) (λ T. query_part T c)
      (length queries / 4) first 0 out q p

module _ {expression_rows reach form_sets relations queries : List ℕ} {c : ℕ} {comparison_numbers query_numbers first : List ℕ} where
  module _ {out : List ℕ} {q p : ℕ} (S : QueryWriting expression_rows reach form_sets relations queries c comparison_numbers query_numbers first out q p)
    where
      module _ (h : q < length queries / 4) {x : Query} (e : x ≡ query queries q) {b : Bool} (r : b ≡ row_bit (row_in 16 reach q) c) where
        pub query_forms_read : QueryFormWritable expression_rows reach form_sets relations queries c comparison_numbers query_numbers first → b ≡ true
            → QueryWritable expression_rows relations c q form_sets comparison_numbers query_numbers x out p
        query_forms_read A f =
            let R = A.reads in
            let k = query_in R.reads h in
            record {
              tables = A.tables;
              reads = relation_reads R;
              lower = rw (query_is R.reads h e) (query_at R.reads.reads.formed q k);
              typed = let m = R.typed.room in omega arith;
              compared = R.comparisons_numbered.room;
              below = let m = R.queries_numbered.room in omega arith;
              room = kept_room _ f (same_room (part_is R h e r) (keeping_room S.keeping R (same_room (query_text R) A.room) h));
            }

        pub query_forms_more : {o : List ℕ} {n : ℕ}
            → ((T : Tables) → PresentReads T expression_rows relations c
            → WrittenAt (cond b (query_words T c q form_sets comparison_numbers query_numbers x) []) out p o n)
            → QueryWriting expression_rows reach form_sets relations queries c comparison_numbers query_numbers first o (q + 1) n
        query_forms_more w =
            record { keeping = keeping_more S.keeping h (λ T R. same_written (part_is R h e r) (w T (relation_reads R))) }

      pub query_forms_all : length queries / 4 ≤ q → (T : Tables)
          → QueryFormReads T expression_rows reach form_sets relations queries c comparison_numbers query_numbers
          → WrittenAt (query_forms T c) first 0 out p
      query_forms_all h T R = same_written (query_text R) (keeping_all S.keeping h T R)
