-- Laws of the loop over the query forms: the lists of the project forms that are kept.
use Prim.Native.Nat.{ℕ, ◌+◌, ◌*◌, ◌/◌, ◌<◌, ◌≤◌}
use mathlib.Core.Path.{◌≡◌, refl, sym, ap, ap₂, ◌∙◌}
use mathlib.Core.Bool.{Bool, true, false, cond, ◌&&◌, not}
use mathlib.Core.List.{List, []}
use native.Mathlib.Numerals.{add-one}
use lib.ListN.{length, get_or}
use Rattle.sets.specs.Bits.{bit}
use Rattle.sets.specs.Lists.{concat}
use Rattle.sets.specs.Rows.{row_bit, row_in}
use Rattle.sets.specs.Writing.{WrittenAt}
use Rattle.sets.proofs.WritingLaws.{same_room, same_written}
use Rattle.report.specs.Tables.{Tables, query, query_count, project_length, projected_before, relations_end}
use Rattle.report.specs.Operands.{query_operands, is_choice}
use Rattle.report.specs.Typing.{reached, set_of}
use Rattle.report.specs.Configuring.{project_list_of}
use Rattle.report.specs.declared.Query.{Query}
use Rattle.report.specs.declared.Reading.{Reading}
use Rattle.report.proofs.OperandLaws.{View, choice, plain, view, choice_query}
use Rattle.at_configuration.specs.AtConfiguration.{ListReads, FormAt}
use Rattle.at_configuration.proofs.HoldLaws.{reach_row, reach_has}
use Rattle.at_configuration.proofs.ListLaws.{form_list}
use Rattle.kept_lists.specs.Keeping.{project_lists, ProjectReads, ProjectWritable}
use Rattle.kept_lists.specs.Blocks.{list_if, project_list_at, ListIfWritable}
use Rattle.kept_lists.proofs.BlockLaws.{Keeping, keeping_room, keeping_more, keeping_all}
use Rattle.kept_lists.proofs.ProjectSets.{project_list}

-- A form that is no project lists no entries, so a reached form writes the list of its entries whatever its kind
listed_as : (T : Tables) (c q : ℕ) (b : Bool) (y : Query)
    → cond (b && not (is_choice (query_operands y))) (project_list_of T c Reading.Filled q y) [] ≡ cond b (project_list_of T c Reading.Filled q y) []
listed_as T c q false y = refl
listed_as T c q true y = go (view (query_operands y))
  where
    go : View (query_operands y)
        → cond (not (is_choice (query_operands y))) (project_list_of T c Reading.Filled q y) [] ≡ project_list_of T c Reading.Filled q y
    go (choice e a b w) = rw (choice_query y w)
    go (plain p) = ap (λ (t : Bool). cond (not t) (project_list_of T c Reading.Filled q y) []) p

-- ---- what is read of one form

module _ {T : Tables} {expression_rows reach form_sets entries queries : List ℕ} {c : ℕ} (R : ProjectReads T expression_rows reach form_sets entries queries c) where
  -- all the lists
  all_lists : project_lists T c ≡ concat (length queries / 4) (project_list_at T c)
  unfolding project_lists
  all_lists = ap (λ (t : List ℕ). concat (length t / 4) (project_list_at T c)) (sym R.queries_are)

  module _ {q : ℕ} (h : q < length queries / 4) where
    in_table : q < query_count T
    in_table = rw R.queries_are at h

    module _ {start : ℕ} (s : start ≡ projected_before queries q) {x : Query} (f : x ≡ query queries q) where
      form_at : FormAt T q expression_rows entries c start x
      form_at = record {
        reads = R.reads;
        entries_are = R.entries_are;
        inside = in_table;
        form = f ∙ ap (λ (t : List ℕ). query t q) R.queries_are;
        starts = s ∙ ap (λ (t : List ℕ). projected_before t q) R.queries_are;
      }

      -- what form q writes is what was found of it
      list_text : {n : ℕ} → n ≡ project_length x → {b : Bool} → b ≡ row_bit (row_in 16 reach q) c → {stays : ℕ} → stays ≡ get_or form_sets q 0
          → project_list_at T c q ≡ list_if b T c (bit stays) (relations_end T + start) n
      list_text {n} e {b} p {stays} t =
          listed_as T c q (reached T c q) (query T.queries q)
          ∙ ap (λ (l : List ℕ). cond (reached T c q) l []) (sym (project_list R.reads.formed c q in_table))
          ∙ sym
          (ap₂ (λ (t : Bool) (k : ℕ). list_if t T c (bit k) (relations_end T + start) n) (p ∙ reach_has R.reads R.reaching in_table)
          (t ∙ R.typed.each q in_table)
          ∙ ap₂ (λ (i k : ℕ). list_if (reached T c q) T c (bit (set_of T c q)) (relations_end T + i) k) form_at.starts
          (e ∙ ap project_length form_at.form))

-- ---- the loop

-- the lists of the forms below q are written, and that of the next project starts at `start`
pub record Projecting (expression_rows reach form_sets entries queries : List ℕ) (c : ℕ) (lent : List ℕ) (at : ℕ) (out : List ℕ) (q start p : ℕ) : Type 0 where
  pub kept : Keeping (λ T. ProjectReads T expression_rows reach form_sets entries queries c) (λ T. project_list_at T c) (length queries / 4) lent at out q p
  pub starts : start ≡ projected_before queries q

module _ {expression_rows reach form_sets entries queries : List ℕ} {c : ℕ} {lent : List ℕ} {at : ℕ} {q : ℕ} where
  pub projecting_rowed : ProjectWritable expression_rows reach form_sets entries queries c lent at → q < length queries / 4 → (q * 16 + 16 ≤ length reach)
      × (c < 1024)
  projecting_rowed A h = reach_row A.reads.reads A.reads.reaching (in_table A.reads h)

  module _ {out : List ℕ} {start p : ℕ} (S : Projecting expression_rows reach form_sets entries queries c lent at out q start p) where
    module _ (h : q < length queries / 4) {x : Query} (f : x ≡ query queries q) {n : ℕ} (e : n ≡ project_length x) where
      module _ {b : Bool} (r : b ≡ row_bit (row_in 16 reach q) c) {stays : ℕ} (t : stays ≡ get_or form_sets q 0) where
        pub projecting_room : ProjectWritable expression_rows reach form_sets entries queries c lent at → ListIfWritable b expression_rows entries c start n stays out p
        projecting_room A =
            let R = A.reads in
            record {
              tables = A.tables;
              offset = relations_end A.tables;
              reads = form_list (form_at R h S.starts f) e;
              room = same_room (list_text R h S.starts f e r t) (keeping_room S.kept R (same_room (all_lists R) A.room) h);
            }

        pub projecting_more : {o : List ℕ} {k : ℕ}
            → ((T : Tables) (offset : ℕ) → ListReads T offset expression_rows entries c start n
            → WrittenAt (list_if b T c (bit stays) (offset + start) n) out p o k)
            → Projecting expression_rows reach form_sets entries queries c lent at o (q + 1) (start + n) k
        projecting_more w = record {
          kept =
              keeping_more S.kept h
              (λ T R. same_written (list_text R h S.starts f e r t) (w T (relations_end T) (form_list (form_at R h S.starts f) e)));
          starts = ap₂ ◌+◌ S.starts (e ∙ ap project_length f) ∙ ap (projected_before queries) (sym (add-one q));
        }

    pub projecting_all : length queries / 4 ≤ q → (T : Tables) → ProjectReads T expression_rows reach form_sets entries queries c
        → WrittenAt (project_lists T c) lent at out p
    projecting_all h T R = same_written (all_lists R) (keeping_all S.kept h T R)
