-- Laws of the loop that types all forms in one attribute.
use Prim.Native.Nat.{ℕ, suc, ◌+◌, ◌*◌, ◌/◌, ◌^◌, ◌<◌, ◌≤◌}
use mathlib.Core.Path.{◌≡◌, refl, sym, ap, ap₂, ◌∙◌}
use mathlib.Core.Bool.{Bool, true, false, cond, ◌&&◌, ◌||◌, or-false}
use mathlib.Core.List.{List, ◌++◌}
use native.Mathlib.Nat.{le_refl}
use native.Mathlib.Numerals.{add-one}
use native.Mathlib.Omega.{arith}
use lib.Bits.{bit_or}
use lib.ListN.{length, drop, get_or, set}
use lib.Seq.{get_or-append-add, get_or-drop, set-get_or}
use Rattle.sets.specs.Search.{some_below}
use Rattle.sets.specs.Lists.{table}
use Rattle.sets.specs.Bits.{bit}
use Rattle.sets.specs.Rows.{row_of, row_in, row_join, row_intersect, with_row, RowsAre}
use Rattle.sets.proofs.SearchLaws.{some_below_suc}
use Rattle.sets.proofs.ListLaws.{table-length, NumbersFilling, filling_place as numbers_place}
use Rattle.sets.proofs.ListLaws.{filling_more as numbers_more, filling_all as numbers_all}
use Rattle.sets.proofs.RowLaws.{row_of_same, row_of_row, join_row_of, rows_are, with_row_again}
use Rattle.report.specs.Tables.{Tables, query, query_count, relations_end, project_length, projected_before, project_start}
use Rattle.report.specs.Typing.{reached}
use Rattle.report.specs.Readings.{spared, faults_by}
use Rattle.report.specs.declared.Query.{Query}
use Rattle.report.specs.declared.Reading.{Reading}
use Rattle.report.proofs.EntryParts.{project_part, project_in_part}
use Rattle.expression_rows.proofs.RowsFilling.{RowsFilling, filling_more, filling_rest, filling_all}
use Rattle.attribute_rows.specs.AttributeRows.{list_row, set_row, ListRowReads, ListRowReadable}
use Rattle.attribute_rows.specs.RowRules.{set_step, SetRead}
use Rattle.attribute_rows.proofs.AttributeLaws.{set_wide, sets_are}
use Rattle.attribute_rows.proofs.SetLaws.{set_read, set_is}
use Rattle.fault_rows.specs.FaultRows.{fault_row, faulty_row}
use Rattle.fault_rows.specs.FaultRules.{fault_step, spared_step, ItemRead, ItemJudged, spared_below, FormRowsReads, FormRowsReadable, FormsFilled}
use Rattle.fault_rows.proofs.FormLaws.{fault_read, fault_is}
use Rattle.fault_rows.proofs.FoundLaws.{spared_is, spared_more}

-- one item more
join_row : (T : Tables) (R : Reading) (a q : ℕ) → row_join 16 (faulty_row T R a q) (fault_row T R a q) ≡ faulty_row T R (a + 1) q
join_row T R a q =
    join_row_of 16 (λ c. reached T c q && some_below (bit (faults_by T R c 0 q)) a) (λ c. reached T c q && bit (faults_by T R c 0 q) a)
    ∙ row_of_same 16 (λ c. (reached T c q && some_below (bit (faults_by T R c 0 q)) a) || (reached T c q && bit (faults_by T R c 0 q) a))
    (λ c. reached T c q && some_below (bit (faults_by T R c 0 q)) (suc a))
    (λ c h. go (reached T c q) (some_below (bit (faults_by T R c 0 q)) a) (bit (faults_by T R c 0 q) a)
    ∙ ap (λ (t : Bool). reached T c q && t) (sym (some_below_suc (bit (faults_by T R c 0 q)) a)))
    ∙ ap (λ (k : ℕ). faulty_row T R k q) (sym (add-one a))
  where
    go : (r s b : Bool) → ((r && s) || (r && b)) ≡ (r && (s || b))
    go true s b = refl
    go false s b = refl

-- a row joined with another unless it is spared, as one that is always joined
held_join : (p : ℕ → Bool) (spares : Bool) (here : List ℕ)
    → cond spares (row_of 16 p) (row_join 16 (row_of 16 p) here) ≡ row_join 16 (row_of 16 p) (cond spares (row_of 16 (λ c. false)) here)
held_join p true here = sym (join_row_of 16 p (λ c. false) ∙ row_of_same 16 (λ c. p c || false) p (λ c h. or-false (p c)))
held_join p false here = refl

-- what is judged of an item is stored in the form's own row and set, spared or not
module _ {spares : Bool} {here : List ℕ} {a q : ℕ} {lent fault_rows lent_sets spared_sets : List ℕ}
    (J : ItemJudged spares here a q lent fault_rows lent_sets spared_sets) where
  judged_row : q * 16 + 16 ≤ length lent → fault_rows ≡ with_row 16 lent q (cond spares (row_in 16 lent q) (row_join 16 (row_in 16 lent q) here))
  judged_row room = J.held ∙ go spares
    where
      go : (t : Bool) → cond t lent (with_row 16 lent q (row_join 16 (row_in 16 lent q) here))
          ≡ with_row 16 lent q (cond t (row_in 16 lent q) (row_join 16 (row_in 16 lent q) here))
      go true = with_row_again 16 lent q room refl
      go false = refl

  judged_set : spared_sets ≡ set lent_sets q (cond spares (bit_or (get_or lent_sets q 0) (2 ^ a)) (get_or lent_sets q 0))
  judged_set = J.sparing ∙ go spares
    where
      go : (t : Bool) → cond t (set lent_sets q (bit_or (get_or lent_sets q 0) (2 ^ a))) lent_sets
          ≡ set lent_sets q (cond t (bit_or (get_or lent_sets q 0) (2 ^ a)) (get_or lent_sets q 0))
      go true = refl
      go false = sym (set-get_or lent_sets q 0)

pub faulty_wide : (R : Reading) (T : Tables) (items q : ℕ) → length (faulty_row T R items q) ≡ 16
faulty_wide R T items q = (row_of_row 16 (λ c. reached T c q && some_below (bit (faults_by T R c 0 q)) items)).size

-- after k numbers that were written over `lent` the next is still that of `lent`
next_number : (k : ℕ) (f : ℕ → ℕ) (lent : List ℕ) {numbers : List ℕ} → numbers ≡ table k f ++ drop k lent → get_or numbers k 0 ≡ get_or lent k 0
next_number k f lent e =
    let s : k ≡ length (table k f) + 0 = omega (arith, table-length k f) in
    let t : k + 0 ≡ k = omega arith in
    ap (λ (l : List ℕ). get_or l k 0) e ∙ ap (λ (i : ℕ). get_or (table k f ++ drop k lent) i 0) s ∙ get_or-append-add (table k f) (drop k lent) 0 0
    ∙ get_or-drop k lent 0 0 ∙ ap (λ (i : ℕ). get_or lent i 0) t

-- ---- the loop

-- where `lent` starts with the fault rows of the items below a, and `lent_sets` with what the forms are spared of them: the rows of the forms below q stand
-- in `form_rows`, and in `fault_rows` and `spared_sets` theirs have item a besides; the list of the next project starts at `start`
pub record FormsTyping (R : Reading) (expression_rows project_entries relations queries reach named_rows relation_rows : List ℕ) (a : ℕ)
    (before form_rows lent fault_rows lent_sets spared_sets : List ℕ)
    (q start : ℕ)
    : Type 0 where
  pub shaped : RowsFilling (λ T. FormRowsReads T R expression_rows project_entries relations queries reach named_rows relation_rows a lent lent_sets) set_row
      a (length queries / 4) before form_rows q
  pub joined : RowsFilling (λ T. FormRowsReads T R expression_rows project_entries relations queries reach named_rows relation_rows a lent lent_sets)
      (λ T x k. faulty_row T R (x + 1) k) a (length queries / 4) lent fault_rows q
  pub sparing : NumbersFilling (λ T. FormRowsReads T R expression_rows project_entries relations queries reach named_rows relation_rows a lent lent_sets)
      (λ T. spared_below T R (a + 1)) (length queries / 4) lent_sets spared_sets q
  pub starts : start ≡ projected_before queries q

module _ {R : Reading} {expression_rows project_entries relations queries reach named_rows relation_rows : List ℕ} {a : ℕ}
    {before form_rows lent fault_rows lent_sets spared_sets : List ℕ} {q start : ℕ}
    (S : FormsTyping R expression_rows project_entries relations queries reach named_rows relation_rows a before form_rows lent fault_rows lent_sets
    spared_sets q start) where
  module _ (h : q < length queries / 4) where
    module _ {T : Tables} (F : FormRowsReads T R expression_rows project_entries relations queries reach named_rows relation_rows a lent lent_sets) where
      in_table : q < query_count T
      in_table = rw F.queries_are at h

      lower : RowsAre 16 q (set_row T a) form_rows
      lower = rows_are 16 q (set_row T a) (λ k l. set_wide T a k) _ (S.shaped.filled T F)

    -- form q has its rows and its set
    module _ (A : FormRowsReadable R expression_rows project_entries relations queries reach named_rows relation_rows a before lent lent_sets) where
      typing_faults : q * 16 + 16 ≤ length fault_rows
      typing_faults = let m = A.reads.faulty.room in let s = S.joined.size in let i = in_table A.reads in omega arith

      set_room : length queries / 4 ≤ length lent_sets
      set_room = let m = A.reads.sparing.room in let e = ap (λ (t : List ℕ). length t / 4) A.reads.queries_are in omega arith

    -- the code finds it to be x
    module _ {x : Query} (e : x ≡ query queries q) where
      form : {T : Tables} → FormRowsReads T R expression_rows project_entries relations queries reach named_rows relation_rows a lent lent_sets
          → x ≡ query T.queries q
      form F = e ∙ ap (λ (t : List ℕ). query t q) F.queries_are

      module _ (A : FormRowsReadable R expression_rows project_entries relations queries reach named_rows relation_rows a before lent lent_sets) where
        pub typing_item : ItemRead expression_rows relations named_rows form_rows fault_rows spared_sets x a q
        typing_item =
            let F = A.reads in
            record {
              read = fault_read F.formed a F.filled F.compared (lower F) (in_table F) (form F) F.relations_are;
              row = typing_faults A;
              item = A.item;
              room = numbers_place S.sparing (set_room A) h;
            }

        pub typing_set : SetRead expression_rows relation_rows form_rows x
        typing_set = let F = A.reads in set_read F.formed a F.filled F.related (lower F) (in_table F) (form F)

      -- with n entries
      module _ {n : ℕ} (p : n ≡ project_length x) where
        list_reads : {T : Tables} → FormRowsReads T R expression_rows project_entries relations queries reach named_rows relation_rows a lent lent_sets
            → ListRowReads T (relations_end T) expression_rows project_entries start n
        list_reads F = record {
          formed = F.formed;
          filled = F.filled;
          part = rw F.entries_are (project_part F.formed);
          inside = rw (F.entries_are, S.starts, F.queries_are, p, form F) (project_in_part F.formed q (in_table F));
        }

        pub typing_list : FormRowsReadable R expression_rows project_entries relations queries reach named_rows relation_rows a before lent lent_sets
            → ListRowReadable expression_rows project_entries start n
        typing_list A = record { tables = A.tables; offset = relations_end A.tables; reads = list_reads A.reads }

        -- the row of these entries
        module _ {listed : List ℕ}
            (list : (T : Tables) (offset : ℕ) → ListRowReads T offset expression_rows project_entries start n
            → listed ≡ list_row T a (offset + start) n) where
          module _ {T : Tables} (F : FormRowsReads T R expression_rows project_entries relations queries reach named_rows relation_rows a lent lent_sets) where
            own_list : listed ≡ list_row T a (project_start T q) (project_length x)
            own_list =
                list T (relations_end T) (list_reads F)
                ∙ ap₂ (λ (i k : ℕ). list_row T a (relations_end T + i) k) (S.starts ∙ ap (λ (t : List ℕ). projected_before t q) F.queries_are) p

            own_set : {row : List ℕ} → row ≡ set_step expression_rows relation_rows form_rows listed x → row ≡ set_row T a q
            own_set = set_is F.formed a F.filled F.related (lower F) (in_table F) (form F) own_list

            -- what reaches the form
            module _ {among : List ℕ} (load : among ≡ row_in 16 reach q) where
              -- the code spares the form item a
              abbrev spares : Bool
              spares = spared_step R expression_rows relations form_rows listed among a x

              own_spared : spares ≡ bit (spared T R q) a
              own_spared =
                  spared_is F.formed a F.filled (lower F) (in_table F) (form F) F.relations_are own_list
                  (load ∙ F.reaching.each q (in_table F)) R refl

              own_sparing : cond spares (bit_or (get_or spared_sets q 0) (2 ^ a)) (get_or spared_sets q 0) ≡ spared_below T R (a + 1) q
              own_sparing =
                  ap (λ (s : ℕ). cond spares (bit_or s (2 ^ a)) s)
                  (next_number q (spared_below T R (a + 1)) lent_sets (S.sparing.filled T F) ∙ F.sparing.each q (in_table F))
                  ∙ spared_more T R q a own_spared

              own_fault : {here : List ℕ} → here ≡ row_intersect 16 (fault_step expression_rows relations named_rows form_rows listed among a x) among
                  → cond spares (row_in 16 fault_rows q) (row_join 16 (row_in 16 fault_rows q) here) ≡ faulty_row T R (a + 1) q
              own_fault {here} fault =
                  ap (λ (l : List ℕ). cond spares l (row_join 16 l here))
                  (filling_rest (λ T x k. faulty_wide R T (x + 1) k) S.joined T F q (le_refl q) ∙ F.faulty.each q (in_table F))
                  ∙ held_join (λ c. reached T c q && some_below (bit (faults_by T R c 0 q)) a) spares here
                  ∙ ap (row_join 16 (faulty_row T R a q))
                  (fault_is F.formed a F.filled F.compared (lower F) (in_table F) (form F) F.relations_are own_list
                  (load ∙ F.reaching.each q (in_table F)) R own_spared (ap (cond spares (row_of 16 (λ c. false))) fault))
                  ∙ join_row T R a q

          pub typing_more : FormRowsReadable R expression_rows project_entries relations queries reach named_rows relation_rows a before lent lent_sets
              → {among row new_fault_rows new_spared_sets new_form_rows : List ℕ} → among ≡ row_in 16 reach q
              → ItemJudged (spared_step R expression_rows relations form_rows listed among a x)
              (row_intersect 16 (fault_step expression_rows relations named_rows form_rows listed among a x) among)
              a q fault_rows new_fault_rows spared_sets new_spared_sets
              → length new_fault_rows ≡ length fault_rows
              → row ≡ set_step expression_rows relation_rows form_rows listed x → length new_form_rows ≡ length form_rows
              → new_form_rows ≡ with_row 16 form_rows q row
              → FormsTyping R expression_rows project_entries relations queries reach named_rows relation_rows a before new_form_rows lent new_fault_rows
              lent_sets new_spared_sets (q + 1) (start + n)
          typing_more A load judged same step alike stores = record {
            shaped = filling_more set_wide S.shaped h (λ T F B. own_set F step) alike stores;
            joined =
                filling_more (λ T x k. faulty_wide R T (x + 1) k) S.joined h (λ T F B. own_fault F load refl) same
                (judged_row judged (typing_faults A));
            sparing = rw (judged_set judged) (numbers_more S.sparing (set_room A) h (λ T F. own_sparing F load));
            starts =
                let b = S.starts in let m = ap (projected_before queries) (add-one q) in let y = p ∙ ap project_length e in
                omega arith;
          }

  pub typing_all : length queries / 4 ≤ q → (T : Tables)
      → FormRowsReads T R expression_rows project_entries relations queries reach named_rows relation_rows a lent lent_sets
      → FormsFilled T R a form_rows lent fault_rows lent_sets spared_sets
  typing_all h T F =
      let e = ap (λ (t : List ℕ). length t / 4) F.queries_are in
      record {
        shaped = sets_are T a before (filling_all set_wide S.shaped h T F e);
        joined = filling_all (λ U x k. faulty_wide R U (x + 1) k) S.joined h T F e;
        sparing = numbers_all S.sparing h T F e;
      }
