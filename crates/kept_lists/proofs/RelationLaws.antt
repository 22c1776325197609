-- Laws of the loops over the relations: the lists of those that are present, and their forms.
use Prim.Native.Nat.{ℕ, ◌+◌, ◌-◌, ◌/◌, ◌^◌, ◌<◌, ◌≤◌}
use mathlib.Core.Path.{◌≡◌, sym, ap, ap₂, ◌∙◌}
use mathlib.Core.Bool.{Bool, cond}
use mathlib.Core.List.{List, []}
use native.Mathlib.Numerals.{add-one}
use native.Mathlib.Omega.{arith}
use lib.ListN.{length}
use Rattle.sets.specs.Bits.{bit}
use Rattle.sets.specs.Lists.{concat}
use Rattle.sets.specs.Writing.{WrittenAt}
use Rattle.sets.proofs.SearchLaws.{count_le}
use Rattle.sets.proofs.WritingLaws.{same_room, same_written}
use Rattle.decoders.specs.Words.{IsWord}
use Rattle.report.specs.Tables.{Tables, relation_length, relation_start}
use Rattle.report.specs.Typing.{present}
use Rattle.report.specs.Configuring.{entry_kept, all_stay, kept_length}
use Rattle.at_configuration.specs.AtConfiguration.{ListReads, ListReadable, PresentReads, RelationReads}
use Rattle.at_configuration.proofs.ListLaws.{reads_present, starts_at, is_long, relation_list_lem}
use Rattle.kept_lists.specs.Keeping.{relation_lists, relation_forms, KeptRelationWritable}
use Rattle.kept_lists.specs.Blocks.{pair_if, list_if, relation_list_at, relation_form_at, WordPairWritable, ListIfWritable}
use Rattle.kept_lists.proofs.BlockLaws.{Keeping, keeping_room, keeping_more, keeping_all}
use Rattle.report.proofs.StayLaws.{all_staying}

-- ---- what is read of one relation

module _ {T : Tables} {expression_rows entries relations : List ℕ} {c : ℕ} (R : RelationReads T expression_rows entries relations c) where
  -- all the lists, and all the forms
  all_lists : relation_lists T c ≡ concat (length relations / 2) (relation_list_at T c)
  unfolding relation_lists
  all_lists = ap (λ (t : List ℕ). concat (length t / 2) (relation_list_at T c)) (sym R.relations_are)

  all_forms : relation_forms T c ≡ concat (length relations / 2) (relation_form_at T c)
  unfolding relation_forms
  all_forms = ap (λ (t : List ℕ). concat (length t / 2) (relation_form_at T c)) (sym R.relations_are)

  module _ {r start : ℕ} (s : start ≡ relation_start relations r) (h : r < length relations / 2) {n : ℕ} (e : n ≡ relation_length relations r) where
    -- what relation r writes is what was found of it
    module _ {b : Bool} (p : b ≡ present T c r) where
      list_text : {stays : ℕ} → stays ≡ 2 ^ 64 - 1 → relation_list_at T c r ≡ list_if b T c (bit stays) (0 + start) n
      list_text {stays} all =
          let L = relation_list_lem R s h e in
          sym
          (ap (λ (k : ℕ). list_if b T c (bit k) (0 + start) n) all
          ∙ ap (λ (l : List ℕ). cond b l [])
          (all_staying T c (0 + start) R.reads.formed n (let l = L.lies in let m = L.part.inside in omega arith))
          ∙ ap (λ (t : Bool). list_if t T c all_stay (0 + start) n) p
          ∙ ap₂ (λ (i k : ℕ). list_if (present T c r) T c all_stay i k) (starts_at R s h e) (is_long R s h e))

      form_text : {k : ℕ} → k ≡ kept_length T c all_stay (0 + start) n → relation_form_at T c r ≡ pair_if b 0 k
      form_text q = sym (ap₂ (λ (t : Bool) (k : ℕ). pair_if t 0 k) p (q ∙ ap₂ (kept_length T c all_stay) (starts_at R s h e) (is_long R s h e)))

-- ---- the loops

-- what f makes of the relations below r is written, and the list of r starts at `start`
pub record Relating (f : Tables → ℕ → ℕ → List ℕ) (expression_rows entries relations : List ℕ) (c : ℕ) (first out : List ℕ) (r start p : ℕ) : Type 0 where
  pub kept : Keeping (λ T. RelationReads T expression_rows entries relations c) (λ T. f T c) (length relations / 2) first 0 out r p
  pub starts : start ≡ relation_start relations r

module _ {f : Tables → ℕ → ℕ → List ℕ} {expression_rows entries relations : List ℕ} {c : ℕ} {first out : List ℕ} {r start p : ℕ}
    (S : Relating f expression_rows entries relations c first out r start p) (h : r < length relations / 2) {n : ℕ}
    (e : IsWord (relation_length relations r) n) where
  pub relating_list : {g : Tables → ℕ → List ℕ} → KeptRelationWritable g expression_rows entries relations c first 0
      → ListReadable expression_rows entries c start n
  relating_list A = record { tables = A.tables; offset = 0; reads = relation_list_lem A.reads S.starts h e.same }

  relating_more : {o : List ℕ} {q : ℕ} → ((T : Tables) → RelationReads T expression_rows entries relations c → WrittenAt (f T c r) out p o q)
      → Relating f expression_rows entries relations c first o (r + 1) (start + n) q
  relating_more w = record {
    kept = keeping_more S.kept h w;
    starts = ap₂ ◌+◌ S.starts e.same ∙ ap (relation_start relations) (sym (add-one r));
  }

module _ {expression_rows entries relations : List ℕ} {c : ℕ} {first out : List ℕ} {r start p : ℕ} (h : r < length relations / 2) {n : ℕ}
    (e : IsWord (relation_length relations r) n) {b : Bool} (q : (T : Tables) → PresentReads T expression_rows relations c → b ≡ present T c r) where
  -- the lists
  module _ (S : Relating relation_list_at expression_rows entries relations c first out r start p) {stays : ℕ} (all : stays ≡ 2 ^ 64 - 1) where
    pub lists_room : KeptRelationWritable relation_lists expression_rows entries relations c first 0
        → ListIfWritable b expression_rows entries c start n stays out p
    lists_room A =
        let R = A.reads in
        record {
          tables = A.tables;
          offset = 0;
          reads = relation_list_lem R S.starts h e.same;
          room =
              same_room (list_text R S.starts h e.same (q A.tables (reads_present R)) all)
              (keeping_room S.kept R (same_room (all_lists R) A.room) h);
        }

    pub lists_more : {o : List ℕ} {k : ℕ}
        → ((T : Tables) (offset : ℕ) → ListReads T offset expression_rows entries c start n
        → WrittenAt (list_if b T c (bit stays) (offset + start) n) out p o k)
        → Relating relation_list_at expression_rows entries relations c first o (r + 1) (start + n) k
    lists_more w =
        relating_more S h e
        (λ T R. same_written (list_text R S.starts h e.same (q T (reads_present R)) all) (w T 0 (relation_list_lem R S.starts h e.same)))

  -- the forms
  module _ (S : Relating relation_form_at expression_rows entries relations c first out r start p) {m : ℕ}
      (l : (T : Tables) (offset : ℕ) → ListReads T offset expression_rows entries c start n → m ≡ kept_length T c all_stay (offset + start) n) where
    text : {T : Tables} → RelationReads T expression_rows entries relations c → relation_form_at T c r ≡ pair_if b 0 m
    text {T} R = form_text R S.starts h e.same (q T (reads_present R)) (l T 0 (relation_list_lem R S.starts h e.same))

    pub forms_room : KeptRelationWritable relation_forms expression_rows entries relations c first 0 → WordPairWritable b 0 m out p
    forms_room A =
        let R = A.reads in
        record {
          first = omega arith;
          second =
              let k = l A.tables 0 (relation_list_lem R S.starts h e.same) in
              let i = count_le (entry_kept A.tables c (0 + start)) n in
              let j = e.small in
              omega arith;
          room = same_room (text R) (keeping_room S.kept R (same_room (all_forms R) A.room) h);
        }

    pub forms_more : {o : List ℕ} {k : ℕ} → WrittenAt (pair_if b 0 m) out p o k
        → Relating relation_form_at expression_rows entries relations c first o (r + 1) (start + n) k
    forms_more w = relating_more S h e (λ T R. same_written (text R) w)

module _ {expression_rows entries relations : List ℕ} {c : ℕ} {first out : List ℕ} {r start p : ℕ} (h : length relations / 2 ≤ r) (T : Tables)
    (R : RelationReads T expression_rows entries relations c) where
  pub lists_all : Relating relation_list_at expression_rows entries relations c first out r start p → WrittenAt (relation_lists T c) first 0 out p
  lists_all S = same_written (all_lists R) (keeping_all S.kept h T R)

  pub forms_all : Relating relation_form_at expression_rows entries relations c first out r start p → WrittenAt (relation_forms T c) first 0 out p
  forms_all S = same_written (all_forms R) (keeping_all S.kept h T R)
