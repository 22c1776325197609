-- Laws of new numbers: that of one form, and the loops that number all forms.
use Prim.Native.Nat.{ℕ, ◌+◌, ◌*◌, ◌/◌, ◌<◌, ◌≤◌}
use mathlib.Core.Path.{◌≡◌, sym, ap, ap₂, ◌∙◌}
use mathlib.Core.Bool.{Bool, cond, not, ◌&&◌}
use mathlib.Core.List.{List}
use native.Mathlib.Numerals.{add-one}
use native.Mathlib.Omega.{arith}
use lib.ListN.{length, get_or, set}
use Rattle.sets.specs.Search.{count_below}
use Rattle.sets.specs.Rows.{row_bit, row_in}
use Rattle.sets.proofs.SearchLaws.{count_le}
use Rattle.sets.proofs.ListLaws.{NumbersFilling, filling_below, filling_place, filling_more}
use Rattle.report.specs.Tables.{Tables, comparison, query, expression_count, query_count}
use Rattle.report.specs.Operands.{comparison_operands, query_operands, is_choice}
use Rattle.report.specs.Typing.{at, taken, reached}
use Rattle.report.specs.Configuring.{target_of, comparison_target, query_target, comparison_kept, query_kept}
use Rattle.report.specs.Formed.{OperandsBelow}
use Rattle.report.specs.declared.Comparison.{Comparison}
use Rattle.report.specs.declared.Query.{Query}
use Rattle.report.specs.declared.Operands.{Operands}
use Rattle.report.proofs.FormedFacts.{comparison_at, comparison_operands_lem, query_at, query_operands_lem}
use Rattle.report.proofs.StepLaws.{taken_below, comparison_target_in, query_target_in}
use Rattle.report.proofs.OperandLaws.{choice_comparison, choice_query}
use Rattle.at_configuration.specs.AtConfiguration.{AtReads, ComparisonReads}
use Rattle.at_configuration.proofs.HoldLaws.{rowed, taken_is, reach_row, reach_has}
use Rattle.kept_forms.specs.Numbering.{QueryReads}
use Rattle.kept_forms.specs.FormWords.{TargetReads, TargetReadable}

-- ---- the number of one form

-- that of a choice is the number of the alternative that it takes
module _ {T : Tables} {expression_rows : List ℕ} {c : ℕ} {numbers : List ℕ} {to : Operands} (R : TargetReads T expression_rows c numbers to) {e a b : ℕ}
    (w : to ≡ Operands.Choice e a b) where
  pub choice_rowed : (e * 16 + 16 ≤ length expression_rows) × (c < 1024)
  choice_rowed = rowed R.reads (R.lower e a b w).0

  module _ {k : ℕ} (p : k ≡ cond (row_bit (row_in 16 expression_rows e) c) a b) where
    pub choice_number : (kept : ℕ) → get_or numbers k 0 ≡ target_of T c (λ j. get_or numbers j 0) kept to
    choice_number kept =
        let l = R.lower e a b w in
        rw w (ap (λ (j : ℕ). get_or numbers j 0) (taken_is R.reads l.0 (l.1, l.2) p))

-- form k of a table of T refers to these forms, where `target` says where references to the forms of the table lead
pub record FormTo (T : Tables) (expression_rows : List ℕ) (c : ℕ) (target : ℕ → ℕ) (k : ℕ) (to : Operands) : Type 0 where
  pub reads : AtReads T expression_rows c
  pub few : k < 256
  pub below : OperandsBelow k to
  pub expression_in : (e a b : ℕ) → to ≡ Operands.Choice e a b → e < expression_count T
  pub leads : target k ≡ target_of T c target k to

module _ {T : Tables} {expression_rows : List ℕ} {c : ℕ} {target : ℕ → ℕ} {k : ℕ} {to : Operands} (F : FormTo T expression_rows c target k to) where
  -- its number can be read, where the forms below it have numbers
  target_reads : {numbers : List ℕ} → k ≤ length numbers → TargetReads T expression_rows c numbers to
  target_reads m = record {
    reads = F.reads;
    lower = λ e a b w. let l = rw w at F.below in (F.expression_in e a b w, omega arith, omega arith);
  }

  -- and is its new number, where `number` has those of the forms below it, and `count` of these are kept
  number_is : (keep : ℕ → Bool) (number : ℕ → ℕ) (count : ℕ) → count ≡ count_below keep k
      → ((j : ℕ) → j < k → number j ≡ count_below keep (target j)) → target_of T c number count to ≡ count_below keep (target k)
  number_is keep number count same each = go to F.below ∙ ap (count_below keep) (sym F.leads)
    where
      go : (o : Operands) → OperandsBelow k o → target_of T c number count o ≡ count_below keep (target_of T c target k o)
      go Operands.Nothing l = same
      go (Operands.One a) l = same
      go (Operands.Both a b) l = same
      go (Operands.Choice e a b) l = each (taken T c e a b) (taken_below (at T c e) l)

-- ---- a loop that numbers n forms

-- the new numbers of the forms below k stand over `lent`, and `count` of these forms are kept: for tables that the loop can read
pub record Numbering (Reads : Tables → Type 0) (target : Tables → ℕ → ℕ) (keep : Tables → ℕ → Bool) (n : ℕ) (lent numbers : List ℕ) (count k : ℕ)
    : Type 0 where
  pub filling : NumbersFilling Reads (λ T j. count_below (keep T) (target T j)) n lent numbers k
  pub counted : (T : Tables) → Reads T → count ≡ count_below (keep T) k

module _ {Reads : Tables → Type 0} {target : Tables → ℕ → ℕ} {keep : Tables → ℕ → Bool} {n : ℕ} {lent : List ℕ} where
  module _ {numbers : List ℕ} {count k : ℕ} (S : Numbering Reads target keep n lent numbers count k) where
    pub numbering_few : {T : Tables} → Reads T → count ≤ k
    numbering_few {T} R = omega (arith, S.counted T R, count_le (keep T) k)

    -- the next form
    module _ (room : n ≤ length lent) (h : k < n) {expression_rows : List ℕ} {c : ℕ} {to : Operands}
        (F : (T : Tables) → Reads T → FormTo T expression_rows c (target T) k to) where
      next_reads : {T : Tables} → Reads T → TargetReads T expression_rows c numbers to
      next_reads {T} R = target_reads (F T R) (let p = filling_place S.filling room h in omega arith)

      pub numbering_read : {T : Tables} → Reads T → TargetReadable expression_rows c numbers count to
      numbering_read {T} R = record {
        tables = T;
        reads = next_reads R;
        few = let l = numbering_few R in let m = (F T R).few in omega arith;
      }

      pub numbering_more : {v s : ℕ}
          → ((T : Tables) → TargetReads T expression_rows c numbers to → v ≡ target_of T c (λ j. get_or numbers j 0) count to)
          → ((T : Tables) → Reads T → s ≡ cond (keep T k) 1 0) → Numbering Reads target keep n lent (set numbers k v) (count + s) (k + 1)
      numbering_more e p = record {
        filling =
            filling_more S.filling room h
            (λ T R. e T (next_reads R)
            ∙ number_is (F T R) (keep T) (λ j. get_or numbers j 0) count (S.counted T R) (filling_below S.filling R).each);
        counted = λ T R. ap₂ ◌+◌ (S.counted T R) (p T R) ∙ ap (count_below (keep T)) (sym (add-one k));
      }

-- ---- the comparisons

-- comparison f of a table 3, and of the same under another name
module _ {comparisons t : List ℕ} (is : comparisons ≡ t) (f : ℕ) where
  pub comparison_in : f < length comparisons / 5 → f < length t / 5
  comparison_in h = rw is at h

  pub comparison_is : {x : Comparison} → x ≡ comparison comparisons f → x ≡ comparison t f
  comparison_is e = e ∙ ap (λ (l : List ℕ). comparison l f) is

module _ {T : Tables} {expression_rows comparisons : List ℕ} {c : ℕ} (R : ComparisonReads T expression_rows comparisons c) {f : ℕ}
    (h : f < length comparisons / 5) {x : Comparison} (e : x ≡ comparison comparisons f) {to : Operands} (o : to ≡ comparison_operands x) where
  comparison_refers : to ≡ comparison_operands (comparison T.comparisons f)
  comparison_refers = o ∙ ap comparison_operands (comparison_is R.comparisons_are f e)

  pub comparison_to : FormTo T expression_rows c (comparison_target T c) f to
  comparison_to =
      let F = R.reads.formed in
      let k = comparison_in R.comparisons_are f h in
      record {
        reads = R.reads;
        few = let m = F.sized3.fits in omega arith;
        below = rw comparison_refers (comparison_operands_lem F f k);
        expression_in = λ e a b w. (rw (choice_comparison (comparison T.comparisons f) (sym comparison_refers ∙ w)) at (comparison_at F f k)).0;
        leads = comparison_target_in F c f k ∙ ap (target_of T c (comparison_target T c) f) (sym comparison_refers);
      }

  -- it is kept if it is plain
  pub comparison_counts : {s : ℕ} → s ≡ cond (not (is_choice to)) 1 0 → s ≡ cond (comparison_kept T c f) 1 0
  comparison_counts p = p ∙ ap (λ (y : Operands). cond (not (is_choice y)) 1 0) comparison_refers

-- the comparisons below f are numbered
abbrev pub ComparisonNumbering : (expression_rows comparisons : List ℕ) (c : ℕ) (lent numbers : List ℕ) (count f : ℕ) → Type 0
ComparisonNumbering expression_rows comparisons c =
    Numbering (λ T. ComparisonReads T expression_rows comparisons c) (λ T. comparison_target T c) (λ T. comparison_kept T c) (length comparisons / 5)

-- ---- the query forms

module _ {T : Tables} {expression_rows reach queries : List ℕ} {c : ℕ} (R : QueryReads T expression_rows reach queries c) {q : ℕ}
    (h : q < length queries / 4) where
  pub query_in : q < query_count T
  query_in = rw R.queries_are at h

  -- form q has a row, which has c where c reaches it
  pub reach_rowed : (q * 16 + 16 ≤ length reach) × (c < 1024)
  reach_rowed = reach_row R.reads R.reaching query_in

  pub reached-at : row_bit (row_in 16 reach q) c ≡ reached T c q
  reached-at = reach_has R.reads R.reaching query_in

  module _ {x : Query} (e : x ≡ query queries q) where
    pub query_is : x ≡ query T.queries q
    query_is = e ∙ ap (λ (t : List ℕ). query t q) R.queries_are

    module _ {to : Operands} (o : to ≡ query_operands x) where
      query_refers : to ≡ query_operands (query T.queries q)
      query_refers = o ∙ ap query_operands query_is

      pub query_to : FormTo T expression_rows c (query_target T c) q to
      query_to =
          let F = R.reads.formed in
          let k = query_in in
          record {
            reads = R.reads;
            few = let m = F.sized4.fits in omega arith;
            below = rw query_refers (query_operands_lem F q k);
            expression_in = λ e a b w. (rw (choice_query (query T.queries q) (sym query_refers ∙ w)) at (query_at F q k)).0;
            leads = query_target_in F c q k ∙ ap (target_of T c (query_target T c) q) (sym query_refers);
          }

      -- it is kept if c reaches it and it is plain
      pub query_counts : {s : ℕ} {b : Bool} → b ≡ row_bit (row_in 16 reach q) c → s ≡ cond (b && not (is_choice to)) 1 0 → s ≡ cond (query_kept T c q) 1 0
      query_counts r p = p ∙ ap₂ (λ (t : Bool) (y : Operands). cond (t && not (is_choice y)) 1 0) (r ∙ reached-at) query_refers

-- the query forms below q are numbered
abbrev pub QueryNumbering : (expression_rows reach queries : List ℕ) (c : ℕ) (lent numbers : List ℕ) (count q : ℕ) → Type 0
QueryNumbering expression_rows reach queries c =
    Numbering (λ T. QueryReads T expression_rows reach queries c) (λ T. query_target T c) (λ T. query_kept T c) (length queries / 4)
