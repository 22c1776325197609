-- What the forms find at one configuration: one form, and the loop that joins it for each.
use Prim.Native.Nat.{ℕ, suc, ◌+◌, ◌*◌, ◌/◌, ◌<◌, ◌≤◌}
use mathlib.Core.Path.{◌≡◌, sym, ap, ap₂, ◌∙◌}
use mathlib.Core.Bool.{Bool, cond}
use mathlib.Core.List.{List, ◌++◌}
use native.Mathlib.Omega.{arith}
use lib.Bits.{bit_or}
use lib.ListN.{length, get_or, set, drop}
use lib.Seq.{drop-cons, get_or_at}
use Rattle.sets.specs.Rows.{row_bit, row_in}
use Rattle.sets.specs.Lists.{table}
use Rattle.sets.proofs.ListLaws.{table-length, NumbersFilling, filling_more, filling_all}
use Rattle.report.specs.Tables.{Tables, query, query_count}
use Rattle.report.specs.Typing.{reached, set_rule, set_of}
use Rattle.report.specs.Configuring.{written}
use Rattle.report.specs.Readings.{found_in, found_below}
use Rattle.report.specs.declared.Query.{Query}
use Rattle.report.proofs.StepLaws.{set_in}
use Rattle.at_configuration.proofs.HoldLaws.{reach_row, reach_has}
use Rattle.sparing.specs.FoundAt.{FoundReads, FoundHereReads, AddReads, AddReadable}

-- ---- one form

module _ {T : Tables} {x : Query} {q c : ℕ} {expression_rows relations form_sets : List ℕ} (R : FoundReads T x q c expression_rows relations form_sets) where
  -- what a project finds is its own set
  pub found_project : {a b s : ℕ} → x ≡ Query.Project a b → s ≡ get_or form_sets q 0 → s ≡ found_in T c q (Query.Project a b)
  found_project e p = p ∙ R.formed.each q R.inside ∙ set_in R.reads.formed c q R.inside ∙ ap (set_rule T c (set_of T c) q) (sym R.form ∙ e)

-- if c reaches it
module _ {T : Tables} {x : Query} {q c : ℕ} {expression_rows relations reach form_sets : List ℕ}
    (R : FoundHereReads T x q c expression_rows relations reach form_sets) where
  pub here_row : (q * 16 + 16 ≤ length reach) × (c < 1024)
  here_row = reach_row R.found.reads R.reaching R.found.inside

  -- the bit of its reach row was read
  pub here_found : {t u : Bool} {s : ℕ} → t ≡ row_bit (row_in 16 reach q) c → t ≡ u → s ≡ cond u (found_in T c q x) 0
      → s ≡ cond (reached T c q) (found_in T c q x) 0
  here_found read e p =
      p ∙ ap (λ (t : Bool). cond t (found_in T c q x) 0) (sym e ∙ read ∙ reach_has R.found.reads R.reaching R.found.inside)

-- ---- all forms

-- those below q were looked at
abbrev pub Adding : (c : ℕ) (expression_rows relations queries reach form_sets lent spared_sets : List ℕ) (q : ℕ) → Type 0
Adding c expression_rows relations queries reach form_sets lent spared_sets q =
    NumbersFilling (λ T. AddReads T c expression_rows relations queries reach form_sets lent) (λ T. found_below T (suc c)) (length queries / 4) lent
    spared_sets q

module _ {c : ℕ} {expression_rows relations queries reach form_sets lent : List ℕ} where
  add_count : {T : Tables} → AddReads T c expression_rows relations queries reach form_sets lent → length queries / 4 ≡ query_count T
  add_count R = ap (λ (t : List ℕ). length t / 4) R.queries_are

  add_room : AddReadable c expression_rows relations queries reach form_sets lent → length queries / 4 ≤ length lent
  add_room A = let m = A.reads.before.room in let e = add_count A.reads in omega arith

  module _ {spared_sets : List ℕ} {q : ℕ} (S : Adding c expression_rows relations queries reach form_sets lent spared_sets q) where
    module _ (A : AddReadable c expression_rows relations queries reach form_sets lent) (h : q < length queries / 4) where
      module _ {x : Query} (e : x ≡ query queries q) where
        adding_here : {T : Tables} → AddReads T c expression_rows relations queries reach form_sets lent
            → FoundHereReads T x q c expression_rows relations reach form_sets
        adding_here R = record {
          found = record {
            reads = R.reads;
            relations_are = R.relations_are;
            formed = R.formed;
            inside = rw R.queries_are at h;
            form = e ∙ ap (λ (t : List ℕ). query t q) R.queries_are;
          };
          reaching = R.reaching;
        }

        -- what it finds below c stands there still
        waiting : {T : Tables} → AddReads T c expression_rows relations queries reach form_sets lent → get_or spared_sets q 0 ≡ found_below T c q
        waiting {T} R =
            let f = found_below T (suc c) in
            ap (λ (l : List ℕ). get_or l q 0) (S.filled T R ∙ ap (λ (l : List ℕ). table q f ++ l) (drop-cons lent q 0 (let m = add_room A in omega arith)))
            ∙ get_or_at (table q f) (get_or lent q 0) (drop (suc q) lent) 0 q (table-length q f) ∙ R.before.each q (adding_here R).found.inside

        pub adding_more : {found old new : ℕ}
            → ((T : Tables) → FoundHereReads T x q c expression_rows relations reach form_sets → found ≡ cond (reached T c q) (found_in T c q x) 0)
            → old ≡ get_or spared_sets q 0 → new ≡ bit_or old found
            → Adding c expression_rows relations queries reach form_sets lent (set spared_sets q new) (q + 1)
        unfolding found_below
        adding_more finds was joins =
            filling_more S (add_room A) h
            (λ T R.
            let a = adding_here R in
            joins
            ∙ ap₂ bit_or (was ∙ waiting R) (finds T a ∙ ap (λ (y : Query). cond (reached T c q) (found_in T c q y) 0) a.found.form))

    pub adding_all : length queries / 4 ≤ q → (T : Tables) → AddReads T c expression_rows relations queries reach form_sets lent
        → spared_sets ≡ written (table (query_count T) (found_below T (suc c))) lent
    adding_all h T R = filling_all S h T R (add_count R)
