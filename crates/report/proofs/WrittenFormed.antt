-- The tables that configuring writes pass checks 1 to 10 and 24, if every relation that c reaches is present. That holds where the report is accepted;
-- from the form checks of the source alone it does not follow.
use Prim.Native.Nat.{ℕ, zero, suc, ◌-◌, ◌<◌}
use mathlib.Core.Path.{◌≡◌, refl, sym, ap, subst, ◌∙◌}
use mathlib.Core.Logic.{⊎_elim, ◌⊎◌, inl, inr}
use mathlib.Core.Bool.{Bool, true, false, ◌||◌, false≢true}
use native.Mathlib.Omega.{arith}
use borrow.Author.Tests.{eqb-true, eq-eqb}
use lib.ListN.{length}
use lib.Dec.{eqb}
use Rattle.sets.specs.Search.{count_below, Nth}
use Rattle.sets.proofs.SearchLaws.{nth, count_lt, count_le, count_one, at_some}
use Rattle.report.specs.Tables.{Tables, shape_of, expression_count, relation_count, comparison_count, query_count, project_start, report}
use Rattle.report.specs.Operands.{query_operands, is_among, is_choice}
use Rattle.report.specs.Expressions.{permitted}
use Rattle.report.specs.Typing.{present, reached}
use Rattle.report.specs.FormChecks.{is_operand, taken_below, expression_ok, query_ok}
use Rattle.report.specs.Configuring.{staying_over, read_as, query_target, comparison_kept, query_kept, new_query, configured}
use Rattle.report.specs.Repeats.{repeats, project_repeats}
use Rattle.report.specs.Formed.{Sized, Formed, Free, FreePair, QueryLower}
use Rattle.report.specs.declared.Query.{Query}
use Rattle.report.specs.declared.Operands.{Operands}
use Rattle.report.specs.declared.Reading.{Reading}
use Rattle.report.proofs.FormFacts.{Listing, project, unlisted, listing}
use Rattle.report.proofs.FitLaws.{query_fits}
use Rattle.report.proofs.FormedFacts.{query_at, operand_lower, operand_once, counts}
use Rattle.report.proofs.PassingOn.{or_either, or_first, or_second, same_number}
use Rattle.report.proofs.LeadLaws.{form_at, operands_at, lead, leads_apart}
use Rattle.report.proofs.ReachLaws.{Taker, kept_both, operand_reached, target_kept, kept_count, kept_taken}
use Rattle.report.proofs.WrittenComparisons.{comparisons_length, comparisons_ok_lem, constants_ok_lem, new_comparison_lem}
use Rattle.report.proofs.CarriedLists.{carried_inside, carried_repeats}
use Rattle.report.proofs.WrittenEntries.{entries_even, entries_ok_lem, relations_length, relations_ok_lem, new_relation_lem}
use Rattle.report.proofs.WrittenQueries.{renumbered_query, queries_length, queries_count, query_written, unlisted_written, project_stands, all_used_lem, entries_room}

-- every relation that c reaches is present
abbrev pub RelationsPresent : Tables → ℕ → Reading → Type 0
RelationsPresent T c R = (q a : ℕ) → reached T c q ≡ true → read_as T c R (form_at T q) ≡ Query.Relation a → present T c a ≡ true

-- ---- the operands of a form, renumbered

-- the operands of what is written for a form: of a plain one their new numbers, of a choice none
abbrev renumbered_operands : (ℕ → ℕ) → Operands → Operands
renumbered_operands new Operands.Nothing = Operands.Nothing
renumbered_operands new (Operands.One a) = Operands.One (new a)
renumbered_operands new (Operands.Both a b) = Operands.Both (new a) (new b)
renumbered_operands new (Operands.Choice e a b) = Operands.Nothing

written_operands : (T : Tables) (c : ℕ) (R : Reading) (q : ℕ) (y : Query)
    → query_operands (renumbered_query T c R q y) ≡ renumbered_operands (new_query T c) (query_operands y)
written_operands T c R q Query.Malformed = refl
written_operands T c R q Query.Empty = refl
written_operands T c R q (Query.Relation a) = go R (present T c a) refl
  where
    go : (R : Reading) (t : Bool) → present T c a ≡ t → query_operands (renumbered_query T c R q (Query.Relation a)) ≡ Operands.Nothing
    go Reading.Strict t e = refl
    go Reading.Filled true e = rw e refl
    go Reading.Filled false e = rw e refl
written_operands T c R q (Query.Select a b) = refl
written_operands T c R q (Query.Project a b) = refl
written_operands T c R q (Query.Choice a b d) = refl
written_operands T c R q (Query.Product a b) = refl
written_operands T c R q (Query.Union a b) = refl
written_operands T c R q (Query.Intersection a b) = refl

module _ (new : ℕ → ℕ) where
  -- each is the new number of an operand
  old_operand : (o : Operands) (k : ℕ) → is_among k (renumbered_operands new o) ≡ true → (z : ℕ) × (is_among z o ≡ true) × (k ≡ new z)
  old_operand Operands.Nothing k m = absurd (false≢true m)
  old_operand (Operands.One a) k m = (a, same_number a, eqb-true k (new a) m)
  old_operand (Operands.Both a b) k m =
      ⊎_elim (λ e. (a, or_first _ _ (same_number a), eqb-true k (new a) e)) (λ e. (b, or_second (eqb b a) _ (same_number b), eqb-true k (new b) e))
      (or_either (eqb k (new a)) (eqb k (new b)) m)
  old_operand (Operands.Choice e a b) k m = absurd (false≢true m)

  new_number : (z a : ℕ) → eqb z a ≡ true → eqb (new z) (new a) ≡ true
  new_number z a m = eq-eqb (new z) (new a) (ap new (eqb-true z a m))

  -- and the new number of each operand of a plain form is among them
  new_operand : (o : Operands) → is_choice o ≡ false → (z : ℕ) → is_among z o ≡ true → is_among (new z) (renumbered_operands new o) ≡ true
  new_operand Operands.Nothing p z m = m
  new_operand (Operands.One a) p z m = new_number z a m
  new_operand (Operands.Both a b) p z m =
      ⊎_elim (λ e. or_first _ _ (new_number z a e)) (λ e. or_second (eqb (new z) (new a)) _ (new_number z b e)) (or_either (eqb z a) (eqb z b) m)
  new_operand (Operands.Choice e a b) p z m = absurd (false≢true (sym p))

module _ {T : Tables} (F : Formed T) (c : ℕ) (R : Reading) (ok : permitted T c ≡ true) where
  operand_kept : (q x : ℕ) → query_kept T c q ≡ true → is_operand x (form_at T q) ≡ true → query_kept T c (query_target T c x) ≡ true
  operand_kept q x k o = target_kept F c ok x (operand_reached F c ok q x k o)

  -- operands of kept forms that have one new number are one
  new_same : (p q x y : ℕ) → p < query_count T → q < query_count T → query_kept T c p ≡ true → query_kept T c q ≡ true → is_operand x (form_at T p) ≡ true
      → is_operand y (form_at T q) ≡ true → new_query T c x ≡ new_query T c y → x ≡ y
  new_same p q x y h k m n o r e =
      leads_apart F c p q x y h k (kept_both T c p m).1 (kept_both T c q n).1 o r
      (count_one (query_kept T c) (query_target T c x) (query_target T c y) (operand_kept p x m o) (operand_kept q y n r) e)

  -- the operands of a kept form are free for the form that is written
  new_free : (q x : ℕ) → q < query_count T → query_kept T c q ≡ true → is_operand x (form_at T q) ≡ true
      → Free (configured T c R).queries (count_below (query_kept T c) q) (new_query T c x)
  new_free q x h k o = record {
    lower =
        let m = operand_lower F q x h o in
        let l = (lead F c x (omega arith)).low in
        count_lt (query_kept T c) (query_target T c x) q (omega arith) (operand_kept q x k o);
    untaken = λ p l. go p l (is_operand (new_query T c x) (form_at (configured T c R) p)) refl;
  }
    where
      go : (p : ℕ) → p < count_below (query_kept T c) q → (t : Bool) → is_operand (new_query T c x) (form_at (configured T c R) p) ≡ t → t ≡ false
      go p l false e = refl
      go p l true e =
          let n = nth (query_kept T c) q p l in
          let b = n.below in
          let i : n.old < query_count T = omega arith in
          let z = old_operand (new_query T c) (operands_at T n.old) (new_query T c x)
          (rw (← written_operands T c R n.old (form_at T n.old), ← query_written F c R n.old i n.passed, n.number) e) in
          let s = new_same q n.old x z.0 h i k n.passed o z.1 z.2 in
          let same = operand_once F q n.old x h i o (rw s z.1) in
          absurd (omega arith)

  two_free : (q a b : ℕ) → q < query_count T → query_kept T c q ≡ true → is_operand a (form_at T q) ≡ true → is_operand b (form_at T q) ≡ true → (a ≡ b → ⊥)
      → FreePair (configured T c R).queries (count_below (query_kept T c) q) (new_query T c a) (new_query T c b)
  two_free q a b h k o r n = record {
    first = new_free q a h k o;
    second = new_free q b h k r;
    apart = λ e. n (new_same q q a b h h k k o r e);
  }

  module _ (P : RelationsPresent T c R) where
    -- a pair of operands of form q, given what the form is
    pair_free : (q a b : ℕ) → q < query_count T → query_kept T c q ≡ true → ((x : ℕ) → is_operand x (form_at T q) ≡ (eqb x a || eqb x b))
        → FreePair T.queries q a b → FreePair (configured T c R).queries (count_below (query_kept T c) q) (new_query T c a) (new_query T c b)
    pair_free q a b h k e l =
        two_free q a b h k (e a ∙ or_first _ _ (same_number a)) (e b ∙ or_second (eqb b a) _ (same_number b)) l.apart

    renumbered_lower : (q : ℕ) → q < query_count T → query_kept T c q ≡ true → (y : Query) → form_at T q ≡ y → QueryLower T q y
        → QueryLower (configured T c R) (count_below (query_kept T c) q) (renumbered_query T c R q y)
    renumbered_lower q h k Query.Malformed e l = absurd l
    renumbered_lower q h k Query.Empty e l = tt
    renumbered_lower q h k (Query.Relation a) e l = go R P (present T c a) refl
      where
        go : (R : Reading) → RelationsPresent T c R → (t : Bool) → present T c a ≡ t
            → QueryLower (configured T c R) (count_below (query_kept T c) q) (renumbered_query T c R q (Query.Relation a))
        go Reading.Strict P t i = new_relation_lem T c Reading.Strict a (P q a (kept_both T c q k).0 (ap (read_as T c Reading.Strict) e))
        go Reading.Filled P true i = rw i (new_relation_lem T c Reading.Filled a i)
        go Reading.Filled P false i = rw i tt
    renumbered_lower q h k (Query.Select a b) e l = (new_comparison_lem F c R a l.0, new_free q b h k (ap (is_operand b) e ∙ same_number b))
    renumbered_lower q h k (Query.Project a b) e l = (
      carried_inside T c (staying_over T c R b) (project_start T q) a (configured T c R) _ (project_stands F c R q a b h k e),
      new_free q b h k (ap (is_operand b) e ∙ same_number b),
    )
    renumbered_lower q h k (Query.Choice a b d) e l = absurd (false≢true (sym (kept_both T c q k).1 ∙ ap (λ (y : Query). is_choice (query_operands y)) e))
    renumbered_lower q h k (Query.Product a b) e l = pair_free q a b h k (λ x. ap (is_operand x) e) l
    renumbered_lower q h k (Query.Union a b) e l = pair_free q a b h k (λ x. ap (is_operand x) e) l
    renumbered_lower q h k (Query.Intersection a b) e l = pair_free q a b h k (λ x. ap (is_operand x) e) l

    -- each written form is a kept one
    pub query_of : (k : ℕ) → k < query_count (configured T c R) → Nth (query_kept T c) (query_count T) k
    query_of k h = nth (query_kept T c) (query_count T) k (let e = queries_count F c R in omega arith)

    -- check 8 of the tables written
    queries_ok_lem : (k : ℕ) → k < query_count (configured T c R) → query_ok (configured T c R) k ≡ true
    queries_ok_lem k h =
        let n = query_of k h in
        subst (λ (x : ℕ). query_ok (configured T c R) x ≡ true) n.number
        (query_fits (configured T c R) _ (form_at (configured T c R) (count_below (query_kept T c) n.old))
        (rw (query_written F c R n.old n.below n.passed)
        (renumbered_lower n.old n.below n.passed (form_at T n.old) refl (query_at F n.old n.below))))

    -- no list of them has an attribute twice
    project_once : (q : ℕ) → q < query_count T → query_kept T c q ≡ true → Listing (form_at T q)
        → project_repeats (configured T c R) (count_below (query_kept T c) q) ≡ false
    project_once q h k (project a b e) =
        rw (query_written F c R q h k, e) (carried_repeats T c (staying_over T c R b) (project_start T q) a (configured T c R) _ (project_stands F c R q a b h k e))
    project_once q h k (unlisted e) =
        ap (repeats (configured T c R).entries (project_start (configured T c R) (count_below (query_kept T c) q))) (unlisted_written F c R q h k e)

    pub queries_once : (k : ℕ) → k < query_count (configured T c R) → project_repeats (configured T c R) k ≡ false
    queries_once k h =
        let n = query_of k h in
        subst (λ (x : ℕ). project_repeats (configured T c R) x ≡ false) n.number (project_once n.old n.below n.passed (listing (form_at T n.old)))

    -- check 9
    queries_taken : (k : ℕ) → k < query_count (configured T c R) - 1 → taken_below (configured T c R).queries (query_count (configured T c R)) k ≡ true
    queries_taken k h = let n = query_of k (omega arith) in go n (kept_taken F c ok n.old n.passed)
      where
        go : (n : Nth (query_kept T c) (query_count T) k) → (query_target T c (report T) ≡ n.old) ⊎ Taker T c n.old
            → taken_below (configured T c R).queries (query_count (configured T c R)) k ≡ true
        go n (inl e) =
            absurd
            (let a = n.number in
            let b = ap (count_below (query_kept T c)) e in
            let d = kept_count F c ok in
            let f = queries_count F c R in
            omega arith)
        go n (inr t) =
            at_some (λ p. is_operand k (form_at (configured T c R) p)) (query_count (configured T c R)) (count_below (query_kept T c) t.by)
            (let l = count_lt (query_kept T c) t.by (query_count T) t.inside t.is_kept in let f = queries_count F c R in omega arith)
            (rw (query_written F c R t.by t.inside t.is_kept, written_operands T c R t.by (form_at T t.by), ← n.number, ← t.leads_to)
            (new_operand (new_query T c) (operands_at T t.by) (kept_both T c t.by t.is_kept).1 t.operand t.is_operand_of))

    -- ---- the whole

    first_expression : (f : ℕ) → f < expression_count (configured T c R) → expression_ok (configured T c R) f ≡ true
    unfolding configured
    first_expression zero h = refl
    first_expression (suc f) h = absurd (omega arith)

    entries_sized : Sized (shape_of 2 0 1024) (length (configured T c R).entries)
    entries_sized = let e = entries_even F c R in let m = entries_room F c R in let n = (counts F).most1 in let w = (counts F).words1 in omega arith

    relations_sized : Sized (shape_of 2 0 32) (length (configured T c R).relations)
    relations_sized = let e = relations_length T c R in let m = count_le (present T c) (relation_count T) in let n = (counts F).most2 in omega arith

    comparisons_sized : Sized (shape_of 5 0 256) (length (configured T c R).comparisons)
    comparisons_sized =
        let e = comparisons_length F c R in let m = count_le (comparison_kept T c) (comparison_count T) in let n = (counts F).most3 in omega arith

    queries_sized : Sized (shape_of 4 1 256) (length (configured T c R).queries)
    queries_sized =
        let e = queries_length F c R in
        let d = kept_count F c ok in
        let m = count_le (query_kept T c) (query_count T) in
        let n = (counts F).most4 in
        omega arith

    pub written_formed : Formed (configured T c R)
    unfolding configured
    written_formed = record {
      few = omega arith;
      narrow = F.narrow;
      sized0 = omega arith;
      sized1 = entries_sized;
      sized2 = relations_sized;
      sized3 = comparisons_sized;
      sized4 = queries_sized;
      expressions_ok = first_expression;
      model_in = omega arith;
      entries_ok = entries_ok_lem F c R;
      relations_ok = relations_ok_lem F c R;
      comparisons_ok = comparisons_ok_lem F c R;
      queries_ok = queries_ok_lem;
      all_taken = queries_taken;
      all_used = all_used_lem F c R;
      kinded = F.kinded;
      kinds_ok = F.kinds_ok;
      constants_ok = constants_ok_lem F c R;
    }
