-- What the walk over query forms leaves of each kind of form, by what the form passes its configurations on to.
use Prim.Native.Nat.{ℕ, ◌/◌, ◌^◌, ◌<◌}
use mathlib.Core.Path.{◌≡◌, refl, sym, ap, ◌∙◌, subst}
use mathlib.Core.Bool.{Bool, true, false, cond, ◌&&◌, ◌||◌, not, and-eq-true_iff}
use mathlib.Core.List.{List}
use native.Mathlib.Omega.{arith}
use lib.Dec.{eqb}
use lib.ListN.{length}
use Rattle.sets.specs.Rows.{row_bit, row_intersect, row_minus, row_in, within}
use Rattle.sets.proofs.RowLaws.{row_bit-row_of, within_in, row_bit_intersect, row_bit_minus}
use Rattle.report.specs.Tables.{Tables, query, query_count, expression_count}
use Rattle.report.specs.Operands.{query_operands}
use Rattle.report.specs.Typing.{onward, leads}
use Rattle.report.specs.Formed.{OperandsFree}
use Rattle.report.specs.declared.Operands.{Operands}
use Rattle.report.proofs.FormedFacts.{operands_at}
use Rattle.report.proofs.StepLaws.{leads_in}
use Rattle.reach.specs.Reach.{joined, WalkReads, WalkReady}
use Rattle.reach.proofs.JoinLaws.{join_join, join_same}

-- ---- what is read, at a lower form and with fewer configurations

-- of a row that has no more configurations the walk reads the same
reads_less : {T : Tables} {queries expression_rows reach : List ℕ} (less : List ℕ) → ((c : ℕ) → c < 1024 → row_bit less c ≡ true → row_bit reach c ≡ true)
    → WalkReads T queries expression_rows reach → WalkReads T queries expression_rows less
reads_less less h S = record { formed = S.formed; filled = S.filled; queries_are = S.queries_are; among = λ c l e. S.among c l (h c l e) }

module _ {T : Tables} {queries expression_rows reach : List ℕ} (less other : List ℕ) where
  pub reads_intersect : less ≡ row_intersect 16 reach other → WalkReads T queries expression_rows reach → WalkReads T queries expression_rows less
  reads_intersect e =
      reads_less less (λ c l g. ((and-eq-true_iff (row_bit reach c) (row_bit other c)).0
      (sym (ap (λ (r : List ℕ). row_bit r c) e ∙ row_bit_intersect 16 reach other c l) ∙ g)).0)

  pub reads_minus : less ≡ row_minus 16 reach other → WalkReads T queries expression_rows reach → WalkReads T queries expression_rows less
  reads_minus e =
      reads_less less (λ c l g. ((and-eq-true_iff (row_bit reach c) (not (row_bit other c))).0
      (sym (ap (λ (r : List ℕ). row_bit r c) e ∙ row_bit_minus 16 reach other c l) ∙ g)).0)

-- the walk may go on at a lower form
pub ready_lower : {queries expression_rows reach out : List ℕ} {q : ℕ} (less after : List ℕ) (j : ℕ) → (K : WalkReady queries expression_rows reach out q)
    → WalkReads K.tables queries expression_rows less → length after ≡ length out → j < q → WalkReady queries expression_rows less after j
ready_lower less after j K S e h = record {
  tables = K.tables;
  reads = S;
  inside = let l = K.inside in omega arith;
  room = let l = K.room in omega arith;
}

-- the form is one of table 4, and so of any tables that are read
pub inside_words : {queries expression_rows reach out : List ℕ} {q : ℕ} → WalkReady queries expression_rows reach out q → q < length queries / 4
inside_words K = let l = K.inside in let e = ap length K.reads.queries_are in omega arith

-- ---- what the walk leaves

both : (r p q : Bool) → ((r && p) || (r && q)) ≡ (r && (p || q))
both true p q = refl
both false p q = refl

-- own, then a's, then b's
three : (r o a b : Bool) → ((r && (o || a)) || (r && b)) ≡ (r && (o || (a || b)))
three false o a b = refl
three true true a b = refl
three true false a b = refl

or_last : (b : Bool) → b ≡ (b || false)
or_last true = refl
or_last false = refl

-- own, then b's where t holds
part : (r o t b : Bool) → ((r && o) || ((r && t) && b)) ≡ (r && (o || (t && b)))
part false o t b = refl
part true o t b = refl

-- then d's elsewhere
parts : (at : ℕ → Bool) (b d : ℕ) (r o t : Bool) → ((r && (o || (t && at b))) || ((r && not t) && at d)) ≡ (r && (o || at (cond t b d)))
parts at b d false o t = refl
parts at b d true true t = refl
parts at b d true false true = sym (or_last (at b))
parts at b d true false false = refl

module _ {T : Tables} {queries expression_rows reach : List ℕ} (S : WalkReads T queries expression_rows reach) (q : ℕ) (inside : q < length queries / 4) where
  inside_any : q < query_count T
  inside_any = let e = ap length S.queries_are in omega arith

  module _ (to : Operands) (e : to ≡ query_operands (query queries q)) where
    is : query_operands (query T.queries q) ≡ to
    is = ap (λ (l : List ℕ). query_operands (query l q)) (sym S.queries_are) ∙ sym e

    pub free : OperandsFree (expression_count T) T.queries q to
    free = subst (OperandsFree (expression_count T) T.queries q) is (operands_at S.formed q inside_any)

    rule : (c x : ℕ) → leads T c x q ≡ (eqb x q || onward T c (leads T c x) to)
    rule c x =
        leads_in S.formed c q inside_any x ∙ ap (λ (b : Bool). eqb x q || b) (ap (onward T c (leads T c x)) is)

  module _ (out : List ℕ) where
    abbrev own : List ℕ
    own = joined out reach (λ c x. eqb x q)

    abbrev led : List ℕ
    led = joined out reach (λ c x. leads T c x q)

    -- nothing
    pub walk_nothing : Operands.Nothing ≡ query_operands (query queries q) → own ≡ led
    walk_nothing e =
        join_same out reach (λ c x. eqb x q) (λ c x. leads T c x q) (λ c x l. or_last (eqb x q) ∙ sym (rule Operands.Nothing e c x))

    -- one operand
    pub walk_one : (b : ℕ) → Operands.One b ≡ query_operands (query queries q) → joined own reach (λ c x. leads T c x b) ≡ led
    walk_one b e =
        join_join out reach reach reach (λ c x. eqb x q) (λ c x. leads T c x b) (λ c x. leads T c x q)
        (λ c x l. both (row_bit reach c) (eqb x q) (leads T c x b) ∙ ap (λ (t : Bool). row_bit reach c && t) (sym (rule (Operands.One b) e c x)))

    -- two operands
    pub walk_both : (a b : ℕ) → Operands.Both a b ≡ query_operands (query queries q)
        → joined (joined own reach (λ c x. leads T c x a)) reach (λ c x. leads T c x b) ≡ led
    walk_both a b e =
        ap (λ (w : List ℕ). joined w reach (λ c x. leads T c x b))
        (join_join out reach reach reach (λ c x. eqb x q) (λ c x. leads T c x a) (λ c x. eqb x q || leads T c x a)
        (λ c x l. both (row_bit reach c) (eqb x q) (leads T c x a)))
        ∙ join_join out reach reach reach (λ c x. eqb x q || leads T c x a) (λ c x. leads T c x b) (λ c x. leads T c x q)
        (λ c x l. three (row_bit reach c) (eqb x q) (leads T c x a) (leads T c x b)
        ∙ ap (λ (t : Bool). row_bit reach c && t) (sym (rule (Operands.Both a b) e c x)))

    -- a choice on expression e, whose row is `row`
    module _ (e b d : ℕ) (is_choice : Operands.Choice e b d ≡ query_operands (query queries q)) (row ins outs : List ℕ) (read : row ≡ row_in 16 expression_rows e)
        (in_is : ins ≡ row_intersect 16 reach row) (out_is : outs ≡ row_minus 16 reach row)
      where
        abbrev at : ℕ → Bool
        at c = T.truth c e

        row_bit_lem : (c : ℕ) → c < 1024 → row_bit row c ≡ within T.features at c
        row_bit_lem c l =
            ap (λ (r : List ℕ). row_bit r c) (read ∙ S.filled.each e (free (Operands.Choice e b d) is_choice).0)
            ∙ row_bit-row_of 16 (within T.features at) c l

        -- among the configurations of `reach` the row has just those at which e holds
        cut : (on : Bool → Bool) (c : ℕ) → c < 1024 → (row_bit reach c && on (row_bit row c)) ≡ (row_bit reach c && on (at c))
        cut on c l = ap (λ (t : Bool). row_bit reach c && on t) (row_bit_lem c l) ∙ go (row_bit reach c) (S.among c l)
          where
            go : (r : Bool) → (r ≡ true → c < 2 ^ T.features) → (r && on (within T.features at c)) ≡ (r && on (at c))
            go true h = ap on (within_in T.features at c (h refl))
            go false h = refl

        in_bit : (c : ℕ) → c < 1024 → row_bit ins c ≡ (row_bit reach c && at c)
        in_bit c l = ap (λ (r : List ℕ). row_bit r c) in_is ∙ row_bit_intersect 16 reach row c l ∙ cut (λ t. t) c l

        out_bit : (c : ℕ) → c < 1024 → row_bit outs c ≡ (row_bit reach c && not (at c))
        out_bit c l = ap (λ (r : List ℕ). row_bit r c) out_is ∙ row_bit_minus 16 reach row c l ∙ cut not c l

        pub walk_choice : joined (joined own ins (λ c x. leads T c x b)) outs (λ c x. leads T c x d) ≡ led
        walk_choice =
            ap (λ (w : List ℕ). joined w outs (λ c x. leads T c x d))
            (join_join out reach ins reach (λ c x. eqb x q) (λ c x. leads T c x b) (λ c x. eqb x q || (at c && leads T c x b))
            (λ c x l. ap (λ (t : Bool). (row_bit reach c && eqb x q) || (t && leads T c x b)) (in_bit c l)
            ∙ part (row_bit reach c) (eqb x q) (at c) (leads T c x b)))
            ∙ join_join out reach outs reach (λ c x. eqb x q || (at c && leads T c x b)) (λ c x. leads T c x d) (λ c x. leads T c x q)
            (λ c x l. ap (λ (t : Bool). (row_bit reach c && (eqb x q || (at c && leads T c x b))) || (t && leads T c x d)) (out_bit c l)
            ∙ parts (leads T c x) b d (row_bit reach c) (eqb x q) (at c)
            ∙ ap (λ (t : Bool). row_bit reach c && t) (sym (rule (Operands.Choice e b d) is_choice c x)))
