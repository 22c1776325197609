-- Of a report that the strict reading accepts configuring writes the same tables in both readings. So the functions that write need not be told the
-- reading: they may write as in the filled one.
use Rattle.std.specs.Prelude.{Ok}
use Prim.Native.Nat.{ℕ, ◌+◌}
use mathlib.Core.Path.{◌≡◌, refl, ap}
use mathlib.Core.Bool.{Bool, true, false, cond}
use mathlib.Core.List.{List, [], ◌∷◌, ◌++◌}
use Rattle.sets.specs.Bits.{bit}
use Rattle.sets.specs.Lists.{kept}
use Rattle.sets.proofs.ListLaws.{concat_same}
use Rattle.report.specs.Tables.{Tables, relation_count, query_count, project_start}
use Rattle.report.specs.Expressions.{tables_of}
use Rattle.report.specs.Typing.{present, project_set, set_of}
use Rattle.report.specs.Rules.{Rule}
use Rattle.report.specs.Configuring.{query_kept, all_stay, relation_list, new_query, project_list_of, query_form_of, configured}
use Rattle.report.specs.Formed.{Formed}
use Rattle.report.specs.Checks.{typing_check}
use Rattle.report.specs.declared.Query.{Query}
use Rattle.report.specs.declared.Reading.{Reading}
use Rattle.report.proofs.RulesMembers.{subset_members}
use Rattle.report.proofs.StayLaws.{list_same, length_same}
use Rattle.report.proofs.LeadLaws.{form_at}
use Rattle.report.proofs.SetLaws.{kept_sets}
use Rattle.report.proofs.ReachLaws.{reached_in, kept_both}
use Rattle.report.proofs.TreeLaws.{reached-permitted, keeps_where}
use Rattle.report.proofs.TypingLaws.{permitted_within, typing_accepted}

module _ {T : Tables} (F : Formed T) (e : typing_check T Reading.Strict ≡ Ok tt) (c : ℕ) where
  -- one form that is kept
  same_form : (q : ℕ) (y : Query) → Rule T c (set_of T c) q y
      → (project_list_of T c Reading.Filled q y ≡ project_list_of T c Reading.Strict q y) × (query_form_of T c Reading.Filled q y ≡ query_form_of T c Reading.Strict q y)
  same_form q Query.Malformed k = (refl, refl)
  same_form q Query.Empty k = (refl, refl)
  same_form q (Query.Relation a) k = (refl, rw k.0 refl)
  same_form q (Query.Select a b) k = (refl, refl)
  same_form q (Query.Project a b) k =
      let all : (x : ℕ) → bit (project_set T c q a) x ≡ true → bit (set_of T c b) x ≡ all_stay x
      = (subset_members (project_set T c q a) (set_of T c b)).0 k.0 in (
        list_same T c (project_start T q) a (bit (set_of T c b)) all_stay all,
        ap (λ (n : ℕ). 3 ∷ n ∷ new_query T c b ∷ 0 ∷ []) (length_same T c (project_start T q) a (bit (set_of T c b)) all_stay all),
      )
  same_form q (Query.Choice a b d) k = (refl, refl)
  same_form q (Query.Product a b) k = (refl, refl)
  same_form q (Query.Union a b) k = (refl, refl)
  same_form q (Query.Intersection a b) k = (refl, refl)

  rule_of : (q : ℕ) → query_kept T c q ≡ true → Rule T c (set_of T c) q (form_at T q)
  rule_of q k =
      let r = (kept_both T c q k).0 in
      let ok = reached-permitted T c q r in
      let h = reached_in F c ok q r in
      kept_sets F c q h ((keeps_where T c q).0 (λ phase. (typing_accepted T Reading.Strict).0 e c q phase (permitted_within T c ok) h) r)

  -- blocks that are the same where they are kept
  kept_where : (n : ℕ) (keep : ℕ → Bool) (f g : ℕ → List ℕ) → ((k : ℕ) → keep k ≡ true → f k ≡ g k) → kept keep f n ≡ kept keep g n
  kept_where n keep f g same = concat_same n _ _ (λ k h. one k (keep k) refl)
    where
      one : (k : ℕ) (t : Bool) → keep k ≡ t → cond t (f k) [] ≡ cond t (g k) []
      one k true i = same k i
      one k false i = refl

  pub same_tables : configured T c Reading.Filled ≡ configured T c Reading.Strict
  unfolding configured
  same_tables =
      let lists = kept_where (query_count T) (query_kept T c) (λ q. project_list_of T c Reading.Filled q (form_at T q)) (λ q. project_list_of T c Reading.Strict q (form_at T q))
      (λ q k. (same_form q (form_at T q) (rule_of q k)).0) in
      let forms = kept_where (query_count T) (query_kept T c) (λ q. query_form_of T c Reading.Filled q (form_at T q)) (λ q. query_form_of T c Reading.Strict q (form_at T q))
      (λ q k. (same_form q (form_at T q) (rule_of q k)).1) in
      λ i. tables_of 0 T.attributes 0 (1 ∷ 0 ∷ 0 ∷ []) (relations ++ lists i) (configured T c Reading.Strict).relations (configured T c Reading.Strict).comparisons (forms i) T.kinds
    where
      relations : List ℕ
      relations = kept (present T c) (relation_list T c) (relation_count T)
