-- What stays of a project's list (report, specs/Configuring and proofs/StayLaws) is told by the project's own set: of what it lists that is what its operand
-- has.
use Prim.Native.Nat.{ℕ, ◌<◌}
use mathlib.Core.Path.{◌≡◌, sym, ap, ◌∙◌}
use mathlib.Core.Bool.{Bool, ◌&&◌}
use Rattle.sets.specs.Bits.{bit, member_count}
use Rattle.sets.proofs.SearchLaws.{count_same}
use Rattle.sets.proofs.BitLaws.{bit-and}
use Rattle.report.specs.Tables.{Tables, query, query_count, project_length, project_start}
use Rattle.report.specs.Typing.{project_set, set_rule, set_of}
use Rattle.report.specs.Configuring.{kept_length, kept_list, project_list_of}
use Rattle.report.specs.Formed.{Formed}
use Rattle.report.specs.declared.Query.{Query}
use Rattle.report.specs.declared.Reading.{Reading}
use Rattle.report.proofs.FormFacts.{Listing, project, unlisted, listing}
use Rattle.report.proofs.FormedFacts.{project_inside}
use Rattle.report.proofs.StayLaws.{list_same, stay_count}
use Rattle.report.proofs.StepLaws.{set_in}

module _ {T : Tables} (F : Formed T) (c q : ℕ) (h : q < query_count T) where
  module _ {a b : ℕ} (e : query T.queries q ≡ Query.Project a b) where
    project_bit : (x : ℕ) → bit (set_of T c q) x ≡ (bit (project_set T c q a) x && bit (set_of T c b) x)
    project_bit x =
        ap (λ (s : ℕ). bit s x) (set_in F c q h ∙ ap (set_rule T c (set_of T c) q) e) ∙ bit-and (project_set T c q a) (set_of T c b) x

    pub project_count : kept_length T c (bit (set_of T c b)) (project_start T q) a ≡ member_count (set_of T c q)
    project_count =
        stay_count T c (project_start T q) F (bit (set_of T c b)) a (rw e at (project_inside F q h))
        ∙ sym (count_same (bit (set_of T c q)) _ 64 (λ x l. project_bit x))

  pub project_list : kept_list T c (bit (set_of T c q)) (project_start T q) (project_length (query T.queries q))
      ≡ project_list_of T c Reading.Filled q (query T.queries q)
  project_list = go (listing (query T.queries q))
    where
      go : Listing (query T.queries q) → kept_list T c (bit (set_of T c q)) (project_start T q) (project_length (query T.queries q))
          ≡ project_list_of T c Reading.Filled q (query T.queries q)
      go (project a b e) =
          rw e (list_same T c (project_start T q) a (bit (set_of T c q)) (bit (set_of T c b))
          (λ x m. project_bit e x ∙ ap (λ (t : Bool). t && bit (set_of T c b) x) m))
      go (unlisted e) = rw e
