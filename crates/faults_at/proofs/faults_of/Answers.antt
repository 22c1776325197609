use Prim.Native.Nat.{ℕ}
use mathlib.Core.Path.{◌≡◌, ◌∙◌, ap₂}
use mathlib.Core.Logic.{◌⊎◌, inl, inr}
use mathlib.Core.List.{List}
use lib.Bits.{bit_xor}
use lib.ListN.{get_or}
use Rattle.sets.specs.Bits.{difference}
use Rattle.report.specs.Tables.{Tables, relations_end}
use Rattle.report.specs.Typing.{faults_of}
use Rattle.report.specs.declared.Query.{Query}
use Rattle.at_configuration.proofs.ListLaws.{form_lower}
use Rattle.faults_at.proofs.ReadLaws.{both_are}
use Rattle.faults_at.proofs.SetLaws.{pair_lower, project_list, project_joined}
use Rattle.faults_at.specs.SetsAt.{FormFaultsReads}
use Rattle.faults_at.proofs.faults_of.Goals as goal

pub joined_at-listed-requires : goal.joined_at-listed-requires
joined_at-listed-requires c =
    let p = c.requires in
    record { tables = p.tables; offset = relations_end p.tables; reads = project_list p.reads.at c.in-Project.is }

pub returns-in-Project : goal.returns-in-Project
returns-in-Project c = λ T q R.
    let e = c.in-Project.is in
    rw e
    (c.minus-in-Project.ensures
    ∙ ap₂ difference (project_joined R.at e (c.joined_at-listed.ensures T (relations_end T) (project_list R.at e)))
    (c.set_in-in-Project.ensures ∙ R.below.each _ (rw e at (form_lower R.at)).1.lower))

-- an intersection is judged as a union is
unequal_pair : {T : Tables} {q : ℕ} {expression_rows entries relations : List ℕ} {c : ℕ} {named sets : List ℕ} {start : ℕ} {x : Query}
    → FormFaultsReads T q expression_rows entries relations c named sets start x → {a b : ℕ} → (x ≡ Query.Union a b) ⊎ (x ≡ Query.Intersection a b)
    → {s : ℕ} → s ≡ bit_xor (get_or sets a 0) (get_or sets b 0) → s ≡ faults_of T c q x
unequal_pair R (inl e) p = rw e (both_are R.below (pair_lower (rw e at (form_lower R.at))) bit_xor p)
unequal_pair R (inr e) p = rw e (both_are R.below (pair_lower (rw e at (form_lower R.at))) bit_xor p)

pub returns-in-Union : goal.returns-in-Union
returns-in-Union c = λ T q R.
    unequal_pair R c.in-Union.is (c.unequal.ensures ∙ ap₂ bit_xor c.set_in-in-Union.ensures c.set_in-in-Union-2.ensures)
