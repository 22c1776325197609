use mathlib.Core.Path.{◌∙◌, ap₂}
use lib.Bits.{bit_and}
use Rattle.report.specs.Tables.{relations_end}
use Rattle.at_configuration.proofs.HoldLaws.{rowed}
use Rattle.at_configuration.proofs.ListLaws.{form_lower}
use Rattle.faults_at.proofs.ReadLaws.{either_in, either_is}
use Rattle.faults_at.proofs.SetLaws.{pair_lower, project_list, project_joined}
use Rattle.faults_at.proofs.set_at.Goals as goal

pub joined_at-listed-requires : goal.joined_at-listed-requires
joined_at-listed-requires c =
    let p = c.requires in
    record { tables = p.tables; offset = relations_end p.tables; reads = project_list p.at.at c.in-Project.is }

pub taken_at-requires : goal.taken_at-requires
taken_at-requires c =
    let A = c.requires.at in
    let l = rw c.in-Choice.is at (form_lower A.at) in
    rowed A.at.reads l.0

pub returns-in-Project : goal.returns-in-Project
returns-in-Project c = λ T q A.
    let e = c.in-Project.is in
    rw e
    (c.intersect.ensures
    ∙ ap₂ bit_and (project_joined A.at e (c.joined_at-listed.ensures T (relations_end T) (project_list A.at e)))
    (c.set_in-in-Project.ensures ∙ A.below.each _ (rw e at (form_lower A.at)).1.lower))

pub returns-in-Choice : goal.returns-in-Choice
returns-in-Choice c = λ T q A.
    let e = c.in-Choice.is in
    let l = rw e at (form_lower A.at) in
    rw e (either_is A.below (pair_lower l.1) A.at.reads l.0 c.taken_at.ensures c.set_in-in-Choice.ensures)

pub set_in-requires-in-Choice : goal.set_in-requires-in-Choice
set_in-requires-in-Choice c =
    let A = c.requires.at in
    let l = rw c.in-Choice.is at (form_lower A.at) in
    either_in A.below (pair_lower l.1) A.at.reads l.0 c.taken_at.ensures
