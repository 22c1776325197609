use mathlib.Core.Path.{sym, ◌∙◌}
use Prim.Native.Nat.{◌*◌}
use Rattle.report.proofs.EntryParts.{words_from}
use Rattle.report.proofs.VerdictLaws.{then_next}
use Rattle.forms.proofs.Chain.{ready, rest_is}
use Rattle.forms.proofs.check_lists.Goals as goal

pub check_queries-requires : goal.check_queries-requires
check_queries-requires c =
    rw (words_from c.args.tables.now.entries.now (c.relations_end-split.result * 2))
    (ready _ _ _ (sym c.in_ok-check_relations.ensures) c.relations_end-split.ensures _ c.requires.few c.requires.some c.requires.fits)

pub returns : goal.returns
returns c =
    (rw (words_from c.args.tables.now.entries.now (c.relations_end-split.result * 2)) at c.check_queries.ensures
    ∙ rest_is _ _ _ (sym c.in_ok-check_relations.ensures) c.relations_end-split.ensures _ _)
    ∙ sym (then_next (sym c.in_ok-check_relations.ensures) ∙ then_next (sym c.in_ok-check_comparisons.ensures))
