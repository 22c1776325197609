use Rattle.configuring.proofs.WriteLaws.{sets_reads, typed_reads, typed_writable}
use Rattle.configuring.proofs.write_kept.Goals as goal

pub write_with-requires : goal.write_with-requires
write_with-requires c =
    let W = c.requires in
    typed_writable W (c.fill_form_sets.ensures W.tables (sets_reads W.reads))

pub returns : goal.returns
returns c T R =
    c.write_with.ensures T (typed_reads R (c.fill_form_sets.ensures T (sets_reads R)))
