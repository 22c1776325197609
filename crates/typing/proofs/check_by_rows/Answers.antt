use Rattle.typing.proofs.TypingSteps.{fails_readable, second_reads, rows_read, rows_checked}
use Rattle.typing.proofs.check_by_rows.Goals as goal

pub fill_faults-requires : goal.fill_faults-requires
fill_faults-requires c = fails_readable c.requires

pub add_second_phase-requires : goal.add_second_phase-requires
add_second_phase-requires c =
    let A = c.requires in
    record { tables = A.tables; reading = _; reads = second_reads A.reads c.fill_faults.ensures }

pub check_rows-requires : goal.check_rows-requires
check_rows-requires c =
    let A = c.requires in
    record { tables = A.tables; reading = _; reads = rows_read A.reads c.fill_faults.ensures c.add_second_phase.ensures }

pub returns : goal.returns
returns c =
    λ T R. rows_checked R c.fill_faults.ensures c.add_second_phase.ensures c.requires.clear c.check_rows.ensures
