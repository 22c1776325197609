use Prim.Native.Nat.{ℕ}
use lib.ListN.{replicate}
use Rattle.typing.proofs.TypingSteps.{clash_reads}
use Rattle.typing.proofs.add_second_phase.Goals as goal

pub add_clashes-requires : goal.add_clashes-requires
add_clashes-requires c =
    let A = c.requires in
    record { tables = A.tables; reading = A.reading; reads = clash_reads A.reads (replicate {A = ℕ} 4096 0) c.fill_gathered_rows.ensures }

pub returns : goal.returns
returns c =
    λ T R A. c.add_clashes.ensures T R (clash_reads A (replicate {A = ℕ} 4096 0) c.fill_gathered_rows.ensures)
