use Rattle.fault_rows.proofs.join_fault.Goals as goal

pub returns : goal.returns
returns c = cc
