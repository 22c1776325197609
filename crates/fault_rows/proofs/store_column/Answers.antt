use Rattle.fault_rows.proofs.store_column.Goals as goal

pub returns : goal.returns
returns c = rw (c.intersect-column.ensures, c.load-shown.ensures) at c.store.ensures
