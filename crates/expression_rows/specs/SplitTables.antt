-- What is said of the parts of split tables, said of them as one value.
use Rattle.std.specs.Prelude.{ℕ, List}
use Rattle.expression_rows.specs.declared.SplitTables.{SplitTables}

-- what P says of the seven parts, in their order
abbrev pub of_split : {B : Type 1} → SplitTables → (List ℕ → List ℕ → List ℕ → List ℕ → List ℕ → List ℕ → List ℕ → B) → B
of_split tables P =
    P tables.expression_rows.now tables.relation_entries.now tables.project_entries.now tables.relations.now tables.comparisons.now tables.queries.now
    tables.kinds.now
