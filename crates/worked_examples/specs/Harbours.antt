-- Tables that the cases of finding and those of the page are made of. H1 and its parts: crate report, specs/Examples.
use Rattle.std.specs.Prelude.{ℕ, List, [], ◌∷◌}
use Rattle.report.specs.Tables.{Tables}
use Rattle.report.specs.Expressions.{tables_of}
use Rattle.report.specs.Examples.{moments, h1_expressions, h1_entries, h1_queries}

-- H1 with expression e for the feature model
abbrev pub modelled : ℕ → Tables
modelled e = tables_of 2 3 e h1_expressions (h1_entries 2) (0 ∷ 3 ∷ []) [] h1_queries (moments 3)

-- no feature, m attributes, one relation with these entries
abbrev pub plain : ℕ → List ℕ → ℕ → Tables
plain m entries count = tables_of 0 m 0 (1 ∷ 0 ∷ 0 ∷ []) entries (0 ∷ count ∷ []) [] (1 ∷ 0 ∷ 0 ∷ 0 ∷ []) (moments m)
