-- A refusal as numbers for C.
use Rattle.std.specs.Prelude.{ℕ, List, [], ◌∷◌}
use Rattle.report.specs.declared.Refusal.{Refusal}

-- number, place, item and configuration
abbrev pub refusal_words : Refusal → List ℕ
refusal_words r = r.number ∷ r.place ∷ r.item ∷ r.configuration ∷ []
