-- The lines of the print.
use Rattle.std.specs.Prelude.{ℕ, List, [], ◌∷◌, cond}
use Rattle.sets.specs.Bits.{bit}
use Rattle.report.specs.Text.{bytes, spaced, line}
use Rattle.report.specs.Print.{members, at_line}
use Rattle.report.specs.declared.Refusal.{Refusal}

-- the line of a refusal (proofs/LinePieces: refusal_print)
unfoldable pub refusal_line : Refusal → List ℕ
refusal_line f = line (bytes "refused") (f.number ∷ f.place ∷ f.item ∷ f.configuration ∷ [])

-- the line of a file that cannot be read (proofs/LinePieces: unread_print)
unfoldable pub unread_line : ℕ → List ℕ
unread_line n = line (bytes "unread") (n ∷ [])

-- attribute a after a space, where it is in the set
unfoldable pub member_text : ℕ → ℕ → List ℕ
member_text s a = spaced (cond (bit s a) (a ∷ []) [])

-- the members of a set of attributes, each after a space
unfoldable pub members_text : ℕ → List ℕ
members_text s = spaced (members s)

-- the line of one configuration
unfoldable pub configuration_line : ℕ → ℕ → List ℕ
configuration_line c s = at_line c s
