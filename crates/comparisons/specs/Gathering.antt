-- What is gathered from comparisons (crate report, specs/Typing, `gathered`), one definition for both: the attributes that are named, and the left
-- attributes at fault.
use Rattle.std.specs.Prelude.{ℕ, Bool, false, not, ◌||◌, eqb}
use Rattle.sets.specs.Bits.{bit}
use Rattle.report.specs.Operands.{comparison_sides}
use Rattle.report.specs.Typing.{names_of, clash_of}
use Rattle.report.specs.Formed.{SidesBelow}
use Rattle.report.specs.declared.Comparison.{Comparison}
use Rattle.report.specs.declared.Sides.{Sides}
use Rattle.comparisons.specs.declared.Gathered.{Gathered}

-- a comparison with these sides names attribute a
abbrev pub names_attribute : Sides → ℕ → Bool
names_attribute (Sides.Constant b k) a = eqb a b
names_attribute (Sides.Attributes b d) a = eqb a b || eqb a d
names_attribute Sides.Neither a = false

-- what a comparison gives by itself
abbrev pub own_of : (ℕ → ℕ) → Gathered → Comparison → ℕ
own_of kind Gathered.Names x = names_of (comparison_sides x)
own_of kind Gathered.Clashes x = clash_of kind (comparison_sides x)

-- what a row says of what is gathered: that attribute a is named, or that anything is at fault
abbrev pub shows : Gathered → ℕ → ℕ → Bool
shows Gathered.Names a s = bit s a
shows Gathered.Clashes a s = not (eqb s 0)

-- the attributes on its sides are below 64
abbrev pub Narrow : Comparison → Type 0
Narrow x = SidesBelow 64 (comparison_sides x)
