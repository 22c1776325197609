-- Laws of what a comparison gives by itself (specs/Gathering).
use Prim.Native.Nat.{ℕ, ◌^◌}
use mathlib.Core.Path.{◌≡◌, refl, sym, ap, ap₂, ◌∙◌}
use mathlib.Core.Bool.{Bool, true, false, not, ◌&&◌, ◌||◌}
use lib.Dec.{eqb}
use lib.Bits.{bit_or}
use Rattle.sets.specs.Bits.{bit}
use Rattle.sets.proofs.BitLaws.{bit_none, bit-or, bit_pow, or_none}
use Rattle.report.specs.Typing.{names_of}
use Rattle.report.specs.declared.Sides.{Sides}
use Rattle.comparisons.specs.Gathering.{names_attribute, shows}
use Rattle.comparisons.specs.declared.Gathered.{Gathered}

-- the attributes that it names, one by one
pub names_bit : (s : Sides) (a : ℕ) → names_attribute s a ≡ bit (names_of s) a
names_bit (Sides.Constant b k) a = sym (bit_pow b a)
names_bit (Sides.Attributes b d) a = sym (bit-or (2 ^ b) (2 ^ d) a ∙ ap₂ ◌||◌ (bit_pow b a) (bit_pow d a))
names_bit Sides.Neither a = sym (bit_none a)

-- a row says of two sets together what it says of either
pub shows-or : (what : Gathered) (a x y : ℕ) → shows what a (bit_or x y) ≡ (shows what a x || shows what a y)
shows-or Gathered.Names a x y = bit-or x y a
shows-or Gathered.Clashes a x y = ap not (or_none x y) ∙ either (eqb x 0) (eqb y 0)
  where
    either : (s t : Bool) → not (s && t) ≡ (not s || not t)
    either true t = refl
    either false t = refl
