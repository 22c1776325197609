-- When a number goes on with a digit, and that its value then fits.
use Prim.Native.Nat.{ℕ, ◌+◌, ◌-◌, ◌*◌, ◌≤◌}
use mathlib.Core.Path.{◌≡◌, refl}
use mathlib.Core.Bool.{Bool, true, false, cond, ◌&&◌}
use native.Mathlib.Omega.{arith}
use lib.Dec.{ltb, leb}
use borrow.Author.Tests.{leb-true}
use Rattle.report.specs.Text.{is_digit}
use Rattle.report.proofs.TextLaws.{both_true}
use Rattle.reading.specs.declared.Digit.{Digit}
use Rattle.reading.specs.Scanning.{next_digit}

-- ---- byte b after digits of value v

-- the number goes on: its digits so far are no leading zero, and with this one it is at most 65535
abbrev pub goes_on : ℕ → ℕ → Bool
goes_on v b = ltb 0 v && leb (v * 10 + (b - 48)) 65535

module _ (v b : ℕ) where
  -- the value with one digit more still fits
  pub value_fits : {w : ℕ} → Digit.More w ≡ next_digit v b → w ≤ 65535
  unfolding next_digit
  value_fits {w} e = go (is_digit b) (goes_on v b) refl e
    where
      go : (x y : Bool) → goes_on v b ≡ y → Digit.More w ≡ cond x (cond y (Digit.More (v * 10 + (b - 48))) Digit.Over) Digit.End → w ≤ 65535
      go false y p q = cc
      go true false p q = cc
      go true true p q =
          let h : w ≡ v * 10 + (b - 48) = cc in
          omega (arith, leb-true (v * 10 + (b - 48)) 65535 (both_true (ltb 0 v) (leb (v * 10 + (b - 48)) 65535) p).1)
