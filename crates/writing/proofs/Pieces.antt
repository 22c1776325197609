-- The pieces that decimals are written in.
use Prim.Native.Nat.{ℕ, ◌+◌, ◌/◌, ◌%◌, ◌≤◌, ◌<◌}
use mathlib.Core.Path.{ap}
use mathlib.Core.List.{List, [], ◌∷◌, ◌++◌}
use native.Mathlib.Nat.{div-add-mod'}
use native.Mathlib.Omega.{arith}
use lib.ListN.{length, set}
use Rattle.sets.specs.Writing.{Room, WrittenAt}
use Rattle.sets.proofs.WritingLaws.{and_then, room_next, one_written}
use Rattle.report.specs.Text.{decimal}
use Rattle.report.proofs.TextLaws.{decimal_small, decimal_step}

-- ---- decimals

module _ (out : List ℕ) (at n : ℕ) where
  pub small_written : n < 10 → WrittenAt (decimal n) out at (set out at (48 + n)) (at + 1)
  small_written h = rw (decimal_small n h) (one_written out at (48 + n))

  pub small_room : n < 10 → Room (decimal n) out at → at < length out
  small_room h r = omega (arith, r.fits, ap length (decimal_small n h))

  pub tenth_room : 10 ≤ n → Room (decimal n) out at → Room (decimal (n / 10) ++ ((48 + n % 10) ∷ [])) out at
  tenth_room h r = rw (decimal_step n h) at r

  pub last_written : {p : ℕ} {o : List ℕ} → 10 ≤ n → WrittenAt (decimal (n / 10)) out at o p
      → WrittenAt (decimal n) out at (set o p (48 + n % 10)) (p + 1)
  last_written {p} {o} h w = rw (decimal_step n h) (and_then w (one_written o p (48 + n % 10)))

  pub last_place : {p : ℕ} {o : List ℕ} → 10 ≤ n → Room (decimal n) out at → WrittenAt (decimal (n / 10)) out at o p → p < length o
  last_place {p} {o} h r w = let k = room_next (tenth_room h r) w in omega (arith, k.fits)

pub tenth_falls : (n : ℕ) → 10 ≤ n → n / 10 < n
tenth_falls n h = omega (arith, div-add-mod' n 10)
