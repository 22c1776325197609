use Prim.Native.Nat.{ℕ, ◌≤◌}
use mathlib.Core.Path.{◌≡◌}
use native.Mathlib.Omega.{arith}
use Rattle.sets.specs.Bits.{bit, member_count}
use Rattle.sets.proofs.SearchLaws.{count_le}
use Rattle.kept_forms.proofs.length_word.Goals as goal

few : (x : ℕ) {n : ℕ} → n ≡ member_count x → n ≤ 64
few x e = rw e (count_le (bit x) 64)

pub overflow_cast-result : goal.overflow_cast-result
overflow_cast-result c = let l = few c.of_bits.result.bits c.count.ensures in omega arith
