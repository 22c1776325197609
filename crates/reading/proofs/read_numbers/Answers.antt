-- The number that comes next, before those that are left after it.
use Rattle.std.proofs.Common.{rules, ℕ, suc, List, ◌≡◌, ◌+◌, ◌-◌, ◌<◌, set, arith, refl, sym, ◌∙◌}
use Rattle.std.proofs.Math.ListN.{length-set}
use Rattle.std.specs.Prelude.{Result, Ok, Err}
use Rattle.reading.specs.declared.Broken.{Broken}
use Rattle.reading.specs.Scanning.{spaced_at, numbers_at, Stored}
use Rattle.reading.proofs.read_numbers.Goals as goal

one_less : {count i : ℕ} → i < count → count - i ≡ suc (count - (i + 1))
one_less h = omega arith

module _ (s : List ℕ) (p : ℕ) {count i : ℕ} (h : i < count) where
  numbers_stop : {b : Broken} {answer : Result ℕ Broken} {to : ℕ} {out : List ℕ} → spaced_at s p ≡ Err b → answer ≡ Err b
      → Stored (numbers_at s (count - i) p) answer out to out
  unfolding numbers_at
  numbers_stop e f = rw (one_less h, e) (record { step = f; words = refl })

  numbers_more : (to : ℕ) {v next : ℕ} {out : List ℕ} {answer : Result ℕ Broken} {after : List ℕ} → spaced_at s p ≡ Ok (v, next)
      → Stored (numbers_at s (count - (i + 1)) next) answer (set out (to + i) v) (to + (i + 1)) after
      → Stored (numbers_at s (count - i) p) answer out (to + i) after
  unfolding numbers_at
  numbers_more to e t =
      let n : to + (i + 1) ≡ suc (to + i) = omega arith in
      let u = rw n at t in
      rw (one_less h, e) (record { step = u.step; words = u.words })

pub returns-in_err-v : goal.returns-in_err-v
returns-in_err-v c =
    c.loop-i.invariant.stored _ _ (numbers_stop c.args.s.now c.loop-i.p c.loop-i-test.true (sym c.in_err-v.ensures) (search rules))

pub loop-i-preserved : goal.loop-i-preserved
loop-i-preserved c = record {
  long = length-set _ _ _ ∙ c.loop-i.invariant.long;
  stored = λ answer after t.
      c.loop-i.invariant.stored answer after (numbers_more c.args.s.now c.loop-i.p c.loop-i-test.true c.args.to (sym c.in_ok-v.ensures) t);
}
