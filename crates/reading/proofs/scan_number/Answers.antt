use Rattle.std.proofs.Common.{ℕ, List, ◌≡◌, ◌+◌, ◌<◌, length, drop, get_or, arith, ◌∙◌, add-one, drop-cons}
use Rattle.reading.specs.declared.Digit.{Digit}
use Rattle.reading.specs.Scanning.{next_digit, more_digits}
use Rattle.reading.proofs.ScanLaws.{value_fits}
use Rattle.reading.proofs.scan_number.Goals as goal

-- a digit more
digits_go_on : (s : List ℕ) (v p : ℕ) {w : ℕ} → p < length s → Digit.More w ≡ next_digit v (get_or s p 0)
    → more_digits v p (drop p s) ≡ more_digits w (p + 1) (drop (p + 1) s)
unfolding more_digits
digits_go_on s v p {w} h e = rw (drop-cons s p 0 h, ← e, add-one)

pub loop-p-preserved : goal.loop-p-preserved
loop-p-preserved c = record {
  fits = value_fits _ _ c.in-More.ensures;
  same = c.loop-p.invariant.same ∙ digits_go_on c.args.s.now c.loop-p.value c.loop-p.p (omega arith) c.in-More.ensures;
}
