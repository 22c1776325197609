-- The first bytes of the word stand before p, and the rest of it is looked for from there on.
use Rattle.std.proofs.Common.{◌≡◌, drop}
use Rattle.reading.specs.Scanning.{word_from, word_at}
use Rattle.reading.proofs.scan_word.Given as goal

abbrev pub invariant-loop-w : goal.invariant-loop-w
invariant-loop-w l = word_at l.word l.s l.at ≡ word_from (drop l.w-index l.word) (drop l.p l.s) l.p
