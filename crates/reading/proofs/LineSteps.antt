-- What reading a line stores: it keeps the length, and of a line that was read whole it stores as many numbers as the form has words.
use Prim.Native.Nat.{ℕ, zero, suc}
use Rattle.std.specs.Prelude.{Result, Ok, Err}
use Rattle.reading.specs.declared.Broken.{Broken}
use mathlib.Core.Path.{◌≡◌, refl, ap, ◌∙◌}
use mathlib.Core.List.{List, []}
use lib.ListN.{length}
use lib.Seq.{length-sets}
use Rattle.reading.specs.Scanning.{broken, on_step, on_number, word_at, spaced_at, Line, line_with, with_number, numbers_at, ending, ended, line_at, Stored}

-- ---- what is stored

-- the length is kept
pub stored_same : {l : Line} {answer : Result ℕ Broken} {out after : List ℕ} {to : ℕ} → Stored l answer out to after → length after ≡ length out
stored_same {l} {answer} {out} {after} {to} h = ap length h.words ∙ length-sets out to l.numbers

-- ---- a line that was read whole has as many numbers as its form has words

module _ (s : List ℕ) where
  abbrev first_then : ℕ → Result (ℕ × ℕ) Broken → Line
  first_then k n = on_number n (λ v p. with_number v (numbers_at s k p)) (λ p. line_with [] (broken p))

  numbers_width : (count at q : ℕ) → (numbers_at s count at).step ≡ Ok q → length (numbers_at s count at).numbers ≡ count
  unfolding numbers_at
  numbers_width zero at q e = refl
  numbers_width (suc k) at q e = go (λ p. numbers_width k p q) (spaced_at s at) e
    where
      go : ((p : ℕ) → (numbers_at s k p).step ≡ Ok q → length (numbers_at s k p).numbers ≡ k)
          → (n : Result (ℕ × ℕ) Broken) → (first_then k n).step ≡ Ok q → length (first_then k n).numbers ≡ suc k
      go later (Ok (v, p)) h = ap suc (later p h)
      go later (Err p) h = cc

  abbrev after_word : ℕ → Result ℕ Broken → Line
  after_word width step = on_step step (λ p. ended s (numbers_at s width p)) (λ p. line_with [] (broken p))

  pub line_width : (word : List ℕ) (width at q : ℕ) → (line_at s word width at).step ≡ Ok q → length (line_at s word width at).numbers ≡ width
  unfolding line_at
  line_width word width at q e = go (word_at word s at) e
    where
      whole : (l : Line) (step : Result ℕ Broken) → l.step ≡ step → on_step step (word_at ending s) broken ≡ Ok q
          → ((p : ℕ) → l.step ≡ Ok p → length l.numbers ≡ width) → length l.numbers ≡ width
      whole l (Ok p) f h later = later p f
      whole l (Err p) f h later = cc

      go : (step : Result ℕ Broken) → (after_word width step).step ≡ Ok q → length (after_word width step).numbers ≡ width
      go (Ok p) h = whole (numbers_at s width p) (numbers_at s width p).step refl h (numbers_width width p)
      go (Err p) h = cc
