-- What stands at a position of a text: a number, a fixed byte string, the numbers of a line. Each answer holds the position where reading stopped.
use Rattle.std.specs.Prelude.{ℕ, zero, suc, ◌+◌, ◌-◌, ◌*◌, ◌≡◌, cond, ◌&&◌, List, [], ◌∷◌, drop, ltb, leb, eqb, Result, Ok, Err}
use lib.Seq.{sets}
use Rattle.report.specs.Text.{is_digit}
use Rattle.reading.specs.declared.Broken.{Broken}
use Rattle.reading.specs.declared.Digit.{Digit}

-- what is read breaks at this position
abbrev pub broken : {A : Type 0} → ℕ → Result A Broken
broken p = Err (record { at = p })

-- ---- by cases, with what follows as a function, so that it is worked out only where it is needed

abbrev pub on_digit : {A : Type 0} → Digit → A → A → (ℕ → A) → A
on_digit Digit.End end over more = end
on_digit Digit.Over end over more = over
on_digit (Digit.More w) end over more = more w

abbrev pub on_step : {A : Type 0} → Result ℕ Broken → (ℕ → A) → (ℕ → A) → A
on_step (Ok p) next stop = next p
on_step (Err b) next stop = stop b.at

abbrev pub on_number : {A : Type 0} → Result (ℕ × ℕ) Broken → (ℕ → ℕ → A) → (ℕ → A) → A
on_number (Ok (v, p)) read stop = read v p
on_number (Err b) read stop = stop b.at

-- ---- numbers

-- byte b after digits of value v: what is no digit ends the number; a digit after a leading zero, or past 65535, breaks it
unfoldable pub next_digit : ℕ → ℕ → Digit
next_digit v b = cond (is_digit b) (cond (ltb 0 v && leb (v * 10 + (b - 48)) 65535) (Digit.More (v * 10 + (b - 48))) Digit.Over) Digit.End

-- the rest of a number whose digits so far have value v; the text goes on at `at`
unfoldable pub more_digits : ℕ → ℕ → List ℕ → Result (ℕ × ℕ) Broken
more_digits v at [] = Ok (v, at)
more_digits v at (b ∷ rest) = on_digit (next_digit v b) (Ok (v, at)) (broken at) (λ w. more_digits w (suc at) rest)

unfoldable pub first_digit : ℕ → List ℕ → Result (ℕ × ℕ) Broken
first_digit at [] = broken at
first_digit at (b ∷ rest) = cond (is_digit b) (more_digits (b - 48) (suc at) rest) (broken at)

-- the number at a position: its value and the position after it, or the position of the byte that no number has there
unfoldable pub number_at : List ℕ → ℕ → Result (ℕ × ℕ) Broken
number_at s at = first_digit at (drop at s)

-- ---- fixed byte strings

-- the word at the start of a text that goes on at `at`: the position after it, or that of the first byte which is another
unfoldable pub word_from : List ℕ → List ℕ → ℕ → Result ℕ Broken
word_from [] s at = Ok at
word_from (w ∷ ws) [] at = broken at
word_from (w ∷ ws) (b ∷ s) at = cond (eqb b w) (word_from ws s (suc at)) (broken at)

unfoldable pub word_at : List ℕ → List ℕ → ℕ → Result ℕ Broken
word_at word s at = word_from word (drop at s) at

-- a space, then a number
unfoldable pub spaced_at : List ℕ → ℕ → Result (ℕ × ℕ) Broken
spaced_at s at = on_step (word_at (32 ∷ []) s at) (number_at s) broken

-- ---- lines

-- what was read: the numbers, also those before a break, and where reading stopped
pub record Line : Type 0 where
  pub numbers : List ℕ
  pub step : Result ℕ Broken

abbrev pub line_with : List ℕ → Result ℕ Broken → Line
line_with ns step = record { numbers = ns; step = step }

abbrev pub with_number : ℕ → Line → Line
with_number v l = line_with (v ∷ l.numbers) l.step

-- `count` numbers, each after one space
unfoldable pub numbers_at : List ℕ → ℕ → ℕ → Line
numbers_at s zero at = line_with [] (Ok at)
numbers_at s (suc k) at = on_number (spaced_at s at) (λ v p. with_number v (numbers_at s k p)) (λ p. line_with [] (broken p))

-- a close bracket and a line feed
abbrev pub ending : List ℕ
ending = 41 ∷ 10 ∷ []

-- after the numbers of a line, its ending
abbrev pub ended : List ℕ → Line → Line
ended s l = line_with l.numbers (on_step l.step (word_at ending s) broken)

-- the line at a position: an open bracket with the word, `width` numbers, the ending
unfoldable pub line_at : List ℕ → List ℕ → ℕ → ℕ → Line
line_at s word width at = on_step (word_at word s at) (λ p. ended s (numbers_at s width p)) (λ p. line_with [] (broken p))

-- a reader's answer, and what it stored: the numbers that it read, from `to` on
pub record Stored (l : Line) (answer : Result ℕ Broken) (out : List ℕ) (to : ℕ) (after : List ℕ) : Type 0 where
  pub step : answer ≡ l.step
  pub words : after ≡ sets out to l.numbers
