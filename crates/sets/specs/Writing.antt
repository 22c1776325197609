-- Values of one type written one after another into lent ones, from a position on.
use Rattle.std.specs.Prelude.{ℕ, ◌+◌, ◌≤◌, ◌≡◌, List, length}
use lib.Seq.{sets}

module _ {A : Type 0} where
  -- from `at` on there is room for the text
  pub record Room (text out : List A) (at : ℕ) : Type 0 where
    pub fits : at + length text ≤ length out

  -- afterwards the text stands from `at` on, all else is as before, and the answer is the position after it
  pub record WrittenAt (text before : List A) (at : ℕ) (after : List A) (answer : ℕ) : Type 0 where
    pub place : answer ≡ at + length text
    pub stored : after ≡ sets before at text
