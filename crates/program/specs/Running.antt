-- What the steps of a program answer.
use Rattle.std.specs.Prelude.{ℕ, ◌≤◌, ◌≡◌, List, length, Result, Ok, Err}
use Rattle.io.specs.Counts.{IsPrefixLen}
use Rattle.harbour_print.specs.Layouts.{text_as}
use Rattle.harbour_print.specs.Printing.{Prints}
use Rattle.harbour_print.specs.declared.Layout.{Layout}
use Rattle.program.specs.declared.Failure.{Failure}

-- the bytes that were read stand at the start of the text
abbrev pub Within : {E : Type 0} → Result ℕ E → List ℕ → Type 0
Within (Ok n) text = IsPrefixLen n text
Within (Err e) text = Unit {0}

-- there is a text, at most one byte longer than a file may be, and what the layout prints for it, of n bytes, stands at the start
abbrev pub SomePrinted : Layout → ℕ → List ℕ → List ℕ → Type 0
SomePrinted layout n before after = (text : List ℕ) × (length text ≤ 65537) × Prints (text_as layout text) before after n

-- so it is, or nothing has changed
abbrev pub InputPrinted : {E : Type 0} → Layout → Result ℕ E → List ℕ → List ℕ → Type 0
InputPrinted layout (Ok n) before after = SomePrinted layout n before after
InputPrinted layout (Err e) before after = after ≡ before

-- the promise of `run`: what was handed on, written or not, is such a print; or nothing was, and nothing has changed
abbrev pub HandedOn : Layout → Result ℕ Failure → List ℕ → List ℕ → Type 0
HandedOn layout (Ok n) before after = SomePrinted layout n before after
HandedOn layout (Err (Failure.Unwritten n)) before after = SomePrinted layout n before after
HandedOn layout (Err Failure.Unread) before after = after ≡ before
