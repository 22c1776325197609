-- What the steps of a program do to streams whose bytes are known: an input that will give them, an output that holds them.
use Rattle.std.specs.Prelude.{ℕ, ◌≡◌, ◌<◌, Bool, true, false, List, ◌++◌, length, take, Option, IfSome, Result, Ok, Err, codes}
use Rattle.std.specs.Io.KnownBytes.{Appends}
use Rattle.harbour_print.specs.Layouts.{text_as}
use Rattle.harbour_print.specs.Printing.{Prints}
use Rattle.harbour_print.specs.declared.Layout.{Layout}
use Rattle.program.specs.declared.Failure.{Failure}

-- the bytes that were read are the first of the input, all of them or as many as the text has room for
abbrev pub ReadsFirst : {E : Type 0} → Result ℕ E → Option (List ℕ) → List ℕ → Type 0
ReadsFirst (Ok n) known text = IfSome known (λ xs. take n text ≡ take (length text) xs)
ReadsFirst (Err e) known text = Unit {0}

-- what the layout prints for the first 65537 bytes of the input, n bytes, stands at the start
abbrev pub FirstPrinted : Layout → ℕ → Option (List ℕ) → List ℕ → List ℕ → Type 0
FirstPrinted layout n known before after = IfSome known (λ xs. Prints (text_as layout (take 65537 xs)) before after n)

-- so it is where the input was read
abbrev pub PrintsFirst : {E : Type 0} → Layout → Result ℕ E → Option (List ℕ) → List ℕ → List ℕ → Type 0
PrintsFirst layout (Ok n) known before after = FirstPrinted layout n known before after
PrintsFirst layout (Err e) known before after = Unit {0}

-- what was handed on, written or not, is that print
abbrev pub HandsFirst : Layout → Result ℕ Failure → Option (List ℕ) → List ℕ → List ℕ → Type 0
HandsFirst layout (Ok n) known before after = FirstPrinted layout n known before after
HandsFirst layout (Err (Failure.Unwritten n)) known before after = FirstPrinted layout n known before after
HandsFirst layout (Err Failure.Unread) known before after = Unit {0}

-- the first `count` bytes were added to what an output holds, or only some of these
abbrev pub AddsFirst : Bool → ℕ → List ℕ → Option (List ℕ) → Option (List ℕ) → Type 0
AddsFirst true count bytes held holds = Appends held holds (take count bytes)
AddsFirst false count bytes held holds = (k : ℕ) × (k < count) × Appends held holds (take k bytes)

-- some first bytes of the one text were added to what an output holds, and then some of the other
abbrev pub AddsParts : List ℕ → List ℕ → Option (List ℕ) → Option (List ℕ) → Type 0
AddsParts one other held holds = (i j : ℕ) × Appends held holds (take i one ++ take j other)

-- what was handed on was added to what the output held: all of it, or only some first bytes; where there was no input, the output is as before
abbrev pub WritesHanded : {W : Type 0} → (W → Option (List ℕ)) → Result ℕ Failure → W → W → List ℕ → Type 0
WritesHanded contents (Ok n) before after out = AddsFirst true n out (contents before) (contents after)
WritesHanded contents (Err (Failure.Unwritten n)) before after out = AddsFirst false n out (contents before) (contents after)
WritesHanded contents (Err Failure.Unread) before after out = after ≡ before

-- where all was written, what the output holds has grown by what the layout prints for the first 65537 bytes of the input, and by nothing else
abbrev pub WritesPrint : Layout → Result ℕ Failure → Option (List ℕ) → Option (List ℕ) → Option (List ℕ) → Type 0
WritesPrint layout (Ok n) known held holds = IfSome known (λ xs. Appends held holds (text_as layout (take 65537 xs)))
WritesPrint layout (Err e) known held holds = Unit {0}

-- nothing is said on standard error where all was written, and else one line, or a part of it
abbrev pub TellsOf : {E : Type 0} → (E → Option (List ℕ)) → Result ℕ Failure → List ℕ → E → E → Type 0
TellsOf contents (Ok n) name before after = after ≡ before
TellsOf contents (Err (Failure.Unwritten n)) name before after = AddsParts name (codes ": standard output cannot be written\n") (contents before) (contents after)
TellsOf contents (Err Failure.Unread) name before after = AddsParts name (codes ": standard input cannot be read\n") (contents before) (contents after)
