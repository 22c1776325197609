-- The lines of the print as the pieces that they are written in, and the members of a set one by one.
use Rattle.std.specs.Prelude.{Err}
use Prim.Native.Nat.{ℕ, zero, suc}
use mathlib.Core.Path.{◌≡◌, refl, sym, ap, ◌∙◌}
use mathlib.Core.Bool.{Bool, true, false, cond}
use mathlib.Core.List.{List, [], ◌∷◌, ◌++◌, append_assoc, append-nil}
use Rattle.sets.specs.Bits.{bit}
use Rattle.sets.specs.Lists.{concat, kept}
use Rattle.report.specs.Tables.{Tables}
use Rattle.report.specs.Text.{bytes, decimal, spaced}
use Rattle.report.specs.Print.{members, at_line, print_answer, print_file}
use Rattle.report.specs.HarbourFile.{File}
use Rattle.report.specs.declared.Refusal.{Refusal}
use Rattle.writing.specs.Lines.{refusal_line, unread_line, member_text, members_text, configuration_line}

-- ---- the lines are those of the print

pub refusal_print : (T : Tables) (f : Refusal) → print_answer T (Err f) ≡ refusal_line f
unfolding refusal_line
refusal_print T f = refl

pub unread_print : (n : ℕ) → print_file (File.unread n) ≡ unread_line n
unfolding unread_line
unread_print n = refl

pub configuration_print : (c s : ℕ) → at_line c s ≡ configuration_line c s
unfolding configuration_line
configuration_print c s = refl

-- ---- their pieces

abbrev pub number : ℕ → List ℕ → List ℕ
number n rest = (32 ∷ decimal n) ++ rest

abbrev pub ending : List ℕ
ending = 41 ∷ 10 ∷ []

abbrev refusal_pieces : Refusal → List ℕ
refusal_pieces f = (40 ∷ bytes "refused") ++ number f.number (number f.place (number f.item (number f.configuration ending)))

abbrev unread_pieces : ℕ → List ℕ
unread_pieces n = (40 ∷ bytes "unread") ++ number n ending

abbrev configuration_pieces : ℕ → ℕ → List ℕ
configuration_pieces c s = (40 ∷ bytes "at") ++ number c ((32 ∷ 40 ∷ bytes "has") ++ (members_text s ++ (41 ∷ 41 ∷ 10 ∷ [])))

pub refusal_pieces_lem : (f : Refusal) → refusal_line f ≡ refusal_pieces f
unfolding refusal_line
refusal_pieces_lem f = simp append_assoc

pub unread_pieces_lem : (n : ℕ) → unread_line n ≡ unread_pieces n
unfolding unread_line
unread_pieces_lem n = simp append_assoc

abbrev wrapped : ℕ → List ℕ → List ℕ
wrapped c ms = 40 ∷ bytes "at" ++ spaced (c ∷ []) ++ (32 ∷ 40 ∷ bytes "has" ++ ms ++ (41 ∷ [])) ++ (41 ∷ 10 ∷ [])

wrapped_pieces : (c : ℕ) (ms : List ℕ)
    → wrapped c ms ≡ (40 ∷ bytes "at") ++ number c ((32 ∷ 40 ∷ bytes "has") ++ (ms ++ (41 ∷ 41 ∷ 10 ∷ [])))
wrapped_pieces c ms =
    let has : List ℕ = 32 ∷ 40 ∷ bytes "has" ++ (ms ++ (41 ∷ [])) in
    ap (λ (d : List ℕ). 40 ∷ bytes "at" ++ (32 ∷ d ++ has ++ ending)) (append-nil (decimal c))
    ∙ ap (λ (l : List ℕ). 40 ∷ bytes "at" ++ (32 ∷ l)) (append_assoc (decimal c) has ending)
    ∙ ap (λ (l : List ℕ). 40 ∷ bytes "at" ++ number c (32 ∷ 40 ∷ bytes "has" ++ l)) (append_assoc ms (41 ∷ []) ending)

pub configuration_pieces_lem : (c s : ℕ) → configuration_line c s ≡ configuration_pieces c s
unfolding configuration_line members_text
configuration_pieces_lem c s = wrapped_pieces c (spaced (members s))

-- ---- the members of a set

spaced-append : (xs ys : List ℕ) → spaced (xs ++ ys) ≡ spaced xs ++ spaced ys
spaced-append [] ys = refl
spaced-append (x ∷ xs) ys =
    ap (λ (l : List ℕ). 32 ∷ decimal x ++ l) (spaced-append xs ys)
    ∙ sym (append_assoc (32 ∷ decimal x) (spaced xs) (spaced ys))

below_spaced : (s n : ℕ) → spaced (kept (bit s) (λ a. a ∷ []) n) ≡ concat n (member_text s)
unfolding member_text
below_spaced s zero = refl
below_spaced s (suc n) =
    spaced-append (kept (bit s) (λ a. a ∷ []) n) (cond (bit s n) (n ∷ []) [])
    ∙ ap (λ (l : List ℕ). l ++ member_text s n) (below_spaced s n)

pub members-concat : (s : ℕ) → members_text s ≡ concat 64 (member_text s)
unfolding members_text
members-concat s = below_spaced s 64

pub member_yes : (s a : ℕ) → bit s a ≡ true → member_text s a ≡ 32 ∷ decimal a
unfolding member_text
member_yes s a e = ap (λ (t : Bool). spaced (cond t (a ∷ []) [])) e ∙ append-nil (32 ∷ decimal a)

pub member_no : (s a : ℕ) → bit s a ≡ false → member_text s a ≡ []
unfolding member_text
member_no s a e = ap (λ (t : Bool). spaced (cond t (a ∷ []) [])) e
