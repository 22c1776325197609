-- Laws of specs/Writing: texts written one after another, and the loop that writes them.
use Prim.Native.Nat.{ℕ, suc, ◌+◌, ◌≤◌, ◌<◌}
use mathlib.Core.Path.{◌≡◌, refl, sym, ap, ap₂, ◌∙◌}
use mathlib.Core.Bool.{Bool, true, false, cond}
use mathlib.Core.List.{List, [], ◌∷◌, ◌++◌, append_assoc}
use native.Mathlib.Numerals.{add-one}
use native.Mathlib.Omega.{arith}
use borrow.Rule.Slice.PartMut.{put_mid}
use lib.ListN.{length, set, drop, length-append}
use lib.Seq.{sets, length-sets, sets-eq}
use Rattle.std.proofs.lemmas.Slice.{put_mid-paste}
use Rattle.std.proofs.lemmas.List.Edits.{paste_all}
use Rattle.sets.specs.Lists.{concat}
use Rattle.sets.specs.Writing.{Room, WrittenAt}
use Rattle.sets.proofs.ListLaws.{concat_grows}

-- ---- one after another

-- stores of a text and then of another are those of the two as one
pub sets_append : (xs ys l : List ℕ) (i : ℕ) → sets l i (xs ++ ys) ≡ sets (sets l i xs) (i + length xs) ys
sets_append [] ys l i = let e : i + 0 ≡ i = omega arith in rw e
sets_append (x ∷ xs) ys l i = let e : i + suc (length xs) ≡ suc i + length xs = omega arith in rw e (sets_append xs ys (set l i x) (suc i))

pub same_length : {xs o o' : List ℕ} {at p : ℕ} → WrittenAt xs o at o' p → length o' ≡ length o
same_length {xs} {o} {o'} {at} w = ap length w.stored ∙ length-sets o at xs

module _ {xs ys o : List ℕ} {at : ℕ} where
  pub and_then : {o' o'' : List ℕ} {p q : ℕ} → WrittenAt xs o at o' p → WrittenAt ys o' p o'' q → WrittenAt (xs ++ ys) o at o'' q
  and_then f g = record {
    place = omega (arith, f.place, g.place, length-append xs ys);
    stored = g.stored ∙ ap₂ (λ (l : List ℕ) (k : ℕ). sets l k ys) f.stored f.place ∙ sym (sets_append xs ys o at);
  }

  -- room for two is, after the first, room for the second
  pub room_next : {o' : List ℕ} {p : ℕ} → Room (xs ++ ys) o at → WrittenAt xs o at o' p → Room ys o' p
  room_next r w = record { fits = omega (arith, r.fits, length-append xs ys, w.place, same_length w) }

-- and at first room for the first
pub room_first : {xs o : List ℕ} {at : ℕ} (ys : List ℕ) → Room (xs ++ ys) o at → Room xs o at
room_first {xs} ys r = record { fits = omega (arith, r.fits, length-append xs ys) }

-- nothing, and one number
pub none_written : (o : List ℕ) (at : ℕ) → WrittenAt [] o at o at
none_written o at = record { place = omega arith; stored = refl }

pub one_written : (o : List ℕ) (at b : ℕ) → WrittenAt (b ∷ []) o at (set o at b) (at + 1)
one_written o at b = record { place = omega arith; stored = refl }

-- the same text under another name
pub same_room : {xs ys o : List ℕ} {at : ℕ} → xs ≡ ys → Room xs o at → Room ys o at
same_room e r = rw e at r

pub same_written : {xs ys o o' : List ℕ} {at p : ℕ} → xs ≡ ys → WrittenAt ys o at o' p → WrittenAt xs o at o' p
same_written e w = rw e w

-- written from the start: the text, and what stood after it
pub from_start : {text before after : List ℕ} {answer : ℕ} → Room text before 0 → WrittenAt text before 0 after answer
    → after ≡ text ++ drop (length text) before
from_start {text} {before} r w = let e : 0 + length text ≡ length text = omega arith in w.stored ∙ rw e at (sets-eq text before 0 r.fits)

-- the part of n places from `at` on, where it is the text
pub part_written : {A : Type 0} {text out part : List A} {at : ℕ} (n : ℕ) → Room text out at → part ≡ text → length text ≡ n
    → WrittenAt text out at (put_mid at n out part) (at + length text)
part_written {A} {text} {out} {part} {at} n r e l = record {
  place = refl;
  stored =
      put_mid-paste at n out part text (length text) e l refl ∙ paste_all out at text (length text) refl
      ∙ sym (simp append_assoc at (sets-eq text out at r.fits));
}

-- ---- a block of `kept`: written where it is kept, and nothing elsewhere

module _ {keep : Bool} (block : List ℕ) where
  pub kept_room : {o : List ℕ} {at : ℕ} → keep ≡ true → Room (cond keep block []) o at → Room block o at
  kept_room e r = rw e at r

  pub kept_written : {o o' : List ℕ} {at p : ℕ} → keep ≡ true → WrittenAt block o at o' p → WrittenAt (cond keep block []) o at o' p
  kept_written e w = rw e w

  pub dropped_written : (o : List ℕ) (at : ℕ) → keep ≡ false → WrittenAt (cond keep block []) o at o at
  dropped_written o at e = rw e (none_written o at)

-- ---- a loop that writes the n texts f 0, f 1, .. from `at` on

-- k of them are written, and p is the position after them
pub record Writing (f : ℕ → List ℕ) (n : ℕ) (first : List ℕ) (at : ℕ) (out : List ℕ) (k p : ℕ) : Type 0 where
  pub within : k ≤ n
  pub written : WrittenAt (concat k f) first at out p

one_more : (f : ℕ → List ℕ) (k : ℕ) → concat (k + 1) f ≡ concat k f ++ f k
one_more f k = ap (λ (j : ℕ). concat j f) (add-one k)

module _ {f : ℕ → List ℕ} {n : ℕ} {first : List ℕ} {at : ℕ} where
  pub writing_none : Writing f n first at first 0 at
  writing_none = record { within = omega arith; written = none_written first at }

  module _ {out : List ℕ} {k p : ℕ} (w : Writing f n first at out k p) where
    pub writing_room : Room (concat n f) first at → k < n → Room (f k) out p
    writing_room r h = record {
      fits =
          omega (
            arith,
            r.fits,
            concat_grows f (suc k) n h,
            length-append (concat k f) (f k),
            w.written.place,
            same_length w.written,
          );
    }

    pub writing_more : {o : List ℕ} {q : ℕ} → k < n → WrittenAt (f k) out p o q → Writing f n first at o (k + 1) q
    writing_more h v = record { within = omega arith; written = rw (one_more f k) (and_then w.written v) }

    pub writing_all : n ≤ k → WrittenAt (concat n f) first at out p
    writing_all h = let e : k ≡ n = omega (arith, w.within) in rw (← e) w.written
