-- Laws of the loops that write a block or nothing at each step, for all tables that are read, and of the loop over a list.
use Prim.Native.Nat.{ℕ, ◌+◌, ◌^◌, ◌<◌, ◌≤◌}
use mathlib.Core.Path.{◌≡◌, sym, ap, ap₂, ◌∙◌}
use mathlib.Core.Bool.{Bool, cond, ◌&&◌, not}
use mathlib.Core.List.{List}
use native.Mathlib.Omega.{arith}
use lib.Bits.{bit_or}
use Rattle.sets.specs.Bits.{bit}
use Rattle.sets.specs.Lists.{concat}
use Rattle.sets.specs.Writing.{Room, WrittenAt}
use Rattle.sets.proofs.WritingLaws.{same_room, same_written, Writing, writing_none, writing_room, writing_more, writing_all}
use Rattle.decoders.specs.Words.{IsWord}
use Rattle.report.specs.Tables.{Tables, entry_attribute}
use Rattle.report.specs.Typing.{entry_holds}
use Rattle.report.proofs.KeptLists.{kept_new}
use Rattle.at_configuration.specs.AtConfiguration.{ListReads}
use Rattle.at_configuration.proofs.ListLaws.{each_entry, attribute_is}
use Rattle.at_configuration.proofs.JoinedLaws.{EntriesJoined, joined_none, joined_more}
use Rattle.kept_lists.specs.Keeping.{KeptListWritable}
use Rattle.kept_lists.specs.Blocks.{pair_if, entry_at, WordPairWritable}

-- ---- a loop that writes n blocks, for all tables that are read

-- k of the blocks are written, and p is the position after them
pub record Keeping (Reads : Tables → Type 0) (f : Tables → ℕ → List ℕ) (n : ℕ) (first : List ℕ) (at : ℕ) (out : List ℕ) (k p : ℕ)
    : Type 0 where
  pub each : (T : Tables) → Reads T → Writing (f T) n first at out k p

module _ {Reads : Tables → Type 0} {f : Tables → ℕ → List ℕ} {n : ℕ} {first : List ℕ} {at : ℕ} where
  pub keeping_none : Keeping Reads f n first at first 0 at
  keeping_none = record { each = λ T R. writing_none }

  module _ {out : List ℕ} {k p : ℕ} (S : Keeping Reads f n first at out k p) where
    pub keeping_room : {T : Tables} → Reads T → Room (concat n (f T)) first at → k < n → Room (f T k) out p
    keeping_room {T} R = writing_room (S.each T R)

    pub keeping_more : {o : List ℕ} {q : ℕ} → k < n → ((T : Tables) → Reads T → WrittenAt (f T k) out p o q)
        → Keeping Reads f n first at o (k + 1) q
    keeping_more h w = record { each = λ T R. writing_more (S.each T R) h (w T R) }

    pub keeping_all : n ≤ k → (T : Tables) → Reads T → WrittenAt (concat n (f T)) first at out p
    keeping_all h T R = writing_all (S.each T R) h

-- ---- the loop over a list

-- of the `count` entries from `start` on the first i are seen, and those that are kept and stay are written, wherever in table 1 the entries lie;
-- `kept` is their joined set
pub record EntriesWriting (expression_rows entries : List ℕ) (c start count stays : ℕ) (first : List ℕ) (at : ℕ) (out : List ℕ) (kept i p : ℕ) : Type 0 where
  pub joined : EntriesJoined expression_rows entries c start count kept i
  pub written : (offset : ℕ)
      → Keeping (λ T. ListReads T offset expression_rows entries c start count) (λ T. entry_at T c (bit stays) (offset + start)) count first at out i p

pub listing_none : {expression_rows entries : List ℕ} {c start count stays : ℕ} {first : List ℕ} {at kept : ℕ} → kept ≡ 0
    → EntriesWriting expression_rows entries c start count stays first at first kept 0 at
listing_none e = record { joined = joined_none e; written = λ offset. keeping_none }

-- entry i, of attribute a: h is whether it holds, t whether a is kept already, and s whether a stays. What it writes is what was found of it
module _ {expression_rows entries : List ℕ} {c start count stays : ℕ} {first : List ℕ} {at : ℕ} {out : List ℕ} {kept i p : ℕ}
    (S : EntriesWriting expression_rows entries c start count stays first at out kept i p) (l : i < count) {a : ℕ}
    (e : IsWord (entry_attribute entries (start + i)) a) {h t s : Bool}
    (q : (T : Tables) (offset : ℕ) → ListReads T offset expression_rows entries c start (i + 1) → h ≡ entry_holds T c (offset + start + i))
    (m : t ≡ bit kept a) (n : s ≡ bit stays a) where
  text : {T : Tables} {offset : ℕ} → ListReads T offset expression_rows entries c start count
      → entry_at T c (bit stays) (offset + start) i ≡ pair_if (s && (h && not t)) a 0
  text {T} {offset} R =
      let y = entry_attribute T.entries (offset + start + i) in
      ap (λ (k : Bool). pair_if (bit stays y && k) y 0) (kept_new T c (offset + start) i)
      ∙ sym (ap (λ (k : Bool). pair_if (k && (h && not t)) a 0) n
      ∙ ap₂ (λ (k : Bool) (y : ℕ). pair_if (bit stays y && k) y 0)
      (ap₂ (λ (x y : Bool). x && not y) (q T offset (each_entry R l)) (m ∙ ap₂ bit (S.joined.joined T offset R) (attribute_is R l e.same)))
      (attribute_is R l e.same))

  pub listing_room : KeptListWritable expression_rows entries c start count stays first at → WordPairWritable (s && (h && not t)) a 0 out p
  listing_room A = record {
    first = e.small;
    second = omega arith;
    room = same_room (text A.reads) (keeping_room (S.written A.offset) A.reads A.room l);
  }

  pub listing_more : {o : List ℕ} {r more : ℕ} → WrittenAt (pair_if (s && (h && not t)) a 0) out p o r → more ≡ cond h (bit_or kept (2 ^ a)) kept
      → EntriesWriting expression_rows entries c start count stays first at o more (i + 1) r
  listing_more w j = record {
    joined = joined_more S.joined l e.same q j;
    written = λ offset. keeping_more (S.written offset) l (λ T R. same_written (text R) w);
  }
