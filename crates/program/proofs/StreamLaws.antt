-- What reads into the rest of a text take of an input, and writes of bytes add to an output, where the bytes of these are known.
use Rattle.std.proofs.Common.{ℕ, ◌≡◌, ◌≤◌, ◌+◌, ◌-◌, List, ◌++◌, length, take, drop, sym, ap, subst, ◌∙◌, Option, Some, None, append_assoc, length-take-le, drop_at, le_refl}
use Rattle.std.proofs.lemmas.List.{take_rest}
use Rattle.std.proofs.lemmas.Slice.{take-put_mid_below}
use Rattle.std.proofs.Math.Seq.{take-add, take-append-le}
use Rattle.std.specs.Option.{IfSome}
use Rattle.std.specs.Io.KnownBytes.{Appends, Consumes}
use Rattle.harbour_print.specs.Layouts.{text_as}
use Rattle.harbour_print.specs.Printing.{Prints}
use Rattle.harbour_print.specs.declared.Layout.{Layout}
use Rattle.program.specs.Streams.{FirstPrinted}
use borrow.Rule.Slice.PartMut.{put_mid, post_of}

-- the start of a text, and after it the bytes that were put there
pub take_put : (a k n : ℕ) (xs ys : List ℕ) → a ≤ length xs → n ≤ length ys → take (a + n) (put_mid a k xs ys) ≡ take a xs ++ take n ys
take_put a k n xs ys h f =
    let all = put_mid a k xs ys in
    let after = post_of a k xs in
    let split : take (a + n) all ≡ take a all ++ take n (drop a all) = take-add a n all in
    let front : take a all ≡ take a xs = take-put_mid_below a k xs ys a (le_refl a) h in
    let back : drop a all ≡ ys ++ after = drop_at (take a xs) (ys ++ after) a (length-take-le a xs h) in
    let taken : take n (ys ++ after) ≡ take n ys = take-append-le n ys after f in
    cc

-- what two reads took, one after the other
pub consumed_both : (before between after : Option (List ℕ)) (xs ys : List ℕ) → Consumes before between xs → Consumes between after ys
    → Consumes before after (xs ++ ys)
consumed_both None between after xs ys f g = tt
consumed_both (Some all) None after xs ys f g = absurd f
consumed_both (Some all) (Some rest) None xs ys f g = absurd g
consumed_both (Some all) (Some rest) (Some last) xs ys f g = rw (f, g) (sym (append_assoc xs ys last))

-- what stands at the start of the text, and after it what one read took
pub consumed_put : (before between after : Option (List ℕ)) (a k n : ℕ) (xs ys : List ℕ) → a ≤ length xs → n ≤ length ys → Consumes before between (take a xs)
    → Consumes between after (take n ys) → Consumes before after (take (a + n) (put_mid a k xs ys))
consumed_put before between after a k n xs ys h f took more =
    subst (Consumes before after) (sym (take_put a k n xs ys h f)) (consumed_both before between after _ _ took more)

-- the print of the bytes that were read of an input is that of its first, at the room that a program has for them
pub printed_first : (known : Option (List ℕ)) (layout : Layout) (text : List ℕ) (n count : ℕ) (before after : List ℕ) → length text ≡ 65537
    → IfSome known (λ xs. take n text ≡ take (length text) xs) → Prints (text_as layout (take n text)) before after count
    → FirstPrinted layout count known before after
printed_first None layout text n count before after h e p = tt
printed_first (Some xs) layout text n count before after h e p =
    let same : take n text ≡ take 65537 xs = e ∙ ap (λ m. take m xs) h in
    subst (λ ys. Prints (text_as layout ys) before after count) same p

-- what two writes added, one after the other
pub appended_both : (before between after : Option (List ℕ)) (xs ys : List ℕ) → Appends before between xs → Appends between after ys
    → Appends before after (xs ++ ys)
appended_both None between after xs ys f g = tt
appended_both (Some all) None after xs ys f g = absurd f
appended_both (Some all) (Some more) None xs ys f g = absurd g
appended_both (Some all) (Some more) (Some most) xs ys f g = rw (g, f) (append_assoc all xs ys)

-- the first bytes, and then the first of the rest
pub appended_more : (before between after : Option (List ℕ)) (bytes : List ℕ) (a n : ℕ) → Appends before between (take a bytes)
    → Appends between after (take n (take (length bytes - a) (drop a bytes))) → Appends before after (take (a + n) bytes)
appended_more before between after bytes a n f g =
    let rest : take a bytes ++ take n (take (length bytes - a) (drop a bytes)) ≡ take (a + n) bytes =
    ap (λ l. take a bytes ++ take n l) (take_rest bytes a) ∙ sym (take-add a n bytes) in
    subst (Appends before after) rest (appended_both before between after _ _ f g)
