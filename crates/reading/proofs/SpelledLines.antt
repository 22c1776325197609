-- What the scanner of specs/Scanning finds at a position: a line is read exactly where its text stands.
use Prim.Native.Nat.{ℕ, zero, suc, ◌+◌, ◌≤◌}
use Rattle.std.specs.Prelude.{Result, Ok, Err}
use Rattle.reading.specs.declared.Broken.{Broken}
use mathlib.Core.Path.{◌≡◌, refl, sym, ap, ◌∙◌}
use mathlib.Core.Bool.{Bool, true, false}
use mathlib.Core.List.{List, [], ◌∷◌, ◌++◌, append_assoc}
use native.Mathlib.Nat.{add-zero}
use native.Mathlib.Omega.{arith}
use lib.ListN.{length, drop, length-append}
use lib.Seq.{drop-drop, drop-append_seam}
use lib.Dec.{leb, eqb}
use borrow.Author.Tests.{leb-true, le-leb, eq-eqb, eqb-true}
use Rattle.report.specs.Text.{decimal, spaced, line, is_digit}
use Rattle.report.specs.HarbourFile.{all_at_most}
use Rattle.report.proofs.TextLaws.{both, both_true, line_bytes}
use Rattle.reading.specs.Scanning.{broken, word_from, word_at, number_at, spaced_at, on_step}
use Rattle.reading.specs.Scanning.{Line, line_with, with_number, numbers_at, ending, ended, line_at}
use Rattle.reading.proofs.SpelledNumbers.{number_read, number_found}

-- no answer says both that reading goes on and that it stops
not_both : {A : Type 0} (x : Result ℕ Broken) (p q : ℕ) → x ≡ Ok p → x ≡ broken q → A
not_both x p q e f = cc

module _ (s : List ℕ) where
  -- The text stands in s at a position, and p is the position after it
  pub record Spelled (at : ℕ) (text : List ℕ) (p : ℕ) : Type 0 where
    pub holds : drop at s ≡ text ++ drop p s
    pub place : p ≡ at + length text

  -- the text stands there where s goes on with it
  pub spelled_at : (at p : ℕ) (text rest : List ℕ) → drop at s ≡ text ++ rest → p ≡ at + length text → Spelled at text p
  spelled_at at p text rest e q =
      let r : drop p s ≡ rest =
      ap (λ (x : ℕ). drop x s) q ∙ sym (drop-drop (length text) at s) ∙ ap (drop (length text)) e ∙ drop-append_seam text rest in
      record { holds = e ∙ ap (λ (l : List ℕ). text ++ l) (sym r); place = q }

  module _ (at p : ℕ) (x y : List ℕ) where
    -- one text after another
    pub spelled_more : (m : ℕ) → Spelled at x m → Spelled m y p → Spelled at (x ++ y) p
    spelled_more m a b = record {
      holds = a.holds ∙ ap (λ (l : List ℕ). x ++ l) b.holds ∙ sym (append_assoc x y (drop p s));
      place = omega (arith, a.place, b.place, length-append x y);
    }

    -- the first of two stands there alone
    pub spelled_first : Spelled at (x ++ y) p → Spelled at x (at + length x)
    spelled_first a = spelled_at at (at + length x) x (y ++ drop p s) (a.holds ∙ append_assoc x y (drop p s)) refl

    -- and the second after it
    pub spelled_rest : Spelled at (x ++ y) p → Spelled (at + length x) y p
    spelled_rest a =
        let r : drop (at + length x) s ≡ y ++ drop p s =
        sym (drop-drop (length x) at s) ∙ ap (drop (length x)) (a.holds ∙ append_assoc x y (drop p s)) ∙ drop-append_seam x (y ++ drop p s) in
        record { holds = r; place = omega (arith, a.place, length-append x y) }

-- ---- fixed byte strings

-- a word that was read is the start of the text
word_start : (word text : List ℕ) (at p : ℕ) → word_from word text at ≡ Ok p
    → (rest : List ℕ) × (text ≡ word ++ rest) × (p ≡ at + length word)
unfolding word_from
word_start [] text at p e = let q : at ≡ p = cc in (text, refl, omega arith)
word_start (w ∷ ws) [] at p e = not_both (broken at) p at e refl
word_start (w ∷ ws) (b ∷ text) at p e = go (eqb b w) refl (word_start ws text (suc at) p)
  where
    go : (t : Bool) → eqb b w ≡ t
        → (word_from ws text (suc at) ≡ Ok p → (rest : List ℕ) × (text ≡ ws ++ rest) × (p ≡ suc at + length ws))
        → (rest : List ℕ) × (b ∷ text ≡ w ∷ ws ++ rest) × (p ≡ at + suc (length ws))
    go false f later = not_both (word_from (w ∷ ws) (b ∷ text) at) p at e (rw f)
    go true f later =
        let same : word_from (w ∷ ws) (b ∷ text) at ≡ word_from ws text (suc at) = rw f in
        let r = later (sym same ∙ e) in
        let q : p ≡ at + suc (length ws) = omega (arith, r.2) in
        (r.0, ap (λ (l : List ℕ). b ∷ l) r.1 ∙ ap (λ (x : ℕ). x ∷ (ws ++ r.0)) (eqb-true b w f), q)

-- a text that starts with the word is read
start_word : (word rest : List ℕ) (at : ℕ) → word_from word (word ++ rest) at ≡ Ok (at + length word)
unfolding word_from
start_word [] rest at = ap Ok (sym (add-zero at))
start_word (w ∷ ws) rest at =
    let q : suc at + length ws ≡ at + suc (length ws) = omega arith in
    rw (eq-eqb w w refl) (start_word ws rest (suc at) ∙ ap Ok q)

module _ (s : List ℕ) where
  -- a word that was read stands there
  pub word_read : (word : List ℕ) (at p : ℕ) → word_at word s at ≡ Ok p → Spelled s at word p
  unfolding word_at
  word_read word at p e = let r = word_start word (drop at s) at p e in spelled_at s at p word r.0 r.1 r.2

  -- and is read where it stands
  pub word_found : (word : List ℕ) (at p : ℕ) → Spelled s at word p → word_at word s at ≡ Ok p
  unfolding word_at
  word_found word at p r = rw r.holds (start_word word (drop p s) at ∙ ap Ok (sym r.place))

  -- ---- numbers

  -- a number that was read stands there after its space
  spaced_read : (at v p : ℕ) → spaced_at s at ≡ Ok (v, p) → Spelled s at (32 ∷ decimal v) p × (v ≤ 65535)
  unfolding spaced_at number_at
  spaced_read at v p e = go (word_at (32 ∷ []) s at) refl
    where
      go : (x : Result ℕ Broken) → word_at (32 ∷ []) s at ≡ x → Spelled s at (32 ∷ decimal v) p × (v ≤ 65535)
      go (Err q) f =
          let c : spaced_at s at ≡ broken q.at = rw f in cc
      go (Ok q) f =
          let c : spaced_at s at ≡ number_at s q = rw f in
          let r = number_read (drop q s) v q p (sym c ∙ e) in (
            spelled_more s at p (32 ∷ []) (decimal v) q (word_read (32 ∷ []) at q f) (spelled_at s q p (decimal v) r.rest r.holds r.place),
            r.small,
          )

  -- and is read where it stands so, if no digit follows
  spaced_found : (at v p b : ℕ) (rest : List ℕ) → Spelled s at (32 ∷ decimal v) p → v ≤ 65535 → drop p s ≡ b ∷ rest → is_digit b ≡ false
      → spaced_at s at ≡ Ok (v, p)
  unfolding spaced_at number_at
  spaced_found at v p b rest r h e f =
      let n = spelled_rest s at p (32 ∷ []) (decimal v) r in
      rw (word_found (32 ∷ []) at (at + 1) (spelled_first s at p (32 ∷ []) (decimal v) r))
      (rw (n.holds, e) (number_found v (at + 1) b rest h f ∙ ap (λ (x : ℕ). Ok (v, x)) (sym n.place)))

  -- Numbers, each after a space, stand in s from a position up to p
  pub record NumbersRead (count at p : ℕ) (ns : List ℕ) : Type 0 where
    pub long : length ns ≡ count
    pub small : all_at_most 65535 ns ≡ true
    pub holds : Spelled s at (spaced ns) p

  -- numbers that were read stand there
  numbers_read : (k at p : ℕ) → (numbers_at s k at).step ≡ Ok p → NumbersRead k at p (numbers_at s k at).numbers
  unfolding numbers_at
  numbers_read zero at p e =
      let q : at ≡ p = cc in
      record { long = refl; small = refl; holds = record { holds = ap (λ (x : ℕ). drop x s) q; place = omega arith } }
  numbers_read (suc k) at p e = go (spaced_at s at) refl (λ m. numbers_read k m p)
    where
      go : (x : Result (ℕ × ℕ) Broken) → spaced_at s at ≡ x
          → ((m : ℕ) → (numbers_at s k m).step ≡ Ok p → NumbersRead k m p (numbers_at s k m).numbers)
          → NumbersRead (suc k) at p (numbers_at s (suc k) at).numbers
      go (Err q) f later =
          let c : numbers_at s (suc k) at ≡ line_with [] (broken q.at) = rw f in
          not_both (numbers_at s (suc k) at).step p q.at e (ap (λ (l : Line). l.step) c)
      go (Ok (v, m)) f later =
          let c : numbers_at s (suc k) at ≡ with_number v (numbers_at s k m) = rw f in
          let r = later m (sym (ap (λ (l : Line). l.step) c) ∙ e) in
          let n = spaced_read at v m f in
          rw c
          (record {
            long = ap suc r.long;
            small = both (le-leb v 65535 n.1) r.small;
            holds = spelled_more s at p (32 ∷ decimal v) (spaced (numbers_at s k m).numbers) m n.0 r.holds;
          })

  -- and are read where they stand, if no digit follows
  numbers_found : (ns : List ℕ) (at p b : ℕ) (rest : List ℕ) → all_at_most 65535 ns ≡ true → Spelled s at (spaced ns) p
      → drop p s ≡ b ∷ rest → is_digit b ≡ false → numbers_at s (length ns) at ≡ line_with ns (Ok p)
  unfolding numbers_at
  numbers_found [] at p b rest h r e f = let q : at ≡ p = omega (arith, r.place) in ap (λ (x : ℕ). line_with [] (Ok x)) q
  numbers_found (n ∷ ns) at p b rest h r e f =
      let i = both_true (leb n 65535) (all_at_most 65535 ns) h in
      let m = at + length (32 ∷ decimal n) in
      let t = spelled_rest s at p (32 ∷ decimal n) (spaced ns) r in
      let c = numbers_found ns m p b rest i.1 t e f in
      rw (go ns t.holds (spelled_first s at p (32 ∷ decimal n) (spaced ns) r) (leb-true n 65535 i.0)) (ap (with_number n) c)
    where
      go : (ms : List ℕ) → drop (at + length (32 ∷ decimal n)) s ≡ spaced ms ++ drop p s
          → Spelled s at (32 ∷ decimal n) (at + length (32 ∷ decimal n)) → n ≤ 65535
          → spaced_at s at ≡ Ok (n, at + length (32 ∷ decimal n))
      go [] d a l = spaced_found at n (at + length (32 ∷ decimal n)) b rest a l (d ∙ e) f
      go (x ∷ ms) d a l = spaced_found at n (at + length (32 ∷ decimal n)) 32 (decimal x ++ spaced ms ++ drop p s) a l d refl

  -- ---- lines

  -- A line of the word and `width` numbers of at most 65535 stands in s from a position up to p
  pub record LineRead (word : List ℕ) (width at p : ℕ) (ns : List ℕ) : Type 0 where
    pub long : length ns ≡ width
    pub small : all_at_most 65535 ns ≡ true
    pub holds : Spelled s at (line word ns) p

  module _ (word : List ℕ) where
    -- a line that was read stands there
    pub line_read : (width at p : ℕ) → (line_at s (40 ∷ word) width at).step ≡ Ok p
        → LineRead word width at p (line_at s (40 ∷ word) width at).numbers
    unfolding line_at
    line_read width at p e = go (word_at (40 ∷ word) s at) refl
      where
        end : (q : ℕ) → word_at (40 ∷ word) s at ≡ Ok q → on_step (numbers_at s width q).step (word_at ending s) broken ≡ Ok p
            → (x : Result ℕ Broken) → (numbers_at s width q).step ≡ x → LineRead word width at p (numbers_at s width q).numbers
        end q a d (Err m) f = not_both (on_step (numbers_at s width q).step (word_at ending s) broken) p m.at d (rw f)
        end q a d (Ok m) f =
            let c : on_step (numbers_at s width q).step (word_at ending s) broken ≡ word_at ending s m = rw f in
            let r = numbers_read width q m f in
            let ns = (numbers_at s width q).numbers in
            record {
              long = r.long;
              small = r.small;
              holds =
                  rw (line_bytes word ns)
                  (spelled_more s at p (40 ∷ word) (spaced ns ++ ending) q (word_read (40 ∷ word) at q a)
                  (spelled_more s q p (spaced ns) ending m r.holds (word_read ending m p (sym c ∙ d))));
            }

        go : (x : Result ℕ Broken) → word_at (40 ∷ word) s at ≡ x → LineRead word width at p (line_at s (40 ∷ word) width at).numbers
        go (Err q) f =
            let c : line_at s (40 ∷ word) width at ≡ line_with [] (broken q.at) = rw f in
            not_both (line_at s (40 ∷ word) width at).step p q.at e (ap (λ (l : Line). l.step) c)
        go (Ok q) f =
            let c : line_at s (40 ∷ word) width at ≡ ended s (numbers_at s width q) = rw f in
            rw c (end q f (sym (ap (λ (l : Line). l.step) c) ∙ e) (numbers_at s width q).step refl)

    -- and is read where it stands
    pub line_found : (ns : List ℕ) (at p : ℕ) → LineRead word (length ns) at p ns
        → line_at s (40 ∷ word) (length ns) at ≡ line_with ns (Ok p)
    unfolding line_at
    line_found ns at p r =
        let a : Spelled s at ((40 ∷ word) ++ (spaced ns ++ ending)) p = rw (line_bytes word ns) at r.holds in
        let q = at + length (40 ∷ word) in
        let b = spelled_rest s at p (40 ∷ word) (spaced ns ++ ending) a in
        let m = q + length (spaced ns) in
        let c = spelled_rest s q p (spaced ns) ending b in
        rw (
          word_found (40 ∷ word) at q (spelled_first s at p (40 ∷ word) (spaced ns ++ ending) a),
          numbers_found ns q m 41 (10 ∷ drop p s) r.small (spelled_first s q p (spaced ns) ending b) c.holds refl,
          word_found ending m p c,
        )
