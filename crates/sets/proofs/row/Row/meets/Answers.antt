-- A word that both rows have something in is one of the 16; where there is none, they have nothing in common.
use mathlib.Core.Path.{◌≡◌, refl, sym, ap, ◌∙◌}
use mathlib.Core.Bool.{Bool, true, false, not}
use mathlib.Core.Logic.{◌≢◌}
use Prim.Native.Nat.{ℕ, ◌+◌, ◌*◌, ◌<◌}
use native.Mathlib.Omega.{arith}
use lib.Bits.{bit_and}
use mathlib.Core.List.{List}
use lib.ListN.{get_or}
use Rattle.sets.specs.Rows.{row_is_empty, row_intersect, row_in}
use mir.Val.{Fits}
use mir.Syntax.{w64}
use Rattle.std.specs.Bool.{MatchBool}
use Rattle.std.specs.List.{AllWithin, HoldsAt, range_with_len}
use Rattle.std.proofs.Common.{rules}
use Rattle.std.proofs.lemmas.Iterator.{cases_from_any, YieldsList-from_range}
use Rattle.std.proofs.lemmas.List.FromFn.{get_or-range_with_len}
use Rattle.sets.proofs.RowLaws.{IsRow, meet_at, meet_none}
use Rattle.sets.proofs.row.Row.meets.Goals as goal

pub returns : goal.returns
returns c =
    let l = c.args.self.words in
    let rows = c.args.rows.now in
    let a = c.args.a in
    let both : ℕ → ℕ = λ w. bit_and (get_or l w 0) (get_or rows (a * 16 + w) 0) in
    let r : IsRow 16 l = record { size = search rules; fits = λ i h. let f : Fits w64 (get_or l i 0) = search rules in f.fits } in
    go l rows a r c.any.result
    (cases_from_any _ _ c.any.result (λ w. both w ≢ 0) (λ w. both w ≡ 0) c.any.ensures.ran (YieldsList-from_range 0 16 16 refl refl)
    (λ w q k. search rules) (λ w q k. search rules))
  where
    at_place : (w : ℕ) → w < 16 → get_or (range_with_len 0 16) w 0 ≡ w
    at_place w h = let e : 0 + w ≡ w = omega arith in get_or-range_with_len 0 16 w 0 h ∙ e

    go : (l rows : List ℕ) (a : ℕ) → IsRow 16 l → (b : Bool)
        → MatchBool b ((k : ℕ) × (k < 16) × HoldsAt (λ w. bit_and (get_or l w 0) (get_or rows (a * 16 + w) 0) ≢ 0) (range_with_len 0 16) k)
        (AllWithin (λ w. bit_and (get_or l w 0) (get_or rows (a * 16 + w) 0) ≡ 0) (range_with_len 0 16) 0 16)
        → b ≡ not (row_is_empty 16 (row_intersect 16 l (row_in 16 rows a)))
    go l rows a r true m = sym (ap not (meet_at 16 l rows a r m.0 m.1 (rw (at_place m.0 m.1) at (m.2 0))))
    go l rows a r false m = sym (ap not (meet_none 16 l rows a (λ w h. rw (at_place w h) at (m w 0 (omega arith) h))))
