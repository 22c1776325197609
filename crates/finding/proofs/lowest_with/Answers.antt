use Prim.Native.Nat.{ℕ, ◌^◌}
use mathlib.Core.Path.{sym, ap, ap₂, ◌∙◌}
use mathlib.Core.List.{List}
use native.Mathlib.Omega.{arith}
use Rattle.sets.specs.Bits.{bit, difference}
use Rattle.sets.specs.Rows.{row_intersect}
use Rattle.sets.proofs.SearchLaws.{lowest_at}
use Rattle.sets.proofs.BitLaws.{difference_lt, without_less}
use Rattle.finding.specs.ColumnSearch.{shows_wanted}
use Rattle.finding.proofs.WantedLaws.{shows_one, lowest-shown}
use Rattle.finding.proofs.lowest_with.Goals as goal

pub load-requires : goal.load-requires
load-requires c =
    let lowest = lowest_at (bit c.loop-a.rest.bits) 64 c.in-Some.a (sym c.lowest.ensures ∙ c.in-Some.is) in
    let h = lowest.below in let room = c.requires in omega arith

pub single-requires : goal.single-requires
single-requires c = (lowest_at (bit c.loop-a.rest.bits) 64 c.in-Some.a (sym c.lowest.ensures ∙ c.in-Some.is)).below

pub loop-a-smaller : goal.loop-a-smaller
loop-a-smaller c =
    let x = c.loop-a.rest.bits in
    let a = c.in-Some.a in
    let lowest = lowest_at (bit c.loop-a.rest.bits) 64 c.in-Some.a (sym c.lowest.ensures ∙ c.in-Some.is) in
    rw (c.minus-rest.ensures, c.single.ensures) (without_less x a lowest.holds)

pub loop-a-preserved : goal.loop-a-preserved
loop-a-preserved c =
    let x = c.loop-a.rest.bits in
    let a = c.in-Some.a in
    let columns = c.args.columns.now in
    let lowest = lowest_at (bit c.loop-a.rest.bits) 64 c.in-Some.a (sym c.lowest.ensures ∙ c.in-Some.is) in
    let fewer = c.minus-rest.ensures ∙ ap (difference x) c.single.ensures in
    let cut = c.intersect-having.ensures ∙ ap (row_intersect 16 c.loop-a.having.words) c.load.ensures in (
      rw fewer (difference_lt 64 x (2 ^ a) c.loop-a.invariant.0),
      λ d l. ap₂ (λ (row : List ℕ) (rest : ℕ). shows_wanted row columns rest d) cut fewer
          ∙ shows_one c.loop-a.having.words columns x a lowest.below lowest.holds d l ∙ c.loop-a.invariant.1 d l,
    )

pub returns : goal.returns
returns c =
    let a = c.args in
    c.lowest-2.ensures
    ∙ lowest-shown a.row.words a.columns.now c.loop-a.having.words a.wanted.bits c.loop-a.rest.bits c.loop-a.invariant.0
    (sym c.lowest.ensures ∙ c.in_default.is) c.loop-a.invariant.1
