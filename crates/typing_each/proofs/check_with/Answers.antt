use Rattle.std.proofs.Common.{ℕ, ◌+◌, ◌-◌, ◌<◌, ◌≤◌, Fits, w16, w64, arith}
use Rattle.typing_each.proofs.EachSteps.{kept_none, kept_more, kept_lent}
use Rattle.typing_each.proofs.EachSteps.{each_none, each_columns, each_all, each_here, each_between, each_room, each_more}
use Rattle.typing_each.proofs.check_with.Goals as goal

-- of a configuration that is found, which is not below where the search begins, and below 1,024: it fits a word, so does the next, and the rest is less
module _ {from c : ℕ} (between : (from ≤ c) × (c < 1024)) where
  narrow : Fits w16 c
  narrow = omega arith

  next_fits : Fits w64 (c + 1)
  next_fits = omega arith

  falls : 1024 - (c + 1) < 1024 - from
  falls = omega arith

pub loop-c-init : goal.loop-c-init
loop-c-init c = (kept_none, each_none c.requires.each _)

pub fill_here-here-requires : goal.fill_here-here-requires
fill_here-here-requires c =
    each_here c.requires.each c.loop-c.invariant.1 c.lowest_from.ensures c.in-Some.is c.requires.sparing ((kept_lent c.loop-c.invariant.0 c.requires.lent))

pub overflow_cast-gathered : goal.overflow_cast-gathered
overflow_cast-gathered c = narrow (each_between c.requires.each c.loop-c.invariant.1 c.lowest_from.ensures c.in-Some.is)

pub bounds-gathered-count : goal.bounds-gathered-count
bounds-gathered-count c = (each_room c.requires.each c.loop-c.invariant.1 c.lowest_from.ensures c.in-Some.is)

pub overflow_add-from : goal.overflow_add-from
overflow_add-from c = next_fits (each_between c.requires.each c.loop-c.invariant.1 c.lowest_from.ensures c.in-Some.is)

pub loop-c-smaller : goal.loop-c-smaller
loop-c-smaller c = falls (each_between c.requires.each c.loop-c.invariant.1 c.lowest_from.ensures c.in-Some.is)

pub loop-c-preserved : goal.loop-c-preserved
loop-c-preserved c = (
  kept_more c.loop-c.invariant.0 c.fill_here-here.auto.named_sets c.fill_here-here.auto.clash_sets c.fill_here-here.auto.form_sets,
  each_more c.requires.each c.loop-c.invariant.1 c.lowest_from.ensures c.in-Some.is c.requires.sparing
      (λ T R H. (c.fill_here-here.ensures T R H).checked) c.sooner_of-answer.ensures,
)

pub store_columns-requires : goal.store_columns-requires
store_columns-requires c =
    each_columns c.requires.each c.loop-c.invariant.1 c.lowest_from.ensures c.in_default.is

pub returns : goal.returns
returns c =
    each_all c.requires.each c.loop-c.invariant.1 c.lowest_from.ensures c.in_default.is c.store_columns.ensures
