use native.Mathlib.Omega.{arith}
use Rattle.sparing.proofs.SparingLaws.{found_none, found_all, found_between, found_sets, found_add, found_more}
use Rattle.sparing.proofs.fill_found.Goals as goal

pub loop-c-init : goal.loop-c-init
loop-c-init c = found_none c.requires

pub fill_form_sets-requires : goal.fill_form_sets-requires
fill_form_sets-requires c =
    found_sets c.requires c.loop-c.invariant c.lowest_from.ensures c.in-Some.is

pub add_found-requires : goal.add_found-requires
add_found-requires c =
    found_add c.requires c.loop-c.invariant c.lowest_from.ensures c.in-Some.is c.fill_form_sets.ensures

pub overflow_add-from : goal.overflow_add-from
overflow_add-from c = let b = (found_between c.requires c.loop-c.invariant c.lowest_from.ensures c.in-Some.is) in omega arith

pub loop-c-smaller : goal.loop-c-smaller
loop-c-smaller c = let b = (found_between c.requires c.loop-c.invariant c.lowest_from.ensures c.in-Some.is) in omega arith

pub loop-c-preserved : goal.loop-c-preserved
loop-c-preserved c =
    found_more c.requires c.loop-c.invariant c.lowest_from.ensures c.in-Some.is c.fill_form_sets.ensures
    c.fill_form_sets.auto.form_sets c.add_found.auto.spared_sets c.add_found.ensures

pub returns : goal.returns
returns c =
    found_all c.requires c.loop-c.invariant c.lowest_from.ensures c.in_default.is
