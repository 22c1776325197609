use native.Mathlib.Omega.{arith}
use Rattle.sets.proofs.SearchLaws.{count_le}
use Rattle.report.specs.Typing.{present}
use Rattle.kept_forms.proofs.relation_word.Goals as goal

pub overflow_cast-result : goal.overflow_cast-result
overflow_cast-result c =
    let R = c.requires.reads in
    let e = c.new_relation.ensures c.requires.tables R in
    let l = c.requires.few in
    let m = R.reads.formed.sized2.fits in
    omega (arith, count_le (present c.requires.tables c.args.c) c.args.a)
