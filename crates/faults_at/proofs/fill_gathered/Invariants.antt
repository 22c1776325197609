use Rattle.faults_at.proofs.GatheredLaws.{Gathering}
use Rattle.faults_at.proofs.fill_gathered.Given as goal

abbrev pub invariant-loop-f : goal.invariant-loop-f
invariant-loop-f l = Gathering l.what l.tables.expression_rows.now l.tables.comparisons.now l.tables.kinds.now l.c l.initial.gathered_sets l.gathered_sets l.f
