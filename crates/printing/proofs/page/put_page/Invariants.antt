-- Configuration by configuration: the lines of those of the row below c stand one after another.
use mathlib.Core.Bool.{cond}
use mathlib.Core.List.{[]}
use Rattle.sets.specs.Rows.{row_bit}
use Rattle.sets.proofs.WritingLaws.{Writing}
use Rattle.report.specs.ColumnRows.{shown}
use Rattle.printing.specs.Page.{page_line}
use Rattle.printing.proofs.page.put_page.Given as goal

abbrev pub invariant-loop-c : goal.invariant-loop-c
invariant-loop-c l = Writing (λ k. cond (row_bit l.permitted.words k) (page_line k (shown l.rows k)) []) l.count l.initial.out l.at l.out l.c l.p
