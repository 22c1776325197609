-- A refusal is its line; what is accepted has passed the form checks, and the rows are its permitted configurations and its column rows.
use native.Mathlib.Omega.{arith}
use Rattle.printing.proofs.PrintLaws.{refusal_room}
use Rattle.judging.proofs.JudgingLaws.{own_columns}
use Rattle.harbour_print.proofs.PrintedLaws.{prints, refusal_printed, acceptance_printed, accepted_reads}
use Rattle.harbour_print.proofs.printed.print_tables.Goals as goal

pub put_refused-requires : goal.put_refused-requires
put_refused-requires c = record { fits = omega (arith, refusal_room c.in-Err.r (omega arith) (omega arith) (omega arith) (omega arith)) }

pub returns-in-Err : goal.returns-in-Err
returns-in-Err c =
    refusal_printed c.args.layout _ c.check_into_columns-judged.ensures.answers c.in-Err.is
    (prints (refusal_room c.in-Err.r (omega arith) (omega arith) (omega arith) (omega arith)) c.requires c.put_refused.ensures)

pub print_columns-requires : goal.print_columns-requires
print_columns-requires c =
    record {
      tables = _;
      reads = accepted_reads (own_columns c.check_into_columns-judged.ensures c.in-Ok.is);
      room = c.requires;
    }

pub returns-in-Ok : goal.returns-in-Ok
returns-in-Ok c =
    acceptance_printed c.args.layout _ c.check_into_columns-judged.ensures.answers c.in-Ok.is
    (c.print_columns.ensures _ (accepted_reads (own_columns c.check_into_columns-judged.ensures c.in-Ok.is)))
