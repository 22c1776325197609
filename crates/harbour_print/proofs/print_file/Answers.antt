-- The file is read into local tables; then its print, which is the print of the text.
use mathlib.Core.Path.{refl}
use native.Mathlib.Omega.{arith}
use Rattle.printing.proofs.PrintLaws.{unread_room}
use Rattle.harbour_file.proofs.FileHeld.{bad_told, read_told}
use Rattle.harbour_print.proofs.PrintedLaws.{prints, held_decoded, text_printed, unread_printed}
use Rattle.harbour_print.proofs.print_file.Goals as goal

pub put_unread-requires : goal.put_unread-requires
put_unread-requires c = record { fits = omega (arith, (unread_room c.in-Err.bad.number (omega arith))) }

pub print_read-requires : goal.print_read-requires
print_read-requires c =
    let t = (read_told _ _ c.read_file-file.ensures c.in-Ok.is) in
    record { tables = t.0; held = held_decoded t.2 c.decode_head.ensures; whole = omega arith; room = omega arith }

pub returns-in-Err : goal.returns-in-Err
returns-in-Err c =
    unread_printed c.args.layout c.args.text.now refl (bad_told _ _ c.read_file-file.ensures c.in-Err.is)
    (prints ((unread_room c.in-Err.bad.number (omega arith))) (omega arith) c.put_unread.ensures)

pub returns-in-Ok : goal.returns-in-Ok
returns-in-Ok c =
    let t = (read_told _ _ c.read_file-file.ensures c.in-Ok.is) in
    text_printed c.args.layout c.args.text.now t.1 (c.print_read.ensures t.0 (held_decoded t.2 c.decode_head.ensures))
