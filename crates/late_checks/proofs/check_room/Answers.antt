use Rattle.std.proofs.Common.{rules, ◌≡◌, Err, sym}
use Rattle.late_checks.proofs.LateLaws.{room_answers}
use Rattle.late_checks.proofs.check_room.Goals as goal

pub returns-in_err-refuse_if : goal.returns-in_err-refuse_if
returns-in_err-refuse_if c =
    let told : c.from_residual.result ≡ Err c.in_err-refuse_if.field-0.0 = search rules in
    λ T R. room_answers c.args.tables.now R c.args.lent (rw (sym c.in_err-refuse_if.ensures) told)

pub returns-in_err-refuse_if-2 : goal.returns-in_err-refuse_if-2
returns-in_err-refuse_if-2 c =
    let told : c.from_residual-in_err-refuse_if-2.result ≡ Err c.in_err-refuse_if-2.field-0.0 = search rules in
    λ T R. room_answers c.args.tables.now R c.args.lent (rw (sym c.in_ok-refuse_if.ensures, sym c.in_err-refuse_if-2.ensures) told)

pub returns-in_err-refuse_if-3 : goal.returns-in_err-refuse_if-3
returns-in_err-refuse_if-3 c =
    let told : c.from_residual-in_err-refuse_if-3.result ≡ Err c.in_err-refuse_if-3.field-0.0 = search rules in
    λ T R.
    room_answers c.args.tables.now R c.args.lent
    (rw (sym c.in_ok-refuse_if.ensures, sym c.in_ok-refuse_if-2.ensures, sym c.in_err-refuse_if-3.ensures) told)

pub returns : goal.returns
returns c T R =
    room_answers c.args.tables.now R c.args.lent
    (rw (sym c.in_ok-refuse_if.ensures, sym c.in_ok-refuse_if-2.ensures, sym c.in_ok-refuse_if-3.ensures) c.refuse_if-4.ensures)
