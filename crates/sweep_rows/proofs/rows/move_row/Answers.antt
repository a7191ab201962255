-- A row without a number stays where it is; one with a number is copied down.
use Rattle.std.proofs.Common.{◌*◌, arith}
use Rattle.std.proofs.Math.Nat.{mul-le-mul_left}
use Rattle.sweep_rows.proofs.Moving.{row_stays, row-moves, copied-row}
use Rattle.sweep_rows.proofs.rows.move_row.Goals as goal

pub returns-then-number-eq0 : goal.returns-then-number-eq0
returns-then-number-eq0 c = row_stays c.args.values.now _ c.args.number c.args.to c.if-number-eq0.true

pub returns : goal.returns
returns c =
    let s = c.args in
    let down = mul-le-mul_left s.width c.requires.0 in
    row-moves s.values.now _ s.number s.to c.if-number-eq0.false (rw c.copy_within.ensures.after (copied-row s.values.now (s.width * s.i) (s.width * s.to) s.width (omega arith) (omega arith)))
