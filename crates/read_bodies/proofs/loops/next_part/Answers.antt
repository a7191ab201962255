-- Two numbers and a curv2, or where they stop.
use Rattle.tables.proofs.Bits.{fitted}
use Rattle.read_bodies.proofs.Steps as S
use Rattle.read_bodies.proofs.Parts as L
use Rattle.read_bodies.proofs.loops.next_part.Goals as goal

pub returns-in_err-q : goal.returns-in_err-q
returns-in_err-q c = rw c.from_residual.ensures (L.none_first c.args.curves c.args.text.now c.args.at c.in_err-q.ensures)

pub returns-in-End : goal.returns-in-End
returns-in-End c = S.step_end c.args.text.now c.args.at c.in_ok-q.ensures c.in-End.is

pub next_number-requires-in-Number : goal.next_number-requires-in-Number
next_number-requires-in-Number c = (S.step-number c.args.text.now c.args.at c.in_ok-q.ensures c.in-Number.is).to

pub returns-in_err-next_number-in-Number : goal.returns-in_err-next_number-in-Number
returns-in_err-next_number-in-Number c =
    let s = c.args.text.now in
    rw c.from_residual-in_err-next_number-in-Number.ensures
    (L.none-second c.args.curves s c.args.at (S.step-number s c.args.at c.in_ok-q.ensures c.in-Number.is) c.in_err-next_number-in-Number.ensures)

pub returns-in-End-2 : goal.returns-in-End-2
returns-in-End-2 c =
    let s = c.args.text.now in
    L.over-second c.args.curves s c.args.at (S.step-number s c.args.at c.in_ok-q.ensures c.in-Number.is) (S.step_end s _ c.in_ok-next_number-in-Number.ensures c.in-End-2.is)

pub next_curve-requires : goal.next_curve-requires
next_curve-requires c = (S.step-number c.args.text.now _ c.in_ok-next_number-in-Number.ensures c.in-Number-2.is).to

pub returns-in_err-curve-in-Number-2 : goal.returns-in_err-curve-in-Number-2
returns-in_err-curve-in-Number-2 c =
    let s = c.args.text.now in
    rw c.from_residual-in_err-curve-in-Number-2.ensures
    (L.none-third c.args.curves s c.args.at (S.step-number s c.args.at c.in_ok-q.ensures c.in-Number.is) (S.step-number s _ c.in_ok-next_number-in-Number.ensures c.in-Number-2.is) c.in_err-curve-in-Number-2.ensures)

pub returns-in_ok-curve-in-Number-2 : goal.returns-in_ok-curve-in-Number-2
returns-in_ok-curve-in-Number-2 c =
    let s = c.args.text.now in
    L.found c.args.curves s c.args.at (S.step-number s c.args.at c.in_ok-q.ensures c.in-Number.is) (S.step-number s _ c.in_ok-next_number-in-Number.ensures c.in-Number-2.is) c.in_ok-curve-in-Number-2.ensures (fitted c.struct_told-1.given.0.1) (fitted c.struct_told-in-Number-2-1.given.0.1)
