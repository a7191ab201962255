-- The three answers of `skip_blanks`; at a word, what it says as a reference.
use native.Mathlib.Omega.{arith}
use Rattle.read_bodies.proofs.Parts as L
use Rattle.read_bodies.proofs.Parms.{end-words}
use Rattle.read_bodies.proofs.loops.next_curve.Goals as goal

pub reference_at-requires : goal.reference_at-requires
reference_at-requires c =
    let m = c.in-Start.ensures.more in
    let t = c.in-Start.ensures.to in
    omega arith

pub returns-in-Bad : goal.returns-in-Bad
returns-in-Bad c = L.no-curve c.args.curves c.args.text.now c.args.at c.in-Bad.ensures.no_words

pub returns-in-End : goal.returns-in-End
returns-in-End c = L.no-curve c.args.curves c.args.text.now c.args.at (end-words c.args.text.now c.args.at c.in-End.ensures)

pub returns-in-Start : goal.returns-in-Start
returns-in-Start c = rw c.ok.ensures.value (L.curve-read c.args.curves c.args.text.now c.args.at _ c.in-Start.ensures _ c.reference_at.ensures)
