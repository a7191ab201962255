use Rattle.read_bodies.proofs.Closings as C
use Rattle.read_bodies.proofs.closing.store.Given as goal

abbrev pub invariant-loop-done : goal.invariant-loop-done
invariant-loop-done l = C.Storing l.text l.at l.count l.asked l.initial.parameters l.first l.i l.done l.order l.parameters
