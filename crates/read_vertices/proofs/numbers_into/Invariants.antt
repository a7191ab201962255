use Rattle.read_vertices.proofs.Walking as W
use Rattle.read_vertices.proofs.numbers_into.Given as goal

abbrev pub invariant-loop-count : goal.invariant-loop-count
invariant-loop-count l = W.Walking l.most l.text l.at l.first l.initial.table l.i l.count l.table
