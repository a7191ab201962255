-- By the two forms: each answer is that of the reader called.
use Rattle.read_elements.proofs.corner_from.Goals as goal

pub returns-in-Vertex : goal.returns-in-Vertex
returns-in-Vertex c = rw c.in-Vertex.is c.quick_corner_at.ensures

pub returns-in-Parameter : goal.returns-in-Parameter
returns-in-Parameter c = rw c.in-Parameter.is c.control_at.ensures
