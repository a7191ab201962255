-- The loops look at their own tables.
use Rattle.std.proofs.Common.{◌≡◌, ◌∙◌, rules}
use Rattle.tables.specs.Lent.{lent}
use Rattle.record_rules.specs.Loops.{loops_obey}
use Rattle.record_rules.specs.Bodies.{surface_obeys}
use Rattle.record_rules.proofs.OneBody.{loops-lent}
use Rattle.record_rules.proofs.bodies.surface_obeys.Goals as goal

pub returns-then-directions_obey : goal.returns-then-directions_obey
unfolding surface_obeys
returns-then-directions_obey c =
    let s = c.args in
    let same : c.loops_with.result ≡ loops_obey s.used (lent s.t.now) s.curves s.body.first_loop s.body.loops = c.loops_with.ensures ∙ loops-lent s.used (lent s.t.now) s.curves _ _ in
    search rules
