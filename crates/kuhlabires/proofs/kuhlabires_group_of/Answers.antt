-- The element's record, and then the part that it names: the definition's own two steps.
use Rattle.c_tables.proofs.Parts.{group-placed}
use Rattle.kuhlabires.proofs.kuhlabires_group_of.Goals as goal

pub returns : goal.returns
returns c =
    let a = c.args in
    group-placed a.text.now a.used a.elements.now a.element c.element_of-e.ensures c.part_of.ensures
