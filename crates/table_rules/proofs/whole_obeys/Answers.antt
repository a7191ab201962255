-- Every used element is lent.
use Rattle.std.proofs.Common.{◌≡◌, true, rules}
use Rattle.tables.specs.Lent.{lent}
use Rattle.table_rules.specs.Whole.{lent_all}
use Rattle.table_rules.proofs.Lent.{lent-facts}
use Rattle.table_rules.proofs.whole_obeys.Goals as goal

pub elements_obey-requires : goal.elements_obey-requires
elements_obey-requires c =
    let s = c.args in
    let all : lent_all s.used (lent s.t.now) ≡ true = search rules in
    (lent-facts s.used (lent s.t.now) all).elements.elements
