-- The count of controls says that they are enough.
use Rattle.std.proofs.Common.{◌≡◌, true, rules}
use Rattle.tables.specs.Bodies.{curve_count, basis_of}
use Rattle.basis.proofs.Basis.{curve-enough}
use Rattle.record_rules.proofs.bodies.curve_obeys.Goals as goal

pub in_order-requires : goal.in_order-requires
in_order-requires c =
    let b = c.args.body in
    let k : curve_count (basis_of b.basis) b.degree_u b.count_u c.args.count ≡ true = search rules in
    (c.requires.1, rw c.requires.0 (curve-enough _ _ _ _ k))

pub widest-requires : goal.widest-requires
widest-requires c =
    let b = c.args.body in
    let k : curve_count (basis_of b.basis) b.degree_u b.count_u c.args.count ≡ true = search rules in
    (c.requires.1, rw c.requires.0 (curve-enough _ _ _ _ k))
