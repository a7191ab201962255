-- The count of controls says that those along u and along v are enough.
use Rattle.std.proofs.Common.{◌≡◌, true, rules}
use Rattle.tables.specs.Bodies.{surface_count, basis_of}
use Rattle.basis.proofs.Basis.{surface-enough-u, surface-enough-v}
use Rattle.record_rules.proofs.bodies.directions_obey.Goals as goal

pub in_order-requires : goal.in_order-requires
in_order-requires c =
    let b = c.args.body in
    let k : surface_count (basis_of b.basis) b.degree_u b.count_u b.degree_v b.count_v c.args.count ≡ true = search rules in
    (c.requires.1, rw c.requires.0 (surface-enough-u _ _ _ _ _ _ k))

pub in_order-requires-then-in_order : goal.in_order-requires-then-in_order
in_order-requires-then-in_order c =
    let b = c.args.body in
    let k : surface_count (basis_of b.basis) b.degree_u b.count_u b.degree_v b.count_v c.args.count ≡ true = search rules in
    (c.requires.3, rw c.requires.2 (surface-enough-v _ _ _ _ _ _ k))
