-- What the test of the parameters says of their run lends it.
use Rattle.std.proofs.Common.{◌≡◌, true, eqb, arith, rules}
use lib.ListN.{length-take, length-drop}
use native.Mathlib.Nat.{add-sub_cancel_left}
use Rattle.record_rules.specs.Directions.{parameters_obey}
use Rattle.record_rules.proofs.OneBody.{run-facts, run-v}
use Rattle.record_rules.proofs.bodies.record_with.Goals as goal

pub surface_obeys-requires : goal.surface_obeys-requires
surface_obeys-requires c =
    let s = c.args in
    let obeyed : parameters_obey (eqb s.kind 6) s.t.now.parameters.now s.used.parameters s.body.first_parameter s.body.count_u s.body.count_v ≡ true = search rules in
    let r = run-facts _ _ _ _ _ _ obeyed in
    (r.lent-ones, r.along-u, run-v r (search rules))

pub slice_bounds-curve_obeys-end : goal.slice_bounds-curve_obeys-end
slice_bounds-curve_obeys-end c =
    let s = c.args in
    let obeyed : parameters_obey (eqb s.kind 6) s.t.now.parameters.now s.used.parameters s.body.first_parameter s.body.count_u s.body.count_v ≡ true = search rules in
    omega (arith, run-facts _ _ _ _ _ _ obeyed)

pub curve_obeys-requires : goal.curve_obeys-requires
curve_obeys-requires c =
    let s = c.args in
    let obeyed : parameters_obey (eqb s.kind 6) s.t.now.parameters.now s.used.parameters s.body.first_parameter s.body.count_u s.body.count_v ≡ true = search rules in
    let r = run-facts _ _ _ _ _ _ obeyed in
    (simp (length-take, length-drop, add-sub_cancel_left) (omega (arith, r.lent-ones)), simp (length-take, length-drop, add-sub_cancel_left) (omega (arith, r.lent-ones, r.along-u)))
