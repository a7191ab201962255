-- Must be believed: a promise reaches every definition of this file.
-- 01, "Bodies": the body of a curv, curv2 or surf, all of its records.
use Rattle.std.specs.Prelude.{ℕ, ◌-◌, List, Bool, cond, ◌&&◌, eqb, ℤ, pos}
use Rattle.tables.specs.Tables.{Tables}
use Rattle.tables.specs.Records.{body_at, parameters_u, parameters_v, curve2_kind, surface_kind}
use Rattle.tables.specs.declared.Body.{Body}
use Rattle.tables.specs.Bodies.{in_order, curve_count, surface_count, basis_of}
use Rattle.tables.specs.Asking.{body_held}
use Rattle.tables.specs.declared.Used.{Used}
use Rattle.record_rules.specs.Numbers.{eq_z}
use Rattle.record_rules.specs.Directions.{type_obeys, parameters_obey}
use Rattle.basis.specs.Widest.{widest}
use Rattle.record_rules.specs.Loops.{loops_obey}

-- "a curve's v entries are 0"; trims and holes "belong to surfaces"
unfoldable pub flat_obeys : Body → Bool
flat_obeys b = eq_z b.start_v (pos 0) && eq_z b.end_v (pos 0) && eqb b.first_loop 0 && eqb b.loops 0

-- 12 and 13 of a curve with the parameters x
unfoldable pub curve_obeys : Bool → List ℤ → Body → ℕ → Bool
curve_obeys curv2 x b count =
    curve_count (basis_of b.basis) b.degree_u b.count_u count
    && in_order (basis_of b.basis) b.degree_u x b.start_u b.end_u
    && widest curv2 (basis_of b.basis) b.degree_u x b.start_u b.end_u
    && flat_obeys b

-- 12 and 13 of a surface with the parameters x and y: "A surface has k_u times k_v controls"
unfoldable pub directions_obey : List ℤ → List ℤ → Body → ℕ → Bool
directions_obey x y b count =
    surface_count (basis_of b.basis) b.degree_u b.count_u b.degree_v b.count_v count
    && in_order (basis_of b.basis) b.degree_u x b.start_u b.end_u
    && in_order (basis_of b.basis) b.degree_v y b.start_v b.end_v

unfoldable pub surface_obeys : ℕ → Tables → ℕ → ℕ → Body → Bool
surface_obeys used t curves count b =
    directions_obey (parameters_u t b) (parameters_v t b) b count && loops_obey used t curves b.first_loop b.loops

-- the body of an element of this kind with `count` corners
unfoldable pub record_obeys : Used → Tables → ℕ → ℕ → ℕ → Body → Bool
record_obeys used t curves kind count b =
    type_obeys (eqb kind surface_kind) b.basis b.rational b.degree_u b.degree_v
    && parameters_obey (eqb kind surface_kind) t.bodies.parameters used.parameters b.first_parameter b.count_u b.count_v
    && cond (eqb kind surface_kind)
    (surface_obeys used.loops t curves count b)
    (curve_obeys (eqb kind curve2_kind) (parameters_u t b) b count)

-- body number k is used and lent, with its range
unfoldable pub body_obeys : Used → Tables → ℕ → ℕ → ℕ → ℕ → Bool
body_obeys used t curves kind count k =
    body_held used t.bodies.bodies t.bodies.ranges k && record_obeys used t curves kind count (body_at t (k - 1))
