-- What an element that obeys the rules gives, fact by fact: each test taken out of its `&&`.
use Prim.Native.Nat.{ℕ, ◌+◌, ◌*◌, ◌<◌, ◌≤◌}
use mathlib.Core.Path.{◌≡◌}
use mathlib.Core.List.{List}
use mathlib.Core.Bool.{Bool, true, cond, ◌&&◌}
use borrow.Author.Tests.{leb-true, eq-eqb, ne_eqb, eqb-true}
use lib.Dec.{leb, eqb}
use lib.ListN.{length}
use lib.IntN.{ℤ, pos}
use Rattle.lists.proofs.Tests.{and_left, and_right}
use Rattle.tables.specs.Tables.{Tables}
use Rattle.tables.specs.Records.{corner_at}
use Rattle.tables.specs.declared.Body.{Body}
use Rattle.tables.specs.Bodies.{in_order, curve_count, surface_count, basis_of}
use Rattle.tables.specs.declared.CornerRun.{CornerRun}
use Rattle.tables.specs.declared.Used.{Used}
use Rattle.record_rules.specs.Vertices.{parameter_vertex_obeys, control_obeys}
use Rattle.record_rules.specs.Corners.{least_corners, with_texture, attribute_obeys, point_obeys, corner_obeys, each_corner, corners_obey}
use Rattle.record_rules.specs.Directions.{degree_obeys, type_obeys}
use Rattle.basis.specs.Widest.{widest}
use Rattle.record_rules.specs.Numbers.{eq_z}
use Rattle.record_rules.specs.Bodies.{flat_obeys, curve_obeys, directions_obey}
use Rattle.record_rules.proofs.Below.{below_at}
use Rattle.record_rules.proofs.OneVertex.{Vertex, vertex-facts, parameter-facts}

-- ---- corners
pub record Corners (used : Used) (t : Tables) (kind : ℕ) (run : CornerRun) : Type 0 where
  pub used-run : run.first + 3 * run.count ≤ used.corners
  pub lent-run : run.first + 3 * run.count ≤ length t.elements.corners
  pub least : least_corners kind ≤ run.count
  pub each : (k : ℕ) → k < run.count → corner_obeys used t kind (corner_at t run 0) (corner_at t run k) ≡ true

pub corners-facts : (used : Used) (t : Tables) (kind : ℕ) (run : CornerRun) → corners_obey used t kind run ≡ true → Corners used t kind run
unfolding corners_obey each_corner
corners-facts used t kind run h =
    let a = leb (run.first + 3 * run.count) used.corners in
    let b = leb (run.first + 3 * run.count) (length t.elements.corners) in
    let d = leb (least_corners kind) run.count in
    let three = and_left (a && b && d) _ h in
    let two = and_left (a && b) d three in
    record {
      used-run = leb-true _ _ (and_left a b two);
      lent-run = leb-true _ _ (and_right a b two);
      least = leb-true _ _ (and_right (a && b) d three);
      each = λ k l. below_at _ run.count k (and_right (a && b && d) _ h) l;
    }

module _ (used : Used) (t : Tables) (kind : ℕ) (run : CornerRun) (c : Corners used t kind run) (k : ℕ) (l : k < run.count) where
  point-holds : point_obeys used t.vertices.v t.vertices.vp kind (corner_at t run k).v ≡ true
  unfolding corner_obeys
  point-holds =
      let p = point_obeys used t.vertices.v t.vertices.vp kind (corner_at t run k).v in
      let a = attribute_obeys (with_texture kind) t.vertices.vt used.vt (corner_at t run 0).vt (corner_at t run k).vt in
      and_left p a (and_left (p && a) _ (c.each k l))

  -- a corner's v, on every kind but a curv2
  pub corner-vertex : (kind ≡ 5 → ⊥) → Vertex 4 t.vertices.v used.v (corner_at t run k).v
  unfolding point_obeys
  corner-vertex h = vertex-facts 4 t.vertices.v used.v (corner_at t run k).v (rw (ne_eqb kind 5 h) at point-holds)

  control-holds : kind ≡ 5 → control_obeys t.vertices.vp used.vp (corner_at t run k).v ≡ true
  unfolding point_obeys
  control-holds h = rw (eq-eqb kind 5 h) at point-holds

  -- a curv2's control: its vp, and that two coordinates or more are given
  pub corner-control : kind ≡ 5 → Vertex 4 t.vertices.vp used.vp (corner_at t run k).v
  unfolding control_obeys
  corner-control h = parameter-facts t.vertices.vp used.vp (corner_at t run k).v (and_left (parameter_vertex_obeys t.vertices.vp used.vp (corner_at t run k).v) _ (control-holds h))

-- ---- bodies
pub record Degree (type n : ℕ) : Type 0 where
  pub some : 1 ≤ n
  pub most : n ≤ 20

pub degree-facts : (type n : ℕ) → degree_obeys type n ≡ true → Degree type n
unfolding degree_obeys
degree-facts type n h =
    let two = and_left (leb 1 n && leb n 20) _ h in
    record { some = leb-true 1 n (and_left (leb 1 n) (leb n 20) two); most = leb-true n 20 (and_right (leb 1 n) (leb n 20) two) }

-- type, rational flag and degrees
pub record Typed (surface : Bool) (type rational m n : ℕ) : Type 0 where
  pub type-some : 1 ≤ type
  pub type-most : type ≤ 4
  pub flag : rational ≤ 1
  pub degree-u : Degree type m
  pub degree-v : cond surface (degree_obeys type n) (eqb n 0) ≡ true

pub typed-facts : (surface : Bool) (type rational m n : ℕ) → type_obeys surface type rational m n ≡ true → Typed surface type rational m n
unfolding type_obeys
typed-facts surface type rational m n h =
    let a = leb 1 type in
    let b = leb type 4 in
    let d = leb rational 1 in
    let e = degree_obeys type m in
    let four = and_left (a && b && d && e) _ h in
    let three = and_left (a && b && d) e four in
    let two = and_left (a && b) d three in
    record {
      type-some = leb-true _ _ (and_left a b two);
      type-most = leb-true _ _ (and_right a b two);
      flag = leb-true _ _ (and_right (a && b) d three);
      degree-u = degree-facts type m (and_right (a && b && d) e four);
      degree-v = and_right (a && b && d && e) _ h;
    }

pub record Curve (curv2 : Bool) (x : List ℤ) (b : Body) (count : ℕ) : Type 0 where
  pub counted : curve_count (basis_of b.basis) b.degree_u b.count_u count ≡ true
  pub ordered : in_order (basis_of b.basis) b.degree_u x b.start_u b.end_u ≡ true
  pub range : widest curv2 (basis_of b.basis) b.degree_u x b.start_u b.end_u ≡ true
  pub no-loops : b.loops ≡ 0

flat-facts : (b : Body) → flat_obeys b ≡ true → b.loops ≡ 0
unfolding flat_obeys
flat-facts b h = eqb-true b.loops 0 (and_right (eq_z b.start_v (pos 0) && eq_z b.end_v (pos 0) && eqb b.first_loop 0) (eqb b.loops 0) h)

pub curve-facts : (curv2 : Bool) (x : List ℤ) (b : Body) (count : ℕ) → curve_obeys curv2 x b count ≡ true → Curve curv2 x b count
unfolding curve_obeys
curve-facts curv2 x b count h =
    let k = curve_count (basis_of b.basis) b.degree_u b.count_u count in
    let o = in_order (basis_of b.basis) b.degree_u x b.start_u b.end_u in
    let w = widest curv2 (basis_of b.basis) b.degree_u x b.start_u b.end_u in
    let three = and_left (k && o && w) _ h in
    let two = and_left (k && o) w three in
    record {
      counted = and_left k o two;
      ordered = and_right k o two;
      range = and_right (k && o) w three;
      no-loops = flat-facts b (and_right (k && o && w) _ h);
    }

pub record Surface (x y : List ℤ) (b : Body) (count : ℕ) : Type 0 where
  pub counted : surface_count (basis_of b.basis) b.degree_u b.count_u b.degree_v b.count_v count ≡ true
  pub along-u : in_order (basis_of b.basis) b.degree_u x b.start_u b.end_u ≡ true
  pub along-v : in_order (basis_of b.basis) b.degree_v y b.start_v b.end_v ≡ true

pub surface-facts : (x y : List ℤ) (b : Body) (count : ℕ) → directions_obey x y b count ≡ true → Surface x y b count
unfolding directions_obey
surface-facts x y b count h =
    let k = surface_count (basis_of b.basis) b.degree_u b.count_u b.degree_v b.count_v count in
    let u = in_order (basis_of b.basis) b.degree_u x b.start_u b.end_u in
    let two = and_left (k && u) _ h in
    record { counted = and_left k u two; along-u = and_right k u two; along-v = and_right (k && u) _ h }
