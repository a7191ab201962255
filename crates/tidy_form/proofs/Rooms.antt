-- What is needed at any line is needed at the end: no ready statement takes anything back. By cases on the statement.
use Prim.Native.Nat.{ℕ, ◌+◌, ◌*◌, ◌≤◌}
use mathlib.Core.Path.{◌≡◌, refl, ap}
use mathlib.Core.List.{List, [], ◌∷◌, ◌++◌}
use mathlib.Core.Bool.{true}
use mathlib.Core.Option.{Option, none, some}
use lib.ListN.{length, length-append}
use lib.IntN.{ℤ}
use native.Mathlib.Omega.{arith}
use Rattle.lists.proofs.Tests.{never}
use Rattle.model.specs.Model.{geometric, texture, normal, parametric, Free, curve, curve2, surface, ParmDirection, along-u, along-v, Loop, Body, plain, Element, Open, State}
use Rattle.model.specs.Statements.{Statement, vertex, element, group, smoothing, material, type, degree, body, parameters, loop, end, passed, apply, closed, on_open, with_body, with_parameters, with_loop, settled}
use Rattle.model.specs.Standing.{outside_body}
use Rattle.model.specs.Room.{Rooms, summed, of_kind, of_open, part_count, corner_count, element_count, body_count, parameter_count, loop_part_count, fits}
use Rattle.model.proofs.Rooms.{fits-parts, parts-fit}
use Rattle.tidy_form.proofs.Standing.{Here}

-- x needs no more than y
pub record NoMore (x y : State) : Type 0 where
  pub v : length x.model.vertices.v ≤ length y.model.vertices.v
  pub vt : length x.model.vertices.vt ≤ length y.model.vertices.vt
  pub vn : length x.model.vertices.vn ≤ length y.model.vertices.vn
  pub vp : length x.model.vertices.vp ≤ length y.model.vertices.vp
  pub corners : corner_count x ≤ corner_count y
  pub elements : element_count x ≤ element_count y
  pub bodies : body_count x ≤ body_count y
  pub parameters : parameter_count x ≤ parameter_count y
  pub loops : loop_part_count x ≤ loop_part_count y

pub no-more-same : (x : State) → NoMore x x
no-more-same x = omega arith

pub no-more-join : (x y z : State) → NoMore x y → NoMore y z → NoMore x z
no-more-join x y z a b = omega arith

down : (w a b r : ℕ) → a ≤ b → w * b ≤ r → w * a ≤ r
down w a b r l h = let m = native.Mathlib.Nat.mul-le-mul_left w l in omega arith

pub fits-down : (R : Rooms) (x y : State) → NoMore x y → fits R y ≡ true → fits R x ≡ true
fits-down R x y n h =
    let k = fits-parts R y h in
    parts-fit R x
    (record {
      vertices = record {
        v = down 4 _ _ R.vertices.v n.v k.vertices.v;
        vt = down 3 _ _ R.vertices.vt n.vt k.vertices.vt;
        vn = down 3 _ _ R.vertices.vn n.vn k.vertices.vn;
        vp = down 4 _ _ R.vertices.vp n.vp k.vertices.vp;
      };
      elements = record {
        corners = down 3 (corner_count x) (corner_count y) R.elements.corners n.corners k.elements.corners;
        elements = down 9 (element_count x) (element_count y) R.elements.elements n.elements k.elements.elements;
      };
      bodies = record {
        bodies = down 9 (body_count x) (body_count y) R.bodies.bodies n.bodies k.bodies.bodies;
        ranges = down 4 (body_count x) (body_count y) R.bodies.ranges n.bodies k.bodies.ranges;
        parameters = let p = n.parameters in let q = k.bodies.parameters in omega arith;
        loops = down 2 (loop_part_count x) (loop_part_count y) R.bodies.loops n.loops k.bodies.loops;
        spans = down 2 (loop_part_count x) (loop_part_count y) R.bodies.spans n.loops k.bodies.spans;
      };
    })

summed-add : {A : Type 0} (f : A → ℕ) (xs : List A) (a : A) → summed f (xs ++ a ∷ []) ≡ summed f xs + f a
summed-add f [] a = omega arith
summed-add f (x ∷ xs) a = let z = summed-add f xs a in omega arith

settled-us : (k : Free) (b : Body) → (settled k b).loops ≡ b.loops
settled-us curve b = refl
settled-us curve2 b = refl
settled-us surface b = refl

shut : (f : Open → ℕ) (o : Option Open) → outside_body o ≡ true → of_open f o ≡ 0
shut f none h = refl
shut f (some o) h = never h

-- ---- each statement
module _ (s : State) where
  abbrev holding : Option Open → State
  holding o = record { model = s.model; names = s.names; form = s.form; open-body = o }

  inside-grows : (o : Option Open) (f : Open → Open) → ((b : Open) → (length b.controls ≤ length (f b).controls) × (part_count b.body ≤ part_count (f b).body))
      → NoMore (holding o) (on_open f (holding o))
  inside-grows none f h = no-more-same (holding none)
  inside-grows (some o) f h =
      let p = h o in
      omega arith

  end-grows : (o : Option Open) → NoMore (holding o) (apply end (holding o))
  end-grows none = no-more-same (holding none)
  end-grows (some o) =
      let es = s.model.elements in
      let e = closed o in
      let a = summed-add (λ (e : Element). length e.corners) es e in
      let b = length-append es (e ∷ []) in
      let c = summed-add (λ (e : Element). of_kind (λ (b : Body). 1) e.kind) es e in
      let d = summed-add (λ (e : Element). of_kind (λ (b : Body). length b.us + length b.vs) e.kind) es e in
      let f = summed-add (λ (e : Element). of_kind part_count e.kind) es e in
      let g : part_count (settled o.body.free o.body) ≡ part_count o.body =
      ap (λ (ls : List Loop). summed (λ l. length l.parts) ls) (settled-us o.body.free o.body) in
      omega arith

  parameters-grow : (d : ParmDirection) (z : List ℤ) (b : Open)
      → (length b.controls ≤ length (with_body (with_parameters d z) b).controls) × (part_count b.body ≤ part_count (with_body (with_parameters d z) b).body)
  parameters-grow along-u z b = (omega arith, omega arith)
  parameters-grow along-v z b = (omega arith, omega arith)

  loop-grows : (l : Loop) (b : Open) → (length b.controls ≤ length (with_body (with_loop l) b).controls) × (part_count b.body ≤ part_count (with_body (with_loop l) b).body)
  loop-grows l b = let a = summed-add (λ (l : Loop). length l.parts) b.body.loops l in (omega arith, omega arith)

  pub grows : (t : Statement) → Here s.form s.open-body t → NoMore s (apply t s)
  grows (vertex geometric z) h =
      let l = length-append s.model.vertices.v (z ∷ []) in
      omega arith
  grows (vertex texture z) h =
      let l = length-append s.model.vertices.vt (z ∷ []) in
      omega arith
  grows (vertex normal z) h =
      let l = length-append s.model.vertices.vn (z ∷ []) in
      omega arith
  grows (vertex parametric z) h =
      let l = length-append s.model.vertices.vp (z ∷ []) in
      omega arith
  grows (element k cs) h =
      let es = s.model.elements in
      let e : Element = record { kind = plain k; corners = cs; names = s.names } in
      let a = summed-add (λ (e : Element). length e.corners) es e in
      let b = length-append es (e ∷ []) in
      let c = summed-add (λ (e : Element). of_kind (λ (b : Body). 1) e.kind) es e in
      let d = summed-add (λ (e : Element). of_kind (λ (b : Body). length b.us + length b.vs) e.kind) es e in
      let f = summed-add (λ (e : Element). of_kind part_count e.kind) es e in
      omega arith
  grows (group ws) h = omega arith
  grows (smoothing n) h = omega arith
  grows (material w) h = omega arith
  grows (type r t) h = omega arith
  grows (degree m n) h = omega arith
  grows (body b cs) h =
      let a = shut (λ o. length o.controls) s.open-body h.0 in
      let c = shut (λ o. 1) s.open-body h.0 in
      let d = shut (λ o. part_count o.body) s.open-body h.0 in
      omega arith
  grows (parameters d z) h = inside-grows s.open-body (with_body (with_parameters d z)) (parameters-grow d z)
  grows (loop l) h = inside-grows s.open-body (with_body (with_loop l)) (loop-grows l)
  grows end h = end-grows s.open-body
  grows passed h = no-more-same s
