-- What a state holds is at most the room counted for the lines before it: a statement adds no more than its line's room. By the statement.
use Prim.Native.Nat.{ℕ, ◌+◌, ◌*◌, ◌≤◌}
use mathlib.Core.Path.{◌≡◌, ap, ◌∙◌}
use mathlib.Core.List.{List, [], ◌∷◌, ◌++◌}
use mathlib.Core.Option.{Option, none, some}
use native.Mathlib.Omega.{arith}
use lib.ListN.{length, length-append}
use Rattle.references.specs.Corner.{Corner}
use Rattle.model.specs.Model.{geometric, texture, normal, parametric, Names, along-u, along-v, Body, plain, Element, Model, Form, Open, State, start}
use Rattle.model.specs.Statements.{Statement, vertex, element, group, smoothing, material, type, degree, body, parameters, loop, end, passed, apply, settled, closed, with_loop}
use Rattle.model.specs.Room.{summed, of_kind, part_count, corner_count, element_count, body_count, parameter_count, loop_part_count}
use Rattle.model.proofs.Rows.{summed-append}
use Rattle.read_state.specs.Bounds.{waiting}
use Rattle.read_state.proofs.Ends.{settled-us, settled-vs, settled-loops}
use Rattle.read_rooms.specs.declared.Rooms.{Rooms}
use Rattle.read_rooms.specs.Rooms.{no_room, both}

-- names and what is in force take no room
abbrev counting : Model → Option Open → State
counting m o = record { model = m; names = start.names; form = start.form; open-body = o }

-- the parameters of a body that has no end yet count too
pub record Held (r : Rooms) (m : Model) (o : Option Open) : Type 0 where
  pub v : 4 * length m.vertices.v ≤ r.v
  pub vt : 3 * length m.vertices.vt ≤ r.vt
  pub vn : 3 * length m.vertices.vn ≤ r.vn
  pub vp : 4 * length m.vertices.vp ≤ r.vp
  pub corners : 3 * corner_count (counting m o) ≤ r.corners
  pub elements : 9 * element_count (counting m o) ≤ r.elements
  pub bodies : 9 * body_count (counting m o) ≤ r.bodies
  pub ranges : 4 * body_count (counting m o) ≤ r.ranges
  pub parameters : parameter_count (counting m o) + waiting o ≤ r.parameters
  pub loops : 2 * loop_part_count (counting m o) ≤ r.loops
  pub spans : 2 * loop_part_count (counting m o) ≤ r.spans

pub held_start : Held no_room start.model none
held_start = omega arith

-- what a statement Takes
pub record ElementTakes (cs : List Corner) (r : Rooms) : Type 0 where
  pub elements : 9 ≤ r.elements
  pub corners : 3 * length cs ≤ r.corners

pub record BodyTakes (b : Body) (r : Rooms) : Type 0 where
  pub bodies : 9 ≤ r.bodies
  pub ranges : 4 ≤ r.ranges
  pub no-us : b.us ≡ []
  pub no-vs : b.vs ≡ []
  pub no-loops : b.loops ≡ []

abbrev pub Takes : Statement → Rooms → Type 0
Takes (vertex geometric z) r = 4 ≤ r.v
Takes (vertex texture z) r = 3 ≤ r.vt
Takes (vertex normal z) r = 3 ≤ r.vn
Takes (vertex parametric z) r = 4 ≤ r.vp
Takes (element k cs) r = ElementTakes cs r
Takes (group ws) r = Unit {0}
Takes (smoothing k) r = Unit {0}
Takes (material w) r = Unit {0}
Takes (type b t) r = Unit {0}
Takes (degree m n) r = Unit {0}
Takes (body b cs) r = ElementTakes cs r × BodyTakes b r
Takes (parameters d z) r = length z ≤ r.parameters
Takes (loop l) r = (2 * length l.parts ≤ r.loops) × (2 * length l.parts ≤ r.spans)
Takes end r = Unit {0}
Takes passed r = Unit {0}

one_more : {A : Type 0} (xs : List A) (x : A) → length (xs ++ x ∷ []) ≡ length xs + 1
one_more xs x = length-append xs (x ∷ [])

sum_more : {A : Type 0} (f : A → ℕ) (xs : List A) (x : A) → summed f (xs ++ x ∷ []) ≡ summed f xs + f x
sum_more f xs x = summed-append f xs (x ∷ []) ∙ (let q : summed f xs + (f x + 0) ≡ summed f xs + f x = omega arith in q)

module _ (r q : Rooms) where
  -- nothing added
  pub held_more : (m : Model) (o : Option Open) → Held r m o → Held (both r q) m o
  held_more m o h = omega arith

  module _ (m : Model) (n : Names) (f : Form) where
    abbrev at : Option Open → State
    at o = record { model = m; names = n; form = f; open-body = o }

    abbrev es : List Element
    es = m.elements

    pub held_after : (t : Statement) (o : Option Open) → Takes t q → Held r m o → Held (both r q) (apply t (at o)).model (apply t (at o)).open-body
    held_after (vertex geometric z) o w h = let e = one_more m.vertices.v z in omega arith
    held_after (vertex texture z) o w h = let e = one_more m.vertices.vt z in omega arith
    held_after (vertex normal z) o w h = let e = one_more m.vertices.vn z in omega arith
    held_after (vertex parametric z) o w h = let e = one_more m.vertices.vp z in omega arith
    held_after (element k cs) o w h =
        let e : Element = record { kind = plain k; corners = cs; names = n } in
        let c = sum_more (λ e. length e.corners) es e in
        let i = one_more es e in
        let j = sum_more (λ e. of_kind (λ b. 1) e.kind) es e in
        let p = sum_more (λ e. of_kind (λ b. length b.us + length b.vs) e.kind) es e in
        let u = sum_more (λ e. of_kind part_count e.kind) es e in
        omega arith
    held_after (group ws) o w h = held_more m o h
    held_after (smoothing k) o w h = held_more m o h
    held_after (material y) o w h = held_more m o h
    held_after (type b t) o w h = held_more m o h
    held_after (degree i j) o w h = held_more m o h
    held_after (body b cs) o w h =
        let u : length b.us ≡ 0 = ap length w.1.no-us in
        let v : length b.vs ≡ 0 = ap length w.1.no-vs in
        let g : part_count b ≡ 0 = ap (summed (λ l. length l.parts)) w.1.no-loops in
        let e = w.0 in
        let y = w.1 in
        omega arith
    held_after (parameters d z) none w h = held_more m none h
    held_after (parameters along-u z) (some o) w h = omega arith
    held_after (parameters along-v z) (some o) w h = omega arith
    held_after (loop l) none w h = held_more m none h
    held_after (loop l) (some o) w h =
        let e : part_count (with_loop l o.body) ≡ part_count o.body + length l.parts = sum_more (λ l. length l.parts) o.body.loops l in
        let a = w.0 in
        let b = w.1 in
        omega arith
    held_after end none w h = held_more m none h
    held_after end (some o) w h =
        let e : Element = closed o in
        let c = sum_more (λ e. length e.corners) es e in
        let i = one_more es e in
        let j = sum_more (λ e. of_kind (λ b. 1) e.kind) es e in
        let p = sum_more (λ e. of_kind (λ b. length b.us + length b.vs) e.kind) es e in
        let u = sum_more (λ e. of_kind part_count e.kind) es e in
        let us : length (settled o.body.free o.body).us ≡ length o.body.us = ap length (settled-us o.body o.body.free) in
        let vs : length (settled o.body.free o.body).vs ≡ length o.body.vs = ap length (settled-vs o.body o.body.free) in
        let ps : part_count (settled o.body.free o.body) ≡ part_count o.body = ap (summed (λ l. length l.parts)) (settled-loops o.body o.body.free) in
        omega arith
    held_after passed o w h = held_more m o h
