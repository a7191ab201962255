-- No count passes the bytes that were read: each line adds no more records than it has words. By the statement.
use Prim.Native.Nat.{ℕ, suc, ◌+◌, ◌≤◌}
use mathlib.Core.Path.{◌≡◌, ap, ◌∙◌}
use mathlib.Core.List.{List, [], ◌∷◌, ◌++◌}
use mathlib.Core.Bool.{Bool, true}
use mathlib.Core.Option.{Option, none, some}
use native.Mathlib.Omega.{arith}
use lib.ListN.{length, length-append}
use Rattle.lists.proofs.Tests.{never}
use Rattle.model.specs.Model.{geometric, texture, normal, parametric, Names, along-u, along-v, Body, plain, Element, Model, Form, Open, State}
use Rattle.model.specs.Statements.{Statement, vertex, element, group, smoothing, material, type, degree, body, parameters, loop, end, passed, apply, settled, closed}
use Rattle.model.specs.Standing.{outside_body, inside_body}
use Rattle.model.specs.Room.{summed, of_kind, part_count}
use Rattle.model.proofs.Rows.{summed-append}
use Rattle.read_state.specs.Bounds.{Bounded}
use Rattle.read_state.proofs.Ends.{settled-us, settled-vs, settled-loops}

-- how many records a statement adds at the most, of any table
abbrev pub FewEnough : Statement → ℕ → Type 0
FewEnough (vertex k z) n = Unit {0}
FewEnough (element k cs) n = length cs ≤ n
FewEnough (group ws) n = Unit {0}
FewEnough (smoothing k) n = Unit {0}
FewEnough (material w) n = Unit {0}
FewEnough (type r t) n = Unit {0}
FewEnough (degree i j) n = Unit {0}
FewEnough (body b cs) n = (length cs ≤ n) × (b.us ≡ []) × (b.vs ≡ []) × (b.loops ≡ [])
FewEnough (parameters d z) n = length z ≤ n
FewEnough (loop l) n = length l.parts ≤ n
FewEnough end n = Unit {0}
FewEnough passed n = Unit {0}

-- where it may stand
abbrev pub stands : Statement → Option Open → Bool
stands (vertex k z) o = outside_body o
stands (element k cs) o = outside_body o
stands (group ws) o = outside_body o
stands (smoothing k) o = outside_body o
stands (material w) o = outside_body o
stands (type r t) o = outside_body o
stands (degree i j) o = outside_body o
stands (body b cs) o = outside_body o
stands (parameters d z) o = inside_body o (λ k. true)
stands (loop l) o = inside_body o (λ k. true)
stands end o = inside_body o (λ k. true)
stands passed o = outside_body o

one_more : {A : Type 0} (xs : List A) (x : A) → length (xs ++ x ∷ []) ≡ length xs + 1
one_more xs x = length-append xs (x ∷ [])

module _ {p q : ℕ} (l : p ≤ q) {x : State} (b : Bounded p x) where
  pub later : Bounded q x
  later = record { v = omega arith; vt = omega arith; vn = omega arith; vp = omega arith; corners = omega arith; elements = omega arith; bodies = omega arith; parameters = omega arith; parts = omega arith }

module _ (m : Model) (n : Names) (f : Form) where
  abbrev at : Option Open → State
  at o = record { model = m; names = n; form = f; open-body = o }

  sum-corners : (e : Element) → summed (λ e. length e.corners) (m.elements ++ e ∷ []) ≡ summed (λ e. length e.corners) m.elements + length e.corners
  sum-corners e = summed-append (λ e. length e.corners) m.elements (e ∷ []) ∙ (let q : summed (λ e. length e.corners) m.elements + (length e.corners + 0) ≡ summed (λ e. length e.corners) m.elements + length e.corners = omega arith in q)

  sum-kind : (g : Body → ℕ) (e : Element) → summed (λ e. of_kind g e.kind) (m.elements ++ e ∷ []) ≡ summed (λ e. of_kind g e.kind) m.elements + of_kind g e.kind
  sum-kind g e = summed-append (λ e. of_kind g e.kind) m.elements (e ∷ []) ∙ (let q : summed (λ e. of_kind g e.kind) m.elements + (of_kind g e.kind + 0) ≡ summed (λ e. of_kind g e.kind) m.elements + of_kind g e.kind = omega arith in q)

  pub bounded-after : (t : Statement) (o : Option Open) (k p q : ℕ) → FewEnough t k → stands t o ≡ true → p + suc k ≤ q → Bounded p (at o) → Bounded q (apply t (at o))
  bounded-after (vertex geometric z) o k p q w s l b = let e = one_more m.vertices.v z in record { v = omega arith; vt = omega arith; vn = omega arith; vp = omega arith; corners = omega arith; elements = omega arith; bodies = omega arith; parameters = omega arith; parts = omega arith }
  bounded-after (vertex texture z) o k p q w s l b = let e = one_more m.vertices.vt z in record { v = omega arith; vt = omega arith; vn = omega arith; vp = omega arith; corners = omega arith; elements = omega arith; bodies = omega arith; parameters = omega arith; parts = omega arith }
  bounded-after (vertex normal z) o k p q w s l b = let e = one_more m.vertices.vn z in record { v = omega arith; vt = omega arith; vn = omega arith; vp = omega arith; corners = omega arith; elements = omega arith; bodies = omega arith; parameters = omega arith; parts = omega arith }
  bounded-after (vertex parametric z) o k p q w s l b = let e = one_more m.vertices.vp z in record { v = omega arith; vt = omega arith; vn = omega arith; vp = omega arith; corners = omega arith; elements = omega arith; bodies = omega arith; parameters = omega arith; parts = omega arith }
  bounded-after (element h cs) o k p q w s l b =
      let e : Element = record { kind = plain h; corners = cs; names = n } in
      let c = sum-corners e in
      let i = one_more m.elements e in
      let j = sum-kind (λ b. 1) e in
      let r = sum-kind (λ b. length b.us + length b.vs) e in
      let u = sum-kind part_count e in
      record { v = omega arith; vt = omega arith; vn = omega arith; vp = omega arith; corners = omega arith; elements = omega arith; bodies = omega arith; parameters = omega arith; parts = omega arith }
  bounded-after (group ws) o k p q w s l b = record { v = omega arith; vt = omega arith; vn = omega arith; vp = omega arith; corners = omega arith; elements = omega arith; bodies = omega arith; parameters = omega arith; parts = omega arith }
  bounded-after (smoothing i) o k p q w s l b = record { v = omega arith; vt = omega arith; vn = omega arith; vp = omega arith; corners = omega arith; elements = omega arith; bodies = omega arith; parameters = omega arith; parts = omega arith }
  bounded-after (material v) o k p q w s l b = record { v = omega arith; vt = omega arith; vn = omega arith; vp = omega arith; corners = omega arith; elements = omega arith; bodies = omega arith; parameters = omega arith; parts = omega arith }
  bounded-after (type r t) o k p q w s l b = record { v = omega arith; vt = omega arith; vn = omega arith; vp = omega arith; corners = omega arith; elements = omega arith; bodies = omega arith; parameters = omega arith; parts = omega arith }
  bounded-after (degree i j) o k p q w s l b = record { v = omega arith; vt = omega arith; vn = omega arith; vp = omega arith; corners = omega arith; elements = omega arith; bodies = omega arith; parameters = omega arith; parts = omega arith }
  bounded-after (body y cs) none k p q w s l b =
      let u : length y.us ≡ 0 = ap length w.1 in
      let v : length y.vs ≡ 0 = ap length w.2 in
      let g : part_count y ≡ 0 = ap (summed (λ l. length l.parts)) w.3 in
      let c = w.0 in
      record { v = omega arith; vt = omega arith; vn = omega arith; vp = omega arith; corners = omega arith; elements = omega arith; bodies = omega arith; parameters = omega arith; parts = omega arith }
  bounded-after (body y cs) (some o) k p q w s l b = never s
  bounded-after (parameters d z) none k p q w s l b = never s
  bounded-after (parameters along-u z) (some o) k p q w s l b = record { v = omega arith; vt = omega arith; vn = omega arith; vp = omega arith; corners = omega arith; elements = omega arith; bodies = omega arith; parameters = omega arith; parts = omega arith }
  bounded-after (parameters along-v z) (some o) k p q w s l b = record { v = omega arith; vt = omega arith; vn = omega arith; vp = omega arith; corners = omega arith; elements = omega arith; bodies = omega arith; parameters = omega arith; parts = omega arith }
  bounded-after (loop y) none k p q w s l b = never s
  bounded-after (loop y) (some o) k p q w s l b =
      let e : part_count (Rattle.model.specs.Statements.with_loop y o.body) ≡ part_count o.body + length y.parts = summed-append (λ l. length l.parts) o.body.loops (y ∷ []) ∙ (let h : part_count o.body + (length y.parts + 0) ≡ part_count o.body + length y.parts = omega arith in h) in
      record { v = omega arith; vt = omega arith; vn = omega arith; vp = omega arith; corners = omega arith; elements = omega arith; bodies = omega arith; parameters = omega arith; parts = omega arith }
  bounded-after end none k p q w s l b = never s
  bounded-after end (some o) k p q w s l b =
      let e : Element = closed o in
      let c = sum-corners e in
      let i = one_more m.elements e in
      let j = sum-kind (λ b. 1) e in
      let r = sum-kind (λ b. length b.us + length b.vs) e in
      let u = sum-kind part_count e in
      let us : length (settled o.body.free o.body).us ≡ length o.body.us = ap length (settled-us o.body o.body.free) in
      let vs : length (settled o.body.free o.body).vs ≡ length o.body.vs = ap length (settled-vs o.body o.body.free) in
      let ps : part_count (settled o.body.free o.body) ≡ part_count o.body = ap (summed (λ l. length l.parts)) (settled-loops o.body o.body.free) in
      record { v = omega arith; vt = omega arith; vn = omega arith; vp = omega arith; corners = omega arith; elements = omega arith; bodies = omega arith; parameters = omega arith; parts = omega arith }
  bounded-after passed o k p q w s l b = later (let h : p ≤ q = omega arith in h) b
