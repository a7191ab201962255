-- A line of an element or a body adds no more records than it has bytes, in whatever state it is taken: the bounds are kept.
use Rattle.std.specs.Prelude.{None}
use Prim.Native.Nat.{ℕ, ◌≤◌}
use mathlib.Core.Path.{◌≡◌, refl, sym, ap, ◌∙◌}
use mathlib.Core.List.{List}
use mathlib.Core.Option.{some}
use native.Mathlib.Omega.{arith}
use lib.ListN.{length, drop}
use lib.IntN.{ℤ}
use Rattle.text.specs.Rest.{Rest, rest_at}
use Rattle.references.specs.Corner.{Corner}
use Rattle.tables.specs.declared.Used.{Used}
use Rattle.model.specs.Model.{Free, start}
use Rattle.model.specs.Parse.{range_words, a-number, seen_in}
use Rattle.read_state.specs.declared.Form.{Form}
use Rattle.read_state.specs.declared.State.{State}
use Rattle.read_state.specs.Numbers.{numbers_walk}
use Rattle.read_elements.specs.Corners.{corner_said, corners_walk}
use Rattle.read_elements.specs.Elements.{element_said}
use Rattle.read_elements.specs.Bodies.{rule_for, form_in_force, controls_said, body_said}
use Rattle.read_elements.specs.declared.Rule.{Rule}
use Rattle.read_vertices.proofs.Closed.{at-least}
use Rattle.read_elements.proofs.Controls.{some-wide}
use Rattle.read_elements.proofs.BodyLines.{of-body}
use Rattle.read_elements.proofs.Values.{walked}
use Rattle.read_elements.proofs.Ranges.{ranged}
use Rattle.read_vertex_lines.specs.Bounds.{InBounds, Keeps}
use Rattle.read_vertex_lines.proofs.Bounds.{extent, later, none-waiting}
use Rattle.read_vertex_lines.specs.Stepping.{with_used}
use Rattle.read_element_lines.specs.Counting.{one_element, one_body}

-- ---- as many corners as words, of a body's line those after its range
pub element-few : (u : Rule) (n : Used) (r : Rest) (cs : List Corner) (q : ℕ) → element_said u n r ≡ some (cs, q) → (r.next ≡ q) × (length cs ≤ length r.words)
element-few u n r cs q e =
    let h = corner_said n u.form in
    let w = walked h None r.words r.bad r.next cs q (at-least u.fewest (corners_walk h None r) cs q e).0 in
    let same = w.counted in
    (w.next, omega arith)

pub body-few : (k : Free) (n : Used) (f : Form) (vp : List ℤ) (r : Rest) (zs : List ℤ) (cs : List Corner) (q : ℕ) → body_said k n f vp r ≡ some (zs, (cs, q)) → (r.next ≡ q) × (length cs ≤ length r.words)
body-few k n f vp r zs cs q e =
    let o = of-body (form_in_force k f) (numbers_walk (range_words k) r) (controls_said k n vp) zs cs q e in
    let c = element-few (rule_for k) n o.rest cs q (some-wide k vp (element_said (rule_for k) n o.rest) cs q o.controls).0 in
    let g = ranged (seen_in start) (λ i. a-number) (range_words k) 0 (record { reads = λ j l h. refl }) r.words r.bad r.next zs o.rest o.walked in
    let words : length o.rest.words ≡ length (drop (range_words k) r.words) = ap (λ (r : Rest). length r.words) g.rest in
    let all = g.counted in
    let few = c.1 in
    (sym (ap (λ (r : Rest). r.next) g.rest) ∙ c.0, omega arith)

-- ---- the line from `at` on, with n corners among its words
module _ (s : List ℕ) (at q n : ℕ) (next : (rest_at s at).next ≡ q) (few : n ≤ length (rest_at s at).words) (c : State) where
  -- the sums of the state after it fit their 32 bits
  pub counts-fit : InBounds s at c → (n ≤ 16777216) × (c.used.corners ≤ 50331648) × (c.used.elements ≤ 16777216) × (c.used.bodies ≤ 16777216)
  counts-fit b =
      let e = extent s at n q b.to next few in
      let ahead = e.0 in
      let within = e.1 in
      (omega arith, omega arith, omega arith, omega arith)

  module _ (to : at ≤ length s) where
    pub element-keeps : Keeps s at c (with_used (one_element n c.used) c) q
    element-keeps p below b =
        let e = extent s at n q to next few in
        let ahead = e.0 in
        let a = later b e.1 (omega arith) in
        record {
          limit = a.limit;
          to = a.to;
          v = a.v;
          vt = a.vt;
          vn = a.vn;
          vp = a.vp;
          corners = omega arith;
          elements = omega arith;
          bodies = a.bodies;
          parameters = a.parameters;
          loops = a.loops;
          curves-few = a.curves-few;
          parts = a.parts;
          u-parm = a.u-parm;
          v-parm = a.v-parm;
          body = a.body;
        }

    pub body-keeps : (k : Free) → Keeps s at c (one_body k n c) q
    body-keeps k p below b =
        let e = extent s at n q to next few in
        let ahead = e.0 in
        let a = later b e.1 (omega arith) in
        let none = none-waiting s in
        record {
          limit = a.limit;
          to = a.to;
          v = a.v;
          vt = a.vt;
          vn = a.vn;
          vp = a.vp;
          corners = omega arith;
          elements = omega arith;
          bodies = omega arith;
          parameters = omega arith;
          loops = a.loops;
          curves-few = a.curves-few;
          parts = omega arith;
          u-parm = omega arith;
          v-parm = omega arith;
          body = λ z. omega arith;
        }
