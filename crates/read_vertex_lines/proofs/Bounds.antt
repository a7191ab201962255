-- No line adds more records than it has bytes, so that what is left of the text still keeps every count within its bounds.
use Prim.Native.Nat.{ℕ, ◌+◌, ◌≤◌, ◌<◌}
use mathlib.Core.Path.{◌≡◌, refl}
use mathlib.Core.List.{List}
use native.Mathlib.Omega.{arith}
use lib.ListN.{length}
use Rattle.text.specs.Rest.{rest_at}
use Rattle.text.proofs.LineByLine.{next-to}
use Rattle.tables.specs.declared.Used.{Used}
use Rattle.model.specs.Model.{VertexKind, geometric, texture, normal, parametric}
use Rattle.read_state.specs.declared.Open.{Open}
use Rattle.read_state.specs.declared.State.{State}
use Rattle.read_bodies.specs.Closing.{parm_of}
use Rattle.read_bodies.proofs.Steps.{words-within}
use Rattle.read_vertex_lines.specs.Bounds.{Bounds, Keeps}
use Rattle.read_vertex_lines.specs.Stepping.{count_in, with_count}

-- where no parm stands no parameter waits for the body's end
pub none-waiting : (s : List ℕ) → length (parm_of s 0) ≡ 0
unfolding parm_of
none-waiting s = refl

-- a line from `at` on, n of its words or fewer, and the next line at q
pub extent : (s : List ℕ) (at n q : ℕ) → at ≤ length s → (rest_at s at).next ≡ q → n ≤ length (rest_at s at).words → (at + n ≤ q) × (q ≤ length s)
extent s at n q to next few =
    let w = words-within s at in
    let h = (next-to s at to).1 in
    (omega arith, omega arith)

module _ {s : List ℕ} {p : ℕ} {u : Used} {n : ℕ} {o : Open} (b : Bounds s p u n o) where
  pub count_small : (k : VertexKind) → count_in k u ≤ 16777216
  count_small geometric = omega arith
  count_small texture = omega arith
  count_small normal = omega arith
  count_small parametric = omega arith

  module _ {q : ℕ} (to : q ≤ length s) where
    -- a line that adds nothing
    pub later : p ≤ q → Bounds s q u n o
    later on =
        record {
          limit = b.limit;
          to = to;
          v = omega arith;
          vt = omega arith;
          vn = omega arith;
          vp = omega arith;
          corners = omega arith;
          elements = omega arith;
          bodies = omega arith;
          parameters = omega arith;
          loops = omega arith;
          curves-few = omega arith;
          parts = b.parts;
          u-parm = b.u-parm;
          v-parm = b.v-parm;
          body = b.body;
        }

    pub one-vertex : (k : VertexKind) → p < q → Bounds s q (with_count k (count_in k u + 1) u) n o
    one-vertex k on = go k (later (let h : p ≤ q = omega arith in h))
      where
        go : (k : VertexKind) → Bounds s q u n o → Bounds s q (with_count k (count_in k u + 1) u) n o
        go geometric a = record { limit = a.limit; to = a.to; v = omega arith; vt = a.vt; vn = a.vn; vp = a.vp; corners = a.corners; elements = a.elements; bodies = a.bodies; parameters = a.parameters; loops = a.loops; curves-few = a.curves-few; parts = a.parts; u-parm = a.u-parm; v-parm = a.v-parm; body = a.body }
        go texture a = record { limit = a.limit; to = a.to; v = a.v; vt = omega arith; vn = a.vn; vp = a.vp; corners = a.corners; elements = a.elements; bodies = a.bodies; parameters = a.parameters; loops = a.loops; curves-few = a.curves-few; parts = a.parts; u-parm = a.u-parm; v-parm = a.v-parm; body = a.body }
        go normal a = record { limit = a.limit; to = a.to; v = a.v; vt = a.vt; vn = omega arith; vp = a.vp; corners = a.corners; elements = a.elements; bodies = a.bodies; parameters = a.parameters; loops = a.loops; curves-few = a.curves-few; parts = a.parts; u-parm = a.u-parm; v-parm = a.v-parm; body = a.body }
        go parametric a = record { limit = a.limit; to = a.to; v = a.v; vt = a.vt; vn = a.vn; vp = omega arith; corners = a.corners; elements = a.elements; bodies = a.bodies; parameters = a.parameters; loops = a.loops; curves-few = a.curves-few; parts = a.parts; u-parm = a.u-parm; v-parm = a.v-parm; body = a.body }

-- a line that changes no count and no open body
pub quiet_keeps : (s : List ℕ) (at : ℕ) (c : State) (q : ℕ) → at ≤ length s → (rest_at s at).next ≡ q → Keeps s at c c q
quiet_keeps s at c q to next p below b =
    let e = extent s at 0 q to next (omega arith) in
    let on = e.0 in
    later b e.1 (omega arith)
