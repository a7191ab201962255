-- Nothing that 15 names is wrong after a sweep.
use Prim.Native.Nat.{ℕ, suc, ◌<◌}
use mathlib.Core.Path.{◌≡◌, subst}
use mathlib.Core.List.{List}
use mathlib.Core.Bool.{Bool, true, ◌&&◌}
use native.Mathlib.Omega.{arith}
use lib.IntN.{ℤ}
use Rattle.lists.proofs.Tests.{and_left, and_right, and_both}
use Rattle.tables.specs.Tables.{Tables}
use Rattle.tables.specs.declared.Used.{Used}
use Rattle.model.specs.Model.{VertexKind, geometric, texture, normal, parametric}
use Rattle.record_rules.specs.Numbers.{all_below}
use Rattle.record_rules.specs.Vertices.{vertex_obeys, parameter_vertex_obeys}
use Rattle.record_rules.specs.Rules.{obeys, curves_before}
use Rattle.record_rules.proofs.Below.{below_at, below_all}
use Rattle.table_rules.specs.Whole.{vertices_obey, whole_obeys}
use Rattle.sweep.specs.Named.{used_of_kind, table_in, width_in}
use Rattle.sweep.specs.Swept.{swept_used, swept_tables}
use Rattle.table_rules.proofs.Lent.{Lent, lent_of}
use Rattle.sweep.proofs.Whole.{whole_parts, whole_of, elements-of}
use Rattle.swept_files.proofs.OneKind.{Moved, rows-lent, moved, moved-from}
use Rattle.swept_files.proofs.Others.{lengths}
use Rattle.swept_files.proofs.VertexAfter.{vertex-after, parameter-after}
use Rattle.swept_files.proofs.Counted.{same-counts}
use Rattle.swept_files.proofs.Standing.{Standing, standing}
use Rattle.swept_files.proofs.ElementAfter.{corners-lent, obeys-after}
use Rattle.swept_files.proofs.RunsAfter.{runs_after}

module _ (used : Used) (t : Tables) (s : Standing used t) where
  abbrev U : Used
  U = swept_used used t

  abbrev W : Tables
  W = swept_tables used t

  lent-after : Lent U W
  lent-after =
      let c = same-counts used t in
      let l = s.lent in
      record {
        vertices = record {
          v = rows-lent used t l geometric;
          vt = rows-lent used t l texture;
          vn = rows-lent used t l normal;
          vp = rows-lent used t l parametric;
        };
        elements = record {
          corners = (let a = c.corners in let b = corners-lent used t s in let d = l.elements.corners in omega arith);
          elements = (let a = c.elements in let b = (lengths used t l).elements in let d = l.elements.elements in omega arith);
        };
        bodies = record {
          bodies = (let a = c.bodies in let b = (lengths used t l).bodies in let d = l.bodies.bodies in omega arith);
          ranges = (let a = c.bodies in let b = (lengths used t l).ranges in let d = l.bodies.ranges in omega arith);
          parameters = (let a = c.parameters in let b = (lengths used t l).parameters in let d = l.bodies.parameters in omega arith);
          loops = (let a = c.loops in let b = (lengths used t l).loops in let d = l.bodies.loops in omega arith);
          spans = (let a = c.loops in let b = (lengths used t l).spans in let d = l.bodies.spans in omega arith);
        };
      }

  -- a test of a record that looks at its numbers alone holds of every record that is left, where it held of all
  kind-after : (kind : VertexKind) (rule : List ℤ → ℕ → ℕ → Bool)
      → ((l after : List ℤ) (n left k m : ℕ) → Moved (width_in kind) l after left k m → rule l n k ≡ true → rule after left m ≡ true)
      → all_below (used_of_kind kind used) (λ k. rule (table_in kind t) (used_of_kind kind used) (suc k)) ≡ true
      → all_below (used_of_kind kind U) (λ k. rule (table_in kind W) (used_of_kind kind U) (suc k)) ≡ true
  kind-after kind rule moves h =
      below_all (λ k. rule (table_in kind W) (used_of_kind kind U) (suc k)) (used_of_kind kind U)
      (λ m l.
      (let o = moved-from used t s.lent kind m l in
      let i = o.index in
      moves (table_in kind t) (table_in kind W) (used_of_kind kind used) (used_of_kind kind U) (suc i) (suc m)
      (subst (Moved (width_in kind) (table_in kind t) (table_in kind W) (used_of_kind kind U) (suc i)) o.counted (moved used t s.lent kind i o.less o.passes))
      (below_at (λ k. rule (table_in kind t) (used_of_kind kind used) (suc k)) (used_of_kind kind used) i h o.less)))

  vertices-after : vertices_obey used t ≡ true → vertices_obey U W ≡ true
  unfolding vertices_obey
  vertices-after h =
      let v = all_below used.v (λ k. vertex_obeys 4 t.vertices.v used.v (suc k)) in
      let vt = all_below used.vt (λ k. vertex_obeys 3 t.vertices.vt used.vt (suc k)) in
      let vn = all_below used.vn (λ k. vertex_obeys 3 t.vertices.vn used.vn (suc k)) in
      let vp = all_below used.vp (λ k. parameter_vertex_obeys t.vertices.vp used.vp (suc k)) in
      let three = and_left (v && vt && vn) vp h in
      let two = and_left (v && vt) vn three in
      and_both
      (and_both
      (and_both (kind-after geometric (vertex_obeys 4) (vertex-after 4) (and_left v vt two)) (kind-after texture (vertex_obeys 3) (vertex-after 3) (and_right v vt two)))
      (kind-after normal (vertex_obeys 3) (vertex-after 3) (and_right (v && vt) vn three)))
      (kind-after parametric parameter_vertex_obeys parameter-after (and_right (v && vt && vn) vp h))

  elements-after : (i : ℕ) → i < U.elements → obeys U W (curves_before W i) i ≡ true
  elements-after i h = obeys-after used t s i (let c = (same-counts used t).elements in omega arith)

pub swept-obeys : (used : Used) (t : Tables) → whole_obeys used t ≡ true → whole_obeys (swept_used used t) (swept_tables used t) ≡ true
swept-obeys used t h =
    let s = standing used t h in
    whole_of (swept_used used t) (swept_tables used t)
    (record {
      lent = lent_of (swept_used used t) (swept_tables used t) (lent-after used t s);
      vertices = vertices-after used t s (whole_parts used t h).vertices;
      elements = elements-of (swept_used used t) (swept_tables used t) (elements-after used t s);
      runs = runs_after used t s;
    })
