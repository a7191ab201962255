-- The four tables, one after the other.
use mathlib.Core.Path.{ap, ◌∙◌}
use mathlib.Core.List.{List, ◌++◌}
use mathlib.Core.Bool.{true, false}
use Prim.Native.Nat.{ℕ}
use Rattle.text.specs.Written.{written_lines}
use Rattle.statements.specs.declared.Carried.TheVariants.{Vertex}
use Rattle.statements.specs.declared.VertexKind.TheVariants.{Geometric, Texture, Normal, Parametric}
use Rattle.tidy_form.specs.declared.Weights.TheVariants.{Always}
use Rattle.tidy_writer.specs.Rows.{vertex_rows}
use Rattle.tidy_words.proofs.Emissions.{emitted_then, emitted-is}
use Rattle.tidy_writer.proofs.Turns.{lines-append, three-lines}
use Rattle.tidy_writer.proofs.tidy_text.all_vertices.Goals as goal

pub returns : goal.returns
returns c =
    let a = c.args in
    let v = vertex_rows (Vertex Geometric) false a.weights 4 a.used.v a.t.now.v.now in
    let vt = vertex_rows (Vertex Texture) false Always 3 a.used.vt a.t.now.vt.now in
    let vn = vertex_rows (Vertex Normal) false Always 3 a.used.vn a.t.now.vn.now in
    let vp = vertex_rows (Vertex Parametric) true a.weights 4 a.used.vp a.t.now.vp.now in
    emitted-is (ap (λ (t : List ℕ). written_lines v ++ t) (three-lines vt vn vp) ∙ lines-append v (vt ++ (vn ++ vp)))
    (emitted_then c.vertex_lines-second.ensures
    (emitted_then c.vertex_lines-third.ensures (emitted_then c.vertex_lines-fourth.ensures c.vertex_lines.ensures)))
