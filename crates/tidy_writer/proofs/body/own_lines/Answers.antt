-- Where there is a body, what stands before and after the element's own line too.
use Rattle.std.proofs.Common.{◌≡◌, ap, ◌∙◌, [], ◌∷◌, ◌++◌, arith}
use Rattle.text.specs.Written.{written_line, written_lines}
use Rattle.tables.specs.declared.Body.{Body}
use Rattle.tables.specs.Records.{body_in}
use Rattle.tidy_writer.specs.Rows.{body_index, form_lines, element_words, parameter_lines, body_loops, end_line}
use Rattle.tidy_words.proofs.Emissions.{emitted_then, emitted-is}
use Rattle.tidy_writer.proofs.ElementTurns.{own-plain, own_body}
use Rattle.tidy_writer.proofs.body.own_lines.Goals as goal

pub returns-then-element-lt-CURVE : goal.returns-then-element-lt-CURVE
returns-then-element-lt-CURVE c =
    let t = c.args.t.now in
    let e = c.args.element in
    let b = body_in t.bodies.now t.ranges.now (body_index e.body) in
    let w = element_words t.corners.now b e in
    let r : c.body_in-body.result ≡ b = c.body_in-body.ensures ∙ ap (body_in t.bodies.now t.ranges.now) c.body_index.ensures in
    let A = form_lines b ++ (w ∷ (parameter_lines t.parameters.now e.kind b ++ (body_loops t.loops.now t.spans.now b ++ end_line ∷ []))) in
    let o = ap (λ (x : Body). written_line (element_words t.corners.now x e)) r in
    emitted-is (own-plain A w e.kind (omega arith)) (emitted-is o c.element_line.ensures)

pub returns : goal.returns
returns c =
    let t = c.args.t.now in
    let e = c.args.element in
    let b = body_in t.bodies.now t.ranges.now (body_index e.body) in
    let w = element_words t.corners.now b e in
    let r : c.body_in-body.result ≡ b = c.body_in-body.ensures ∙ ap (body_in t.bodies.now t.ranges.now) c.body_index.ensures in
    let C = parameter_lines t.parameters.now e.kind b ++ (body_loops t.loops.now t.spans.now b ++ end_line ∷ []) in
    let f = ap (λ (x : Body). written_lines (form_lines x)) r in
    let o = ap (λ (x : Body). written_line (element_words t.corners.now x e)) r in
    let g = ap (λ (x : Body). written_lines (parameter_lines t.parameters.now e.kind x ++ (body_loops t.loops.now t.spans.now x ++ end_line ∷ []))) r in
    emitted-is (own_body (form_lines b) C w e.kind (omega arith))
    (emitted_then (emitted-is f c.form_lines-own.ensures) (emitted_then (emitted-is o c.element_line-parm.ensures) (emitted-is g c.closing_lines.ensures)))
