-- The keyword, one number or two, the line's end.
use Rattle.std.proofs.Common.{ℕ, cond, eqb, [], ◌∷◌, ap, sym, ◌∙◌, arith}
use borrow.Author.Tests.{ne_eqb}
use Rattle.references.specs.Written.{written_whole}
use Rattle.keywords.specs.Keywords.{keyword_of}
use Rattle.statements.specs.declared.Carried.TheVariants.{Degree}
use Rattle.tidy_form.specs.Printed.{degree_words}
use Rattle.tidy_words.specs.Emitting.{Emitted, spaced}
use Rattle.tidy_words.proofs.Emissions.{emitted-none, emitted_then, emitted-is, emitted-spaced, emitted-whole}
use Rattle.tidy_writer.proofs.Turns.{emitted-line, spaced-one, spaced-append, degree-words}
use Rattle.tidy_writer.proofs.body.degree_line.Goals as goal
use Rattle.tidy_writer.proofs.body.degree_line.Goals.{then-body-eq0, else-body-eq0}

pub returns : goal.returns
returns c =
    let b = c.args.body in
    let m = written_whole b.degree_u in
    let n = written_whole b.degree_v in
    let s = emitted-spaced c.emit_spaced-second.ensures in
    let after : Emitted c.emit_spaced-second.result (spaced (cond (eqb b.degree_v 0) [] (n ∷ []))) c.emit_spaced-second.new.out c.if-body-eq0.out c.if-body-eq0.end =
    elim c.if-body-eq0.branch [
      | then-body-eq0 w ↦ rw (w.out-is, w.end-is) (emitted-is (ap (λ (k : ℕ). spaced (cond (eqb k 0) [] (n ∷ []))) (sym w.if-body-eq0.true)) (emitted-none c.emit_spaced-second.result c.emit_spaced-second.new.out (omega (arith, s.ends))))
      | else-body-eq0 w ↦ rw (w.out-is, w.end-is, ne_eqb b.degree_v 0 w.if-body-eq0.false) (emitted-is (spaced-one n) (emitted-spaced w.emit_spaced-end.ensures))
    ]
    in
    emitted-line (keyword_of Degree) (degree_words b.degree_u b.degree_v) (emitted-whole c.emit-words.ensures)
    (emitted-is (spaced-append (m ∷ []) (cond (eqb b.degree_v 0) [] (n ∷ [])) ∙ ap spaced (sym (degree-words b.degree_u b.degree_v)))
    (emitted_then (emitted-is (spaced-one m) s) after))
    (emitted-whole c.emit.ensures)
