-- The keyword, `rat` where it is rational, the type, the line's end.
use Rattle.std.proofs.Common.{ℕ, cond, eqb, [], ◌∷◌, ap, sym, ◌∙◌, arith}
use borrow.Author.Tests.{ne_eqb}
use Rattle.keywords.specs.Keywords.{keyword_of}
use Rattle.keywords.specs.Arguments.{argument_bytes}
use Rattle.keywords.specs.declared.Argument.{Argument}
use Rattle.keywords.specs.declared.Argument.TheVariants.{Rational}
use Rattle.statements.specs.declared.Carried.TheVariants.{BodyType}
use Rattle.tidy_words.specs.Emitting.{Emitted, spaced}
use Rattle.tidy_writer.specs.Rows.{basis_argument, type_words}
use Rattle.tidy_words.proofs.Emissions.{emitted-none, emitted_then, emitted-is, emitted-spaced, emitted-whole}
use Rattle.tidy_writer.proofs.Turns.{emitted-line, spaced-one, spaced-append, word-before}
use Rattle.tidy_writer.proofs.body.type_line.Goals as goal
use Rattle.tidy_writer.proofs.body.type_line.Goals.{then-body-eq1, else-body-eq1}

pub returns : goal.returns
returns c =
    let b = c.args.body in
    let r = argument_bytes Rational in
    let t = argument_bytes (basis_argument b.basis) in
    let k = ap (λ (x : Argument). 32 ∷ argument_bytes x) c.basis_argument.ensures in
    let words = emitted-whole c.emit-words.ensures in
    let before : Emitted c.emit-words.result (spaced (cond (eqb b.rational 1) (r ∷ []) [])) c.emit-words.new.out c.if-body-eq1.out c.if-body-eq1.basis =
    elim c.if-body-eq1.branch [
      | then-body-eq1 w ↦ rw (w.out-is, w.basis-is) (emitted-is (spaced-one r ∙ ap (λ (n : ℕ). spaced (cond (eqb n 1) (r ∷ []) [])) (sym w.if-body-eq1.true)) (emitted-spaced w.emit_spaced-basis.ensures))
      | else-body-eq1 w ↦ rw (w.out-is, w.basis-is, ne_eqb b.rational 1 w.if-body-eq1.false) (emitted-none c.emit-words.result c.emit-words.new.out (omega (arith, words.ends)))
    ]
    in
    emitted-line (keyword_of BodyType) (type_words b) words
    (emitted-is (spaced-append (cond (eqb b.rational 1) (r ∷ []) []) (t ∷ []) ∙ ap spaced (sym (word-before (eqb b.rational 1) r t)))
    (emitted_then before (emitted-is (spaced-one t) (emitted-is k (emitted-spaced c.emit_spaced-end.ensures)))))
    (emitted-whole c.emit.ensures)
