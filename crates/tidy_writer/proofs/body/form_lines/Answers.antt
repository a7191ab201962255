-- The two lines, one after the other.
use mathlib.Core.List.{◌∷◌}
use Rattle.keywords.specs.Keywords.{keyword_of}
use Rattle.statements.specs.declared.Carried.TheVariants.{BodyType, Degree}
use Rattle.tidy_form.specs.Printed.{degree_words}
use Rattle.tidy_writer.specs.Rows.{type_words}
use Rattle.tidy_words.proofs.Emissions.{emitted_then, emitted-is}
use Rattle.tidy_writer.proofs.Turns.{two-lines}
use Rattle.tidy_writer.proofs.body.form_lines.Goals as goal

pub returns : goal.returns
returns c =
    let b = c.args.body in
    emitted-is (two-lines (keyword_of BodyType ∷ type_words b) (keyword_of Degree ∷ degree_words b.degree_u b.degree_v)) (emitted_then c.type_line-second.ensures c.degree_line.ensures)
