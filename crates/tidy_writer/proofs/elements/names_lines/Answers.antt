-- The three lines, one after the other.
use Rattle.statements.specs.declared.Carried.TheVariants.{Group, Material}
use Rattle.tidy_form.specs.Agree.{words_at}
use Rattle.tidy_writer.specs.TidyFrom.{changed, smoothed}
use Rattle.tidy_words.proofs.Emissions.{emitted_then, emitted-is}
use Rattle.tidy_writer.proofs.Turns.{three-lines}
use Rattle.tidy_writer.proofs.elements.names_lines.Goals as goal

pub returns : goal.returns
returns c =
    let a = c.args in
    let t = a.text.now in
    let p = a.before in
    let e = a.element in
    emitted-is
    (three-lines (changed Group (words_at t p.group) (words_at t e.group))
    (smoothed p.smoothing e.smoothing)
    (changed Material (words_at t p.material) (words_at t e.material)))
    (emitted_then c.name_line-smoothing.ensures (emitted_then c.smoothing_line-material.ensures c.name_line.ensures))
