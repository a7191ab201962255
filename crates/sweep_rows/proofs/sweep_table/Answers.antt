-- The list is cleared, marked and numbered, then the rows are moved by it.
use Rattle.std.proofs.Common.{◌≡◌, length, rules}
use Rattle.std.proofs.Math.ListN.{replicate}
use Rattle.sweep_rows.proofs.Sweeping.{kept-is, numbers-are, numbers-long, rows_are, lent_alike}
use Rattle.sweep_marks.specs.Marks.{kind_of}
use Rattle.sweep_rows.proofs.sweep_table.Goals as goal

pub move_rows-requires : goal.move_rows-requires
move_rows-requires c =
    let s = c.args in
    let cleared : c.fill.new.self ≡ replicate (length s.numbers.now) 0 = search rules in
    lent_alike (numbers-long (kind_of s.table) s.count s.elements.now s.corners.now (length s.numbers.now) cleared c.mark_elements.ensures c.number_marks-kept.ensures.0 c.number_marks-kept.ensures.1) c.requires

pub returns : goal.returns
returns c =
    let s = c.args in
    let cleared : c.fill.new.self ≡ replicate (length s.numbers.now) 0 = search rules in
    let kind = kind_of s.table in
    let n = length s.numbers.now in
    let numbered = c.number_marks-kept.ensures in (
      kept-is kind s.count s.elements.now s.corners.now n cleared c.mark_elements.ensures numbered.0 numbered.1,
      numbers-are kind s.count s.elements.now s.corners.now n cleared c.mark_elements.ensures numbered.0 numbered.1,
      rows_are kind s.count s.elements.now s.corners.now n cleared c.mark_elements.ensures numbered.0 numbered.1 s.width s.values.now c.move_rows.ensures,
    )
