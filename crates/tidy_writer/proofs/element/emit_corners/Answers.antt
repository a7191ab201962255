-- What is left of the corners comes to all of them.
use Rattle.std.proofs.Common.{◌≡◌, ◌+◌, ◌-◌, map, drop, ap₂, arith}
use Rattle.references.specs.Written.{written_corner}
use Rattle.tables.specs.Records.{corner_place}
use Rattle.tidy_words.specs.Emitting.{spaced}
use Rattle.tidy_writer.specs.Rows.{stored_corners}
use Rattle.tidy_words.proofs.Emissions.{left-begins, left-turn, left-ends, emitted-spaced}
use Rattle.tidy_writer.proofs.Turns.{corner-turn, corners-none}
use Rattle.tidy_writer.proofs.element.emit_corners.Goals as goal

pub loop-k-init : goal.loop-k-init
loop-k-init c =
    let a = c.args in
    left-begins a.at a.out.now c.requires
    (ap₂ (λ n i. spaced (map written_corner (stored_corners n (drop i a.corners.now)))) (let n : a.run.count - 0 ≡ a.run.count = omega arith in n) (let i : corner_place a.run 0 ≡ a.run.first = omega arith in i))

pub loop-k-preserved : goal.loop-k-preserved
loop-k-preserved c =
    let a = c.args in
    left-turn c.loop-k.invariant (corner-turn a.corners.now a.run c.loop-k.k (a.run.count - c.loop-k.k) (a.run.count - (c.loop-k.k + 1)) c.corner_at.result (omega arith) c.corner_at.ensures) (emitted-spaced c.emit_spaced-end.ensures)

pub returns : goal.returns
returns c =
    let a = c.args in
    left-ends c.loop-k.invariant (corners-none (drop (corner_place a.run c.loop-k.k) a.corners.now) (a.run.count - c.loop-k.k) (omega arith))
