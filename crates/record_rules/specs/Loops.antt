-- Must be believed: a promise reaches every definition of this file.
-- 01, "Bodies": a surface's trimming loops.
use Rattle.std.specs.Prelude.{ℕ, ◌+◌, ◌*◌, Bool, true, cond, ◌&&◌, length, leb, eqb}
use Rattle.tables.specs.Tables.{Tables}
use Rattle.tables.specs.declared.parts.LoopPart.{LoopPart}
use Rattle.tables.specs.Records.{part_at, loop_width, span_width}
use Rattle.record_rules.specs.Numbers.{in_range, all_below}

-- 1 begins a trim, 2 a hole, 0 goes on, which the first part can't
unfoldable pub begins_obeys : ℕ → ℕ → Bool
begins_obeys k begins = leb begins 2 && cond (eqb k 0) (leb 1 begins) true

-- part k of a body's loops. A trim's or hole's curve number counts the curv2 elements so far; "A loop's numbers are not held against its curve."
unfoldable pub part_obeys : ℕ → ℕ → LoopPart → Bool
part_obeys curves k part = begins_obeys k part.begins && leb 1 part.curve && leb part.curve curves && in_range part.from && in_range part.to

unfoldable pub each_part : Tables → ℕ → ℕ → ℕ → Bool
each_part t curves first count = all_below count (λ k. part_obeys curves k (part_at t (first + k)))

-- `count` parts from `first` on are used and lent; a body without loops has first loop part 0
unfoldable pub loops_obey : ℕ → Tables → ℕ → ℕ → ℕ → Bool
loops_obey used t curves first count =
    cond (eqb count 0) (eqb first 0)
    (leb (first + count) used
    && leb (loop_width * (first + count)) (length t.bodies.loops)
    && leb (span_width * (first + count)) (length t.bodies.spans)
    && each_part t curves first count)
