-- What is left of the numbers comes to all of them.
use Rattle.std.proofs.Common.{◌≡◌, ◌∷◌, ◌-◌, ◌<◌, List, map, length, take, drop, get_or, to_z, of_z, w32, ap, ◌∙◌, arith, ℤ, pos}
use Rattle.std.proofs.lemmas.List.{get_or_default}
use Rattle.tables.proofs.Bits.{fitted}
use Rattle.references.specs.Written.{written_number}
use Rattle.tidy_words.specs.Emitting.{spaced}
use Rattle.tidy_words.proofs.Emissions.{left-start, left-turn, left-ends, emitted-is, emitted-spaced}
use Rattle.tidy_writer.proofs.Turns.{numbers-turn, numbers-none, part-is}
use Rattle.tidy_writer.proofs.vertices.emit_numbers.Goals as goal

pub loop-value-init : goal.loop-value-init
loop-value-init c = let a = c.args in left-start a.at (spaced (map written_number (take a.count (drop a.first a.values.now)))) a.out.now c.requires

pub loop-value-preserved : goal.loop-value-preserved
loop-value-preserved c =
    let a = c.args in
    let k = c.loop-value.value-index in
    let all = take a.count (drop a.first a.values.now) in
    let p = part-is a.values.now a.first a.count c.min.result c.min-2.result c.min.ensures c.min-2.ensures in
    let part = take c.min-2.result (take (length a.values.now - c.min.result) (drop c.min.result a.values.now)) in
    let x = get_or part k (pos 0) in
    let h : k < length all = rw p at c.loop-value-test.true in
    let same : x ≡ get_or all k x = ap (λ (l : List ℤ). get_or l k (pos 0)) p ∙ get_or_default all k (pos 0) x h in
    let g : to_z w32 (of_z w32 x) ≡ x = fitted (omega arith) in
    let v = ap (λ (z : ℤ). 32 ∷ written_number z) g in
    left-turn c.loop-value.invariant (numbers-turn all k x (h, same)) (emitted-is v (emitted-spaced c.emit_spaced-end.ensures))

pub returns : goal.returns
returns c =
    let a = c.args in
    let p = part-is a.values.now a.first a.count c.min.result c.min-2.result c.min.ensures c.min-2.ensures in
    left-ends c.loop-value.invariant (numbers-none (take a.count (drop a.first a.values.now)) c.loop-value.value-index (rw p at c.loop-value-test.false))
