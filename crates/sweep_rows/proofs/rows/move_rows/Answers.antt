use Rattle.sweep_rows.proofs.Stored.{part-cleared}
use mathlib.Core.Path.{◌≡◌, ◌∙◌}
use borrow.Rule.Slice.PartMut.{mid_of}
use borrow.Author.Rules.{rules}
use lib.ListN.{length, replicate}
use lib.IntN.{pos}
use Rattle.sweep_rows.proofs.Moving.{moved_none, moved_more, moved-most, moved-within, moved-fits, moved_all}
use Prim.Native.Nat.{◌*◌, ◌-◌}
use native.Mathlib.Omega.{arith}
use Rattle.sweep_rows.proofs.rows.move_rows.Goals as goal

pub loop-i-init : goal.loop-i-init
loop-i-init c = let a = c.args in moved_none a.width a.numbers.now a.values.now

pub move_row-to-requires : goal.move_row-to-requires
move_row-to-requires c = let m = c.loop-i in let e = c.loop-i.invariant.long in let q = moved-within c.loop-i.invariant c.requires.0 (omega arith) in (moved-most c.loop-i.invariant c.requires.0, omega arith, omega arith, c.requires.1)

pub loop-i-preserved : goal.loop-i-preserved
loop-i-preserved c = let m = c.loop-i in moved_more c.loop-i.invariant c.requires.0 (omega arith) c.move_row-to.ensures.0 c.move_row-to.ensures.1

pub overflow_mul-rest : goal.overflow_mul-rest
overflow_mul-rest c = let q = moved-fits c.loop-i.invariant c.requires.0 (omega arith) in record { fits = omega arith }

pub offset_bounds-values-rest : goal.offset_bounds-values-rest
offset_bounds-values-rest c = let q = moved-fits c.loop-i.invariant c.requires.0 (omega arith) in let e = c.loop-i.invariant.long in record { fits = omega arith }

pub slice_bounds-fill-count : goal.slice_bounds-fill-count
slice_bounds-fill-count c = let q = moved-fits c.loop-i.invariant c.requires.0 (omega arith) in omega arith

pub slice_bounds-fill-start : goal.slice_bounds-fill-start
slice_bounds-fill-start c = let q = moved-fits c.loop-i.invariant c.requires.0 (omega arith) in omega arith

pub returns : goal.returns
returns c =
    let fits = moved-fits c.loop-i.invariant c.requires.0 (omega arith) in
    let cleared : c.fill.new.self ≡ replicate (length (mid_of (c.args.width * c.loop-i.to) (length c.loop-i.values - c.args.width * c.loop-i.to) c.loop-i.values)) (pos 0) = search rules in
    part-cleared c.loop-i.values (pos 0) (c.args.width * c.loop-i.to) fits cleared ∙ moved_all c.loop-i.invariant c.requires.0 (omega arith)
