-- A minus below zero, then the millionths.
use mathlib.Core.Path.{◌≡◌}
use mathlib.Core.List.{[], ◌∷◌, ◌++◌}
use mathlib.Core.Bool.{true, false}
use native.Mathlib.Omega.{arith}
use lib.IntN.{pos, nat_abs}
use lib.Signed.{lt_z}
use mir.Facts.{to_z-of_z}
use Rattle.references.specs.Written.{written_millionths, written_number}
use Rattle.word_format.proofs.Stores.{first-room, rest-room, both_stored}
use Rattle.word_format.proofs.Numbers.{below-zero, from_zero}
use Rattle.word_format.proofs.write_number.Goals as goal
use Rattle.word_format.proofs.write_number.Goals.{After-put_byte-arg-1, After-slice_known-2-1, After-slice_known-then-value-lt0-2-1, After-write_millionths-arg-1, After-write_millionths-arg-2-1}

size : (c : After-put_byte-arg-1) → c.magnitude-m.result ≡ nat_abs c.args.value
size c = rw (to_z-of_z c.ranges.value) at c.magnitude-m.ensures

below : (c : After-put_byte-arg-1) → written_number c.args.value ≡ (45 ∷ []) ++ written_millionths c.magnitude-m.result
below c =
    let t : lt_z c.args.value (pos 0) ≡ true = rw (to_z-of_z c.ranges.value) at c.if-value-lt0.true in
    below-zero c.args.value c.magnitude-m.result t (size c)

pub put_byte-first-requires : goal.put_byte-first-requires
put_byte-first-requires c =
    let r = first-room c.args.out.now c.args.at _ (45 ∷ []) (written_millionths c.magnitude-m.result) (below c) c.requires in
    omega (arith, r)

size-at-After-write_millionths-arg-1 : (c : After-write_millionths-arg-1) → c.magnitude-m.result ≡ nat_abs c.args.value
size-at-After-write_millionths-arg-1 c = rw (to_z-of_z c.ranges.value) at c.magnitude-m.ensures

below-at-After-write_millionths-arg-1 : (c : After-write_millionths-arg-1) → written_number c.args.value ≡ (45 ∷ []) ++ written_millionths c.magnitude-m.result
below-at-After-write_millionths-arg-1 c =
    let t : lt_z c.args.value (pos 0) ≡ true = rw (to_z-of_z c.ranges.value) at c.if-value-lt0.true in
    below-zero c.args.value c.magnitude-m.result t (size-at-After-write_millionths-arg-1 c)

pub write_millionths-requires : goal.write_millionths-requires
write_millionths-requires c =
    rest-room c.args.out.now c.args.at _ (45 ∷ []) (written_millionths c.magnitude-m.result) (below-at-After-write_millionths-arg-1 c) _ _ c.put_byte-first.ensures c.requires

size-at-After-slice_known-then-value-lt0-2-1 : (c : After-slice_known-then-value-lt0-2-1) → c.magnitude-m.result ≡ nat_abs c.args.value
size-at-After-slice_known-then-value-lt0-2-1 c = rw (to_z-of_z c.ranges.value) at c.magnitude-m.ensures

below-at-After-slice_known-then-value-lt0-2-1 : (c : After-slice_known-then-value-lt0-2-1) → written_number c.args.value ≡ (45 ∷ []) ++ written_millionths c.magnitude-m.result
below-at-After-slice_known-then-value-lt0-2-1 c =
    let t : lt_z c.args.value (pos 0) ≡ true = rw (to_z-of_z c.ranges.value) at c.if-value-lt0.true in
    below-zero c.args.value c.magnitude-m.result t (size-at-After-slice_known-then-value-lt0-2-1 c)

pub returns-then-value-lt0 : goal.returns-then-value-lt0
returns-then-value-lt0 c =
    both_stored c.args.out.now c.args.at _ (45 ∷ []) (written_millionths c.magnitude-m.result) (below-at-After-slice_known-then-value-lt0-2-1 c) _ _ _ _ c.put_byte-first.ensures c.write_millionths.ensures

size-at-After-write_millionths-arg-2-1 : (c : After-write_millionths-arg-2-1) → c.magnitude-m.result ≡ nat_abs c.args.value
size-at-After-write_millionths-arg-2-1 c = rw (to_z-of_z c.ranges.value) at c.magnitude-m.ensures

plain : (c : After-write_millionths-arg-2-1) → written_number c.args.value ≡ written_millionths c.magnitude-m.result
plain c =
    let t : lt_z c.args.value (pos 0) ≡ false = rw (to_z-of_z c.ranges.value) at c.if-value-lt0.false in
    from_zero c.args.value c.magnitude-m.result t (size-at-After-write_millionths-arg-2-1 c)

pub write_millionths-requires-2 : goal.write_millionths-requires-2
write_millionths-requires-2 c = rw (plain c) at c.requires

size-at-After-slice_known-2-1 : (c : After-slice_known-2-1) → c.magnitude-m.result ≡ nat_abs c.args.value
size-at-After-slice_known-2-1 c = rw (to_z-of_z c.ranges.value) at c.magnitude-m.ensures

plain-at-After-slice_known-2-1 : (c : After-slice_known-2-1) → written_number c.args.value ≡ written_millionths c.magnitude-m.result
plain-at-After-slice_known-2-1 c =
    let t : lt_z c.args.value (pos 0) ≡ false = rw (to_z-of_z c.ranges.value) at c.if-value-lt0.false in
    from_zero c.args.value c.magnitude-m.result t (size-at-After-slice_known-2-1 c)

pub returns : goal.returns
returns c = rw (plain-at-After-slice_known-2-1 c) c.write_millionths-2.ensures
