-- By the parts that are there, one after the other.
use mathlib.Core.Path.{◌≡◌, refl}
use mathlib.Core.List.{[], ◌∷◌, ◌++◌}
use native.Mathlib.Omega.{arith}
use Rattle.word_format.specs.Parts.{written_part, written_parts}
use Rattle.word_format.proofs.Stores.{first-room, rest-room, both_stored}
use Rattle.word_format.proofs.Corners.{alone, with-texture, with-normal, with-both}
use Rattle.word_format.proofs.write_parts.Goals as goal
use Rattle.word_format.proofs.write_parts.Goals.{After-put_byte-arg-1, After-slice_known-3-1, After-slice_known-then-vn-eq0-1, After-slice_known-then-vt-eq0-2-2-1, After-write_part-arg-1, After-write_part-arg-2-1, After-write_part-arg-3-1, After-write_part-arg-then-vt-eq0-2-1}

pub returns-then-vt-eq0 : goal.returns-then-vt-eq0
returns-then-vt-eq0 c =
    let a = c.args in
    let e = alone a.vt a.vn c.if-vn-eq0.true c.if-vt-eq0.true in
    rw e (omega arith, refl)

texture : (c : After-write_part-arg-1) → let a = c.args in written_parts a.vt a.vn ≡ written_part a.vt
texture c = with-texture _ _ c.if-vn-eq0.true c.if-vt-eq0.false

pub write_part-requires : goal.write_part-requires
write_part-requires c = rw (texture c) at c.requires

texture-at-After-slice_known-then-vn-eq0-1 : (c : After-slice_known-then-vn-eq0-1) → let a = c.args in written_parts a.vt a.vn ≡ written_part a.vt
texture-at-After-slice_known-then-vn-eq0-1 c = with-texture _ _ c.if-vn-eq0.true c.if-vt-eq0.false

pub returns-then-vn-eq0 : goal.returns-then-vn-eq0
returns-then-vn-eq0 c = rw (texture-at-After-slice_known-then-vn-eq0-1 c) c.write_part.ensures

normal : (c : After-put_byte-arg-1) → let a = c.args in written_parts a.vt a.vn ≡ (47 ∷ []) ++ written_part a.vn
normal c = with-normal _ _ c.if-vn-eq0.false c.if-vt-eq0-2.true

pub put_byte-second-requires : goal.put_byte-second-requires
put_byte-second-requires c =
    let r = first-room c.args.out.now c.args.at _ (47 ∷ []) (written_part c.args.vn) (normal c) c.requires in
    omega (arith, r)

normal-at-After-write_part-arg-then-vt-eq0-2-1 : (c : After-write_part-arg-then-vt-eq0-2-1) → let a = c.args in written_parts a.vt a.vn ≡ (47 ∷ []) ++ written_part a.vn
normal-at-After-write_part-arg-then-vt-eq0-2-1 c = with-normal _ _ c.if-vn-eq0.false c.if-vt-eq0-2.true

pub write_part-requires-then-vt-eq0-2 : goal.write_part-requires-then-vt-eq0-2
write_part-requires-then-vt-eq0-2 c =
    rest-room c.args.out.now c.args.at _ (47 ∷ []) (written_part c.args.vn) (normal-at-After-write_part-arg-then-vt-eq0-2-1 c) _ _ c.put_byte-second.ensures c.requires

normal-at-After-slice_known-then-vt-eq0-2-2-1 : (c : After-slice_known-then-vt-eq0-2-2-1) → let a = c.args in written_parts a.vt a.vn ≡ (47 ∷ []) ++ written_part a.vn
normal-at-After-slice_known-then-vt-eq0-2-2-1 c = with-normal _ _ c.if-vn-eq0.false c.if-vt-eq0-2.true

pub returns-then-vt-eq0-2 : goal.returns-then-vt-eq0-2
returns-then-vt-eq0-2 c =
    let a = c.args in
    both_stored a.out.now a.at _ (47 ∷ []) (written_part a.vn) (normal-at-After-slice_known-then-vt-eq0-2-2-1 c) _ _ _ _ c.put_byte-second.ensures c.write_part-then-vt-eq0-2.ensures

both : (c : After-write_part-arg-2-1) → let a = c.args in written_parts a.vt a.vn ≡ written_part a.vt ++ written_part a.vn
both c = with-both _ _ c.if-vn-eq0.false c.if-vt-eq0-2.false

pub write_part-second-requires : goal.write_part-second-requires
write_part-second-requires c =
    first-room c.args.out.now c.args.at _ (written_part c.args.vt) (written_part c.args.vn) (both c) c.requires

both-at-After-write_part-arg-3-1 : (c : After-write_part-arg-3-1) → let a = c.args in written_parts a.vt a.vn ≡ written_part a.vt ++ written_part a.vn
both-at-After-write_part-arg-3-1 c = with-both _ _ c.if-vn-eq0.false c.if-vt-eq0-2.false

pub write_part-requires-2 : goal.write_part-requires-2
write_part-requires-2 c =
    rest-room c.args.out.now c.args.at _ (written_part c.args.vt) (written_part c.args.vn) (both-at-After-write_part-arg-3-1 c) _ _ c.write_part-second.ensures c.requires

both-at-After-slice_known-3-1 : (c : After-slice_known-3-1) → let a = c.args in written_parts a.vt a.vn ≡ written_part a.vt ++ written_part a.vn
both-at-After-slice_known-3-1 c = with-both _ _ c.if-vn-eq0.false c.if-vt-eq0-2.false

pub returns : goal.returns
returns c =
    let a = c.args in
    both_stored a.out.now a.at _ (written_part a.vt) (written_part a.vn) (both-at-After-slice_known-3-1 c) _ _ _ _ c.write_part-second.ensures c.write_part-2.ensures
