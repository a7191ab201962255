-- The whole part, a point, six digits.
use Prim.Native.Nat.{ℕ, ◌+◌, ◌/◌, ◌%◌, ◌≤◌}
use mathlib.Core.Path.{◌≡◌, refl, sym, ap, ◌∙◌}
use mathlib.Core.List.{List, [], ◌∷◌, ◌++◌}
use native.Mathlib.Omega.{arith}
use lib.ListN.{length}
use Rattle.references.specs.Written.{full, written_whole, written_millionths}
use Rattle.references.proofs.Numerals.{full-length}
use Rattle.word_format.proofs.Stores.{first-room, rest-room, both_stored}
use Rattle.word_format.proofs.Numbers.{millionths-are}
use Rattle.word_format.proofs.write_millionths.Goals as goal
use Rattle.word_format.proofs.write_millionths.Goals.{After-put_byte-arg-1, After-slice_known-4-1, After-write_digits-arg-1}

pub write_whole-point-requires : goal.write_whole-point-requires
write_whole-point-requires c =
    let a = c.args in
    first-room a.out.now a.at (written_millionths a.m) (written_whole (a.m / 1000000)) ((46 ∷ []) ++ full 6 (a.m % 1000000)) (millionths-are a.m) c.requires

-- the point and its six digits
abbrev places : (c : After-put_byte-arg-1) → List ℕ
places c = (46 ∷ []) ++ full 6 (c.args.m % 1000000)

room : (c : After-put_byte-arg-1) → c.write_whole-point.result + length (places c) ≤ length c.write_whole-point.new.out
room c = rest-room c.args.out.now c.args.at (written_millionths c.args.m) (written_whole (c.args.m / 1000000)) (places c) (millionths-are c.args.m) _ _ c.write_whole-point.ensures c.requires

pub put_byte-places-requires : goal.put_byte-places-requires
put_byte-places-requires c = omega (arith, room c)

-- the point and its six digits
abbrev places-at-After-write_digits-arg-1 : (c : After-write_digits-arg-1) → List ℕ
places-at-After-write_digits-arg-1 c = (46 ∷ []) ++ full 6 (c.args.m % 1000000)

room-at-After-write_digits-arg-1 : (c : After-write_digits-arg-1) → c.write_whole-point.result + length (places-at-After-write_digits-arg-1 c) ≤ length c.write_whole-point.new.out
room-at-After-write_digits-arg-1 c = rest-room c.args.out.now c.args.at (written_millionths c.args.m) (written_whole (c.args.m / 1000000)) (places-at-After-write_digits-arg-1 c) (millionths-are c.args.m) _ _ c.write_whole-point.ensures c.requires

pub write_digits-requires : goal.write_digits-requires
write_digits-requires c =
    let q = rest-room c.write_whole-point.new.out c.write_whole-point.result (places-at-After-write_digits-arg-1 c) (46 ∷ []) (full 6 (c.args.m % 1000000)) refl _ _ c.put_byte-places.ensures (room-at-After-write_digits-arg-1 c) in
    let z = full-length 6 (c.args.m % 1000000) in
    omega (arith, q)

-- the point and its six digits
abbrev places-at-After-slice_known-4-1 : (c : After-slice_known-4-1) → List ℕ
places-at-After-slice_known-4-1 c = (46 ∷ []) ++ full 6 (c.args.m % 1000000)

pub returns : goal.returns
returns c =
    let d = c.write_digits in
    let x = c.args in
    let k : c.write_digits.result ≡ c.put_byte-places.result + length (full 6 (x.m % 1000000)) = c.write_digits.ensures.0 ∙ ap (λ (n : ℕ). c.put_byte-places.result + n) (sym (full-length 6 (x.m % 1000000))) in
    let t = both_stored c.write_whole-point.new.out c.write_whole-point.result (places-at-After-slice_known-4-1 c) (46 ∷ []) (full 6 (x.m % 1000000)) refl _ _ c.write_digits.result c.write_digits.new.out c.put_byte-places.ensures (k, c.write_digits.ensures.1) in
    both_stored x.out.now x.at (written_millionths x.m) (written_whole (x.m / 1000000)) (places-at-After-slice_known-4-1 c) (millionths-are x.m) _ _ _ _ c.write_whole-point.ensures t
