-- One pattern, by the parts that are there.
use mathlib.Core.Path.{◌≡◌, refl, sym, ap₂}
use mathlib.Core.Bool.{Bool, true, false, ◌&&◌, not}
use lib.Dec.{eqb}
use Rattle.lists.proofs.Tests.{and_left, and_right}
use Rattle.std.specs.Prelude.{Some}
use Rattle.references.specs.Corner.{Corner, Parts, agree, alike}
use Rattle.read_elements.specs.Corners.{pattern_of, follows}

agree-not : (a b : Bool) → agree (not a) (not b) ≡ agree a b
agree-not true true = refl
agree-not true false = refl
agree-not false true = refl
agree-not false false = refl

agreed : (a b : Bool) → agree a b ≡ true → b ≡ a
agreed true b h = h
agreed false true h = sym h
agreed false false h = refl

pub follows-alike : (x y : Corner) → follows (Some (pattern_of x)) (pattern_of y) ≡ alike x y
follows-alike x y = ap₂ (λ (a b : Bool). a && b) (agree-not (eqb x.vt 0) (eqb y.vt 0)) (agree-not (eqb x.vn 0) (eqb y.vn 0))

pub same-pattern : (x y : Corner) → alike x y ≡ true → pattern_of y ≡ pattern_of x
same-pattern x y h =
    let a = agreed (eqb x.vt 0) (eqb y.vt 0) (and_left (agree (eqb x.vt 0) (eqb y.vt 0)) (agree (eqb x.vn 0) (eqb y.vn 0)) h) in
    let b = agreed (eqb x.vn 0) (eqb y.vn 0) (and_right (agree (eqb x.vt 0) (eqb y.vt 0)) (agree (eqb x.vn 0) (eqb y.vn 0)) h) in
    ap₂ (λ (t n : Bool). let k : Parts = record { vt = not t; vn = not n } in k) a b
