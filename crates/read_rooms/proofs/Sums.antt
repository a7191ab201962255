-- Rooms added: field by field.
use Prim.Native.Nat.{ℕ, ◌+◌}
use mathlib.Core.Path.{◌≡◌}
use native.Mathlib.Omega.{arith}
use Rattle.read_rooms.specs.declared.Rooms.{Rooms}
use Rattle.read_rooms.specs.Rooms.{no_room, both}
use Rattle.read_rooms.specs.Claims.{total}

same : {v v' vt vt' vn vn' vp vp' corners corners' elements elements' bodies bodies' ranges ranges' parameters parameters' loops loops' spans spans' : ℕ}
    → v ≡ v' → vt ≡ vt' → vn ≡ vn' → vp ≡ vp' → corners ≡ corners' → elements ≡ elements' → bodies ≡ bodies' → ranges ≡ ranges' → parameters ≡ parameters' → loops ≡ loops' → spans ≡ spans'
    → ◌≡◌ {A = Rooms} (record { v = v; vt = vt; vn = vn; vp = vp; corners = corners; elements = elements; bodies = bodies; ranges = ranges; parameters = parameters; loops = loops; spans = spans })
    (record { v = v'; vt = vt'; vn = vn'; vp = vp'; corners = corners'; elements = elements'; bodies = bodies'; ranges = ranges'; parameters = parameters'; loops = loops'; spans = spans' })
same a b c d e f g h i j k = cc

pub both-none : (a : Rooms) → both a no_room ≡ a
both-none a = same (omega arith) (omega arith) (omega arith) (omega arith) (omega arith) (omega arith) (omega arith) (omega arith) (omega arith) (omega arith) (omega arith)

pub none_both : (a : Rooms) → both no_room a ≡ a
none_both a = same (omega arith) (omega arith) (omega arith) (omega arith) (omega arith) (omega arith) (omega arith) (omega arith) (omega arith) (omega arith) (omega arith)

pub both-both : (a b c : Rooms) → both a (both b c) ≡ both (both a b) c
both-both a b c = same (omega arith) (omega arith) (omega arith) (omega arith) (omega arith) (omega arith) (omega arith) (omega arith) (omega arith) (omega arith) (omega arith)

pub total-both : (a b : Rooms) → total (both a b) ≡ total a + total b
total-both a b = omega arith
