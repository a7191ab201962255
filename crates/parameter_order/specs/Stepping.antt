-- The parameters along one direction, one after the other: what the code has of those so far, and what one more makes of it.
use Rattle.std.specs.Prelude.{ℕ, suc, ◌+◌, ◌-◌, List, [], ◌∷◌, Bool, true, cond, not, ◌&&◌, ◌||◌, leb, ltb, eqb, ℤ, pos}
use Rattle.std.specs.Int.Signed.{lt_z, le_z}
use Rattle.parameter_order.specs.declared.Requirement.{Requirement}
use Rattle.parameter_order.specs.declared.Order.{Order}

-- x_n and x_k of a bspline, of another type the first and the last of p parameters
abbrev pub requirement_of : ℕ → ℕ → ℕ → Requirement
requirement_of type n p =
    record {
      basis = type;
      degree = n;
      low_at = cond (eqb type 2) n 0;
      high_at = cond (eqb type 2) (p - n - 1) (p - 1);
    }

abbrev pub fresh : Order
fresh = record { previous = pos 0; since = 0; fine = true; low = pos 0; high = pos 0 }

-- 02, Q-5, where a greater value follows at index i: the last value lies strictly between the ends and has stood more than n times
unfoldable pub too_often : Requirement → ℕ → ℕ → ℤ → ℤ → Bool
too_often a i since low previous = eqb a.basis 2 && ltb (since + a.degree) i && leb i a.high_at && lt_z low previous

unfoldable pub followed : Requirement → ℕ → ℕ → ℤ → ℤ → ℤ → Bool
followed a i since low previous b = eqb i 0 || cond (lt_z previous b) (not (too_often a i since low previous)) (eqb a.basis 2 && le_z previous b)

abbrev pub may_follow : Requirement → ℕ → Order → ℤ → Bool
may_follow a i o b = followed a i o.since o.low o.previous b

-- b at index i: the ends of the widest range are the last value until they are reached
abbrev pub step_of : Requirement → ℕ → Order → ℤ → Order
step_of a i o b =
    record {
      previous = b;
      since = cond (lt_z o.previous b) i o.since;
      fine = o.fine && may_follow a i o b;
      low = cond (leb i a.low_at) b o.low;
      high = cond (leb i a.high_at) b o.high;
    }

abbrev pub walk_from : Requirement → ℕ → Order → List ℤ → Order
walk_from a i o [] = o
walk_from a i o (b ∷ x) = walk_from a (suc i) (step_of a i o b) x

abbrev pub walked : Requirement → List ℤ → Order
walked a x = walk_from a 0 fresh x

-- all in order, and the range from start to end within the widest
unfoldable pub holds_in : Order → ℤ → ℤ → Bool
holds_in o start end = o.fine && (le_z o.low start && lt_z start end && le_z end o.high)
