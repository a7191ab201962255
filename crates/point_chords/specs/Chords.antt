-- Must be believed: a promise reaches every definition of this file.
-- Q-3, "Foam cutter's polyline": the parameters of a curve's polyline, over any function that gives the coordinates at a parameter.
use Rattle.std.specs.Prelude.{Bool, cond, ◌&&◌, ◌||◌, List, [], ◌∷◌, ◌++◌, ℕ, zero, suc, get_or, ℤ, pos, ◌+ℤ◌, ◌-ℤ◌, ◌*ℤ◌}
use Rattle.std.specs.Int.Signed.{le_z, shr_z}

-- "the middle, rounded down": `shr_z z 2` is half of z rounded down, below zero too
unfoldable pub middle : (a b : ℤ) → ℤ
middle a b = shr_z (a +ℤ b) 2

-- "the sampled middle times two is within twice the tolerance of the sum of the two end points" on one axis
unfoldable pub near : (tolerance p m q : ℤ) → Bool
near tolerance p m q =
    le_z (pos 0 -ℤ pos 2 *ℤ tolerance) (pos 2 *ℤ m -ℤ (p +ℤ q)) && le_z (pos 2 *ℤ m -ℤ (p +ℤ q)) (pos 2 *ℤ tolerance)

abbrev pub near_at : (tolerance : ℤ) (p m q : List ℤ) (axis : ℕ) → Bool
near_at tolerance p m q axis = near tolerance (get_or p axis (pos 0)) (get_or m axis (pos 0)) (get_or q axis (pos 0))

-- "on each axis"; an axis that a curv2 has not is 0 at all three
unfoldable pub straight : (tolerance : ℤ) (p m q : List ℤ) → Bool
straight tolerance p m q = near_at tolerance p m q 0 && (near_at tolerance p m q 1 && near_at tolerance p m q 2)

-- "the interval is at most one millionth"
unfoldable pub short_interval : (a b : ℤ) → Bool
short_interval a b = le_z (b -ℤ a) (pos 1)

-- "hand out the chord": where the depth is not yet used up
unfoldable pub chord : (point : ℤ → List ℤ) (tolerance a b : ℤ) → Bool
chord point tolerance a b = short_interval a b || straight tolerance (point a) (point (middle a b)) (point b)

-- the ends of the chords from a to b; "Otherwise halve the interval again, each half one level less deep"
unfoldable pub ends : (point : ℤ → List ℤ) (tolerance : ℤ) (depth : ℕ) (a b : ℤ) → List ℤ
ends point tolerance zero a b = b ∷ []
ends point tolerance (suc depth) a b =
    cond (chord point tolerance a b) (b ∷ []) (ends point tolerance depth a (middle a b) ++ ends point tolerance depth (middle a b) b)

-- the parameters of the polyline, "the depth of 12": the start, and the end of each chord
abbrev pub parameters : (point : ℤ → List ℤ) (tolerance start end : ℤ) → List ℤ
parameters point tolerance start end = start ∷ ends point tolerance 12 start end

-- the coordinates at each parameter, one point after the other
abbrev pub numbers : (point : ℤ → List ℤ) → List ℤ → List ℤ
numbers point [] = []
numbers point (p ∷ ps) = point p ++ numbers point ps
