-- 02, Q-5 on closed knots, computed: inner values that stand n and n + 1 times, and values of the two ends, inside the range of indexes too.
use mathlib.Core.Path.{◌≡◌, refl}
use mathlib.Core.List.{List, [], ◌∷◌}
use mathlib.Core.Bool.{Bool, true, false}
use Prim.Native.Nat.{ℕ}
use lib.IntN.{ℤ, pos}
use Rattle.tables.specs.Bodies.{bspline, in_order}

abbrev judged : ℕ → List ℤ → ℕ → Bool
judged n x end = in_order bspline n x (pos 0) (pos end)

once-of-one : judged 1 (pos 0 ∷ pos 0 ∷ pos 1 ∷ pos 2 ∷ pos 2 ∷ []) 2 ≡ true
unfolding in_order
once-of-one = refl

twice-of-one : judged 1 (pos 0 ∷ pos 0 ∷ pos 1 ∷ pos 1 ∷ pos 2 ∷ pos 2 ∷ []) 2 ≡ false
unfolding in_order
twice-of-one = refl

-- 1 is x_k, and stands inside the range of indexes too
end-value : judged 1 (pos 0 ∷ pos 0 ∷ pos 1 ∷ pos 1 ∷ pos 1 ∷ pos 1 ∷ []) 1 ≡ true
unfolding in_order
end-value = refl

-- 0 is x_n, and so does it
start-value : judged 1 (pos 0 ∷ pos 0 ∷ pos 0 ∷ pos 1 ∷ pos 1 ∷ []) 1 ≡ true
unfolding in_order
start-value = refl

thrice-of-three : judged 3 (pos 0 ∷ pos 0 ∷ pos 0 ∷ pos 0 ∷ pos 1 ∷ pos 1 ∷ pos 1 ∷ pos 2 ∷ pos 2 ∷ pos 2 ∷ pos 2 ∷ []) 2 ≡ true
unfolding in_order
thrice-of-three = refl

four-times-of-three : judged 3 (pos 0 ∷ pos 0 ∷ pos 0 ∷ pos 0 ∷ pos 1 ∷ pos 1 ∷ pos 1 ∷ pos 1 ∷ pos 2 ∷ pos 2 ∷ pos 2 ∷ pos 2 ∷ []) 2 ≡ false
unfolding in_order
four-times-of-three = refl
