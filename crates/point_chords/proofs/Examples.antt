-- The definition on closed curves, computed.
use mathlib.Core.Path.{◌≡◌, refl}
use mathlib.Core.List.{List, [], ◌∷◌}
use lib.IntN.{ℤ, pos, negsuc, ◌*ℤ◌}
use Rattle.point_chords.specs.Chords.{middle, near, straight, short_interval, chord, ends, parameters, numbers}

-- -3 and 0 have -2
below-zero : middle (negsuc 2) (pos 0) ≡ negsuc 1
unfolding middle
below-zero = refl

abbrev line : ℤ → List ℤ
line p = p ∷ (pos 2 *ℤ p) ∷ []

abbrev parabola : ℤ → List ℤ
parabola p = p ∷ (p *ℤ p) ∷ pos 0 ∷ []

-- a straight line is one chord
one-chord : parameters line (pos 0) (negsuc 9) (pos 10) ≡ negsuc 9 ∷ pos 10 ∷ []
unfolding middle near straight short_interval chord ends
one-chord = refl

one-millionth : parameters parabola (pos 0) (pos 7) (pos 8) ≡ pos 7 ∷ pos 8 ∷ []
unfolding middle near straight short_interval chord ends
one-millionth = refl

-- tolerance 0 goes down to millionths; 1 is just enough for intervals of two, as equal is within
to-the-last : parameters parabola (pos 0) (pos 0) (pos 4) ≡ pos 0 ∷ pos 1 ∷ pos 2 ∷ pos 3 ∷ pos 4 ∷ []
unfolding middle near straight short_interval chord ends
to-the-last = refl

within : parameters parabola (pos 1) (negsuc 3) (pos 0) ≡ negsuc 3 ∷ negsuc 1 ∷ pos 0 ∷ []
unfolding middle near straight short_interval chord ends
within = refl

-- a half is straight and the other is not
abbrev bent : ℤ → List ℤ
bent (pos n) = pos 0 ∷ []
bent (negsuc n) = negsuc n ∷ []

one-half : parameters bent (pos 0) (negsuc 7) (pos 8) ≡ negsuc 7 ∷ pos 0 ∷ pos 8 ∷ []
unfolding middle near straight short_interval chord ends
one-half = refl

coordinates-in-order : numbers line (pos 1 ∷ pos 3 ∷ []) ≡ pos 1 ∷ pos 2 ∷ pos 3 ∷ pos 6 ∷ []
coordinates-in-order = refl
