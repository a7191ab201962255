-- Must be believed: a promise reaches every definition of this file.
-- 01, "Bodies": the rules of controls, parameters and ranges along one direction of a body. The reader and the test of records both use them.
use Rattle.std.specs.Prelude.{ℕ, suc, ◌+◌, ◌*◌, ◌-◌, List, [], ◌∷◌, Bool, true, cond, ◌&&◌, length, get_or, leb, eqb, ℤ, pos}
use Rattle.std.specs.Int.Signed.{lt_z, le_z}

pub data Basis : Type 0 where
  bezier bspline cardinal taylor : Basis

-- the number that a body's record holds
abbrev pub basis_number : Basis → ℕ
basis_number bezier = 1
basis_number bspline = 2
basis_number cardinal = 3
basis_number taylor = 4

-- the type whose number is 1 to 4
abbrev pub basis_of : ℕ → Basis
basis_of type = cond (eqb type 1) bezier (cond (eqb type 2) bspline (cond (eqb type 3) cardinal taylor))

abbrev pub is_bspline : Basis → Bool
is_bspline t = eqb (basis_number t) 2

abbrev pub is_cardinal : Basis → Bool
is_cardinal t = eqb (basis_number t) 3

-- "Controls k along one direction, from p parameters and degree n"
abbrev pub controls : Basis → ℕ → ℕ → ℕ
controls bezier n p = n * (p - 1) + 1
controls bspline n p = p - n - 1
controls cardinal n p = p + 2
controls taylor n p = (n + 1) * (p - 1)

-- bspline: "p-n-1, at least n+1"
abbrev pub enough : Basis → ℕ → ℕ → Bool
enough t n p = cond (is_bspline t) (leb (n + 1) (p - n - 1)) true

-- "Parameters strictly increase"
abbrev pub rising : List ℤ → Bool
rising [] = true
rising (a ∷ []) = true
rising (a ∷ b ∷ x) = lt_z a b && rising (b ∷ x)

-- "For bspline, knots x0.. never decrease"
abbrev pub steady : List ℤ → Bool
steady [] = true
steady (a ∷ []) = true
steady (a ∷ b ∷ x) = le_z a b && steady (b ∷ x)

abbrev pub ordered : Basis → List ℤ → Bool
ordered t x = cond (is_bspline t) (steady x) (rising x)

-- "first ≤ start < end ≤ last"; "x_n ≤ start < end ≤ x_k": the widest range that the n and the parameters x allow
abbrev pub low : Basis → ℕ → List ℤ → ℤ
low t n x = get_or x (cond (is_bspline t) n 0) (pos 0)

abbrev pub high : Basis → ℕ → List ℤ → ℤ
high t n x = get_or x (cond (is_bspline t) (length x - n - 1) (length x - 1)) (pos 0)

abbrev pub ranged : Basis → ℕ → List ℤ → ℤ → ℤ → Bool
ranged t n x start end = le_z (low t n x) start && lt_z start end && le_z end (high t n x)

-- how often a value stands among x
abbrev pub multiplicity : ℤ → List ℤ → ℕ
multiplicity a [] = 0
multiplicity a (b ∷ x) = cond (le_z a b && le_z b a) (suc (multiplicity a x)) (multiplicity a x)

-- a value that stands m times does so at most n times, or does not lie strictly between two ends
abbrev pub seldom : ℕ → ℤ → ℤ → ℤ → ℕ → Bool
seldom n lo hi a m = cond (lt_z lo a && lt_z a hi) (leb m n) true

-- each value of x, counted from where it stands first
abbrev pub each_seldom : ℕ → ℤ → ℤ → List ℤ → Bool
each_seldom n lo hi [] = true
each_seldom n lo hi (a ∷ x) = seldom n lo hi a (multiplicity a (a ∷ x)) && each_seldom n lo hi x

-- 02, Q-5: "a knot value strictly between x_n and x_k stands at most n times. Multiplicities at the two ends stay free."
abbrev pub continuous : Basis → ℕ → List ℤ → Bool
continuous t n x = cond (is_bspline t) (each_seldom n (low t n x) (high t n x) x) true

-- 13 along one direction
unfoldable pub in_order : Basis → ℕ → List ℤ → ℤ → ℤ → Bool
in_order t n x start end = ordered t x && continuous t n x && ranged t n x start end

-- 12: the controls of a curve; "A surface has k_u times k_v controls"
unfoldable pub curve_count : Basis → ℕ → ℕ → ℕ → Bool
curve_count t n p k = enough t n p && eqb k (controls t n p)

unfoldable pub surface_count : Basis → ℕ → ℕ → ℕ → ℕ → ℕ → Bool
surface_count t m p n q k = enough t m p && enough t n q && eqb k (controls t m p * controls t n q)
