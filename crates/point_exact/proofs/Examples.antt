-- 01, "Cases at the edges": its points, and some at ends of ranges, computed.
use mathlib.Core.Path.{◌≡◌, refl}
use mathlib.Core.Bool.{Bool, true, false, ◌&&◌}
use mathlib.Core.List.{List, [], ◌∷◌}
use Prim.Native.Nat.{ℕ, zero, suc, ◌+◌, ◌*◌, ◌<◌}
use native.Mathlib.Omega.{arith}
use lib.Dec.{eqb, lit≤}
use lib.ListN.{length}
use lib.IntN.{ℤ, pos, negsuc, nat_abs, ◌*ℤ◌, ◌-ℤ◌}
use lib.Signed.{◌<ℤ◌, le_z_yes, lt_z_yes}
use Rattle.rounding.specs.Round.{rounded, between}
use Rattle.rounding.specs.Fractions.{Frac, whole, ◌+ᶠ◌, ◌-ᶠ◌, ◌*ᶠ◌, power, over, sum_to}
use Rattle.lists.specs.Lists.{all}
use Rattle.point_exact.specs.Directions.{PointBasis, bezier, bspline, Direction, at, last_where, segment, span, chosen}
use Rattle.point_exact.specs.Rules.{Rules}
use Rattle.point_exact.specs.Exact.{choose, along, bernstein, segment_weight, bezier_weight, spline_weight, weight_at, curve_exact, surface_exact}
use Rattle.point_exact.specs.Sampled.{pyramid, low_at, high_at, offset_at, gap_at, first_control, curve_sampled, surface_sampled}

abbrev eq_z : ℤ → ℤ → Bool
eq_z (pos a) (pos b) = eqb a b
eq_z (pos a) (negsuc b) = false
eq_z (negsuc a) (pos b) = false
eq_z (negsuc a) (negsuc b) = eqb a b

-- a curve, a parameter, the point that is handed out, and the exact value as two whole numbers
record Case : Type 0 where
  basis : PointBasis
  degree : ℕ
  parameters : List ℤ
  controls : List ℤ
  t : ℤ
  point : ℤ
  top : ℤ
  bot : ℕ

abbrev of : Case → Direction
of c = record { basis = c.basis; degree = c.degree; controls = length c.controls; parameters = c.parameters }

abbrev holds : Case → Bool
holds c =
    eq_z (curve_sampled (of c) c.t (at c.controls)) c.point
    && eq_z ((curve_exact (of c) c.t (at c.controls)).top *ℤ pos c.bot) (c.top *ℤ pos (curve_exact (of c) c.t (at c.controls)).bot)

abbrev row : PointBasis → ℕ → (parameters controls : List ℤ) (t point top : ℤ) → ℕ → Case
row b n x c t p y z = record { basis = b; degree = n; parameters = x; controls = c; t = t; point = p; top = y; bot = z }

abbrev minus : ℕ → ℤ
minus n = pos 0 -ℤ pos n

-- whole units, in millionths
abbrev millions : ℕ → ℤ
millions n = pos (n * 1000000)

abbrev knots : List ℤ
knots = minus 3000000 ∷ minus 2000000 ∷ minus 1000000 ∷ pos 0 ∷ millions 1 ∷ millions 2 ∷ millions 3 ∷ millions 4 ∷ []

cases : List Case
cases =
    -- "degree 1, x 0 and 1 millionth, halfway: 1; 0 and -1: -1"
    row bezier 1 (pos 0 ∷ pos 2 ∷ []) (pos 0 ∷ pos 1 ∷ []) (pos 1) (pos 1) (pos 1) 2
    ∷ row bezier 1 (pos 0 ∷ pos 2 ∷ []) (pos 0 ∷ minus 1 ∷ []) (pos 1) (minus 1) (minus 1) 2
    -- "cubic Bezier, x 0 1 2 3, halfway: 1.500000"
    ∷ row bezier 3 (pos 0 ∷ millions 1 ∷ []) (pos 0 ∷ millions 1 ∷ millions 2 ∷ millions 3 ∷ []) (pos 500000) (pos 1500000) (pos 1500000) 1
    -- "cubic B-spline, knots -3 to 4, x 0 6 0 0, at 0: 4.000000"
    ∷ row bspline 3 knots (pos 0 ∷ millions 6 ∷ pos 0 ∷ pos 0 ∷ []) (pos 0) (millions 4) (millions 4) 1
    -- two Bezier segments: at the inner parameter the later one, at the last parameter the last, and (9 · 9 + 6 · 1 + 5) / 16 a quarter along the second
    ∷ row bezier 2 (pos 0 ∷ pos 2 ∷ pos 6 ∷ []) (pos 0 ∷ pos 4 ∷ pos 9 ∷ pos 1 ∷ pos 5 ∷ []) (pos 2) (pos 9) (pos 9) 1
    ∷ row bezier 2 (pos 0 ∷ pos 2 ∷ pos 6 ∷ []) (pos 0 ∷ pos 4 ∷ pos 9 ∷ pos 1 ∷ pos 5 ∷ []) (pos 6) (pos 5) (pos 5) 1
    ∷ row bezier 2 (pos 0 ∷ pos 2 ∷ pos 6 ∷ []) (pos 0 ∷ pos 4 ∷ pos 9 ∷ pos 1 ∷ pos 5 ∷ []) (pos 3) (pos 6) (pos 23) 4
    -- threefold knots at both ends, at the end of the range
    ∷ row bspline 2 (pos 0 ∷ pos 0 ∷ pos 0 ∷ pos 2 ∷ pos 2 ∷ pos 2 ∷ []) (pos 7 ∷ pos 1 ∷ minus 5 ∷ []) (pos 2) (minus 5) (minus 5) 1
    -- the last span of the range is empty, so the one before is taken
    ∷ row bspline 1 (pos 0 ∷ pos 0 ∷ pos 3 ∷ pos 3 ∷ pos 3 ∷ []) (pos 7 ∷ pos 1 ∷ pos 40 ∷ []) (pos 3) (pos 1) (pos 1) 1
    -- weights 1/8 6/8 1/8 in the middle of a quadratic span: (8 + 6 · 3 + 5) / 8
    ∷ row bspline 2 (pos 0 ∷ pos 2 ∷ pos 4 ∷ pos 6 ∷ pos 8 ∷ pos 10 ∷ pos 12 ∷ []) (pos 8 ∷ pos 3 ∷ pos 5 ∷ pos 100 ∷ []) (pos 5) (pos 4) (pos 31) 8
    ∷ []

curves-hold : all holds cases ≡ true
unfolding cases curve_sampled curve_exact pyramid low_at high_at offset_at gap_at first_control chosen segment span last_where weight_at segment_weight bezier_weight bernstein along choose spline_weight power over sum_to whole ◌+ᶠ◌ ◌-ᶠ◌ ◌*ᶠ◌ between rounded
curves-hold = refl

-- 2 by 2 controls, half way along u and a quarter along v: (0 + 10) / 2 · 3/4 + (4 + 20) / 2 · 1/4
abbrev grid : ℕ → ℕ → ℤ
grid i j = at (pos 0 ∷ pos 10 ∷ pos 4 ∷ pos 20 ∷ []) (2 * j + i)

abbrev line : ℤ → Direction
line e = record { basis = bezier; degree = 1; controls = 2; parameters = pos 0 ∷ e ∷ [] }

surface-holds : (surface_sampled (line (pos 2)) (line (pos 4)) (pos 1) (pos 1) grid ≡ pos 7)
    × ((surface_exact (line (pos 2)) (line (pos 4)) (pos 1) (pos 1) grid).top *ℤ pos 4 ≡ pos 27 *ℤ pos (surface_exact (line (pos 2)) (line (pos 4)) (pos 1) (pos 1) grid).bot)
unfolding surface_sampled surface_exact curve_sampled pyramid low_at high_at offset_at gap_at first_control chosen segment last_where weight_at segment_weight bezier_weight bernstein along choose power over sum_to whole ◌+ᶠ◌ ◌-ᶠ◌ ◌*ᶠ◌ between rounded
surface-holds = (refl, refl)

-- the rules can be met, and the bound is: at degree 1 the point is half a millionth off
half-way : Rules (line (pos 2)) (pos 1)
unfolding Rules
half-way = record { many = lit≤ tt; count = refl; rising = rises; low = le_z_yes tt; high = le_z_yes tt }
  where
    rises : (i : ℕ) → suc i < 2 → at (pos 0 ∷ pos 2 ∷ []) i <ℤ at (pos 0 ∷ pos 2 ∷ []) (suc i)
    rises zero h = lt_z_yes tt
    rises (suc i) h = absurd (omega arith)

bound-met : (let f : Frac = curve_exact (line (pos 2)) (pos 1) (at (pos 0 ∷ pos 1 ∷ [])) in
    2 * nat_abs (curve_sampled (line (pos 2)) (pos 1) (at (pos 0 ∷ pos 1 ∷ [])) *ℤ pos f.bot -ℤ f.top) ≡ 1 * f.bot)
unfolding curve_sampled curve_exact pyramid low_at high_at offset_at gap_at first_control chosen segment last_where weight_at segment_weight bezier_weight bernstein along choose power over sum_to whole ◌+ᶠ◌ ◌-ᶠ◌ ◌*ᶠ◌ between rounded
bound-met = refl
