-- The part of the way is at most the way: nothing wraps, and the parameter lies from start to end.
use mathlib.Core.Path.{◌≡◌, ap}
use Prim.Native.Nat.{ℕ, ◌*◌, ◌/◌, ◌≤◌, ◌<◌}
use native.Mathlib.Omega.{arith}
use lib.IntN.{pos, nat_abs, ◌+ℤ◌, ◌-ℤ◌}
use mir.Syntax.{w32, w64}
use mir.Facts.{to_z-of_z, to_z_pos, sfits_widen}
use Rattle.rounding.specs.Range.{InRange}
use Rattle.rounding.proofs.Bits.{fits-abs, read_back, read-back-small, widened}
use Rattle.point_runs.specs.Runs.{parameter_at}
use Rattle.point_runs.proofs.Steps.{part-within, product_small, small-between, parameter-from, parameter-upto}
use Rattle.point_runs.proofs.parameter_at.Goals as goal
use Rattle.point_runs.proofs.parameter_at.Goals.{After-distance}

pub overflow_mul-part : goal.overflow_mul-part
overflow_mul-part c = record { fits = omega (arith, product_small c.args.j c.distance.result (omega arith) c.distance.ensures.1) }

pub overflow_cast-result : goal.overflow_cast-result
overflow_cast-result c = rw (to_z-of_z c.ranges.start) (sfits_widen tt c.ranges.start)

abbrev part : (c : After-distance) → ℕ
part c = c.args.j * c.distance.result / c.args.steps

within : (c : After-distance) → (part c) ≤ c.distance.result
within c = part-within c.args.j c.distance.result c.args.steps c.requires.5

low : (c : After-distance) → (part c) < 9223372036854775808
low c = omega (arith, (within c), c.distance.ensures.1)

pub overflow_cast-result-2 : goal.overflow_cast-result-2
overflow_cast-result-2 c = record { sfits = low c }

way : (c : After-distance) → c.distance.result ≡ nat_abs (c.args.end -ℤ c.args.start)
way c = rw (to_z-of_z c.ranges.start, to_z-of_z c.ranges.end) at c.distance.ensures.0

is : (c : After-distance) → c.args.start +ℤ pos (part c) ≡ parameter_at c.args.start c.args.end c.args.steps c.args.j
unfolding parameter_at
is c = ap (λ (q : ℕ). c.args.start +ℤ pos (c.args.j * q / c.args.steps)) (way c)

small : (c : After-distance) → InRange (c.args.start +ℤ pos (part c))
small c = rw (is c) (small-between (parameter-from c.args.start c.args.end c.requires.0 c.args.steps c.args.j) (parameter-upto c.args.start c.args.end c.requires.0 c.args.steps c.args.j c.requires.5) c.requires.1 c.requires.2)

pub overflow_add-result : goal.overflow_add-result
overflow_add-result c = rw (widened c.ranges.start, to_z_pos w64 {n = part c} (low c)) (fits-abs w64 _ (omega (arith, small c)))

pub overflow_cast-result-3 : goal.overflow_cast-result-3
overflow_cast-result-3 c = rw (widened c.ranges.start, to_z_pos w64 {n = part c} (low c), read_back w64 (c.args.start +ℤ pos (part c)) (omega (arith, small c))) (fits-abs w32 _ (omega (arith, small c)))

pub returns : goal.returns
returns c = rw (widened c.ranges.start, to_z_pos w64 {n = part c} (low c), read_back w64 (c.args.start +ℤ pos (part c)) (omega (arith, small c)), read-back-small (c.args.start +ℤ pos (part c)) (small c)) (is c, small c)
