-- The controls by their corners: those of a direction are there, and so is a row of a surface's.
use mathlib.Core.Path.{◌≡◌, refl, sym, ap, ◌∙◌}
use mathlib.Core.Bool.{Bool, true, false, cond}
use mathlib.Core.List.{List}
use Prim.Native.Nat.{ℕ, zero, suc, ◌+◌, ◌-◌, ◌*◌, ◌≤◌, ◌<◌}
use native.Mathlib.Nat.{mul-le-mul_right, mul_comm, not-suc-le-zero, zero-add}
use native.Mathlib.Omega.{arith}
use lib.Dec.{eqb}
use lib.ListN.{get_or}
use lib.IntN.{ℤ, pos}
use mir.Syntax.{w32}
use mir.Val.{to_z, of_z}
use Rattle.rounding.specs.Range.{InRange}
use Rattle.rounding.proofs.Bits.{read-back-small}
use Rattle.point_exact.specs.Directions.{Direction}
use Rattle.point_exact.specs.Sampled.{pyramid, offset_at, gap_at, first_control, curve_sampled, surface_sampled}
use Rattle.point_exact.proofs.Samplers.{controls-there}
use Rattle.point_exact.proofs.Pyramid.{sampled-cong}
use Rattle.tables.specs.Records.{value_at, v_width}
use Rattle.point_rows.specs.Places.{direction}
use Rattle.point_rows.specs.Finding.{On}
use Rattle.point_rows.specs.Controls.{vertex_of, control_at, ControlsLent, Reached}
use Rattle.point_rows.specs.declared.BodyDirection.{BodyDirection}
use Rattle.point_rows.proofs.Places.{deep, spline-first, bezier-first}

module _ {a : BodyDirection} {x : List ℤ} {t : ℤ} {g : ℕ} (o : On a x t g) where
  by-type : (q : Bool) → eqb a.basis 2 ≡ q → cond q (g - a.degree) (g * a.degree) ≡ first_control (direction a x) t
  by-type true e = spline-first a x t e g o.is
  by-type false e = bezier-first a x t e g o.is

  pub first-is : {r : ℕ} → r ≡ cond (eqb a.basis 2) (g - a.degree) (g * a.degree) → r ≡ first_control (direction a x) t
  first-is e = e ∙ by-type (eqb a.basis 2) refl

  pub reached : Reached a g
  reached = record {
    spline = λ e. deep a x t e o;
    bezier = λ e. omega (arith, bezier-first a x t e g o.is, controls-there (direction a x) t o.sound.rules);
  }

  pub last-there : first_control (direction a x) t + a.degree < a.controls
  last-there = controls-there (direction a x) t o.sound.rules

pub sampled-is : (d : Direction) (t : ℤ) (c : ℕ → ℤ) → curve_sampled d t c ≡ pyramid (offset_at d t) (gap_at d t) d.degree (λ j. c (first_control d t + j))
unfolding curve_sampled
sampled-is d t c = refl

pub some-row : (a h : ℕ) → 0 < h → a ≤ a * h
some-row a (suc h) l = omega arith
some-row a zero l = absurd (not-suc-le-zero l)

-- a part of the controls that are held
pub held-part : {values : List ℤ} {corners : List ℕ} {first from end : ℕ} (start stop : ℕ) → ControlsLent values corners first from end → from ≤ start → stop ≤ end
    → ControlsLent values corners first start stop
held-part start stop h a b = record {
  within = omega (arith, h.within);
  named = λ i l m. h.named i (omega arith) (omega arith);
  there = λ i l m. h.there i (omega arith) (omega arith);
  small = λ i k l m n. h.small i k (omega arith) (omega arith) n;
}

-- the row j of a surface's controls, u varying fastest
pub held-row : {values : List ℤ} {corners : List ℕ} {first : ℕ} (h l j : ℕ) → ControlsLent values corners first 0 (h * l) → j < l → ControlsLent values corners first (j * h) (j * h + h)
held-row h l j d b = held-part (j * h) (j * h + h) d (omega arith) (omega (arith, mul-le-mul_right h b, mul_comm h l))

-- number `axis` of the vertex r that control i names, read by its bits
pub control-read : (values : List ℤ) (corners : List ℕ) (first axis i r : ℕ) {y : ℤ} → y ≡ value_at v_width values (r - 1) axis → r ≡ vertex_of corners first i
    → InRange (control_at values corners first axis i) → let z = to_z w32 (of_z w32 y) in (z ≡ control_at values corners first axis i) × InRange z
unfolding control_at
control-read values corners first axis i r h e s =
    let z : InRange (get_or values (4 * (r - 1) + axis) (pos 0)) = rw e s in
    rw (h, read-back-small (get_or values (4 * (r - 1) + axis) (pos 0)) z) (ap (λ (q : ℕ). get_or values (4 * (q - 1) + axis) (pos 0)) e, z)

-- a curve's controls are those from the first on
pub from_first : (d : Direction) (t : ℤ) (values : List ℤ) (corners : List ℕ) (first axis : ℕ)
    → curve_sampled d t (λ i. control_at values corners first axis (0 + i)) ≡ curve_sampled d t (control_at values corners first axis)
from_first d t values corners first axis =
    sampled-cong d t (λ i. control_at values corners first axis (0 + i)) (control_at values corners first axis)
    (λ i l. ap (control_at values corners first axis) (zero-add (first_control d t + i)))

-- the rows that count, one by one, are what v is taken over
pub grid-rows : (u v : Direction) (s t : ℤ) (values : List ℤ) (corners : List ℕ) (first axis h top : ℕ) → top ≡ first_control v t
    → pyramid (offset_at v t) (gap_at v t) v.degree (λ j. curve_sampled u s (λ i. control_at values corners first axis ((top + j) * h + i)))
    ≡ surface_sampled u v s t (λ i j. control_at values corners first axis (j * h + i))
unfolding surface_sampled
grid-rows u v s t values corners first axis h top e =
    ap (λ (q : ℕ). pyramid (offset_at v t) (gap_at v t) v.degree (λ j. f (q + j))) e ∙ sym (sampled-is v t f)
  where
    f : ℕ → ℤ
    f j = curve_sampled u s (λ i. control_at values corners first axis (j * h + i))
