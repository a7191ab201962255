-- Demand 3 on surfaces: the refusals are passed as on curves, and what is handed out is the rounded rule at rules that hold in both directions.
use mathlib.Core.Path.{◌≡◌, refl, sym, ap, ◌∙◌, subst}
use mathlib.Core.Bool.{true}
use mathlib.Core.List.{List}
use Prim.Native.Nat.{ℕ, ◌<◌}
use borrow.Author.Tests.{eq-eqb}
use lib.ListN.{get_or}
use lib.IntN.{ℤ, pos}
use lib.Signed.{◌≤ℤ◌}
use Rattle.rounding.proofs.Order.{le_yes}
use Rattle.tables.specs.Tables.{Tables}
use Rattle.tables.specs.Records.{surface_kind}
use Rattle.tables.specs.declared.Body.{Body}
use Rattle.tables.specs.declared.Used.{Used}
use Rattle.tables.specs.declared.Element.{Element}
use Rattle.point_exact.specs.Rules.{Rules}
use Rattle.point_exact.proofs.SurfaceNear.{surface-near}
use Rattle.point_runs.specs.Runs.{tabulated}
use Rattle.sampler.specs.Points.{direction_u, direction_v, grid_of, surface_at}
use Rattle.std.specs.Prelude.{None}
use Rattle.sampler.specs.Answers.{PointAnswer, element_of, body_of, refusal_of, surface_point, point_on_surface}
use Rattle.sampler.specs.Demand3.{sampling, Obeying, PointClaim, OnSurface, ElementsSampled}
use Rattle.sampler.specs.Sampling.{Surfaced}
use Rattle.sampler.proofs.Obeyed.{granted, surfaced}
use Rattle.sampler.proofs.Demanded.{all-passed, listed_at, points-on-curves, runs-on-curves}

-- a surface in tables that obey the rules
abbrev pub Surface : Used → Tables → (number : ℕ) → Type 0
Surface used t number = Obeying used t number × ((element_of t number).kind ≡ surface_kind)

module _ {used : Used} {t : Tables} {number : ℕ} (c : Surface used t number) where
  abbrev e : Element
  e = element_of t number

  abbrev b : Body
  b = body_of t number

  surface-given : refusal_of true used t number ≡ None
  surface-given = all-passed true used t number c.0 (eq-eqb e.kind 6 c.1)

  pub surface-facts : Surfaced t e b
  surface-facts = surfaced used t number (granted true used t number surface-given)

  module _ (p q : ℤ) (p-from : b.start_u ≤ℤ p) (p-upto : p ≤ℤ b.end_u) (q-from : b.start_v ≤ℤ q) (q-upto : q ≤ℤ b.end_v) where
    pub surface-rules-u : Rules (direction_u t b) p
    surface-rules-u = (surface-facts.along-u.ranged.sound p p-from p-upto).rules

    pub surface-rules-v : Rules (direction_v t b) q
    surface-rules-v = (surface-facts.along-v.ranged.sound q q-from q-upto).rules

    -- the rounded rule is near the exact value, at every two parameters of the ranges
    surface-close : (axis : ℕ) → OnSurface t number p q axis (surface_at t e b p q axis)
    unfolding surface_at
    surface-close axis =
        surface-near (direction_u t b) (direction_v t b) p q surface-rules-u surface-rules-v (grid_of t e b axis)

    answer-is : point_on_surface used t number p q ≡ surface_point t e b p q
    unfolding point_on_surface
    answer-is = rw (surface-given, le_yes b.start_u p p-from, le_yes p b.end_u p-upto, le_yes b.start_v q q-from, le_yes q b.end_v q-upto)

coordinates-are : (t : Tables) (e : Element) (b : Body) (p q : ℤ) → (surface_point t e b p q).outcome.coordinates ≡ tabulated 3 (surface_at t e b p q)
unfolding surface_point
coordinates-are t e b p q = refl

pub surface-coordinates : {used : Used} {t : Tables} {number : ℕ} → Surface used t number → (p q : ℤ) → (body_of t number).start_u ≤ℤ p → p ≤ℤ (body_of t number).end_u
    → (body_of t number).start_v ≤ℤ q → q ≤ℤ (body_of t number).end_v
    → (point_on_surface used t number p q).outcome.coordinates ≡ tabulated 3 (surface_at t (element_of t number) (body_of t number) p q)
surface-coordinates {used} {t} {number} c p q f g h k =
    ap (λ (r : PointAnswer). r.outcome.coordinates) (answer-is c p q f g h k) ∙ coordinates-are t (element_of t number) (body_of t number) p q

not-refused : (t : Tables) (e : Element) (b : Body) (p q : ℤ) → (surface_point t e b p q).outcome.number ≡ 0
unfolding surface_point
not-refused t e b p q = refl

-- each coordinate that is handed out is the rounded rule's
pub surface-coordinate : {used : Used} {t : Tables} {number : ℕ} → Surface used t number → (p q : ℤ)
    → (body_of t number).start_u ≤ℤ p → p ≤ℤ (body_of t number).end_u → (body_of t number).start_v ≤ℤ q → q ≤ℤ (body_of t number).end_v
    → (axis : ℕ) → axis < 3 → get_or (point_on_surface used t number p q).outcome.coordinates axis (pos 0) ≡ surface_at t (element_of t number) (body_of t number) p q axis
surface-coordinate {used} {t} {number} c p q f g h k axis m =
    ap (λ (i : List ℤ). get_or i axis (pos 0)) (surface-coordinates c p q f g h k) ∙ listed_at 3 axis (surface_at t (element_of t number) (body_of t number) p q) m

pub points-on-surfaces : (used : Used) (t : Tables) (number : ℕ) (p q : ℤ) → Surface used t number
    → (body_of t number).start_u ≤ℤ p → p ≤ℤ (body_of t number).end_u → (body_of t number).start_v ≤ℤ q → q ≤ℤ (body_of t number).end_v
    → PointClaim 3 (surface_at t (element_of t number) (body_of t number) p q) (OnSurface t number p q) (point_on_surface used t number p q)
points-on-surfaces used t number p q c f g h k =
    let s = answer-is c p q f g h k in
    record {
      given = ap (λ (r : PointAnswer). r.outcome.number) s ∙ not-refused t (element_of t number) (body_of t number) p q;
      rounded = surface-coordinates c p q f g h k;
      near = λ axis m. subst (OnSurface t number p q axis) (sym (surface-coordinate c p q f g h k axis m)) (surface-close c p q f g h k axis);
    }

pub elements-sampled : ElementsSampled sampling
elements-sampled used t number o =
    record {
      curve = λ k p a b. points-on-curves used t number p (o, k) a b;
      run = λ k steps at points some most room. runs-on-curves used t number steps at points (o, k) some most room;
      surface = λ k p q f g h l. points-on-surfaces used t number p q (o, k) f g h l;
    }
