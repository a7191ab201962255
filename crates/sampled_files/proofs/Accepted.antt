-- From an accepted text to a point within its bound: its tables obey the rules, so that demand 3 holds of them, and what they give is the file's own.
use Prim.Native.Nat.{ℕ, ◌+◌, ◌*◌, ◌≤◌, ◌<◌}
use mathlib.Core.Path.{◌≡◌, refl, sym, ap, ap₂, ◌∙◌, subst}
use mathlib.Core.Bool.{cond}
use mathlib.Core.Logic.{◌⊎◌, inl, inr}
use mathlib.Core.List.{List}
use native.Mathlib.Omega.{arith}
use lib.ListN.{length, get_or}
use lib.Dec.{eqb}
use lib.IntN.{ℤ, pos}
use lib.Signed.{◌≤ℤ◌}
use Rattle.references.specs.Corner.{Corner}
use Rattle.rounding.specs.Fractions.{Frac, Close}
use Rattle.tables.specs.Tables.{Tables}
use Rattle.tables.specs.Bodies.{bezier, bspline, basis_number}
use Rattle.tables.specs.declared.Body as records
use Rattle.point_exact.specs.Directions.{Direction}
use Rattle.point_exact.specs.Exact.{curve_exact, surface_exact}
use Rattle.model.specs.Model.{Vertices, Free, curve, curve2, surface, Body, Model}
use Rattle.model.specs.Room.{Rooms, summed, part_count}
use Rattle.model.specs.Read.{read, read_of}
use Rattle.model.specs.Layout.{free_number, bodies_of, flag, tables_of, used_of}
use Rattle.point_runs.specs.Runs.{parameter_at}
use Rattle.point_runs.proofs.Written.{listed-length}
use Rattle.sampler.specs.Points.{direction_u, direction_v, control_of, grid_of, axes_of, surface_at}
use Rattle.sampler.specs.Answers.{RunAnswer, element_of, body_of, point_on_curve, point_on_surface, run_into}
use Rattle.sampler.specs.Demand3.{Obeying, IsCurve, OnCurve, RunClaim, OnSurface}
use Rattle.sampler.proofs.Demanded.{points-on-curves, runs-on-curves}
use Rattle.sampler.proofs.OnSurfaces.{points-on-surfaces}
use Rattle.sampled_files.specs.Files.{along_u, along_v, control_in, axes_in, grid_in}
use Rattle.sampled_files.specs.Joined.{HasBody, Carried, PointOnCurve, PointsOfRun, PointOnSurface}
use Rattle.sampled_files.specs.Accepted.{AcceptedCurves, AcceptedRuns, AcceptedSurfaces}
use Rattle.model.proofs.BodyRows.{laid_body, parameters_in}
use Rattle.sampled_files.proofs.Curves.{curve-kept, curve2-kept}
use Rattle.sampled_files.proofs.Surfaces.{surface-kept}
use Rattle.sampled_files.proofs.Own.{exact_same, grid-same, count-is, counts-are, in-grid}
use Rattle.sampled_files.proofs.Never15.{used-elements, obeyed}
use Rattle.sampled_files.proofs.Records.{some, in-file, its-kind, its-good, its-body, its-u, its-v, its-control}

module _ (R : Rooms) (s : List ℕ) (m : Model) (h : read_of R s ≡ read m) (number : ℕ) (b : Body) (o : HasBody m number b) (c : Carried b) where
  abbrev t : Tables
  t = tables_of R m

  abbrev cs : List Corner
  cs = o.one.corners

  abbrev x : Vertices
  x = m.vertices

  body_is : body_of t number ≡ laid_body (0 + parameters_in (bodies_of o.before)) (0 + summed part_count (bodies_of o.before)) b
  body_is = its-body R s m h number b o

  types : (b.basis ≡ bezier) ⊎ (b.basis ≡ bspline) → ((body_of t number).basis ≡ 1) ⊎ ((body_of t number).basis ≡ 2)
  types (inl e) = inl (ap (λ (y : records.Body). y.basis) body_is ∙ ap basis_number e)
  types (inr e) = inr (ap (λ (y : records.Body). y.basis) body_is ∙ ap basis_number e)

  plain : (body_of t number).rational ≡ 0
  plain = ap (λ (y : records.Body). y.rational) body_is ∙ ap flag c.plain

  used : number ≤ (used_of m).elements
  used = let e = used-elements m in let f = in-file R s m h number b o in omega arith

  pub its-obeying : Obeying (used_of m) t number
  its-obeying =
      (record { some = some R s m h number b o; in_use = used; plain = plain; type = types c.type }, obeyed R s m h number (some R s m h number b o) (in-file R s m h number b o))

  its-start : (p : ℤ) → b.start-u ≤ℤ p → (body_of t number).start_u ≤ℤ p
  its-start p = subst (λ (z : ℤ). z ≤ℤ p) (sym (ap (λ (q : records.Body). q.start_u) body_is))

  its-end : (p : ℤ) → p ≤ℤ b.end-u → p ≤ℤ (body_of t number).end_u
  its-end p = subst (λ (z : ℤ). p ≤ℤ z) (sym (ap (λ (q : records.Body). q.end_u) body_is))

  -- ---- curves
  module _ (k : (b.free ≡ curve) ⊎ (b.free ≡ curve2)) where
    pub is-curve : IsCurve t number
    is-curve = kinds k
      where
        kinds : (b.free ≡ curve) ⊎ (b.free ≡ curve2) → IsCurve t number
        kinds (inl e) = inl (its-kind R s m h number b o ∙ ap free_number e)
        kinds (inr e) = inr (its-kind R s m h number b o ∙ ap free_number e)

    pub axes-are : axes_of (element_of t number) ≡ axes_in b.free
    axes-are = ap (λ (n : ℕ). cond (eqb n 5) 2 3) (its-kind R s m h number b o) ∙ by_kind b.free
      where
        by_kind : (f : Free) → cond (eqb (free_number f) 5) 2 3 ≡ axes_in f
        by_kind curve = refl
        by_kind curve2 = refl
        by_kind surface = refl

    many : length cs ≡ (along_u b).controls
    many = go k
      where
        go : (b.free ≡ curve) ⊎ (b.free ≡ curve2) → length cs ≡ (along_u b).controls
        go (inl e) = count-is b.basis b.degree-u (length b.us) (length cs) (curve-kept x _ b cs (its-good R s m h number b o) e).counts
        go (inr e) = count-is b.basis b.degree-u (length b.us) (length cs) (curve2-kept x _ b cs (its-good R s m h number b o) e).counts

    exact : (p : ℤ) (axis : ℕ) → axis < axes_in b.free → curve_exact (direction_u t (body_of t number)) p (control_of t (element_of t number) axis) ≡ curve_exact (along_u b) p (control_in x b.free cs axis)
    exact p axis a =
        ap (λ (d : Direction). curve_exact d p (control_of t (element_of t number) axis)) (its-u R s m h number b o c.type)
        ∙ exact_same (along_u b) p (control_of t (element_of t number) axis) (control_in x b.free cs axis) (λ i l. its-control R s m h number b o axis i (let e = many in omega arith) a)

    pub close : (p : ℤ) (axis : ℕ) (z : ℤ) → axis < axes_in b.free → OnCurve t number p axis z → Close z (curve_exact (along_u b) p (control_in x b.free cs axis)) b.degree-u
    close p axis z a q =
        subst (λ (n : ℕ). Close z (curve_exact (along_u b) p (control_in x b.free cs axis)) n) (ap (λ (y : records.Body). y.degree_u) body_is)
        (subst (λ (f : Frac). Close z f (body_of t number).degree_u) (exact p axis a) q)

    curve-point : (p : ℤ) → b.start-u ≤ℤ p → p ≤ℤ b.end-u → PointOnCurve m b cs p (point_on_curve (used_of m) t number p)
    curve-point p f g =
        let a = points-on-curves (used_of m) t number p (its-obeying, is-curve) (its-start p f) (its-end p g) in
        record {
          given = a.given;
          axes = ap length a.rounded ∙ listed-length (axes_of (element_of t number)) _ ∙ axes-are;
          near = λ axis l. close p axis _ l (a.near axis (let e = axes-are in omega arith));
        }

    run-points : (steps at : ℕ) (points : List ℤ) → 1 ≤ steps → steps ≤ 65536 → at + axes_in b.free * (steps + 1) ≤ length points → PointsOfRun m b cs steps at (run_into (used_of m) t number steps at points)
    run-points steps at points f g l =
        let room : at + axes_of (element_of t number) * (steps + 1) ≤ length points = subst (λ (n : ℕ). at + n * (steps + 1) ≤ length points) (sym axes-are) l in
        let a = runs-on-curves (used_of m) t number steps at points (its-obeying, is-curve) f g room in
        record {
          given = ap (λ (r : RunAnswer). r.outcome.number) a.rounded;
          count = ap (λ (r : RunAnswer). r.outcome.count) a.rounded ∙ ap (λ (n : ℕ). n * (steps + 1)) axes-are;
          near = λ j axis d e. point a j axis d e;
        }
      where
        point : RunClaim t number steps at points (run_into (used_of m) t number steps at points) → (j axis : ℕ) → j ≤ steps → axis < axes_in b.free
            → Close (get_or (run_into (used_of m) t number steps at points).points (at + (axes_in b.free * j + axis)) (pos 0))
            (curve_exact (along_u b) (parameter_at b.start-u b.end-u steps j) (control_in x b.free cs axis)) b.degree-u
        point a j axis d e =
            let q = a.near j axis d (let w = axes-are in omega arith) in
            let q' =
            subst (λ (n : ℕ). OnCurve t number (parameter_at (body_of t number).start_u (body_of t number).end_u steps j) axis (get_or (run_into (used_of m) t number steps at points).points (at + (n * j + axis)) (pos 0)))
            axes-are q in
            close (parameter_at b.start-u b.end-u steps j) axis (get_or (run_into (used_of m) t number steps at points).points (at + (axes_in b.free * j + axis)) (pos 0)) e
            (subst (λ (y : records.Body). OnCurve t number (parameter_at y.start_u y.end_u steps j) axis (get_or (run_into (used_of m) t number steps at points).points (at + (axes_in b.free * j + axis)) (pos 0)))
            body_is q')

  -- ---- surfaces
  module _ (k : b.free ≡ surface) where
    grid-many : length cs ≡ (along_u b).controls * (along_v b).controls
    grid-many =
        counts-are b.basis b.degree-u (length b.us) b.degree-v (length b.vs) (length cs) (surface-kept x _ b cs (its-good R s m h number b o) k).counts

    grid : (p q : ℤ) (axis : ℕ) → axis < 3
        → surface_exact (direction_u t (body_of t number)) (direction_v t (body_of t number)) p q (grid_of t (element_of t number) (body_of t number) axis) ≡ surface_exact (along_u b) (along_v b) p q (grid_in x b cs axis)
    grid p q axis a =
        let e = element_of t number in
        ap₂ (λ (u v : Direction). surface_exact u v p q (λ i j. control_of t e axis (j * u.controls + i))) (its-u R s m h number b o c.type) (its-v R s m h number b o c.type)
        ∙ grid-same (along_u b) (along_v b) p q (λ i j. control_of t e axis (j * (along_u b).controls + i)) (grid_in x b cs axis)
        (λ i j l d. its-control R s m h number b o axis (j * (along_u b).controls + i) (let w = in-grid (along_u b).controls (along_v b).controls i j l d in let n = grid-many in omega arith) (subst (λ (f : Free). axis < axes_in f) (sym k) a)
        ∙ ap (λ (f : Free). control_in x f cs axis (j * (along_u b).controls + i)) k)

    surface-point : (p q : ℤ) → b.start-u ≤ℤ p → p ≤ℤ b.end-u → b.start-v ≤ℤ q → q ≤ℤ b.end-v → PointOnSurface m b cs p q (point_on_surface (used_of m) t number p q)
    surface-point p q f g d e =
        let a =
        points-on-surfaces (used_of m) t number p q (its-obeying, its-kind R s m h number b o ∙ ap free_number k) (its-start p f) (its-end p g) (subst (λ (z : ℤ). z ≤ℤ q) (sym (ap (λ (y : records.Body). y.start_v) body_is)) d)
        (subst (λ (z : ℤ). q ≤ℤ z) (sym (ap (λ (y : records.Body). y.end_v) body_is)) e) in
        record {
          given = a.given;
          axes = ap length a.rounded ∙ listed-length 3 (surface_at t (element_of t number) (body_of t number) p q);
          near = λ axis l. near axis (get_or (point_on_surface (used_of m) t number p q).outcome.coordinates axis (pos 0)) l (a.near axis l);
        }
      where
        near : (axis : ℕ) (z : ℤ) → axis < 3 → OnSurface t number p q axis z → Close z (surface_exact (along_u b) (along_v b) p q (grid_in x b cs axis)) (b.degree-u + b.degree-v)
        near axis z l w =
            subst (λ (y : records.Body). Close z (surface_exact (along_u b) (along_v b) p q (grid_in x b cs axis)) (y.degree_u + y.degree_v)) body_is
            (subst (λ (y : Frac). Close z y ((body_of t number).degree_u + (body_of t number).degree_v)) (grid p q axis l) w)

pub accepted-curves : AcceptedCurves
accepted-curves R s m h number b o c k p f g = curve-point R s m h number b o c k p f g

pub accepted-runs : AcceptedRuns
accepted-runs R s m h number b o c k steps at points f g l = run-points R s m h number b o c k steps at points f g l

pub accepted-surfaces : AcceptedSurfaces
accepted-surfaces R s m h number b o c k p q f g d e = surface-point R s m h number b o c k p q f g d e
