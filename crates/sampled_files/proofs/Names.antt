-- Sampling does not look at names: tables that differ in the last four numbers of their elements' rows alone are sampled alike. By what each test and answer reads.
use Prim.Native.Nat.{ℕ, zero, suc, ◌+◌, ◌*◌, ◌-◌, ◌<◌}
use mathlib.Core.Path.{◌≡◌, refl, sym, ap, ap₂, ◌∙◌}
use mathlib.Core.List.{List}
use mathlib.Core.Bool.{Bool, true, false, cond, ◌&&◌}
use native.Mathlib.Omega.{arith}
use lib.ListN.{length}
use lib.Dec.{leb, eqb}
use lib.IntN.{ℤ}
use Rattle.tables.specs.Tables.{Tables}
use Rattle.tables.specs.Records.{number_at, element_at, body_at, element_width}
use Rattle.tables.specs.declared.CornerRun.{CornerRun}
use Rattle.tables.specs.declared.Body.{Body}
use Rattle.tables.specs.declared.Element.{Element}
use Rattle.tables.specs.declared.Used.{Used}
use Rattle.record_rules.specs.Corners.{corner_obeys, each_corner, corners_obey}
use Rattle.record_rules.specs.Loops.{each_part, loops_obey}
use Rattle.record_rules.specs.Bodies.{surface_obeys, record_obeys, body_obeys}
use Rattle.record_rules.specs.Rules.{element_obeys, obeys, curves_among}
use Rattle.sampler.specs.Points.{axes_of, control_of, curve_at, surface_at, run_numbers}
use Rattle.std.specs.Prelude.{Option, Some, None}
use Rattle.refusals.specs.declared.Reason.{Reason}
use Rattle.refusals.specs.declared.Reason.TheVariants.{BrokenRecord, NoSuchElement, NotSampled, ParameterOutside}
use Rattle.sampler.specs.Answers.{PointAnswer, wanted, carried, element_of, body_of, refusal_of, refused_or, inside, refused_point, curve_point, point_on_curve, surface_point, point_on_surface, run_into}
use Rattle.sampler.specs.Demand3.{sampling}
use Rattle.tidy_form.proofs.Layouts.{with_element_table}
use Rattle.sampled_files.specs.Joined.{SampledAlike}

-- an element of these numbers, without names
abbrev unnamed : (kind : ℕ) → CornerRun → (body smoothing : ℕ) → Element
unnamed kind run body smoothing =
    record { kind = kind; corners = run; body = body; smoothing = smoothing; group = record { place = 0; length = 0 }; material = record { place = 0; length = 0 } }

abbrev bared : Element → Element
bared e = unnamed e.kind e.corners e.body e.smoothing

-- ---- what each definition reads: other tables than the elements, and an element without its names
element-reads : (u : Used) (t : Tables) (l : List ℕ) (n : ℕ) (e : Element) → element_obeys u (with_element_table l t) n e ≡ element_obeys u t n (bared e)
unfolding element_obeys corners_obey each_corner corner_obeys body_obeys record_obeys surface_obeys loops_obey each_part
element-reads u t l n e = refl

curve-reads : (t : Tables) (l : List ℕ) (e : Element) (b : Body) (p : ℤ) → curve_point (with_element_table l t) e b p ≡ curve_point t (bared e) b p
unfolding curve_point curve_at control_of
curve-reads t l e b p = refl

surface-reads : (t : Tables) (l : List ℕ) (e : Element) (b : Body) (p q : ℤ) → surface_point (with_element_table l t) e b p q ≡ surface_point t (bared e) b p q
unfolding surface_point surface_at control_of
surface-reads t l e b p q = refl

run-reads : (t : Tables) (l : List ℕ) (e : Element) (b : Body) (steps : ℕ) → run_numbers (with_element_table l t) e b steps ≡ run_numbers t (bared e) b steps
unfolding run_numbers curve_at control_of
run-reads t l e b steps = refl

-- ---- two tables of elements
module _ (u : Used) (t : Tables) (k l : List ℕ) (same : (i j : ℕ) → j < 5 → number_at element_width k i j ≡ number_at element_width l i j) (long : length k ≡ length l) where
  abbrev T : Tables
  T = with_element_table k t

  abbrev W : Tables
  W = with_element_table l t

  bared-same : (i : ℕ) → bared (element_at T i) ≡ bared (element_at W i)
  bared-same i = rw (same i 0 (omega arith), same i 1 (omega arith), same i 2 (omega arith), same i 3 (omega arith), same i 4 (omega arith)) refl

  curves-same : (i : ℕ) → curves_among k i ≡ curves_among l i
  curves-same zero = refl
  curves-same (suc i) = ap₂ (λ (x y : ℕ). x + cond (eqb y 5) 1 0) (curves-same i) (same i 0 (omega arith))

  obeys-same : (n i : ℕ) → obeys u T n i ≡ obeys u W n i
  unfolding obeys
  obeys-same n i =
      ap₂ (λ (x : ℕ) (b : Bool). leb (element_width * i + element_width) x && b) long
      (element-reads u t k n (element_at T i) ∙ ap (element_obeys u t n) (bared-same i) ∙ sym (element-reads u t l n (element_at W i)))

  module _ (number : ℕ) where
    abbrev i : ℕ
    i = number - 1

    body_same : body_of T number ≡ body_of W number
    body_same = ap (λ (x : ℕ). body_at t (x - 1)) (same i 3 (omega arith))

    refusal-same : (surface : Bool) → refusal_of surface u T number ≡ refusal_of surface u W number
    unfolding refusal_of
    refusal-same surface =
        let inner : (o : Bool) (b : Body) (kind len : ℕ) → Option Reason =
        λ o b kind len.
        cond (leb 1 number && leb number u.elements)
        (cond (leb (element_width * number) len) (cond (wanted surface kind) (cond o (cond (carried b.rational b.basis) None (Some NotSampled)) (Some BrokenRecord)) (Some NoSuchElement)) (Some BrokenRecord)) (Some NoSuchElement) in
        ap₂ (λ (o : Bool) (b : Body). inner o b (element_of T number).kind (length k))
        (ap (λ (n : ℕ). obeys u T n i) (curves-same i) ∙ obeys-same (curves_among l i) i) body_same
        ∙ ap₂ (λ (kind len : ℕ). inner (obeys u W (curves_among l i) i) (body_of W number) kind len) (same i 0 (omega arith)) long

    curve-same : (p : ℤ) → curve_point T (element_of T number) (body_of T number) p ≡ curve_point W (element_of W number) (body_of W number) p
    curve-same p =
        curve-reads t k (element_of T number) (body_of T number) p
        ∙ ap₂ (λ (e : Element) (b : Body). curve_point t e b p) (bared-same i) body_same
        ∙ sym (curve-reads t l (element_of W number) (body_of W number) p)

    surface-same : (p q : ℤ) → surface_point T (element_of T number) (body_of T number) p q ≡ surface_point W (element_of W number) (body_of W number) p q
    surface-same p q =
        surface-reads t k (element_of T number) (body_of T number) p q
        ∙ ap₂ (λ (e : Element) (b : Body). surface_point t e b p q) (bared-same i) body_same
        ∙ sym (surface-reads t l (element_of W number) (body_of W number) p q)

    run-same : (steps : ℕ) → run_numbers T (element_of T number) (body_of T number) steps ≡ run_numbers W (element_of W number) (body_of W number) steps
    run-same steps =
        run-reads t k (element_of T number) (body_of T number) steps
        ∙ ap₂ (λ (e : Element) (b : Body). run_numbers t e b steps) (bared-same i) body_same
        ∙ sym (run-reads t l (element_of W number) (body_of W number) steps)

    axes-same : axes_of (element_of T number) ≡ axes_of (element_of W number)
    axes-same = ap (λ (x : ℕ). cond (eqb x 5) 2 3) (same i 0 (omega arith))

    answer-curve : (p : ℤ) → point_on_curve u T number p ≡ point_on_curve u W number p
    unfolding point_on_curve
    answer-curve p =
        let answer : Option Reason → Body → PointAnswer → PointAnswer =
        λ r b c. refused_or r refused_point (cond (inside b.start_u b.end_u p) c (refused_point ParameterOutside)) in
        ap₂ (λ (r : Option Reason) (b : Body). answer r b (curve_point T (element_of T number) (body_of T number) p)) (refusal-same false) body_same
        ∙ ap (answer (refusal_of false u W number) (body_of W number)) (curve-same p)

    answer-surface : (p q : ℤ) → point_on_surface u T number p q ≡ point_on_surface u W number p q
    unfolding point_on_surface
    answer-surface p q =
        let answer : Option Reason → Body → PointAnswer → PointAnswer =
        λ r b c. refused_or r refused_point (cond (inside b.start_u b.end_u p && inside b.start_v b.end_v q) c (refused_point ParameterOutside)) in
        ap₂ (λ (r : Option Reason) (b : Body). answer r b (surface_point T (element_of T number) (body_of T number) p q)) (refusal-same true) body_same
        ∙ ap (answer (refusal_of true u W number) (body_of W number)) (surface-same p q)

    answer-run : (steps at : ℕ) (points : List ℤ) → run_into u T number steps at points ≡ run_into u W number steps at points
    unfolding run_into
    answer-run steps at points = rw (refusal-same false, run-same steps, axes-same) refl

  pub names-aside : SampledAlike sampling u T u W
  names-aside =
      record {
        curves = λ number p. answer-curve number p;
        surfaces = λ number p q. answer-surface number p q;
        runs = λ number steps at points. answer-run number steps at points;
      }
