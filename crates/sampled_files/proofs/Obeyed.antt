-- Every element of an accepted text obeys the rules: kind by kind, its row, its corners and its body read back.
use Prim.Native.Nat.{ℕ, suc, ◌+◌, ◌*◌, ◌-◌, ◌<◌}
use mathlib.Core.Path.{◌≡◌, refl, ap, ◌∙◌, subst}
use mathlib.Core.List.{List}
use mathlib.Core.Bool.{true, false, ◌&&◌, ◌||◌}
use native.Mathlib.Omega.{arith}
use borrow.Author.Tests.{leb-true, le-leb}
use lib.ListN.{length, get_or}
use lib.Dec.{leb, eqb}
use Rattle.lists.proofs.Tests.{and_left, and_right, and_both}
use Rattle.references.specs.Corner.{Corner, Parts}
use Rattle.references.specs.Fits.{reference_fits}
use Rattle.tables.specs.Tables.{Tables}
use Rattle.tables.specs.Records.{body_width, range_width, body_at}
use Rattle.tables.specs.Asking.{held, body_held}
use Rattle.tables.specs.declared.Used.{Used}
use Rattle.model.specs.Model.{Vertices, Free, curve, curve2, surface, along-u, Body, Kind, plain, free, Element, Model, curves}
use Rattle.model.specs.Parse.{a-corner, a-control, corner}
use Rattle.model.specs.Room.{part_count, summed}
use Rattle.model.specs.Layout.{free_number, kind_number, body_number, bodies_of, tables_of, used_of}
use Rattle.tidy_form.specs.Tidied.{at_line}
use Rattle.tidy_form.proofs.Words.{Fits}
use Rattle.tidy_form.proofs.Standing.{seen_of, wide, wide_in}
use Rattle.tidy_form.proofs.Good.{GoodKind, GoodBody}
use Rattle.tidy_form.proofs.Keep.{degrees-form}
use Rattle.record_rules.specs.Corners.{least_corners, with_texture, with_normal, point_obeys, corners_obey}
use Rattle.record_rules.specs.Bodies.{record_obeys, body_obeys}
use Rattle.record_rules.specs.Rules.{obeys, curves_before}
use Rattle.sampled_files.specs.Accepted.{EveryElementObeys}
use Rattle.tidy_form.proofs.Bodies.{unsettled-free}
use Rattle.model.proofs.Stands.{Among, among}
use Rattle.sampled_files.proofs.Vertices.{all-at, control-obeys}
use Rattle.sampled_files.proofs.Corners.{CornerKept}
use Rattle.model.proofs.Laid.{Laid, laid}
use Rattle.tidy_form.proofs.Placed.{Kept, kept}
use Rattle.model.proofs.ElementRows.{no_corner, corners_in, laid_run, laid_element, row_of}
use Rattle.sampled_files.proofs.Elements.{Good, good-element, curves-before, element-obeys}
use Rattle.sampled_files.proofs.Plain.{fitting-at, corner-fits, Pattern, corner-kept, its-corners, plain-obeys}
use Rattle.model.proofs.BodyRows.{body-among, laid_body, parameters_in, BodyRow, body-row}
use Rattle.sampled_files.proofs.Directions.{Controls, controls-of, parameters-of}
use Rattle.sampled_files.proofs.Curves.{curve-kept, curve2-kept, curve-record}
use Rattle.sampled_files.proofs.Surfaces.{surface-kept, surface-record}

curve-pattern : Pattern 4 2 (record { vt = false; vn = false })
unfolding with_texture with_normal least_corners
curve-pattern = record { other = refl; texture = refl; normal = refl; least = refl }

surface-pattern : Pattern 6 1 (record { vt = true; vn = true })
unfolding with_texture with_normal least_corners
surface-pattern = record { other = refl; texture = refl; normal = refl; least = refl }

module _ (u : Used) (t : Tables) (m : Model) (L : Laid u t m) (K : Kept m) where
  abbrev x : Vertices
  x = m.vertices

  abbrev es : List Element
  es = m.elements

  -- a curv2's control, one of the vp with two coordinates or more
  control-kept : (n : ℕ) (c : Corner) → Fits (seen_of x n) a-control (corner c) → wide x c ≡ true → CornerKept u t 5 c
  unfolding point_obeys
  control-kept n c f w =
      let e = f.1 in
      let d : Corner = record { v = f.0; vt = 0; vn = 0 } in
      let q : c ≡ d = cc in
      let h : reference_fits (length x.vp) c.v ≡ true = ap (λ (y : Corner). reference_fits (length x.vp) y.v) q ∙ f.2 in
      record {
        point =
            control-obeys t.vertices.vp x.vp K.vp L.vp u.vp c.v L.used-vp (leb-true 1 c.v (and_left (leb 1 c.v) _ h))
            (leb-true c.v (length x.vp) (and_right (leb 1 c.v) _ h)) w;
        vt = ap (λ (y : Corner). eqb y.vt 0 || (with_texture 5 && reference_fits u.vt y.vt)) q;
        vn = ap (λ (y : Corner). eqb y.vn 0 || (with_normal 5 && reference_fits u.vn y.vn)) q;
      }

  module _ (i : ℕ) (a : Among es i) (g : Good x es i a) (b : Body) (q : a.one.kind ≡ free b) where
    abbrev cs : List Corner
    cs = a.one.corners

    abbrev n : ℕ
    n = curves a.before

    good : GoodBody x n b cs
    good = subst (λ (k : Kind). GoodKind x n k cs) q g.kind

    abbrev j : ℕ
    j = length (bodies_of a.before)

    abbrev at : Among (bodies_of es) j
    at = body-among es i a b q

    abbrev P : ℕ
    P = 0 + parameters_in (bodies_of a.before)

    abbrev N : ℕ
    N = 0 + summed part_count (bodies_of a.before)

    its-body : BodyRow u t j P N b
    its-body = body-row u t m L j at

    its-controls : (k : Free) → b.free ≡ k → Controls (seen_of x n) k cs
    its-controls k e = subst (λ (y : Free). Controls (seen_of x n) y cs) (unsettled-free b.free b ∙ e) (controls-of x n (at_line b) cs good.line)

    its-wide : (k : Free) → b.free ≡ k → wide_in k x cs ≡ true
    its-wide k e = subst (λ (y : Free). wide_in y x cs ≡ true) (unsettled-free b.free b ∙ e) good.line.whole.1

    body-obeys : (kind count : ℕ) → record_obeys u t n kind count (laid_body P N b) ≡ true → body_obeys u t n kind count (suc j) ≡ true
    unfolding body_obeys body_held held
    body-obeys kind count h =
        let r = its-body in
        let e : suc j - 1 ≡ j = omega arith in
        and_both
        (and_both (and_both (and_both (le-leb 1 (suc j) (omega arith)) (le-leb (suc j) u.bodies r.used)) (le-leb (body_width * suc j) (length t.bodies.bodies) r.lent-body))
        (le-leb (range_width * suc j) (length t.bodies.ranges) r.lent-range))
        (ap (record_obeys u t n kind count) (ap (body_at t) e ∙ r.is) ∙ h)

    free-obeys : (k : Free) → b.free ≡ k → leb 1 (free_number k) ≡ true → leb (free_number k) 6 ≡ true → leb (free_number k) 3 ≡ false
        → corners_obey u t (free_number k) (laid_run (corners_in a.before) cs) ≡ true → record_obeys u t n (free_number k) (length cs) (laid_body P N b) ≡ true → obeys u t n i ≡ true
    free-obeys k e l₁ l₂ l₃ c r =
        let w = row_of t es i L.elements a in
        element-obeys u t n i (free_number k) (suc j) (laid_element (corners_in a.before) j a.one) w.lent w.is
        (ap kind_number q ∙ ap free_number e) (ap (λ (y : Kind). body_number y j) q)
        l₁ l₂ g.smoothing c (rw l₃ (body-obeys (free_number k) (length cs) r))

    few : (leb b.degree-u 20 ≡ true) × (leb b.degree-v 20 ≡ true)
    few = degrees-form x n b.degree-u b.degree-v (good.degrees x n)

    curve-element : b.free ≡ curve → obeys u t n i ≡ true
    curve-element e =
        let p : Parts = record { vt = false; vn = false } in
        let c = its-controls curve e in
        free-obeys curve e refl refl refl
        (its-corners u t m L K i a 4 (let l = curve-pattern.least in let h = c.least in omega arith) good.line.whole.0
        (λ k h. corner-kept u t m L K 4 2 p curve-pattern (get_or cs k no_corner) (corner-fits (seen_of x n) p (get_or cs k no_corner) (fitting-at (seen_of x n) (a-corner p) 2 cs k c.fits h))))
        (curve-record u t j P N b its-body false (length cs) (curve-kept x n b cs good e) n 4 refl refl few.0 (parameters-of along-u b.us good.us))

    curve2-element : b.free ≡ curve2 → obeys u t n i ≡ true
    unfolding least_corners
    curve2-element e =
        let c = its-controls curve2 e in
        free-obeys curve2 e refl refl refl
        (its-corners u t m L K i a 5 c.least good.line.whole.0
        (λ k h. control-kept n (get_or cs k no_corner) (fitting-at (seen_of x n) a-control 0 cs k c.fits h) (all-at (wide x) cs k no_corner (its-wide curve2 e) h)))
        (curve-record u t j P N b its-body true (length cs) (curve2-kept x n b cs good e) n 5 refl refl few.0 (parameters-of along-u b.us good.us))

    surface-element : b.free ≡ surface → obeys u t n i ≡ true
    surface-element e =
        let p : Parts = record { vt = true; vn = true } in
        let c = its-controls surface e in
        free-obeys surface e refl refl refl
        (its-corners u t m L K i a 6 (let l = surface-pattern.least in let h = c.least in omega arith) good.line.whole.0
        (λ k h. corner-kept u t m L K 6 1 p surface-pattern (get_or cs k no_corner) (corner-fits (seen_of x n) p (get_or cs k no_corner) (fitting-at (seen_of x n) (a-corner p) 4 cs k c.fits h))))
        (surface-record u t j P N b its-body x n (length cs) (surface-kept x n b cs good e) few.0 few.1 (parameters-of along-u b.us good.us))

    body-element : (k : Free) → b.free ≡ k → obeys u t n i ≡ true
    body-element curve e = curve-element e
    body-element curve2 e = curve2-element e
    body-element surface e = surface-element e

  its-kind : (i : ℕ) (a : Among es i) → Good x es i a → (k : Kind) → a.one.kind ≡ k → obeys u t (curves a.before) i ≡ true
  its-kind i a g (plain k) q = plain-obeys u t m L K i a (curves a.before) k q g
  its-kind i a g (free b) q = body-element i a g b q b.free refl

  pub each-obeys : (i : ℕ) → i < length es → obeys u t (curves_before t i) i ≡ true
  each-obeys i h =
      let a = among es i h in
      ap (λ (n : ℕ). obeys u t n i) (curves-before t es i L.elements a h) ∙ its-kind i a (good-element x es K.last i K.elements a) a.one.kind refl

pub every-element-obeys : EveryElementObeys
every-element-obeys R s m h i l = each-obeys (used_of m) (tables_of R m) m (laid R m) (kept R s m h) i l
