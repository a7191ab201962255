-- What is counted and what is written are the definition's points.
use mathlib.Core.Path.{◌≡◌, sym, ap, ap₂, ◌∙◌}
use mathlib.Core.Bool.{false}
use mathlib.Core.List.{List, ◌++◌}
use Prim.Native.Nat.{ℕ, ◌+◌, ◌*◌, ◌≤◌}
use native.Mathlib.Omega.{arith}
use native.Mathlib.Nat.{mul-le-mul}
use lib.IntN.{ℤ, pos}
use lib.ListN.{length}
use lib.Seq.{sets, length-sets}
use lib.Signed.{lt_z, ≤ℤ_refl}
use mir.Syntax.{w32}
use mir.Val.{to_z, of_z}
use mir.Facts.{to_z-of_z}
use Rattle.std.specs.Prelude.{Result}
use Rattle.refusals.specs.declared.Reason.{Reason}
use Rattle.tables.specs.Tables.{Tables}
use Rattle.tables.specs.Lent.{lent}
use Rattle.tables.specs.declared.Body.{Body}
use Rattle.tables.specs.declared.Element.{Element}
use Rattle.tables.proofs.Bits.{fitted}
use Rattle.sampler.specs.Points.{axes_of}
use Rattle.sampler.specs.declared.Point.{Point}
use Rattle.sampler.specs.Answers.{PointAnswer, point_answer, point_outcome}
use Rattle.sampler.specs.Sampling.{answer_on_curve}
use Rattle.point_chords.specs.Chords.{ends, numbers, parameters}
use Rattle.polyline.specs.Inner.{PieceEnds, coordinates_of}
use Rattle.polyline.proofs.Halves.{counted, ends-few, interval-read, room-first, room-second, both-written, room-read, written}
use Rattle.polyline.proofs.Granted.{curve-axes, is_negative, is-full, is-filled, numbers-many}
use Rattle.polyline.proofs.polyline_at.Goals as goal
use Rattle.polyline.proofs.polyline_at.Goals.{After-axes_in, After-write}

pub returns-then-tolerance-lt0 : goal.returns-then-tolerance-lt0
returns-then-tolerance-lt0 c =
    let a = c.args in
    is_negative (coordinates_of (lent a.t.now) a.element a.body) (axes_of a.element) a.body.start_u a.body.end_u a.tolerance a.at a.points.now (rw (to_z-of_z c.ranges.tolerance) at c.if-tolerance-lt0.true)

pub curve_at-first-requires : goal.curve_at-first-requires
curve_at-first-requires c = c.requires

pub curve_at-last-requires : goal.curve_at-last-requires
curve_at-last-requires c = c.requires

-- what is sampled at both ends
piece : (t : Tables) (e : Element) (b : Body) {p q : Result Point Reason} {s f : ℤ} → s ≡ b.start_u → f ≡ b.end_u
    → point_answer p ≡ answer_on_curve t e b s → point_answer q ≡ answer_on_curve t e b f → PieceEnds (coordinates_of t e b) b.start_u b.end_u p q
piece t e b g h k l =
    record {
      start_is = ap (λ (x : PointAnswer). x.outcome.coordinates) (k ∙ ap (answer_on_curve t e b) g);
      end_is = ap (λ (x : PointAnswer). x.outcome.coordinates) (l ∙ ap (answer_on_curve t e b) h);
    }

pub count-chords-requires : goal.count-chords-requires
count-chords-requires c =
    let a = c.args in
    let s = fitted {z = a.body.start_u} c.struct_told-1.given.1.1.1.1.1.1.1.1.1.0.1 in
    let f = fitted {z = a.body.end_u} c.type_inv.body.1.1.1.1.1.1.1.1.1.1.0.1 in
    (omega arith, (c.requires, interval-read s f (piece (lent a.t.now) a.element a.body s f c.curve_at-first.ensures c.curve_at-last.ensures)))

-- the points, counted
module _ (c : After-axes_in) where
  abbrev point : ℤ → List ℤ
  point = coordinates_of (lent c.args.t.now) c.args.element c.args.body

  abbrev start : ℤ
  start = c.args.body.start_u

  abbrev end : ℤ
  end = c.args.body.end_u

  start_is : to_z w32 (of_z w32 start) ≡ start
  start_is = fitted {z = start} c.struct_told-1.given.1.1.1.1.1.1.1.1.1.0.1

  end_is : to_z w32 (of_z w32 end) ≡ end
  end_is = fitted {z = end} c.type_inv.body.1.1.1.1.1.1.1.1.1.1.0.1

  interval : PieceEnds point start end c.curve_at-first.result c.curve_at-last.result
  interval = piece (lent c.args.t.now) c.args.element c.args.body start_is end_is c.curve_at-first.ensures c.curve_at-last.ensures

  -- the first point's coordinates, those of the ends of the chords, and all parameters
  abbrev first : List ℤ
  first = (point_outcome c.curve_at-first.result).coordinates

  abbrev tail : List ℤ
  tail = ends point c.args.tolerance 12 start end

  abbrev all : List ℤ
  all = parameters point c.args.tolerance start end

  joined : numbers point all ≡ first ++ numbers point tail
  joined = ap (λ (x : List ℤ). x ++ numbers point tail) (sym interval.start_is)

  chords-are : c.count-chords.result ≡ length tail
  chords-are = counted point 12 c.count-chords.ensures (to_z-of_z c.ranges.tolerance) start_is end_is

  chords-few : c.count-chords.result ≤ 4096
  chords-few = omega (arith, chords-are, ends-few point c.args.tolerance start end (let h : 12 ≤ 12 = omega arith in h))

  points-are : c.count-chords.result + 1 ≡ length all
  points-are = omega (arith, chords-are)

  axes-are : c.axes_in.result ≡ axes_of c.args.element
  axes-are = c.axes_in.ensures.0 ∙ ap length interval.start_is ∙ curve-axes (lent c.args.t.now) c.args.element c.args.body start (≤ℤ_refl start) c.requires.along.ranged.ordered

  total : c.axes_in.result * (c.count-chords.result + 1) ≡ axes_of c.args.element * length all
  total = ap₂ (λ (x y : ℕ). x * y) axes-are points-are

  tolerance-is : lt_z c.args.tolerance (pos 0) ≡ false
  tolerance-is = rw (to_z-of_z c.ranges.tolerance) at c.if-tolerance-lt0.false

  numbers-are : length (numbers point all) ≡ axes_of c.args.element * length all
  numbers-are =
      let a = c.args in
      numbers-many point (axes_of a.element) start end a.tolerance a.at a.points.now c.requires.along.ranged.ordered (curve-axes (lent a.t.now) a.element a.body)

pub overflow_add-numbers : goal.overflow_add-numbers
overflow_add-numbers c = record { fits = omega (arith, chords-few (goal.at.overflow_add-numbers c).After-axes_in) }

pub overflow_mul-numbers : goal.overflow_mul-numbers
overflow_mul-numbers c =
    let h : c.count-chords.result + 1 ≤ 4097 = omega (arith, chords-few (goal.at.overflow_mul-numbers c).After-axes_in) in
    record { fits = omega (arith, mul-le-mul c.axes_in.ensures.1 h) }

pub returns-then-points-numbers : goal.returns-then-points-numbers
returns-then-points-numbers c =
    let a = c.args in
    let k = (goal.at.returns-then-points-numbers c).After-axes_in in
    is-full (point k) (axes_of a.element) (start k) (end k) a.tolerance a.at a.points.now (tolerance-is k) (omega (arith, sym (total k), c.if-points-numbers.true))

pub returns-then-points-numbers-2 : goal.returns-then-points-numbers-2
returns-then-points-numbers-2 c =
    let a = c.args in
    let k = (goal.at.returns-then-points-numbers-2 c).After-axes_in in
    is-full (point k) (axes_of a.element) (start k) (end k) a.tolerance a.at a.points.now (tolerance-is k) (omega (arith, sym (total k), c.if-points-numbers.false, c.if-points-numbers-2.true))

pub store-next-requires : goal.store-next-requires
store-next-requires c =
    let a = c.args in
    let k = (goal.at.store-next-requires c).After-axes_in in
    room-first a.at (length a.points.now) (first k) (numbers (point k) (tail k)) (joined k)
    (omega (arith, sym (total k), numbers-are k, c.if-points-numbers.false, c.if-points-numbers-2.false))

pub write-requires : goal.write-requires
write-requires c =
    let a = c.args in
    let k = (goal.at.write-requires c).After-axes_in in
    let long : length c.store-next.new.points ≡ length a.points.now = ap length c.store-next.ensures.1 ∙ length-sets a.points.now a.at (first k) in (
      room-read (point k) 12 (to_z-of_z c.ranges.tolerance) (start_is k) (end_is k) c.store-next.result (length c.store-next.new.points)
          (room-second a.at (length a.points.now) (first k) (numbers (point k) (tail k)) (joined k) c.store-next.ensures.0 long
          (omega (arith, sym (total k), numbers-are k, c.if-points-numbers.false, c.if-points-numbers-2.false))),
      (c.requires, interval-read (start_is k) (end_is k) (interval k)),
    )

pub overflow_add-result : goal.overflow_add-result
overflow_add-result c = record { fits = omega (arith, chords-few (goal.at.overflow_add-result c).After-axes_in) }

-- what is written
module _ (c : After-write) where
  abbrev parts : ℤ → List ℤ
  parts = coordinates_of (lent c.args.t.now) c.args.element c.args.body

  all-written : {s f : ℤ} → to_z w32 (of_z w32 c.args.body.start_u) ≡ s → to_z w32 (of_z w32 c.args.body.end_u) ≡ f
      → numbers parts (parameters parts c.args.tolerance s f) ≡ (point_outcome c.curve_at-first.result).coordinates ++ numbers parts (ends parts c.args.tolerance 12 s f)
      → c.write.new.points ≡ sets c.args.points.now c.args.at (numbers parts (parameters parts c.args.tolerance s f))
  all-written {s} {f} g h j =
      let a = c.args in
      let w = written parts 12 (to_z-of_z c.ranges.tolerance) g h c.store-next.result c.store-next.new.points c.write.ensures in
      (both-written a.at 0 _ _ j a.points.now c.store-next.ensures.0 c.store-next.ensures.1 w.0 w.1).1

pub shape_of-points : goal.shape_of-points
shape_of-points c =
    let k = (goal.at.shape_of-points c).After-axes_in in
    ap length (all-written (goal.at.shape_of-points c).After-write (start_is k) (end_is k) (joined k)) ∙ length-sets c.args.points.now c.args.at (numbers (point k) (all k))

pub returns : goal.returns
returns c =
    let a = c.args in
    let k = (goal.at.returns c).After-axes_in in
    is-filled (point k) (axes_of a.element) (start k) (end k) a.tolerance a.at a.points.now c.requires.along.ranged.ordered (curve-axes (lent a.t.now) a.element a.body) (tolerance-is k)
    (points-are k) (omega (arith, sym (total k), c.if-points-numbers.false, c.if-points-numbers-2.false)) (all-written (goal.at.returns c).After-write (start_is k) (end_is k) (joined k))
