-- Each test leads to its line of the definition.
use mathlib.Core.Path.{◌≡◌, sym, ap, ◌∙◌}
use mathlib.Core.Bool.{Bool}
use mathlib.Core.List.{List}
use lib.IntN.{ℤ}
use mir.Syntax.{w32}
use mir.Val.{to_z, of_z}
use mir.Facts.{to_z-of_z}
use Rattle.std.specs.Prelude.{Result, Some}
use Rattle.refusals.specs.declared.Reason.{Reason}
use Rattle.tables.specs.Lent.{lent}
use Rattle.sampler.specs.declared.Point.{Point}
use Rattle.sampler.specs.Answers.{PointAnswer, point_answer}
use Rattle.sampler.specs.Sampling.{answer_on_curve}
use Rattle.point_chords.specs.Chords.{middle, short_interval, straight}
use Rattle.polyline.specs.declared.Halved.{Halved}
use Rattle.polyline.proofs.Halves.{split-none, split-short, split-straight, split-halves}
use Rattle.polyline.proofs.split_of.Goals as goal
use Rattle.polyline.proofs.split_of.Goals.{then-depth-eq0-via-then-depth-eq0, then-depth-eq0-via-else-depth-eq0+then-is_short, After-is_straight}

-- the tests' numbers are the interval's
straight-read : {r : Bool} {t t' : ℤ} {p p' m m' q q' : List ℤ} → r ≡ straight t' p' m' q' → t' ≡ t → p' ≡ p → m' ≡ m → q' ≡ q → r ≡ straight t p m q
straight-read e f g h k = rw (f, g, h, k) at e

halved-eq : {m n : ℤ} {p q : Result Point Reason} → m ≡ n → p ≡ q → ◌≡◌ {A = Halved} (record { middle = m; point = p }) (record { middle = n; point = q })
halved-eq e f = rw (e, f)

pub returns-then-depth-eq0 : goal.returns-then-depth-eq0
returns-then-depth-eq0 c =
    let a = c.args in
    let sample = answer_on_curve (lent a.t.now) a.element a.body in
    elim c.then-depth-eq0.branch [
      | then-depth-eq0-via-then-depth-eq0 w ↦ split-none sample a.tolerance a.a a.b a.depth w.if-depth-eq0.true
      | then-depth-eq0-via-else-depth-eq0+then-is_short w ↦ split-short sample a.tolerance a.a a.b a.depth (sym (rw (to_z-of_z c.ranges.a, to_z-of_z c.ranges.b) at w.is_short.ensures) ∙ w.if-is_short.true)
    ]

pub curve_at-point-requires : goal.curve_at-point-requires
curve_at-point-requires c = c.requires.0

-- what is sampled at the middle
module _ (c : After-is_straight) where
  abbrev sample : ℤ → PointAnswer
  sample = answer_on_curve (lent c.args.t.now) c.args.element c.args.body

  abbrev point : ℤ → List ℤ
  point p = (sample p).outcome.coordinates

  middle-is : to_z w32 (of_z w32 c.middle_of-middle.result) ≡ middle c.args.a c.args.b
  middle-is = to_z-of_z {w = w32} (record { sfits = c.middle_of-middle.type_inv }) ∙ (rw (to_z-of_z c.ranges.a, to_z-of_z c.ranges.b) at c.middle_of-middle.ensures)

  sampled-is : point_answer c.curve_at-point.result ≡ sample (middle c.args.a c.args.b)
  sampled-is = c.curve_at-point.ensures ∙ ap sample middle-is

  long : short_interval c.args.a c.args.b ≡ c.is_short.result
  long = sym (rw (to_z-of_z c.ranges.a, to_z-of_z c.ranges.b) at c.is_short.ensures)

  straight-is : c.is_straight.result ≡ straight c.args.tolerance (point c.args.a) (point (middle c.args.a c.args.b)) (point c.args.b)
  straight-is =
      straight-read c.is_straight.ensures (to_z-of_z c.ranges.tolerance) c.requires.1.start_is (ap (λ (x : PointAnswer). x.outcome.coordinates) sampled-is) c.requires.1.end_is

pub returns-then-is_straight : goal.returns-then-is_straight
returns-then-is_straight c =
    let a = c.args in
    let k = (goal.at.returns-then-is_straight c).After-is_straight in
    split-straight (sample k) a.tolerance a.a a.b a.depth (long k ∙ c.if-is_short.false) (sym (straight-is k) ∙ c.if-is_straight.true)

pub returns : goal.returns
returns c =
    let a = c.args in
    let k = (goal.at.returns c).After-is_straight in
    ap Some (halved-eq (middle-is k) (ap (λ (x : PointAnswer). x.answer) (sampled-is k)))
    ∙ split-halves (sample k) a.tolerance a.a a.b a.depth (long k ∙ c.if-is_short.false) c.if-depth-eq0.false (sym (straight-is k) ∙ c.if-is_straight.false)
