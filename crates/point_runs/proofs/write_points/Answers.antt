-- The points so far stand before what the slice held; each parameter is at least the one before, so the search goes on from there. The row has the controls of the
-- segment or span chosen.
use mathlib.Core.Path.{◌≡◌, refl, sym, ap, ◌∙◌, subst, subst₂}
use mathlib.Core.List.{List}
use Prim.Native.Nat.{ℕ, suc, ◌+◌, ◌*◌, ◌-◌, ◌≤◌, ◌<◌}
use native.Mathlib.Numerals.{add-one}
use native.Mathlib.Omega.{arith}
use native.Mathlib.Nat.{mul-zero}
use lib.ListN.{length, length-set}
use lib.IntN.{ℤ}
use lib.Signed.{≤ℤ_refl}
use mir.Syntax.{w32}
use mir.Val.{to_z, of_z, SFits}
use mir.Facts.{to_z-of_z}
use Rattle.rounding.specs.Range.{InRange}
use Rattle.rounding.proofs.Bits.{read-back-small}
use Rattle.point_rows.specs.declared.BodyDirection.{BodyDirection}
use Rattle.point_rows.specs.Finding.{Sound, On, Hint}
use Rattle.point_rows.proofs.Searched.{limit-inside}
use Rattle.point_rows.proofs.Grids.{held-part}
use Rattle.point_guess.specs.Steps.{Encodes, Next}
use Rattle.point_guess.specs.Rows.{place_at, axis_number, Descended}
use Rattle.point_guess.specs.declared.Place.{Place}
use Rattle.point_guess.specs.declared.Row.{Row}
use Rattle.std.specs.Prelude.{Option, Some, None, IfSome}
use Rattle.point_exact.specs.Sampled.{offset_at, gap_at}
use Rattle.point_rows.specs.Places.{direction}
use Rattle.point_guess.proofs.Levels.{made_none, made_more, left_less, next_place, next_of, level-encoded, level-row, pyramid-one}
use Rattle.point_single.specs.Points.{Spanned}
use Rattle.point_single.proofs.Making.{there, span-place, curve-has}
use Rattle.point_runs.specs.Runs.{tabulated, parameter_at}
use Rattle.point_runs.specs.Inner.{coordinate_of, curve_point_at, points_upto}
use Rattle.point_runs.proofs.Steps.{parameter-first, run_sound, run-hint, room}
use Rattle.point_runs.proofs.Written.{point-written, lent-pasted, run_length, point-length}
use Rattle.point_runs.proofs.write_points.Invariants.{parts, gaps}
use Rattle.point_runs.proofs.write_points.Goals as goal
use Rattle.point_runs.proofs.write_points.Goals.{else-next-chosen, else-not-certain, else-not-certain-2, then-next-chosen, then-not-certain, then-not-certain-2, After-guessed-p-in-loop-i-2, then-n-eq3, else-n-eq3, in-Some, in-None+else-loop-i-test+else-loop-rest-test+then-n-eq0, in-None+else-loop-i-test+else-loop-rest-test+else-n-eq0, After-parameter_at-t, Joined-guess, Joined-next-chosen}

-- the parameter of this turn, read back from its bits
read-parameter : {start end : ℤ} → SFits w32 start → SFits w32 end → (steps j : ℕ) {r : ℤ} → (r ≡ parameter_at (to_z w32 (of_z w32 start)) (to_z w32 (of_z w32 end)) steps j) × InRange r
    → to_z w32 (of_z w32 r) ≡ parameter_at start end steps j
read-parameter f g steps j {r} e = read-back-small r e.1 ∙ rw (to_z-of_z f, to_z-of_z g) at e.0

pub find-chosen-requires : goal.find-chosen-requires
find-chosen-requires c =
    let r = c.requires.4 in
    rw (to_z-of_z c.ranges.start) (r.sound c.args.start (≤ℤ_refl c.args.start) r.ordered)

pub gather_span-row-requires : goal.gather_span-row-requires
gather_span-row-requires c = (held-part 0 (0 + c.args.along.controls) c.requires.0 (omega arith) (omega arith), c.requires.1, there c.find-chosen.ensures)

pub loop-j-init : goal.loop-j-init
unfolding points_upto
loop-j-init c =
    let r = parameter-first c.args.start c.args.end c.requires.4.ordered c.args.steps in
    rw (to_z-of_z c.ranges.start, to_z-of_z c.ranges.end, mul-zero)
    (refl, rw r (rw (to_z-of_z c.ranges.start) at c.find-chosen.ensures), refl, c.gather_span-row.ensures, c.gather_span-row.ensures.long)

module _ (c : After-parameter_at-t) where
  abbrev now : ℤ
  now = parameter_at c.args.start c.args.end c.args.steps c.loop-j.j

  hint : Hint c.args.along c.args.x.now now c.loop-j.chosen (c.loop-j.chosen + 1)
  hint =
      run-hint c.requires.4 c.args.steps c.requires.5 {i = c.loop-j.j - 1} (omega arith)
      (rw (to_z-of_z c.ranges.start, to_z-of_z c.ranges.end) at c.loop-j.invariant.1)

  sound : Sound c.args.along c.args.x.now now
  sound = run_sound c.requires.4 c.args.steps c.loop-j.j (omega arith)

pub overflow_add-chosen : goal.overflow_add-chosen
overflow_add-chosen c =
    let k = (goal.at.overflow_add-chosen c).After-parameter_at-t in
    omega (arith, (hint k).upto, limit-inside (sound k))

pub search-next-requires : goal.search-next-requires
search-next-requires c =
    let k = (goal.at.search-next-requires c).After-parameter_at-t in
    rw (read-parameter c.ranges.start c.ranges.end c.args.steps c.loop-j.j c.parameter_at-t.ensures) (sound k, hint k)

pub gather_span-row-requires-then-next-chosen : goal.gather_span-row-requires-then-next-chosen
gather_span-row-requires-then-next-chosen c =
    (held-part 0 (0 + c.args.along.controls) c.requires.0 (omega arith) (omega arith), c.requires.1, there c.search-next.ensures)

-- the same direction with its degree named
abbrev named : BodyDirection → ℕ → BodyDirection
named along n = record { basis = along.basis; degree = n; controls = along.controls }

module _ (c : Joined-next-chosen) where
  -- this turn's parameter, as the code has it and as the definition has it
  abbrev t : ℤ
  t = to_z w32 (of_z w32 c.parameter_at-t.result)

  abbrev turn : ℤ
  turn = parameter_at c.args.start c.args.end c.args.steps c.loop-j.j

  t-is : t ≡ turn
  t-is = read-parameter c.ranges.start c.ranges.end c.args.steps c.loop-j.j c.parameter_at-t.ensures

  -- g is the segment or span of this turn's parameter, and the row has its controls
  abbrev Ready : ℕ → Row → Type 0
  Ready g row = let v = c.args in On v.along v.x.now turn g × Spanned row v.values.now v.corners.now v.first 0 v.axis v.along g

  spanned : Ready c.if-next-chosen.chosen c.if-next-chosen.row
  spanned =
      let o = rw t-is at c.search-next.ensures in
      elim c.if-next-chosen.branch [
        | then-next-chosen w ↦ subst₂ Ready (sym w.chosen-is) (sym w.row-is) (o, w.gather_span-row-then-next-chosen.ensures)
        | else-next-chosen w ↦ subst₂ Ready (sym w.chosen-is) (sym w.row-is) (subst (λ (g : ℕ). On c.args.along c.args.x.now turn g) w.if-next-chosen.false o, c.loop-j.invariant.3)
      ]

  chosen-on : On c.args.along c.args.x.now t c.if-next-chosen.chosen
  chosen-on = rw t-is spanned.0

  few : c.args.along.degree ≤ 20
  few = spanned.0.sound.few

  whole : (j : ℕ) → j < c.args.along.degree + 1 → Encodes (place_at c.if-next-chosen.row.places j)
  whole j h = (spanned.1.each j h).whole

pub guess_point-guess-requires : goal.guess_point-guess-requires
guess_point-guess-requires c =
    let v = c.args in
    let k = (goal.at.guess_point-guess-requires c).Joined-next-chosen in (
      subst (λ (n : ℕ). On (named v.along n) v.x.now (t k) c.if-next-chosen.chosen) c.if-n-eq3.true (chosen-on k),
      record { most = omega (arith, (spanned k).1.long); each = λ j h. whole k j (omega (arith, c.if-n-eq3.true)) },
    )

pub first_interval-one_gap-requires : goal.first_interval-one_gap-requires
first_interval-one_gap-requires c = chosen-on (goal.at.first_interval-one_gap-requires c).Joined-next-chosen

-- ---- the first level
pub loop-i-init : goal.loop-i-init
loop-i-init c = (refl, c.loop-j.invariant.4, made_none)

pub interval_of-gap-requires : goal.interval_of-gap-requires
interval_of-gap-requires c = (chosen-on (goal.at.interval_of-gap-requires c).Joined-next-chosen, omega arith, omega arith, c.first_interval-one_gap.ensures)

pub certain-requires : goal.certain-requires
certain-requires c =
    let k = (goal.at.certain-requires c).Joined-next-chosen in
    (subst Encodes (sym c.loop-i.invariant.0) (whole k c.loop-i.i (omega arith)), whole k (c.loop-i.i + 1) (omega arith), c.guessed-p.ensures)

pub exact_at-p-requires : goal.exact_at-p-requires
exact_at-p-requires c =
    let k = (goal.at.exact_at-p-requires c).Joined-next-chosen in
    (subst Encodes (sym c.loop-i.invariant.0) (whole k c.loop-i.i (omega arith)), whole k (c.loop-i.i + 1) (omega arith), chosen-on k, omega arith, omega arith)

pub loop-i-preserved : goal.loop-i-preserved
loop-i-preserved c =
    let v = c.args in
    let k = (goal.at.loop-i-preserved c).Joined-next-chosen in
    let m = c.loop-i.invariant in
    let i = c.loop-i.i in
    let n = v.along.degree in
    let row = c.if-next-chosen.row.places in
    let q = c.if-not-certain.p in
    let f = ap (place_at row) (add-one i) in
    let g = c.interval_of-gap.ensures in
    let N = Next (parts v.along v.x.now (t k) (n - 1) i) (gaps v.along v.x.now (t k) (n - 1) i) (place_at row i) (place_at row (suc i)) in
    let new : N q = elim c.if-not-certain.branch [
      | then-not-certain w ↦ subst N (sym w.p-is) (next_of m.0 f w.exact_at-p.ensures)
      | else-not-certain w ↦ subst N (sym w.p-is) (next_place g m.0 f (c.certain.ensures w.if-not-certain.false (t k) g.fair))
    ] in
    (refl, length-set c.loop-i.rest.places i q ∙ m.1, made_more q m.2 (omega (arith, m.1, few k)) new)

-- ---- the levels after it
pub loop-rest-init : goal.loop-rest-init
loop-rest-init c =
    let v = c.args in
    let k = (goal.at.loop-rest-init c).Joined-next-chosen in
    let row = c.if-next-chosen.row.places in
    let m = c.loop-i.invariant in
    let e : c.loop-i.i ≡ v.along.degree = omega arith in
    let done = rw e at m.2 in (
      level-encoded (parts v.along v.x.now (t k)) (gaps v.along v.x.now (t k)) row done (omega (arith, m.1, few k)),
      λ h. h,
      m.1,
      λ h a. level-row (parts v.along v.x.now (t k)) (gaps v.along v.x.now (t k)) row done h a,
      omega arith,
    )

pub interval_of-gap-requires-in-loop-i-2 : goal.interval_of-gap-requires-in-loop-i-2
interval_of-gap-requires-in-loop-i-2 c =
    (chosen-on (goal.at.interval_of-gap-requires-in-loop-i-2 c).Joined-next-chosen, omega arith, omega arith, c.first_interval-one_gap.ensures)

module _ (c : After-guessed-p-in-loop-i-2) where
  next-is : place_at c.loop-i-2.rest.places (c.loop-i-2.i + 1) ≡ place_at c.loop-rest.rest.places (c.loop-i-2.i + 1)
  next-is = c.loop-i-2.invariant.1.rest (c.loop-i-2.i + 1) (omega arith)

  pair : Encodes c.loop-i-2.a × Encodes (place_at c.loop-i-2.rest.places (c.loop-i-2.i + 1))
  pair =
      let e = c.loop-rest.invariant.0 in
      (subst Encodes (sym c.loop-i-2.invariant.0) (e.each c.loop-i-2.i (omega arith)), subst Encodes (sym next-is) (e.each (c.loop-i-2.i + 1) (omega arith)))

pub certain-requires-in-loop-i-2 : goal.certain-requires-in-loop-i-2
certain-requires-in-loop-i-2 c =
    let e = pair (goal.at.certain-requires-in-loop-i-2 c).After-guessed-p-in-loop-i-2 in
    (e.0, e.1, c.guessed-p-in-loop-i-2.ensures)

pub exact_at-p-requires-then-not-certain-2 : goal.exact_at-p-requires-then-not-certain-2
exact_at-p-requires-then-not-certain-2 c =
    let g = goal.at.exact_at-p-requires-then-not-certain-2 c in
    let e = pair g.After-guessed-p-in-loop-i-2 in
    (e.0, e.1, chosen-on g.Joined-next-chosen, omega arith, omega arith)

pub loop-i-2-preserved : goal.loop-i-2-preserved
loop-i-2-preserved c =
    let v = c.args in
    let k = (goal.at.loop-i-2-preserved c).Joined-next-chosen in
    let s = (goal.at.loop-i-2-preserved c).After-guessed-p-in-loop-i-2 in
    let m = c.loop-i-2.invariant in
    let i = c.loop-i-2.i in
    let r = c.loop-rest.rest.count - 1 - 1 in
    let old = c.loop-rest.rest.places in
    let q = c.if-not-certain-2.p in
    let f = next-is s ∙ ap (place_at old) (add-one i) in
    let g = c.interval_of-gap-in-loop-i-2.ensures in
    let N = Next (parts v.along v.x.now (t k) r i) (gaps v.along v.x.now (t k) r i) (place_at old i) (place_at old (suc i)) in
    let new : N q = elim c.if-not-certain-2.branch [
      | then-not-certain-2 w ↦ subst N (sym w.p-is) (next_of m.0 f w.exact_at-p-then-not-certain-2.ensures)
      | else-not-certain-2 w ↦ subst N (sym w.p-is) (next_place g m.0 f (c.certain-in-loop-i-2.ensures w.if-not-certain-2.false (t k) g.fair))
    ] in
    (next-is s, left_less q m.1, made_more q m.2 (omega (arith, m.1.long, c.loop-rest.invariant.2, few k)) new)

pub loop-rest-preserved : goal.loop-rest-preserved
loop-rest-preserved c =
    let v = c.args in
    let k = (goal.at.loop-rest-preserved c).Joined-next-chosen in
    let m = c.loop-i-2.invariant in
    let w = c.loop-rest.invariant in
    let old = c.loop-rest.rest.places in
    let some : 0 < c.loop-rest.rest.count - 1 = omega arith in
    let e : c.loop-i-2.i ≡ c.loop-rest.rest.count - 1 = omega arith in
    let done = rw e at m.2 in (
      level-encoded (parts v.along v.x.now (t k)) (gaps v.along v.x.now (t k)) old done (omega (arith, m.1.long, w.0.most)),
      λ h. some,
      m.1.long ∙ w.2,
      λ h a. level-row (parts v.along v.x.now (t k)) (gaps v.along v.x.now (t k)) old done some a ∙ w.3 h a,
      omega arith,
    )

-- ---- what is made: guessed where each place is certain, else worked down; degree 0 has no level
module _ (c : Joined-guess) where
  abbrev Worked : Place → Type 0
  Worked q = Descended (direction c.args.along c.args.x.now) (to_z w32 (of_z w32 c.parameter_at-t.result)) c.if-next-chosen.row.places q

  guess-worked : (q : Place) → c.if-n-eq3.guess ≡ Some q → Worked q
  guess-worked q h =
      elim c.if-n-eq3.branch [
        | then-n-eq3 e ↦ let Of : ℕ → Place → Type 0 = λ n q. Descended (direction (named c.args.along n) c.args.x.now) (to_z w32 (of_z w32 c.parameter_at-t.result)) c.if-next-chosen.row.places q in
            subst (λ (n : ℕ). Of n q) (sym e.if-n-eq3.true) (subst (λ (o : Option Place). IfSome o (Of 3)) (sym e.guess-is ∙ h) e.guess_point-guess.ensures)
        | else-n-eq3 e ↦ absurd (let f : ◌≡◌ {A = Option Place} None (Some q) = sym e.guess-is ∙ h in cc)
      ]

  worked : let v = c.args in Spanned c.if-next-chosen.row v.values.now v.corners.now v.first 0 v.axis v.along c.if-next-chosen.chosen → Worked c.match-guess.made
  worked g =
      let d = direction c.args.along c.args.x.now in
      let T = to_z w32 (of_z w32 c.parameter_at-t.result) in
      elim c.match-guess.branch [
        | in-Some w ↦ subst Worked (sym w.made-is) (guess-worked w.in-Some.place w.in-Some.is)
        | in-None+else-loop-i-test+else-loop-rest-test+then-n-eq0 w ↦ subst Worked (sym w.made-is) (record {
          whole = (g.each 0 (omega arith)).whole;
          is = λ k. sym (pyramid-one (offset_at d T) (gap_at d T) d.degree (axis_number c.if-next-chosen.row.places k) w.if-n-eq0.true);
        })
        | in-None+else-loop-i-test+else-loop-rest-test+else-n-eq0 w ↦ let l = w.loop-rest.invariant in
            let some : 0 < d.degree = omega (arith, w.if-n-eq0.false) in
            let one : w.loop-rest.rest.count - 1 ≡ 0 = omega (arith, w.loop-rest-test.false) in
            subst Worked (sym w.made-is) (record {
              whole = l.0.each 0 (l.1 some);
              is = λ k. sym (pyramid-one (offset_at d T) (gap_at d T) (w.loop-rest.rest.count - 1) (axis_number w.loop-rest.rest.places k) one) ∙ l.3 some k;
            })
      ]

  long-rest : length c.match-guess.rest.places ≡ 21
  long-rest =
      let Long : Row → Type 0 = λ r. length r.places ≡ 21 in
      elim c.match-guess.branch [
        | in-Some w ↦ subst Long (sym w.rest-is) c.loop-j.invariant.4
        | in-None+else-loop-i-test+else-loop-rest-test+then-n-eq0 w ↦ subst Long (sym w.rest-is) w.loop-rest.invariant.2
        | in-None+else-loop-i-test+else-loop-rest-test+else-n-eq0 w ↦ subst Long (sym w.rest-is) w.loop-rest.invariant.2
      ]

pub point_at-point-requires : goal.point_at-point-requires
point_at-point-requires c =
    let g = goal.at.point_at-point-requires c in
    (worked g.Joined-guess (spanned g.Joined-next-chosen).1).whole

pub loop-j-preserved : goal.loop-j-preserved
unfolding points_upto
loop-j-preserved c =
    let k = (goal.at.loop-j-preserved c).Joined-next-chosen in
    let u = (goal.at.loop-j-preserved c).Joined-guess in
    let g = spanned k in
    let v = c.args in
    let j = c.loop-j.j in
    let r = c.point_at-point.result in
    let a : ℕ → ℤ = λ i. parameter_at v.start v.end v.steps i in
    let at : ℕ → List ℤ = λ i. curve_point_at v.values.now v.corners.now v.first v.axis v.axes v.along v.x.now (a i) in
    let long : (i : ℕ) → length (at i) ≡ v.axes = λ i. point-length v.values.now v.corners.now v.first v.axis v.axes v.along v.x.now (a i) in
    let fits : v.axes * j + v.axes ≤ length c.loop-j.points = omega (arith, c.loop-j.invariant.0, c.requires.7, room v.axes j v.steps (omega arith)) in
    let h = span-place g.0 v.values.now v.corners.now v.first v.axis 0 g.1 (rw (t-is k) at (worked u g.1)) in
    let made : tabulated v.axes (coordinate_of (to_z w32 (of_z w32 r.x)) (to_z w32 (of_z w32 r.y)) (to_z w32 (of_z w32 r.z))) ≡ at j
    = point-written v.values.now v.corners.now v.first v.axis v.along v.x.now (a j) (curve-has g.0 v.values.now v.corners.now v.first v.axis h c.point_at-point.ensures) v.axes c.requires.2 c.requires.3 in
    let e = lent-pasted at v.points.now v.axes j long (omega (arith, fits)) (rw (to_z-of_z c.ranges.start, to_z-of_z c.ranges.end) at c.loop-j.invariant.2) c.write_point.ensures made in
    let i : j ≡ j + 1 - 1 = omega arith in
    rw (to_z-of_z c.ranges.start, to_z-of_z c.ranges.end) (
      ap length e ∙ run_length at v.points.now v.axes (j + 1) long (omega (arith, fits, c.loop-j.invariant.0)),
      subst (λ (z : ℤ). On v.along v.x.now z c.if-next-chosen.chosen) (ap a i) g.0,
      e,
      g.1,
      long-rest u,
    )
