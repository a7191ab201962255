-- A body that obeys its rules obeys them after a sweep: its record, parameters and loop parts are the same. By what each test reads.
use Prim.Native.Nat.{ℕ, ◌+◌, ◌*◌, ◌-◌, ◌≤◌}
use mathlib.Core.Path.{◌≡◌, ap, ap₂, ◌∙◌}
use mathlib.Core.List.{List}
use mathlib.Core.Bool.{Bool, true, false, cond, ◌&&◌}
use native.Mathlib.Omega.{arith}
use borrow.Author.Tests.{leb-true, le-leb}
use lib.ListN.{length, get_or}
use lib.Dec.{leb, eqb}
use lib.IntN.{ℤ, pos}
use Rattle.lists.proofs.Tests.{and_left, and_right, and_both}
use Rattle.tables.specs.Tables.{Tables}
use Rattle.tables.specs.Records.{body_at, parameters_u, parameters_v, part_at}
use Rattle.tables.specs.Asking.{held, body_held}
use Rattle.tables.specs.declared.Used.{Used}
use Rattle.tables.specs.declared.Body.{Body}
use Rattle.record_rules.specs.Numbers.{in_range, run_in_range}
use Rattle.record_rules.specs.Directions.{type_obeys, parameters_obey}
use Rattle.record_rules.specs.Loops.{part_obeys, each_part, loops_obey}
use Rattle.record_rules.specs.Bodies.{curve_obeys, directions_obey, surface_obeys, record_obeys, body_obeys}
use Rattle.record_rules.proofs.Below.{below_at, below_all}
use Rattle.record_rules.proofs.Runs.{run_lent, run_small}
use Rattle.sweep.specs.Swept.{swept_used, swept_tables}
use Rattle.table_rules.proofs.Lent.{Lent}
use Rattle.swept_files.proofs.Others.{lengths, bodies-same, parts_same, parameters-same, parameters-part}
use Rattle.swept_files.proofs.Counted.{same-counts}

module _ (used : Used) (t : Tables) (lent : Lent used t) where
  abbrev U : Used
  U = swept_used used t

  abbrev W : Tables
  W = swept_tables used t

  run-after : (first n : ℕ) → first + n ≤ used.parameters → run_in_range t.bodies.parameters first n ≡ true → run_in_range W.bodies.parameters first n ≡ true
  unfolding run_in_range
  run-after first n h r =
      and_both (le-leb (first + n) (length W.bodies.parameters) (let a = run_lent t.bodies.parameters first n r in let b = (lengths used t lent).parameters in omega arith))
      (below_all (λ k. in_range (get_or W.bodies.parameters (first + k) (pos 0))) n
      (λ k l. ap in_range (parameters-same used t lent (first + k) (omega arith)) ∙ run_small t.bodies.parameters first n r k l))

  module _ (surface : Bool) (first p q : ℕ) (h : parameters_obey surface t.bodies.parameters used.parameters first p q ≡ true) where
    parameters-used : first + (p + q) ≤ used.parameters
    unfolding parameters_obey
    parameters-used =
        let a = leb (first + (p + q)) used.parameters in
        let b = run_in_range t.bodies.parameters first (p + q) in
        leb-true (first + (p + q)) used.parameters (and_left a b (and_left (a && b) (leb 2 p) (and_left (a && b && leb 2 p) (cond surface (leb 2 q) (eqb q 0)) h)))

    parameters-after : parameters_obey surface W.bodies.parameters U.parameters first p q ≡ true
    unfolding parameters_obey
    parameters-after =
        let a = leb (first + (p + q)) used.parameters in
        let b = run_in_range t.bodies.parameters first (p + q) in
        let d = cond surface (leb 2 q) (eqb q 0) in
        let three = and_left (a && b && leb 2 p) d h in
        let two = and_left (a && b) (leb 2 p) three in
        and_both
        (and_both (and_both (ap (leb (first + (p + q))) (same-counts used t).parameters ∙ and_left a b two) (run-after first (p + q) parameters-used (and_right a b two)))
        (and_right (a && b) (leb 2 p) three))
        (and_right (a && b && leb 2 p) d h)

  loops-after : (curves first count : ℕ) → loops_obey used.loops t curves first count ≡ true → loops_obey U.loops W curves first count ≡ true
  unfolding loops_obey each_part
  loops-after curves first count = go (eqb count 0)
    where
      parts : first + count ≤ used.loops → each_part t curves first count ≡ true → each_part W curves first count ≡ true
      parts b h =
          below_all (λ k. part_obeys curves k (part_at W (first + k))) count
          (λ k l. ap (part_obeys curves k) (parts_same used t lent (first + k) (omega arith)) ∙ below_at (λ k. part_obeys curves k (part_at t (first + k))) count k h l)

      go : (z : Bool)
          → cond z (eqb first 0)
          (leb (first + count) used.loops && leb (2 * (first + count)) (length t.bodies.loops) && leb (2 * (first + count)) (length t.bodies.spans) && each_part t curves first count) ≡ true
          → cond z (eqb first 0)
          (leb (first + count) U.loops && leb (2 * (first + count)) (length W.bodies.loops) && leb (2 * (first + count)) (length W.bodies.spans) && each_part W curves first count) ≡ true
      go true h = h
      go false h =
          let a = leb (first + count) used.loops in
          let b = leb (2 * (first + count)) (length t.bodies.loops) in
          let c = leb (2 * (first + count)) (length t.bodies.spans) in
          let e = each_part t curves first count in
          let three = and_left (a && b && c) e h in
          let two = and_left (a && b) c three in
          and_both
          (and_both
          (and_both (ap (leb (first + count)) (same-counts used t).loops ∙ and_left a b two)
          (ap (leb (2 * (first + count))) (lengths used t lent).loops ∙ and_right a b two))
          (ap (leb (2 * (first + count))) (lengths used t lent).spans ∙ and_right (a && b) c three))
          (parts (leb-true (first + count) used.loops (and_left a b two)) (and_right (a && b && c) e h))

  module _ (curves kind count : ℕ) (b : Body) where
    abbrev reach : ℕ
    reach = b.first_parameter + (b.count_u + b.count_v)

    along-u : reach ≤ used.parameters → parameters_u W b ≡ parameters_u t b
    along-u h = parameters-part used t lent b.first_parameter b.count_u (omega arith)

    along-v : reach ≤ used.parameters → parameters_v W b ≡ parameters_v t b
    along-v h = parameters-part used t lent (b.first_parameter + b.count_u) b.count_v (omega arith)

    surface-after : reach ≤ used.parameters → surface_obeys used.loops t curves count b ≡ true → surface_obeys U.loops W curves count b ≡ true
    unfolding surface_obeys
    surface-after r h =
        let d = directions_obey (parameters_u t b) (parameters_v t b) b count in
        let l = loops_obey used.loops t curves b.first_loop b.loops in
        and_both (ap₂ (λ (x y : List ℤ). directions_obey x y b count) (along-u r) (along-v r) ∙ and_left d l h)
        (loops-after curves b.first_loop b.loops (and_right d l h))

    curve-after : reach ≤ used.parameters → curve_obeys (eqb kind 5) (parameters_u t b) b count ≡ true → curve_obeys (eqb kind 5) (parameters_u W b) b count ≡ true
    curve-after r h = ap (λ (x : List ℤ). curve_obeys (eqb kind 5) x b count) (along-u r) ∙ h

    record-after : record_obeys used t curves kind count b ≡ true → record_obeys U W curves kind count b ≡ true
    unfolding record_obeys
    record-after h =
        let y = type_obeys (eqb kind 6) b.basis b.rational b.degree_u b.degree_v in
        let p = parameters_obey (eqb kind 6) t.bodies.parameters used.parameters b.first_parameter b.count_u b.count_v in
        let k = cond (eqb kind 6) (surface_obeys used.loops t curves count b) (curve_obeys (eqb kind 5) (parameters_u t b) b count) in
        let two = and_left (y && p) k h in
        let r = parameters-used (eqb kind 6) b.first_parameter b.count_u b.count_v (and_right y p two) in
        and_both (and_both (and_left y p two) (parameters-after (eqb kind 6) b.first_parameter b.count_u b.count_v (and_right y p two)))
        (go (eqb kind 6) r (and_right (y && p) k h))
      where
        go : (s : Bool) → reach ≤ used.parameters → cond s (surface_obeys used.loops t curves count b) (curve_obeys (eqb kind 5) (parameters_u t b) b count) ≡ true
            → cond s (surface_obeys U.loops W curves count b) (curve_obeys (eqb kind 5) (parameters_u W b) b count) ≡ true
        go true r h = surface-after r h
        go false r h = curve-after r h

  module _ (k : ℕ) where
    pub record HeldBody : Type 0 where
      pub some : 1 ≤ k
      pub used-one : k ≤ used.bodies

    pub held-body : body_held used t.bodies.bodies t.bodies.ranges k ≡ true → HeldBody
    unfolding body_held held
    held-body h =
        let a = leb 1 k in
        let b = leb k used.bodies in
        let c = leb (9 * k) (length t.bodies.bodies) in
        let two = and_left (a && b) c (and_left (a && b && c) (leb (4 * k) (length t.bodies.ranges)) h) in
        record { some = leb-true 1 k (and_left a b two); used-one = leb-true k used.bodies (and_right a b two) }

    held_after : body_held used t.bodies.bodies t.bodies.ranges k ≡ true → body_held U W.bodies.bodies W.bodies.ranges k ≡ true
    unfolding body_held held
    held_after h = rw ((same-counts used t).bodies, (lengths used t lent).bodies, (lengths used t lent).ranges) h

    module _ (curves kind count : ℕ) (h : body_obeys used t curves kind count k ≡ true) where
      pub body-held : HeldBody
      unfolding body_obeys
      body-held = held-body (and_left (body_held used t.bodies.bodies t.bodies.ranges k) (record_obeys used t curves kind count (body_at t (k - 1))) h)

      pub body-after : body_obeys U W curves kind count k ≡ true
      unfolding body_obeys
      body-after =
          let b = body_held used t.bodies.bodies t.bodies.ranges k in
          let r = record_obeys used t curves kind count (body_at t (k - 1)) in
          let q = body-held in
          and_both (held_after (and_left b r h))
          (ap (record_obeys U W curves kind count) (bodies-same used t lent (k - 1) (let x = q.some in let y = q.used-one in omega arith))
          ∙ record-after curves kind count (body_at t (k - 1)) (and_right b r h))
