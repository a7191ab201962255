-- Each cheat is stopped: by a text or two, or by one straight line between two controls, at both of its ends.
use Prim.Native.Nat.{ℕ}
use mathlib.Core.Path.{◌≡◌, refl, sym, ap, ◌∙◌, subst}
use mathlib.Core.Bool.{true}
use mathlib.Core.Logic.{inl}
use mathlib.Core.List.{List, [], ◌∷◌}
use native.Mathlib.Omega.{arith}
use lib.ListN.{length, get_or}
use lib.IntN.{ℤ, pos, nat_abs, neg_ℤ, ◌+ℤ◌, ◌*ℤ◌, ◌-ℤ◌, +ℤ_assoc, +ℤ_invl}
use Rattle.std.specs.Prelude.{Err}
use Rattle.tidier.specs.Tidying.{as_written, as_too_long}
use Rattle.end_to_end.specs.EntryPoints.{as_read, Reader, Tidier, Sampler}
use Rattle.rounding.specs.Fractions.{Frac, whole, ◌+ᶠ◌, ◌-ᶠ◌, ◌*ᶠ◌, power, over, sum_to, Close}
use Rattle.rounding.proofs.IntLaws.{sub-eq}
use Rattle.rounding.proofs.FracLaws.{no_size}
use Rattle.rounding.proofs.Order.{yes_le}
use Rattle.spellings.specs.Rows.{bytes}
use Rattle.keywords.specs.Keywords.{statement_of, keywords}
use Rattle.text.specs.Lines.{lines_of}
use Rattle.digits.specs.Digits as digits
use Rattle.decimals.specs.Number.{number_of, decimal, numerator, denominator, nearest}
use Rattle.tables.specs.Tables.{Tables}
use Rattle.tables.specs.Asking.{held, body_held}
use Rattle.tables.specs.Bodies.{in_order, curve_count}
use Rattle.tables.specs.declared.Used.{Used}
use Rattle.model.specs.Model.{Model, start}
use Rattle.model.specs.Room.{fits}
use Rattle.model.specs.Parse.{parse}
use Rattle.model.specs.Read.{read, read_of, statement}
use Rattle.model.specs.Layout.{tables_of, used_of}
use Rattle.reader.specs.Reading.{rooms_of}
use Rattle.tidy_form.specs.declared.Weights.{Weights}
use Rattle.tidy_form.specs.Tidied.{tidied}
use Rattle.tidy_form.specs.Printed.{tidy_text}
use Rattle.point_exact.specs.Directions.{chosen, segment, last_where}
use Rattle.point_exact.specs.Exact.{choose, along, bernstein, segment_weight, bezier_weight, weight_at, curve_exact}
use Rattle.basis.specs.Widest.{widest}
use Rattle.record_rules.specs.Rules.{obeys, element_obeys}
use Rattle.record_rules.specs.Numbers.{in_range, run_in_range}
use Rattle.point_runs.specs.Runs.{parameter_at}
use Rattle.record_rules.specs.Vertices.{vertex_obeys}
use Rattle.record_rules.specs.Corners.{least_corners, with_normal, with_texture, attribute_obeys, point_obeys, corner_obeys, each_corner, corners_obey}
use Rattle.record_rules.specs.Directions.{degree_obeys, type_obeys, parameters_obey}
use Rattle.record_rules.specs.Bodies.{flat_obeys, curve_obeys, record_obeys, body_obeys}
use Rattle.sampler.specs.Points.{direction_u, control_of}
use Rattle.sampler.specs.Answers.{element_of, body_of, PointOutcome, point_outcome}
use Rattle.sampler.specs.Demand3.{sampling, Obeying, IsCurve, ElementsSampled}
use Rattle.sampler.proofs.Demanded.{curve-coordinates}
use Rattle.end_to_end.specs.Demand1.{Outcomes}
use Rattle.end_to_end.specs.Demand2.{Demand2}
use Rattle.end_to_end.specs.Demand3.{Demand3}
use Rattle.end_to_end.specs.Cheats.{TurnsAllDown, FixedTables, TouchesNoTable, FixedCounts, CopiesItsInput, TurnsAllAway, RefusesAll, FixedPoint, RepeatsFirst, OffByOne, RoundedCurves, Stopped}

-- ---- texts: nothing, an empty line, a v at 0 0 0, a v at 1 0 0

-- tables with room for one v
abbrev lent : Tables
lent = record { vertices = record { v = pos 0 ∷ pos 0 ∷ pos 0 ∷ pos 0 ∷ []; vt = []; vn = []; vp = [] }; elements = record { corners = []; elements = [] }; bodies = record { bodies = []; ranges = []; parameters = []; loops = []; spans = [] } }

-- the file of one v at z 0 0
abbrev at : ℤ → Model
at z = record { vertices = record { v = (z ∷ pos 0 ∷ pos 0 ∷ pos 1000000 ∷ []) ∷ []; vt = []; vn = []; vp = [] }; elements = [] }

abbrev zero-text : List ℕ
zero-text = bytes "v 0 0 0\n"

abbrev one-text : List ℕ
one-text = bytes "v 1 0 0\n"

none_read : read_of (rooms_of lent) [] ≡ read start.model
unfolding read_of lines_of
none_read = refl

line_read : read_of (rooms_of lent) (10 ∷ []) ≡ read start.model
unfolding read_of lines_of
line_read = refl

zero-read : read_of (rooms_of lent) zero-text ≡ read (at (pos 0))
unfolding read_of lines_of number_of decimal numerator denominator nearest digits.is_whole statement_of keywords fits parse statement
zero-read = refl

one-read : read_of (rooms_of lent) one-text ≡ read (at (pos 1000000))
unfolding read_of lines_of number_of decimal numerator denominator nearest digits.is_whole statement_of keywords fits parse statement
one-read = refl

-- ---- readers
turns-all-down : (reads : Reader) (tidies : Tidier) → TurnsAllDown reads → Demand2 reads tidies → ⊥
turns-all-down reads tidies h d =
    let r = h [] lent in
    let e : Err r.0 ≡ as_read (used_of start.model) = sym r.1 ∙ (d.accepts [] lent start.model none_read).answer in
    let z : ◌≡◌ {A = ℕ} 0 1 = cc in
    omega arith

-- the x of the first v
abbrev first-x : Tables → ℕ
first-x t = nat_abs (get_or t.vertices.v 0 (pos 0))

fixed-tables : (reads : Reader) (tidies : Tidier) → FixedTables reads → Demand2 reads tidies → ⊥
unfolding tables_of
fixed-tables reads tidies h d =
    let e : first-x (reads zero-text lent).tables ≡ 0 = ap first-x (d.accepts zero-text lent (at (pos 0)) zero-read).tables in
    let f : first-x (reads one-text lent).tables ≡ 1000000 = ap first-x (d.accepts one-text lent (at (pos 1000000)) one-read).tables in
    let s : first-x (reads zero-text lent).tables ≡ first-x (reads one-text lent).tables = ap first-x (h zero-text one-text lent) in
    omega arith

touches-no-table : (reads : Reader) (tidies : Tidier) → TouchesNoTable reads → Demand2 reads tidies → ⊥
touches-no-table reads tidies h d = fixed-tables reads tidies (λ s t S. h s S ∙ sym (h t S)) d

fixed-counts : (reads : Reader) (tidies : Tidier) → FixedCounts reads → Demand2 reads tidies → ⊥
unfolding used_of
fixed-counts reads tidies h d =
    let e = h [] zero-text lent (used_of start.model) (used_of (at (pos 0))) (d.accepts [] lent start.model none_read).answer (d.accepts zero-text lent (at (pos 0)) zero-read).answer in
    let z : ◌≡◌ {A = ℕ} 0 1 = ap (λ (w : Used). w.v) e in
    omega arith

-- ---- tidiers
copies-its-input : (c : Weights) (reads : Reader) (tidies : Tidier) → CopiesItsInput c tidies → Demand2 reads tidies → ⊥
unfolding tidy_text tidied
copies-its-input c reads tidies h d =
    let w = d.writes c (10 ∷ []) lent [] start.model line_read (omega arith) (omega arith) in
    let z : ◌≡◌ {A = ℕ} 0 1 = ap length (h (10 ∷ []) lent [] 0 (used_of start.model) w) in
    omega arith

turns-all-away : (c : Weights) (reads : Reader) (tidies : Tidier) → TurnsAllAway c tidies → Demand2 reads tidies → ⊥
unfolding tidy_text tidied
turns-all-away c reads tidies h d =
    let r = h [] lent [] in
    let e : as_too_long r.0 r.1 ≡ as_written 0 (used_of start.model) = sym r.2 ∙ d.writes c [] lent [] start.model none_read (omega arith) (omega arith) in
    let z : ◌≡◌ {A = ℕ} 0 1 = cc in
    omega arith

-- ---- samplers: a Bezier curve of degree 1 from 0 0 0 to 2 0 0 millionths, its parameter from 0 to 1
abbrev used : Used
used = record { v = 2; vt = 0; vn = 0; vp = 0; corners = 6; elements = 1; bodies = 1; parameters = 2; loops = 0 }

abbrev line : Tables
line =
    record {
      vertices = record { v = pos 0 ∷ pos 0 ∷ pos 0 ∷ pos 1000000 ∷ pos 2 ∷ pos 0 ∷ pos 0 ∷ pos 1000000 ∷ []; vt = []; vn = []; vp = [] };
      elements = record { corners = 1 ∷ 0 ∷ 0 ∷ 2 ∷ 0 ∷ 0 ∷ []; elements = 4 ∷ 0 ∷ 2 ∷ 1 ∷ 0 ∷ 0 ∷ 0 ∷ 0 ∷ 0 ∷ [] };
      bodies = record { bodies = 1 ∷ 0 ∷ 1 ∷ 0 ∷ 0 ∷ 2 ∷ 0 ∷ 0 ∷ 0 ∷ []; ranges = pos 0 ∷ pos 1 ∷ pos 0 ∷ pos 0 ∷ []; parameters = pos 0 ∷ pos 1 ∷ []; loops = []; spans = [] };
    }

line-obeys : obeys used line 0 0 ≡ true
unfolding obeys element_obeys corners_obey each_corner corner_obeys point_obeys attribute_obeys with_texture with_normal least_corners vertex_obeys in_range run_in_range body_obeys record_obeys curve_obeys flat_obeys widest held body_held type_obeys degree_obeys parameters_obey in_order curve_count
line-obeys = refl

obeying : Obeying used line 1
obeying = (record { some = omega arith; in_use = omega arith; plain = refl; type = inl refl }, line-obeys)

is-curve : IsCurve line 1
is-curve = inl refl

abbrev exact : (p : ℤ) → Frac
exact p = curve_exact (direction_u line (body_of line 1)) p (control_of line (element_of line 1) 0)

abbrev fraction : ℤ → Frac
fraction z = record { top = z; bot = 1 }

at-start : exact (pos 0) ≡ fraction (pos 0)
unfolding curve_exact weight_at segment_weight bezier_weight bernstein along choose chosen segment last_where sum_to power over whole ◌+ᶠ◌ ◌-ᶠ◌ ◌*ᶠ◌ control_of
at-start = refl

at-end : exact (pos 1) ≡ fraction (pos 2)
unfolding curve_exact weight_at segment_weight bezier_weight bernstein along choose chosen segment last_where sum_to power over whole ◌+ᶠ◌ ◌-ᶠ◌ ◌*ᶠ◌ control_of
at-end = refl

-- a whole number within half of another is that one
within-half : (z w : ℤ) → Close z (fraction w) 1 → z *ℤ pos 1 ≡ w
within-half z w c = sub-eq (z *ℤ pos 1) w (no_size (z *ℤ pos 1 -ℤ w) (omega (arith, c.near)))

no_both : (z : ℤ) → Close z (exact (pos 0)) 1 → Close z (exact (pos 1)) 1 → ⊥
no_both z a b =
    let e = within-half z (pos 0) (subst (λ (f : Frac). Close z f 1) at-start a) in
    let f = within-half z (pos 2) (subst (λ (f : Frac). Close z f 1) at-end b) in
    let g : ◌≡◌ {A = ℕ} 0 2 = ap nat_abs (sym e ∙ f) in
    omega arith

module _ (reads : Reader) (tidies : Tidier) (samples : Sampler) where
  refuses-all : RefusesAll samples → Outcomes reads tidies samples → Demand3 reads tidies samples → ⊥
  refuses-all h o d =
      let r = h used line 1 (pos 0) in
      let a = ap length ((d.obeying used line 1 obeying).curve is-curve (pos 0) (yes_le (pos 0) (pos 0) refl) (yes_le (pos 0) (pos 1) refl)).rounded in
      let none : length (samples.curve used line 1 (pos 0)).outcome.coordinates ≡ 0 = ap (λ (x : PointOutcome). length x.coordinates) (o.curve used line 1 (pos 0) ∙ ap point_outcome r.1) in
      let z : ◌≡◌ {A = ℕ} 0 3 = sym none ∙ a in
      omega arith

  fixed-point : FixedPoint samples → Demand3 reads tidies samples → ⊥
  fixed-point h d =
      let a = ((d.obeying used line 1 obeying).curve is-curve (pos 0) (yes_le (pos 0) (pos 0) refl) (yes_le (pos 0) (pos 1) refl)).near 0 (omega arith) in
      let b = ((d.obeying used line 1 obeying).curve is-curve (pos 1) (yes_le (pos 0) (pos 1) refl) (yes_le (pos 1) (pos 1) refl)).near 0 (omega arith) in
      no_both (get_or (samples.curve used line 1 (pos 0)).outcome.coordinates 0 (pos 0)) a
      (subst (λ (x : PointOutcome). Close (get_or x.coordinates 0 (pos 0)) (exact (pos 1)) 1) (h used line 1 (pos 1) (pos 0)) b)

  -- a run of one step, into a table of six numbers
  repeats-first : RepeatsFirst samples → Demand3 reads tidies samples → ⊥
  unfolding parameter_at
  repeats-first h d =
      let points = pos 0 ∷ pos 0 ∷ pos 0 ∷ pos 0 ∷ pos 0 ∷ pos 0 ∷ [] in
      let r = (d.obeying used line 1 obeying).run is-curve 1 0 points (omega arith) (omega arith) (omega arith) in
      let a = r.near 0 0 (omega arith) (omega arith) in
      let b = r.near 1 0 (omega arith) (omega arith) in
      no_both (get_or (samples.run used line 1 1 0 points).points 0 (pos 0)) a
      (subst (λ (z : ℤ). Close z (exact (pos 1)) 1) (h used line 1 1 0 points 1 0 (omega arith)) b)

-- demand 3 has it of every sampler
pub rounded-curves : (samples : Sampler) → ElementsSampled samples → RoundedCurves samples
rounded-curves samples r u t number p o k low high = ((r u t number o).curve k p low high).rounded

off-by-one : (samples : Sampler) → OffByOne samples → RoundedCurves samples → ⊥
off-by-one samples h r =
    let low = yes_le (pos 0) (pos 0) refl in
    let high = yes_le (pos 0) (pos 1) refl in
    let e = r used line 1 (pos 0) obeying is-curve low high ∙ sym (curve-coordinates (obeying, is-curve) (pos 0) low high) in
    let f = sym (ap (λ (l : List ℤ). get_or l 0 (pos 0)) e) ∙ h used line 1 (pos 0) 0 in
    no_more (get_or (sampling.curve used line 1 (pos 0)).outcome.coordinates 0 (pos 0)) f
  where
    no_more : (z : ℤ) → z ≡ z +ℤ pos 1 → ⊥
    no_more z e =
        let f : pos 0 ≡ pos 1 = sym (+ℤ_invl z) ∙ ap (λ (x : ℤ). neg_ℤ z +ℤ x) e ∙ sym (+ℤ_assoc (neg_ℤ z) z (pos 1)) ∙ ap (λ (x : ℤ). x +ℤ pos 1) (+ℤ_invl z) in
        let g : ◌≡◌ {A = ℕ} 0 1 = ap nat_abs f in
        omega arith

pub stopped : Stopped
stopped =
    record {
      turns-all-down = turns-all-down;
      fixed-tables = fixed-tables;
      touches-no-table = touches-no-table;
      fixed-counts = fixed-counts;
      copies-its-input = copies-its-input;
      turns-all-away = turns-all-away;
      refuses-all = refuses-all;
      fixed-point = fixed-point;
      repeats-first = repeats-first;
      off-by-one = off-by-one;
    }
