-- The answers of a run by the tests that lead to each, and the numbers of the lent parts as those of the tables.
use mathlib.Core.Path.{◌≡◌, refl, sym, ap, ap₂, ◌∙◌}
use mathlib.Core.Bool.{Bool, true, false, cond, ◌&&◌}
use mathlib.Core.List.{List, [], ◌∷◌, ◌++◌, append-nil}
use Prim.Native.Nat.{ℕ, zero, suc, ◌+◌, ◌*◌, ◌-◌, ◌≤◌, ◌<◌}
use native.Mathlib.Omega.{arith}
use borrow.Author.Tests.{le-leb, lt-leb}
use borrow.Rule.Slice.PartMut.{put_mid}
use lib.Dec.{leb, eqb}
use lib.IntN.{ℤ}
use lib.ListN.{length, take, drop, length-drop}
use lib.Seq.{take_all, drop-length}
use Rattle.lists.proofs.Tests.{and_first, and_second}
use Rattle.tables.specs.Tables.{Tables}
use Rattle.tables.specs.Records.{parameters_u}
use Rattle.tables.specs.declared.Body.{Body}
use Rattle.tables.specs.declared.Used.{Used}
use Rattle.tables.specs.declared.Element.{Element}
use Rattle.point_rows.specs.Controls.{ControlsLent}
use Rattle.point_runs.specs.Runs.{joined, tabulated, parameter_at}
use Rattle.point_runs.specs.Inner.{curve_point_at, points_upto, Ranged}
use Rattle.sampler.specs.Points.{body_direction, axes_of, run_numbers}
use Rattle.std.specs.Prelude.{Some, None, Result, Ok, Err}
use Rattle.refusals.specs.declared.Reason.{Reason}
use Rattle.refusals.specs.declared.Reason.TheVariants.{NoOutputRoom, ParameterOutside}
use Rattle.sampler.specs.Answers.{run_answer, refused_run, element_of, body_of, refusal_of, filled_run, run_into}
use Rattle.point_runs.specs.Inner.{run_by}
use Rattle.point_rows.specs.declared.BodyDirection.{BodyDirection}
use Rattle.sampler.specs.Sampling.{Curved, answer_of_run}
use Rattle.sampler.proofs.Refusals.{Looked}
use Rattle.sampler.proofs.Entries.{Read, run_is, plane-coordinate, space-coordinate}

joined-cong : (n : ℕ) (f g : ℕ → List ℤ) → ((i : ℕ) → f i ≡ g i) → joined n f ≡ joined n g
joined-cong zero f g h = refl
joined-cong (suc n) f g h = ap₂ (λ (a b : List ℤ). a ++ b) (joined-cong n f g h) (h n)

listed-cong : (n : ℕ) (f g : ℕ → ℤ) → ((i : ℕ) → f i ≡ g i) → tabulated n f ≡ tabulated n g
listed-cong n f g h = joined-cong n (λ i. f i ∷ []) (λ i. g i ∷ []) (λ i. ap (λ (z : ℤ). z ∷ []) (h i))

run-numbers : (t : Tables) (e : Element) (b : Body) (steps : ℕ) (q : Bool) → eqb e.kind 5 ≡ q
    → run_by e.kind t.vertices.v t.vertices.vp t.elements.corners e.corners.first (body_direction b.basis b.degree_u b.count_u) (parameters_u t b) b.start_u b.end_u steps ≡ run_numbers t e b steps
unfolding run_by run_numbers points_upto curve_point_at
run-numbers t e b steps true h =
    rw h (joined-cong (steps + 1) _ _ (λ j. listed-cong 2 _ _ (λ k. plane-coordinate t e b (parameter_at b.start_u b.end_u steps j) k h)))
run-numbers t e b steps false h =
    rw h (joined-cong (steps + 1) _ _ (λ j. listed-cong 3 _ _ (λ k. space-coordinate t e b (parameter_at b.start_u b.end_u steps j) k h)))

module _ (t : Tables) (e : Element) (b : Body) (steps at : ℕ) (points : List ℤ) where
  abbrev pub Same : Result ℕ Reason → List ℤ → Type 0
  Same r last = run_answer r last ≡ answer_of_run t e b steps at points

  run-steps : (leb 1 steps && leb steps 65536) ≡ false → Same (Err ParameterOutside) points
  unfolding answer_of_run
  run-steps h = rw h

  pub run_none : steps < 1 → Same (Err ParameterOutside) points
  run_none h = run-steps (and_first (leb steps 65536) (lt-leb 1 steps h))

  pub run-many : 65536 < steps → Same (Err ParameterOutside) points
  run-many h = run-steps (and_second (leb 1 steps) (lt-leb steps 65536 h))

  module _ (some : 1 ≤ steps) (most : steps ≤ 65536) where
    pub run_room : length points < at + axes_of e * (steps + 1) → Same (Err NoOutputRoom) points
    unfolding answer_of_run
    run_room h = rw (le-leb 1 steps some, le-leb steps 65536 most, lt-leb (at + axes_of e * (steps + 1)) (length points) h)

    module _ (room : at + axes_of e * (steps + 1) ≤ length points) where
      filled_is : filled_run (axes_of e * (steps + 1)) at (run_numbers t e b steps) points ≡ answer_of_run t e b steps at points
      unfolding answer_of_run
      filled_is = rw (le-leb 1 steps some, le-leb steps 65536 most, le-leb (at + axes_of e * (steps + 1)) (length points) room)

      -- the part from `at` on was lent
      pub run-filled : {last : List ℤ} → last ≡ run_numbers t e b steps ++ drop (axes_of e * (steps + 1)) (take (length points - at) (drop at points))
          → Same (Ok (axes_of e * (steps + 1))) (put_mid at (length points - at) points last)
      run-filled {last} z =
          ap (run_answer (Ok (axes_of e * (steps + 1))))
          (ap (λ (q : List ℤ). take at points ++ (last ++ q)) none ∙ ap (λ (q : List ℤ). take at points ++ q) (append-nil last ∙ z ∙ ap (λ (q : List ℤ). run_numbers t e b steps ++ drop (axes_of e * (steps + 1)) q) every))
          ∙ filled_is
        where
          rest : length (drop at points) ≡ length points - at
          rest = length-drop at points

          every : take (length points - at) (drop at points) ≡ drop at points
          every = take_all (length points - at) (drop at points) (omega (arith, rest))

          none : drop (length points - at) (drop at points) ≡ []
          none = ap (λ (k : ℕ). drop k (drop at points)) (sym rest) ∙ drop-length (drop at points)

module _ (used : Used) (t : Tables) (number steps at : ℕ) (points : List ℤ) where
  pub run-refused : {r : Reason} → refusal_of false used t number ≡ Some r → refused_run points r ≡ run_into used t number steps at points
  unfolding run_into
  run-refused m = rw m

  pub run-answered : {e : Element} {b : Body} → Looked false used t number e b → answer_of_run t e b steps at points ≡ run_into used t number steps at points
  unfolding run_into answer_of_run
  run-answered l = rw (l.given, l.element-is, l.body_is)

pub run-given : (used : Used) (t : Tables) (number steps at : ℕ) (points : List ℤ) → refusal_of false used t number ≡ None → 1 ≤ steps → steps ≤ 65536
    → at + axes_of (element_of t number) * (steps + 1) ≤ length points
    → filled_run (axes_of (element_of t number) * (steps + 1)) at (run_numbers t (element_of t number) (body_of t number) steps) points ≡ run_into used t number steps at points
run-given used t number steps at points g some most room =
    filled_is t (element_of t number) (body_of t number) steps at points some most room ∙ run-answered used t number steps at points (record { given = g; element-is = refl; body_is = refl })

module _ {t : Tables} {e : Element} {b : Body} {kind first from count : ℕ} {a : BodyDirection} (r : Read t e b kind first from count a) where
  pub run-asked : (s f : ℤ) → s ≡ b.start_u → f ≡ b.end_u → Curved t e b
      → ControlsLent (cond (eqb kind 5) t.vertices.vp t.vertices.v) t.elements.corners first 0 a.controls × Ranged a (take (from + count - from) (drop from t.bodies.parameters)) s f
  run-asked s f k l c = rw (run_is r, k, l, r.kind-is, r.first-is, r.along-is) (c.held, c.along.ranged)

  pub run-read : (s f : ℤ) (steps : ℕ) → s ≡ b.start_u → f ≡ b.end_u
      → run_by kind t.vertices.v t.vertices.vp t.elements.corners first a (take (from + count - from) (drop from t.bodies.parameters)) s f steps ≡ run_numbers t e b steps
  run-read s f steps k l = rw (run_is r, k, l, r.kind-is, r.first-is, r.along-is) (run-numbers t e b steps (eqb e.kind 5) refl)
