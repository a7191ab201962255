-- A record that obeys its rules obeys them where a sweep puts it: its numbers are the same. By what each test reads.
use Prim.Native.Nat.{ℕ, zero, suc, ◌+◌, ◌*◌, ◌-◌, ◌≤◌, ◌<◌}
use mathlib.Core.Path.{◌≡◌, sym, ap, ◌∙◌}
use mathlib.Core.List.{List}
use mathlib.Core.Bool.{Bool, true, false, cond, not, ◌&&◌}
use native.Mathlib.Omega.{arith}
use borrow.Author.Tests.{le-leb}
use lib.ListN.{length, get_or}
use lib.Dec.{eqb, eqb-suc-zero}
use lib.IntN.{ℤ, pos}
use lib.Signed.{le_z}
use Rattle.lists.proofs.Tests.{and_left, and_right, and_both}
use Rattle.tables.specs.Records.{value_at}
use Rattle.record_rules.specs.Numbers.{in_range, run_in_range}
use Rattle.record_rules.specs.Vertices.{vertex_obeys, given_obeys, parameter_vertex_obeys, control_obeys}
use Rattle.record_rules.specs.Corners.{attribute_obeys}
use Rattle.record_rules.proofs.Below.{below_all}
use Rattle.record_rules.proofs.OneVertex.{vertex-facts}
use Rattle.sweep_marks.specs.Counting.{kept_upto, new_number}
use Rattle.swept_files.proofs.Counting.{kept-named, new-zero, new-named}
use Rattle.swept_files.proofs.Parts.{part-values}
use Rattle.swept_files.proofs.OneKind.{Moved}

module _ (w : ℕ) (l after : List ℤ) (used left k m : ℕ) (moved : Moved w l after left k m) where
  value_after : (j : ℕ) → j < w → get_or after (w * (m - 1) + j) (pos 0) ≡ get_or l (w * (k - 1) + j) (pos 0)
  value_after j h = part-values after l (w * (m - 1)) (w * (k - 1)) w j (pos 0) moved.same h

  pub vertex-after : vertex_obeys w l used k ≡ true → vertex_obeys w after left m ≡ true
  unfolding vertex_obeys run_in_range
  vertex-after h =
      let v = vertex-facts w l used k h in
      and_both (and_both (le-leb 1 m moved.some) (le-leb m left moved.most))
      (and_both (le-leb (w * (m - 1) + w) (length after) moved.lent)
      (below_all (λ j. in_range (get_or after (w * (m - 1) + j) (pos 0))) w (λ j b. ap in_range (value_after j b) ∙ v.small j b)))

module _ (l after : List ℤ) (used left k m : ℕ) (moved : Moved 4 l after left k m) where
  vp-value : (j : ℕ) → j < 4 → value_at 4 after (m - 1) j ≡ value_at 4 l (k - 1) j
  vp-value j h = value_after 4 l after used left k m moved j h

  pub parameter-after : parameter_vertex_obeys l used k ≡ true → parameter_vertex_obeys after left m ≡ true
  unfolding parameter_vertex_obeys
  parameter-after h =
      let v = vertex_obeys 4 l used k in
      let g = given_obeys (value_at 4 l (k - 1) 0) (value_at 4 l (k - 1) 2) (value_at 4 l (k - 1) 3) in
      and_both (vertex-after 4 l after used left k m moved (and_left v g h))
      (rw (vp-value 0 (omega arith), vp-value 2 (omega arith), vp-value 3 (omega arith)) (and_right v g h))

  pub control-after : control_obeys l used k ≡ true → control_obeys after left m ≡ true
  unfolding control_obeys
  control-after h =
      let p = parameter_vertex_obeys l used k in
      let q = le_z (pos 2) (value_at 4 l (k - 1) 0) in
      and_both (parameter-after (and_left p q h)) (rw (vp-value 0 (omega arith)) (and_right p q h))

-- ---- the tests of a reference
module _ (f : ℕ → Bool) where
  -- a number that is named is 0 afterwards where it was
  new-is-zero : (k : ℕ) → f k ≡ true → eqb (new_number f k) 0 ≡ eqb k 0
  new-is-zero zero h = ap (λ (n : ℕ). eqb n 0) (new-zero f)
  new-is-zero (suc i) h = ap (λ (n : ℕ). eqb n 0) (new-named f (suc i) h ∙ kept-named f i h) ∙ eqb-suc-zero (kept_upto f i) ∙ sym (eqb-suc-zero i)

  pub attribute-after : (allowed : Bool) (l after : List ℤ) (used left first k : ℕ) → f first ≡ true → f k ≡ true
      → (1 ≤ k → k ≤ used → Moved 3 l after left k (new_number f k))
      → attribute_obeys allowed l used first k ≡ true → attribute_obeys allowed after left (new_number f first) (new_number f k) ≡ true
  unfolding attribute_obeys
  attribute-after allowed l after used left first k a b moved h = rw (new-is-zero first a, new-is-zero k b) (go (eqb k 0) (eqb first 0) h)
    where
      go : (z q : Bool) → cond z q (allowed && not q && vertex_obeys 3 l used k) ≡ true → cond z q (allowed && not q && vertex_obeys 3 after left (new_number f k)) ≡ true
      go true q h = h
      go false q h =
          let v = and_right (allowed && not q) (vertex_obeys 3 l used k) h in
          let r = vertex-facts 3 l used k v in
          and_both (and_left (allowed && not q) (vertex_obeys 3 l used k) h) (vertex-after 3 l after used left k (new_number f k) (moved r.some r.used-one) v)
