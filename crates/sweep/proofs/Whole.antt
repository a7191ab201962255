-- What tables that nothing is wrong with give, test by test, and the tests put together again.
use Prim.Native.Nat.{ℕ, ◌<◌}
use mathlib.Core.Path.{◌≡◌}
use mathlib.Core.Bool.{true, ◌&&◌}
use Rattle.lists.proofs.Tests.{and_left, and_right, and_both}
use Rattle.tables.specs.Tables.{Tables}
use Rattle.tables.specs.declared.Used.{Used}
use Rattle.record_rules.specs.Numbers.{all_below}
use Rattle.record_rules.specs.Rules.{obeys, curves_before}
use Rattle.record_rules.proofs.Below.{below_at, below_all}
use Rattle.table_rules.specs.Whole.{lent_all, vertices_obey, elements_obey, follows_at, ends_before, ends_used, runs_follow, whole_obeys}

-- the four tests
pub record Whole (used : Used) (t : Tables) : Type 0 where
  pub lent : lent_all used t ≡ true
  pub vertices : vertices_obey used t ≡ true
  pub elements : elements_obey used t ≡ true
  pub runs : runs_follow used t ≡ true

module _ (used : Used) (t : Tables) where
  pub whole_parts : whole_obeys used t ≡ true → Whole used t
  unfolding whole_obeys
  whole_parts h =
      let a = lent_all used t in
      let b = vertices_obey used t in
      let c = elements_obey used t in
      let three = and_left (a && b && c) (runs_follow used t) h in
      let two = and_left (a && b) c three in
      record {
        lent = and_left a b two;
        vertices = and_right a b two;
        elements = and_right (a && b) c three;
        runs = and_right (a && b && c) (runs_follow used t) h;
      }

  pub whole_of : Whole used t → whole_obeys used t ≡ true
  unfolding whole_obeys
  whole_of w = and_both (and_both (and_both w.lent w.vertices) w.elements) w.runs

module _ (used : Used) (t : Tables) where
  -- ---- every element
  pub elements-facts : elements_obey used t ≡ true → (i : ℕ) → i < used.elements → obeys used t (curves_before t i) i ≡ true
  unfolding elements_obey
  elements-facts h i l = below_at (λ i. obeys used t (curves_before t i) i) used.elements i h l

  pub elements-of : ((i : ℕ) → i < used.elements → obeys used t (curves_before t i) i ≡ true) → elements_obey used t ≡ true
  unfolding elements_obey
  elements-of h = below_all (λ i. obeys used t (curves_before t i) i) used.elements h

  -- ---- runs
  pub runs-at : runs_follow used t ≡ true → (i : ℕ) → i < used.elements → follows_at t i ≡ true
  unfolding runs_follow
  runs-at h i l = below_at (follows_at t) used.elements i (and_left (all_below used.elements (follows_at t)) (ends_used used (ends_before t used.elements)) h) l

  pub runs-end : runs_follow used t ≡ true → ends_used used (ends_before t used.elements) ≡ true
  unfolding runs_follow
  runs-end h = and_right (all_below used.elements (follows_at t)) (ends_used used (ends_before t used.elements)) h

  pub runs_of : ((i : ℕ) → i < used.elements → follows_at t i ≡ true) → ends_used used (ends_before t used.elements) ≡ true → runs_follow used t ≡ true
  unfolding runs_follow
  runs_of h e = and_both (below_all (follows_at t) used.elements h) e
