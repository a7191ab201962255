-- The corners of an element whose first corner names a v alone: "All corners of a line share one pattern", so each names a v alone.
use Rattle.std.specs.Prelude.{ℕ, ◌+◌, ◌*◌, ◌-◌, ◌≤◌, ◌<◌, List, Bool, ◌&&◌, leb, eqb, get_or, ℤ, pos}
use Rattle.tables.specs.Records.{corner_in, corner_place, v_width}
use Rattle.tables.specs.declared.Corner.{Corner}
use Rattle.tables.specs.declared.CornerRun.{CornerRun}
use Rattle.record_rules.specs.Numbers.{in_range, all_below}
use Rattle.record_rules.specs.Vertices.{vertex_obeys}

-- r vertices are both used and within `lent` numbers, and no more
pub record Reach (lent used r : ℕ) : Type 0 where
  pub used-ones : r ≤ used
  pub lent-ones : v_width * r ≤ lent
  pub most : (k : ℕ) → r < k → k ≤ used → lent < v_width * k

-- vertex k is one of the first r, its numbers in range
unfoldable pub reached_obeys : List ℤ → ℕ → ℕ → Bool
reached_obeys v r k = leb 1 k && leb k r && all_below v_width (λ j. in_range (get_or v (v_width * (k - 1) + j) (pos 0)))

unfoldable pub bare_obeys : List ℤ → ℕ → Corner → Bool
bare_obeys v used c = vertex_obeys v_width v used c.v && eqb c.vt 0 && eqb c.vn 0

unfoldable pub each_bare : List ℤ → ℕ → List ℕ → CornerRun → Bool
each_bare v used corners run = all_below run.count (λ k. bare_obeys v used (corner_in corners (corner_place run k)))
