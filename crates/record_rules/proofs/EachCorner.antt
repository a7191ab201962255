-- An element's corners, as their loop finds them: by the first corner that breaks a rule, or by their number.
use Prim.Native.Nat.{ℕ, ◌<◌, ◌≤◌}
use mathlib.Core.Path.{◌≡◌}
use mathlib.Core.Bool.{Bool, true, false}
use Rattle.tables.specs.Tables.{Tables}
use Rattle.tables.specs.Records.{corner_at}
use Rattle.tables.specs.declared.CornerRun.{CornerRun}
use Rattle.tables.specs.declared.Used.{Used}
use Rattle.record_rules.specs.Numbers.{all_below}
use Rattle.record_rules.specs.Corners.{corner_obeys, each_corner}
use Rattle.record_rules.proofs.Below.{below_fails, below-ends}

module _ (used : Used) (t : Tables) (kind : ℕ) (run : CornerRun) where
  abbrev pub at_corner : ℕ → Bool
  at_corner k = corner_obeys used t kind (corner_at t run 0) (corner_at t run k)

  pub each-fails : (k : ℕ) → k < run.count → at_corner k ≡ false → each_corner used t kind run ≡ false
  unfolding each_corner
  each-fails k h e = below_fails at_corner run.count k h e

  pub each_holds : (k : ℕ) → all_below k at_corner ≡ true → k ≤ run.count → run.count ≤ k → each_corner used t kind run ≡ true
  unfolding each_corner
  each_holds k h a b = below-ends at_corner h a b
