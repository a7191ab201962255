-- A body's loop parts, as their loop finds them: by the first part that breaks a rule, or by their number.
use Prim.Native.Nat.{ℕ, ◌+◌, ◌<◌, ◌≤◌}
use mathlib.Core.Path.{◌≡◌}
use mathlib.Core.Bool.{Bool, true, false}
use Rattle.tables.specs.Tables.{Tables}
use Rattle.tables.specs.Records.{part_at}
use Rattle.record_rules.specs.Numbers.{all_below}
use Rattle.record_rules.specs.Loops.{part_obeys, each_part}
use Rattle.record_rules.proofs.Below.{below_fails, below-ends}

module _ (t : Tables) (curves first : ℕ) where
  abbrev pub at_part : ℕ → Bool
  at_part k = part_obeys curves k (part_at t (first + k))

  pub part-fails : (count k : ℕ) → k < count → at_part k ≡ false → each_part t curves first count ≡ false
  unfolding each_part
  part-fails count k h e = below_fails at_part count k h e

  pub part-holds : (count k : ℕ) → all_below k at_part ≡ true → k ≤ count → count ≤ k → each_part t curves first count ≡ true
  unfolding each_part
  part-holds count k h a b = below-ends at_part h a b
