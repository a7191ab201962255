-- By the byte at the front.
use lib.ListN.{drop}
use mathlib.Core.Path.{ap, ◌∙◌}
use Prim.Native.Nat.{ℕ}
use lib.Dec.{eqb}
use Rattle.references.proofs.Pieces.{negative-first}
use Rattle.references.proofs.reference.part_at.Goals as goal

pub part_from-requires : goal.part_from-requires
part_from-requires c =
    record { at_in_bounds = c.requires; back_value = ap (λ (x : ℕ). eqb x 45) c.byte_at-back.ensures ∙ negative-first (drop c.args.at c.args.text.now) }
