use mathlib.Core.Path.{◌≡◌}
use lib.ListN.{length}
use Rattle.text.specs.Rest.{rest_at}
use Rattle.read_bodies.proofs.Steps as S
use Rattle.read_bodies.proofs.numbers.count_numbers.Given as goal

abbrev pub invariant-loop-more : goal.invariant-loop-more
invariant-loop-more l = (length l.unused ≡ 16) × S.Counting l.text l.at l.i l.count

abbrev pub decreases-loop-more : goal.decreases-loop-more
decreases-loop-more l = length (rest_at l.text l.i).words
