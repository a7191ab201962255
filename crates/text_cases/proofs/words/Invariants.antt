-- Each word takes bytes off what is left; a line ends past its start.
use Rattle.std.proofs.Common.{◌-◌, ◌≤◌, length}
use Rattle.text_cases.proofs.words.Given as goal

abbrev pub invariant-loop-p : goal.invariant-loop-p
invariant-loop-p g l = (l.at ≤ l.i) × (l.i ≤ length l.text)

abbrev pub decreases-loop-p : goal.decreases-loop-p
decreases-loop-p g l = length l.text - l.i
