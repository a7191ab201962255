-- Each case takes bytes off what is left.
use Rattle.std.proofs.Common.{◌-◌, length}
use Rattle.reader_cases.proofs.read_cases.Given as goal

abbrev pub decreases-loop-at : goal.decreases-loop-at
decreases-loop-at g l = length l.cases - l.at
