-- Each case takes bytes off what is left.
use Rattle.std.proofs.Common.{◌-◌, length}
use Rattle.sampler_cases.proofs.sample_cases.Given as goal

abbrev pub decreases-loop-at : goal.decreases-loop-at
decreases-loop-at g l = length l.cases - l.at
