-- Demand 3 for curves, on the definitions: a direction that obeys the rules samples near its weights.
use Rattle.point_exact.specs.Exact.{curve_exact}
use Rattle.point_exact.specs.Near.{CurveNear}
use Rattle.point_exact.proofs.Samplers.{sampler}
use Rattle.point_exact.proofs.Weights.{sampler-close}

pub curve-near : CurveNear
unfolding curve_exact
curve-near d t r c = sampler-close (sampler d t r) c
