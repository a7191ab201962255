-- Demand 3 for surfaces, on the definitions: one direction's sampler over the other's is near the products of their weights.
use Rattle.point_exact.specs.Exact.{surface_exact}
use Rattle.point_exact.specs.Sampled.{surface_sampled}
use Rattle.point_exact.specs.Near.{SurfaceNear}
use Rattle.point_exact.proofs.Samplers.{sampler}
use Rattle.point_exact.proofs.Weights.{rows-close}

pub surface-near : SurfaceNear
unfolding surface_exact surface_sampled
surface-near u v s t a b c = rows-close (sampler u s a) (sampler v t b) c
