-- What is promised of every sweep that is not refused: every point, run and polyline is kept too.
use Rattle.swept_files.specs.Samples.{EverySweep}
use Rattle.swept_files.proofs.SameShown.{same-shown}
use Rattle.swept_files.proofs.SweptObeys.{swept-obeys}
use Rattle.swept_files.proofs.Sampled.{sampled}
use Rattle.swept_files.proofs.Every.{every-sweep-from}

pub every-sweep : EverySweep
every-sweep = every-sweep-from (sampled same-shown swept-obeys)
