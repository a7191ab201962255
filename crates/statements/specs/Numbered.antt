-- The kind of an open body by its number, as the state of reading holds it.
use Rattle.std.specs.Prelude.{ℕ, cond, eqb}
use Rattle.std.proofs.Math.Option.{Option, none, some}
use Rattle.tables.specs.Records.{curve2_kind, surface_kind}
use Rattle.statements.specs.declared.Free.{Free}
use Rattle.statements.specs.declared.Free.TheVariants as free

-- the kind of an element that has a body
abbrev pub free_of : ℕ → Free
free_of kind = cond (eqb kind surface_kind) free.Surface (cond (eqb kind curve2_kind) free.Curve2 free.Curve)

-- 0 for none
abbrev pub free_numbered : ℕ → Option Free
free_numbered kind = cond (eqb kind 0) none (some (free_of kind))
