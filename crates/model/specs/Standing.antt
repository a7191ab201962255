-- Where a statement may stand, asked of the open body.
use Rattle.std.specs.Prelude.{Bool, true, false}
use Rattle.std.proofs.Math.Option.{Option, none, some}
use Rattle.model.specs.Model.{Free, ParmDirection, along-u, along-v, Open}
use Rattle.statements.specs.Rules as rules
use Rattle.model.specs.Parse.{open_free}

abbrev pub inside_body : Option Open → (Free → Bool) → Bool
inside_body o f = rules.in_body (open_free o) f

abbrev pub outside_body : Option Open → Bool
outside_body o = rules.outside (open_free o)

-- a parm along v
abbrev pub is_v : Option ParmDirection → Bool
is_v none = false
is_v (some along-u) = false
is_v (some along-v) = true
