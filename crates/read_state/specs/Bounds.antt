-- No count of records passes p.
use Rattle.std.specs.Prelude.{ℕ, ◌+◌, ◌≤◌, length}
use Rattle.std.proofs.Math.Option.{Option}
use Rattle.model.specs.Model.{Open, State}
use Rattle.model.specs.Room.{of_open, corner_count, element_count, body_count, parameter_count, loop_part_count}

-- the parameters of a body that has no end yet
abbrev pub waiting : Option Open → ℕ
waiting o = of_open (λ o. length o.body.us + length o.body.vs) o

pub record Bounded (p : ℕ) (x : State) : Type 0 where
  pub v : length x.model.vertices.v ≤ p
  pub vt : length x.model.vertices.vt ≤ p
  pub vn : length x.model.vertices.vn ≤ p
  pub vp : length x.model.vertices.vp ≤ p
  pub corners : corner_count x ≤ p
  pub elements : element_count x ≤ p
  pub bodies : body_count x ≤ p
  pub parameters : parameter_count x + waiting x.open-body ≤ p
  pub parts : loop_part_count x ≤ p
