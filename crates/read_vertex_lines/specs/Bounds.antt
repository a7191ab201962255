-- The bounds that the numbers of a state keep before the rest of a text: with them no count of a line passes its 32 bits, and the end of a body finds its parm lines.
use Rattle.std.specs.Prelude.{ℕ, ◌+◌, ◌*◌, ◌-◌, ◌≤◌, ◌<◌, ◌≡◌, List, length}
use Rattle.tables.specs.Records.{corner_width}
use Rattle.tables.specs.declared.Used.{Used}
use Rattle.read_state.specs.declared.Open.{Open}
use Rattle.read_state.specs.declared.State.{State}
use Rattle.read_bodies.specs.Closing.{parm_of}

-- the counts u, so many curv2s and the open body o, before the text s from `at` on: "16,777,216" at the most of each where every byte that is left adds one. A
-- parm line's numbers are counted before the end of its body, which stores them.
pub record Bounds (s : List ℕ) (at : ℕ) (u : Used) (curves : ℕ) (o : Open) : Type 0 where
  pub limit : length s ≤ 16777216
  pub to : at ≤ length s
  pub v : u.v + (length s - at) ≤ 16777216
  pub vt : u.vt + (length s - at) ≤ 16777216
  pub vn : u.vn + (length s - at) ≤ 16777216
  pub vp : u.vp + (length s - at) ≤ 16777216
  pub corners : u.corners + corner_width * (length s - at) ≤ corner_width * 16777216
  pub elements : u.elements + (length s - at) ≤ 16777216
  pub bodies : u.bodies + (length s - at) ≤ 16777216
  pub parameters : u.parameters + (length (parm_of s o.u_at) + length (parm_of s o.v_at)) + (length s - at) ≤ 16777216
  pub loops : u.loops + (length s - at) ≤ 16777216
  pub curves-few : curves + (length s - at) ≤ 16777216
  pub parts : o.parts ≤ u.loops
  pub u-parm : o.u_at ≤ length s
  pub v-parm : o.v_at ≤ length s
  pub body : (o.kind ≡ 0 → ⊥) → 1 ≤ u.bodies

abbrev pub InBounds : List ℕ → ℕ → State → Type 0
InBounds s at c = Bounds s at c.used c.curves c.«open»

-- a line of s whose words after the keyword stand from `at` on, in the state c, and after it d, the next line at q: within the bounds where its start is, it
-- leaves them kept
abbrev pub Keeps : List ℕ → ℕ → State → State → ℕ → Type 0
Keeps s at c d q = (p : ℕ) → p < at → InBounds s p c → InBounds s q d
