-- Must be believed: a promise reaches every definition of this file.
-- What is promised of the advice on a place; what else it holds is stated nowhere.
use Rattle.std.specs.Prelude.{ℕ, ◌≡◌, List}
use Rattle.tables.specs.Bodies.{controls, basis_of}
use Rattle.read_advice.specs.declared.Advice.{Advice}
use Rattle.read_advice.specs.Tally.{tally_of}

-- "Controls k along one direction, from p parameters and degree n", of the type and degrees that the advice has
abbrev pub Needs : Advice → Type 0
Needs a =
    (a.u.controls ≡ controls (basis_of a.basis) a.degree_u a.u.parameters)
    × (a.v.controls ≡ controls (basis_of a.basis) a.degree_v a.v.parameters)

-- of the place p of the text s
abbrev pub AdviceIs : List ℕ → ℕ → Advice → Type 0
AdviceIs s p a = (a.tally ≡ tally_of s p) × Needs a
