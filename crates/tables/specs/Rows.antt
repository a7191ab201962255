-- The numbers of a record as they are stored, in the order in which Records.antt reads them.
use Rattle.std.specs.Prelude.{ℕ, ◌+◌, ◌<◌, ◌≡◌, List, [], ◌∷◌, length, get_or, ℤ}
use Rattle.tables.specs.declared.Element.{Element}
use Rattle.tables.specs.declared.Body.{Body}
use Rattle.tables.specs.declared.Corner.{Corner}
use Rattle.tables.specs.declared.parts.LoopPart.{LoopPart}

abbrev pub corner_numbers : Corner → List ℕ
corner_numbers c = c.v ∷ c.vt ∷ c.vn ∷ []

abbrev pub element_numbers : Element → List ℕ
element_numbers e =
    e.kind ∷ e.corners.first ∷ e.corners.count ∷ e.body ∷ e.smoothing ∷ e.group.place ∷ e.group.length ∷ e.material.place ∷ e.material.length ∷ []

-- a body's numbers, and those of its range
abbrev pub body_numbers : Body → List ℕ
body_numbers b =
    b.basis ∷ b.rational ∷ b.degree_u ∷ b.degree_v ∷ b.first_parameter ∷ b.count_u ∷ b.count_v ∷ b.first_loop ∷ b.loops ∷ []

abbrev pub range_numbers : Body → List ℤ
range_numbers b = b.start_u ∷ b.end_u ∷ b.start_v ∷ b.end_v ∷ []

-- a loop part's numbers, and those of its span
abbrev pub loop_numbers : LoopPart → List ℕ
loop_numbers p = p.begins ∷ p.curve ∷ []

abbrev pub span_numbers : LoopPart → List ℤ
span_numbers p = p.from ∷ p.to ∷ []

-- a row holds the numbers of a table from `at` on, zeros past the table's end
abbrev pub HoldsFrom : {A : Type 0} → A → List A → ℕ → List A → Type 0
HoldsFrom zero table at row = (k : ℕ) → k < length row → get_or row k zero ≡ get_or table (at + k) zero
