-- Must be believed: a promise reaches every definition of this file.
-- The lent tables of elements: their corners, and their records.
use Rattle.std.specs.Prelude.{ℕ, List, Bool, ◌&&◌, length, replicate, leb}
use Rattle.lists.specs.Lists.{filled}

pub record ElementTables : Type 0 where
  pub corners : List ℕ
  pub elements : List ℕ

abbrev pub element_tables : List ℕ → List ℕ → ElementTables
element_tables corners elements = record { corners = corners; elements = elements }

abbrev pub element_zeros : ElementTables → ElementTables
element_zeros t = element_tables (replicate (length t.corners) 0) (replicate (length t.elements) 0)

pub record ElementRooms : Type 0 where
  pub corners : ℕ
  pub elements : ℕ

abbrev pub element_lengths : ElementTables → ElementRooms
element_lengths t = record { corners = length t.corners; elements = length t.elements }

abbrev pub element_within : ElementRooms → ElementRooms → Bool
element_within a b = leb a.corners b.corners && leb a.elements b.elements

abbrev pub element_filled : ElementRooms → ElementTables → ElementTables
element_filled R t = element_tables (filled R.corners 0 t.corners) (filled R.elements 0 t.elements)
