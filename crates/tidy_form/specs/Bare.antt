-- Agreement of two files on their models: the same records, and the same names as words.
use Rattle.std.specs.Prelude.{◌≡◌, List, [], ◌∷◌}
use Rattle.std.proofs.Math.Option.{Option, none, some}
use Rattle.text.specs.Words.{Word}
use Rattle.model.specs.Model.{Names, Element, Model}

-- a word, wherever it stands
abbrev pub bare_word : Word → Word
bare_word w = record { place = 0; bytes = w.bytes }

abbrev pub bare_words : List Word → List Word
bare_words [] = []
bare_words (w ∷ ws) = bare_word w ∷ bare_words ws

abbrev pub bare_option : Option Word → Option Word
bare_option none = none
bare_option (some w) = some (bare_word w)

abbrev pub bare_names : Names → Names
bare_names n = record { group = bare_words n.group; smoothing = n.smoothing; material = bare_option n.material }

abbrev pub bare_element : Element → Element
bare_element e = record { kind = e.kind; corners = e.corners; names = bare_names e.names }

abbrev pub bare_elements : List Element → List Element
bare_elements [] = []
bare_elements (e ∷ es) = bare_element e ∷ bare_elements es

unfoldable pub bare : Model → Model
bare m = record { vertices = m.vertices; elements = bare_elements m.elements }

-- the same records, and the same names as words
unfoldable pub Agree : Model → Model → Type 0
Agree m n = bare m ≡ bare n
