-- p, l, f, and the corners of curv, curv2, surf: what the rest of a line says as an element, and what is stored of it.
use Rattle.std.specs.Prelude.{ℕ, ◌+◌, ◌*◌, ◌≤◌, ◌<◌, ◌≡◌, ◌⊎◌, List, length, Option as Answer, Some, None}
use Rattle.std.proofs.Math.Option.{some}
use Rattle.std.proofs.lemmas.List.Edits.{sets}
use Rattle.lists.specs.Lists.{flat}
use Rattle.text.specs.Rest.{Rest, rest_at}
use Rattle.text.specs.declared.Parsed.{Parsed}
use Rattle.references.specs.Corner.{Corner}
use Rattle.tables.specs.Rows.{element_numbers}
use Rattle.tables.specs.declared.Used.{Used}
use Rattle.tables.specs.declared.Element as Record
use Rattle.read_state.specs.declared.Names.{Names}
use Rattle.model.specs.Model as model
use Rattle.model.specs.Parse.{parts, fewest}
use Rattle.model.specs.Layout.{corner_row, shape_number}
use Rattle.read_vertices.specs.Into.{at_least}
use Rattle.read_elements.specs.Corners.{CornersFound, corner_said, corners_walk}
use Rattle.read_elements.specs.declared.CornerForm.TheVariants.{Vertex}
use Rattle.read_elements.specs.declared.Rule.{Rule}

-- "p 1 or more; l 2 or more; f 3 or more"; "p and curv are v; l is v or v/vt; f and surf are v, v/vt, v//vn or v/vt/vn"
abbrev pub rule_of : model.Shape → Rule
rule_of k = record { kind = shape_number k; fewest = fewest k; form = Vertex (parts k) }

-- the corners of the rest of a line, all of one pattern and enough of them
abbrev pub element_said : Rule → Used → Rest → CornersFound
element_said u n r = at_least u.fewest (corners_walk (corner_said n u.form) None r)

-- "An element holds kind, corners, smoothing, and the place and length of its group run and material in the text."
abbrev pub stored_element : ℕ → ℕ → ℕ → ℕ → Names → Record.Element
stored_element kind first count body a =
    record {
      kind = kind;
      corners = record { first = first; count = count };
      body = body;
      smoothing = a.smoothing;
      group = a.group;
      material = a.material;
    }

-- ---- the corner table held l and then holds m; the elements' held e and then holds f; body is the number of the element's body, 0 for none
pub record TakenElement (u : Rule) (body : ℕ) (n : Used) (a : Names) (s : List ℕ) (at : ℕ) (l m e f : List ℕ) (count next : ℕ) : Type 0 where
  pub found : List Corner
  pub said : element_said u n (rest_at s at) ≡ some (found, next)
  pub counted : count ≡ length found
  pub corners-room : 0 < count → n.corners + 3 * count ≤ length l
  pub corners-stored : m ≡ sets l n.corners (flat corner_row found)
  pub elements-room : 9 * n.elements + 9 ≤ length e
  pub elements-stored : f ≡ sets e (9 * n.elements) (element_numbers (stored_element u.kind n.corners count body a))

-- whatever element the line is has no room
pub record NoElement (u : Rule) (n : Used) (s : List ℕ) (at : ℕ) (l m e f : List ℕ) : Type 0 where
  pub same-corners : length m ≡ length l
  pub same-elements : length f ≡ length e
  pub short : (cs : List Corner) (q : ℕ) → element_said u n (rest_at s at) ≡ some (cs, q) → (length l < n.corners + 3 * length cs) ⊎ (length e < 9 * n.elements + 9)

abbrev pub ElementIs : Rule → ℕ → Used → Names → List ℕ → ℕ → List ℕ → List ℕ → List ℕ → List ℕ → Answer (Parsed ℕ) → Type 0
ElementIs u body n a s at l m e f (Some p) = TakenElement u body n a s at l m e f p.value p.next
ElementIs u body n a s at l m e f None = NoElement u n s at l m e f
