-- The corner words of the rest of a line, as the code goes through them.
use Rattle.std.specs.Prelude.{ℕ, ◌+◌, ◌*◌, ◌≤◌, ◌<◌, ◌≡◌, Bool, true, cond, ◌&&◌, not, List, [], ◌∷◌, length, eqb, Option as Answer, Some, None}
use Rattle.std.proofs.Math.Option.{Option, none, some}
use Rattle.std.proofs.lemmas.List.Edits.{sets}
use Rattle.lists.specs.Lists.{flat}
use Rattle.text.specs.Words.{Word}
use Rattle.text.specs.Rest.{Rest, rest_at}
use Rattle.text.specs.declared.Parsed.{Parsed}
use Rattle.digits.specs.Said.{Said, says, wrong}
use Rattle.references.specs.Reference.{reference_of}
use Rattle.references.specs.Corner.{Corner, Counts, Parts, corner_of, agree}
use Rattle.tables.specs.declared.Used.{Used}
use Rattle.model.specs.Parse.{on_said}
use Rattle.model.specs.Layout.{corner_row}
use Rattle.read_elements.specs.declared.CornerForm.{CornerForm}
use Rattle.read_elements.specs.declared.CornerForm.TheVariants.{Vertex, Parameter}

abbrev pub counts_in : Used → Counts
counts_in n = record { v = n.v; vt = n.vt; vn = n.vn }

-- "a curv2 control holds its vp number in the first place"
abbrev pub control : ℕ → Corner
control k = record { v = k; vt = 0; vn = 0 }

-- what a word says as a corner of the parts allowed, or as a curv2's control
abbrev pub corner_said : Used → CornerForm → List ℕ → Said Corner
corner_said n (Vertex k) w = corner_of (counts_in n) k w
corner_said n Parameter w = on_said control (reference_of n.vp w)

-- "All corners of a line share one pattern": which parts a corner has besides v
abbrev pub pattern_of : Corner → Parts
pattern_of c = record { vt = not (eqb c.vt 0); vn = not (eqb c.vn 0) }

-- may a corner of pattern g stand where the corner before has pattern f, None where there is none?
abbrev pub follows : Answer Parts → Parts → Bool
follows None g = true
follows (Some f) g = agree f.vt g.vt && agree f.vn g.vn

-- corners, and where the next line starts; or none
abbrev pub CornersFound : Type 0
CornersFound = Option (List Corner × ℕ)

-- one corner before those to come
abbrev pub ahead : Corner → CornersFound → CornersFound
ahead c none = none
ahead c (some p) = some (c ∷ p.0, p.1)

abbrev pub on_corner : Said Corner → (Corner → CornersFound) → CornersFound
on_corner (says c) k = k c
on_corner (wrong n) k = none

-- the corners of the rest of a line, each word read by h, after one of pattern f
abbrev pub corners_from : (List ℕ → Said Corner) → Answer Parts → List Word → Option ℕ → ℕ → CornersFound
corners_from h f [] none q = some ([], q)
corners_from h f [] (some p) q = none
corners_from h f (w ∷ ws) b q =
    on_corner (h w.bytes) (λ c. cond (follows f (pattern_of c)) (ahead c (corners_from h (Some (pattern_of c)) ws b q)) none)

abbrev pub corners_walk : (List ℕ → Said Corner) → Answer Parts → Rest → CornersFound
corners_walk h f r = corners_from h f r.words r.bad r.next

-- ---- the corner table held l and then holds m

-- all the words are corners of one pattern, stored from entry `first` on
pub record TookCorners (h : List ℕ → Said Corner) (s : List ℕ) (at first : ℕ) (l m : List ℕ) (next count : ℕ) : Type 0 where
  pub found : List Corner
  pub walked : corners_walk h None (rest_at s at) ≡ some (found, next)
  pub counted : count ≡ length found
  pub small : count ≤ length s
  pub room : 0 < count → first + 3 * count ≤ length l
  pub stored : m ≡ sets l first (flat corner_row found)

-- whatever corners the line has pass the lent length
pub record StoppedCorners (h : List ℕ → Said Corner) (s : List ℕ) (at first : ℕ) (l m : List ℕ) : Type 0 where
  pub same : length m ≡ length l
  pub short : (cs : List Corner) (q : ℕ) → corners_walk h None (rest_at s at) ≡ some (cs, q) → length l < first + 3 * length cs

abbrev pub CornersIs : (List ℕ → Said Corner) → List ℕ → ℕ → ℕ → List ℕ → List ℕ → Answer (Parsed ℕ) → Type 0
CornersIs h s at first l m (Some p) = TookCorners h s at first l m p.next p.value
CornersIs h s at first l m None = StoppedCorners h s at first l m
