-- Must be believed: a promise reaches every definition of this file.
-- Demand 2: two files agree where their tables are the same "apart from where names stand and the blanks between them".
use Rattle.std.specs.Prelude.{ℕ, zero, suc, ◌≡◌, List, [], ◌∷◌, ◌++◌, take, drop}
use Rattle.text.specs.Written.{bytes_of}
use Rattle.tables.specs.VertexTables.{vertex_first}
use Rattle.tables.specs.BodyTables.{body_first}
use Rattle.tables.specs.Tables.{Tables}
use Rattle.tables.specs.Records.{element_width, element_in}
use Rattle.tables.specs.UsedRooms.{used_vertices, used_bodies}
use Rattle.tables.specs.declared.NameRun.{NameRun}
use Rattle.tables.specs.declared.Used.{Used}
use Rattle.model.specs.Layout.{words_in}

-- ---- the same of the lent tables

-- the words of a run in the text
abbrev pub words_at : List ℕ → NameRun → List (List ℕ)
words_at s run = bytes_of (words_in s run)

-- the table of n elements without the last four numbers of each: the place and length of its group and of its material
abbrev pub unnamed : ℕ → List ℕ → List ℕ
unnamed zero l = []
unnamed (suc n) l = take 5 l ++ unnamed n (drop element_width l)

-- and the words that these four give in the text s
abbrev pub names_shown : List ℕ → ℕ → List ℕ → List (List (List ℕ))
names_shown s zero l = []
names_shown s (suc n) l = words_at s (element_in l 0).group ∷ words_at s (element_in l 0).material ∷ names_shown s n (drop element_width l)

-- the texts s and t, the tables S and T that they were read into, and how much of these is used: the used entries, since those after them are 0 and
-- tables of other lengths may be lent.
pub record TablesAgree (s : List ℕ) (S : Tables) (p : Used) (t : List ℕ) (T : Tables) (q : Used) : Type 0 where
  pub used : p ≡ q
  pub vertices : vertex_first (used_vertices p) S.vertices ≡ vertex_first (used_vertices q) T.vertices
  pub corners : take p.corners S.elements.corners ≡ take q.corners T.elements.corners
  pub elements : unnamed p.elements S.elements.elements ≡ unnamed q.elements T.elements.elements
  pub bodies : body_first (used_bodies p) S.bodies ≡ body_first (used_bodies q) T.bodies
  pub names : names_shown s p.elements S.elements.elements ≡ names_shown t q.elements T.elements.elements
