-- v, vt, vn, vp: what the rest of a line says as a vertex of a kind, its record and where the next line starts.
use Rattle.std.specs.Prelude.{ℕ, ◌+◌, ◌*◌, ◌≤◌, ◌<◌, ◌≡◌, cond, List, [], ◌∷◌, length, get_or, eqb, ℤ, pos, Option as Answer, Some, None}
use Rattle.std.proofs.Math.Option.{Option, none, some}
use Rattle.std.proofs.lemmas.List.Edits.{sets}
use Rattle.text.specs.Rest.{Rest, rest_at}
use Rattle.statements.specs.Rules.{vertex_count, fewest_by, most_by}
use Rattle.tables.specs.Records.{v_width, vt_width, vn_width, vp_width}
use Rattle.model.specs.Model.{VertexKind, geometric, texture, normal, parametric}
use Rattle.model.specs.Parse.{vertex_record}
use Rattle.read_vertices.specs.Into.{row_said}
use Rattle.read_vertices.specs.declared.Layout.{Layout}

-- the fewest and the most numbers of a line, by its row; a record of four holds no more
abbrev pub fewest_numbers : VertexKind → ℕ
fewest_numbers k = fewest_by (vertex_count k)

abbrev pub most_numbers : VertexKind → ℕ
most_numbers k = most_by (vertex_count k) 4

-- the numbers of a record: "v holds x y z w"; "vt three"; "vn three"; "vp the count given and u v w"
abbrev pub width : VertexKind → ℕ
width geometric = v_width
width texture = vt_width
width normal = vn_width
width parametric = vp_width

-- "vp the count given and u v w": how many numbers of the record stand before those of the line
abbrev pub leading_numbers : VertexKind → ℕ
leading_numbers geometric = 0
leading_numbers texture = 0
leading_numbers normal = 0
leading_numbers parametric = 1

abbrev pub layout_of : VertexKind → Layout
layout_of k = record { least = fewest_numbers k; most = most_numbers k; width = width k; lead = leading_numbers k }

-- what the code stores before the line's numbers, in a record of width n: what is absent is 0, and the last of four 1.000000
abbrev pub blank : ℕ → List ℤ
blank n = cond (eqb n 4) (pos 0 ∷ pos 0 ∷ pos 0 ∷ pos 1000000 ∷ []) (pos 0 ∷ pos 0 ∷ pos 0 ∷ [])

-- ---- what a line says: as many numbers as the kind has, and no more, as the record that `parse` gives
abbrev pub recorded : VertexKind → Option (List ℤ × ℕ) → Option (List ℤ × ℕ)
recorded k none = none
recorded k (some p) = some (vertex_record k p.0, p.1)

abbrev pub vertex_said : VertexKind → Rest → Option (List ℤ × ℕ)
vertex_said k r = recorded k (row_said (fewest_numbers k) (most_numbers k) r)

-- ---- what `take_vertex` answers; the table held l and then holds m
-- the record stands where the used ones end
pub record TakenVertex (k : VertexKind) (s : List ℕ) (at used : ℕ) (l m : List ℤ) (next : ℕ) : Type 0 where
  pub row : List ℤ
  pub said : vertex_said k (rest_at s at) ≡ some (row, next)
  pub room : width k * used + width k ≤ length l
  pub stored : m ≡ sets l (width k * used) row

-- whatever vertex the line is has no room; the used records are as they were
pub record NoVertex (k : VertexKind) (s : List ℕ) (at used : ℕ) (l m : List ℤ) : Type 0 where
  pub same : length m ≡ length l
  pub before : (i : ℕ) → i < width k * used → get_or m i (pos 0) ≡ get_or l i (pos 0)
  pub short : (z : List ℤ) (q : ℕ) → vertex_said k (rest_at s at) ≡ some (z, q) → length l < width k * used + width k

abbrev pub VertexIs : VertexKind → List ℕ → ℕ → ℕ → List ℤ → List ℤ → Answer ℕ → Type 0
VertexIs k s at used l m (Some q) = TakenVertex k s at used l m q
VertexIs k s at used l m None = NoVertex k s at used l m
