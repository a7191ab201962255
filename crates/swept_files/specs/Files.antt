-- Must be believed: a promise reaches every definition of this file.
-- Q-6 on files: the model of a file without the vertices that no corner of it names, and what a sweep leaves of the tables that a text was read into.
use Rattle.end_to_end.specs.EntryPoints.{as_read}
use Rattle.std.specs.Prelude.{ℕ, suc, ◌≤◌, ◌≡◌, Bool, false, cond, ◌||◌, List, [], ◌∷◌, ◌++◌, map, length, drop, eqb}
use Rattle.references.specs.Corner.{Corner}
use Rattle.tables.specs.Tables.{Tables}
use Rattle.tables.specs.declared.Used.{Used}
use Rattle.model.specs.Model.{VertexKind, geometric, texture, normal, parametric, Vertices, free, Element, Model, is_curve2}
use Rattle.model.specs.Statements.{Statement, vertex, element, group, smoothing, material, type, degree, body, parameters, loop, end, passed}
use Rattle.model.specs.Read.{read, read_of}
use Rattle.model.specs.Layout.{tables_of, used_of}
use Rattle.reader.specs.Reading.{rooms_of, read_into}
use Rattle.tidy_form.specs.Tidied.{vertex_lines, tidied}
use Rattle.tidy_form.specs.declared.Weights.{Weights}
use Rattle.tidy_form.specs.Printed.{tidy_text}
use Rattle.tidy_form.specs.Agree.{TablesAgree}
use Rattle.sweep_marks.specs.Counting.{new_number}
use Rattle.sweep.specs.Swept.{swept_used, swept_tables}

-- ---- the swept model, from the model's lists and corners alone

-- the number of that kind that a corner holds, 0 for none: the controls of a curv2 hold vp numbers, every other corner v, vt and vn
abbrev pub number_in : VertexKind → (curv2 : Bool) → Corner → ℕ
number_in geometric curv2 c = cond curv2 0 c.v
number_in texture curv2 c = c.vt
number_in normal curv2 c = c.vn
number_in parametric curv2 c = cond curv2 c.v 0

-- the test holds for some element of a list
abbrev pub any_of : {A : Type 0} → (A → Bool) → List A → Bool
any_of f [] = false
any_of f (a ∷ xs) = f a || any_of f xs

-- some corner of the model names record k, which counts from 1
unfoldable pub named_in : Model → VertexKind → ℕ → Bool
named_in m kind k = any_of (λ e. any_of (λ c. eqb (number_in kind (is_curve2 e.kind) c) k) e.corners) m.elements

-- the records whose numbers pass, counted from 1, in their order
abbrev pub kept_of : {A : Type 0} → (ℕ → Bool) → List A → List A
kept_of f [] = []
kept_of f (a ∷ xs) = cond (f 1) (a ∷ kept_of (λ k. f (suc k)) xs) (kept_of (λ k. f (suc k)) xs)

abbrev pub swept_vertices : Model → Vertices
swept_vertices m =
    record {
      v = kept_of (named_in m geometric) m.vertices.v;
      vt = kept_of (named_in m texture) m.vertices.vt;
      vn = kept_of (named_in m normal) m.vertices.vn;
      vp = kept_of (named_in m parametric) m.vertices.vp;
    }

-- a corner with its references renumbered
abbrev pub swept_corner : Model → (curv2 : Bool) → Corner → Corner
swept_corner m curv2 c =
    record {
      v = cond curv2 (new_number (named_in m parametric) c.v) (new_number (named_in m geometric) c.v);
      vt = new_number (named_in m texture) c.vt;
      vn = new_number (named_in m normal) c.vn;
    }

-- "Every element shows the same coordinates, names and loops as before"
abbrev pub swept_element : Model → Element → Element
swept_element m e = record { kind = e.kind; corners = map (swept_corner m (is_curve2 e.kind)) e.corners; names = e.names }

unfoldable pub swept_model : Model → Model
swept_model m = record { vertices = swept_vertices m; elements = map (swept_element m) m.elements }

-- ---- the tables of a file: what a sweep leaves after the text s is read into the tables S
abbrev pub used_left : List ℕ → Tables → Used
used_left s S = swept_used (read_into s S).outcome.used (read_into s S).tables

abbrev pub tables_left : List ℕ → Tables → Tables
tables_left s S = swept_tables (read_into s S).outcome.used (read_into s S).tables

-- the text was read as m; the names stand where they stood, since the elements keep them
pub record SweptFile (s : List ℕ) (S : Tables) (m : Model) : Type 0 where
  pub used : used_left s S ≡ used_of (swept_model m)
  pub tables : tables_left s S ≡ tables_of (rooms_of S) (swept_model m)

abbrev pub SweptFiles : Type 0
SweptFiles = (s : List ℕ) (S : Tables) (m : Model) → read_of (rooms_of S) s ≡ read m → SweptFile s S m

-- ---- the tidy text of the swept model

-- a statement with its references renumbered
abbrev pub renumbered : Model → Statement → Statement
renumbered m (vertex k z) = vertex k z
renumbered m (element k cs) = element k (map (swept_corner m false) cs)
renumbered m (group ws) = group ws
renumbered m (smoothing n) = smoothing n
renumbered m (material w) = material w
renumbered m (type r t) = type r t
renumbered m (degree n k) = degree n k
renumbered m (body b cs) = body b (map (swept_corner m (is_curve2 (free b))) cs)
renumbered m (parameters d z) = parameters d z
renumbered m (loop l) = loop l
renumbered m end = end
renumbered m passed = passed

-- after its vertex statements it holds, statement by statement, those of the model's tidy text with their references renumbered
abbrev pub SameLines : Type 0
SameLines =
    (m : Model)
    → tidied (swept_model m) ≡ vertex_lines (swept_vertices m) ++ map (renumbered m) (drop (length (vertex_lines m.vertices)) (tidied m))

-- where it is no longer than a text may be, it is read into any tables T of those lengths, and gives tables that agree with the swept ones: these hold
-- the names' places in the text s
pub record ReadAgain (w s : List ℕ) (S T : Tables) : Type 0 where
  pub answer : (read_into w T).answer ≡ as_read (used_left s S)
  pub tables : TablesAgree w (read_into w T).tables (used_left s S) s (tables_left s S) (used_left s S)

abbrev pub SweptTexts : Type 0
SweptTexts =
    (c : Weights) (s : List ℕ) (S : Tables) (m : Model) → read_of (rooms_of S) s ≡ read m → length (tidy_text c (swept_model m)) ≤ 16777216
    → (T : Tables) → rooms_of T ≡ rooms_of S → ReadAgain (tidy_text c (swept_model m)) s S T
