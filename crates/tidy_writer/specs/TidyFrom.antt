-- The tidy text of what the tables hold: 01, "The tidy text". Elements count from 1; number 0 is none, whose record is zeros.
use Rattle.std.specs.Prelude.{ℕ, zero, suc, ◌+◌, List, [], ◌∷◌, ◌++◌, true, false, cond, eqb}
use Rattle.text.specs.Written.{written_lines}
use Rattle.references.specs.Written.{written_whole}
use Rattle.keywords.specs.Keywords.{keyword_of}
use Rattle.statements.specs.declared.Carried.{Carried}
use Rattle.statements.specs.declared.Carried.TheVariants.{Vertex, Group, Smoothing, Material}
use Rattle.statements.specs.declared.VertexKind.TheVariants.{Geometric, Texture, Normal, Parametric}
use Rattle.tables.specs.Tables.{Tables}
use Rattle.tables.specs.Records.{v_width, vt_width, vn_width, vp_width}
use Rattle.tables.specs.Asking.{asked_element}
use Rattle.tables.specs.declared.Used.{Used}
use Rattle.tables.specs.declared.Element.{Element}
use Rattle.tidy_form.specs.declared.Weights.{Weights}
use Rattle.tidy_form.specs.declared.Weights.TheVariants.{Always}
use Rattle.tidy_form.specs.Agree.{words_at}
use Rattle.tidy_words.specs.Naming.{same_bytes}
use Rattle.tidy_writer.specs.Rows.{vertex_rows, own_lines}

-- "g, s, usemtl lines where the names (as words) or number differ from the element before"
abbrev pub changed : Carried → List (List ℕ) → List (List ℕ) → List (List (List ℕ))
changed k before now = cond (same_bytes before now) [] ((keyword_of k ∷ now) ∷ [])

abbrev pub smoothed : ℕ → ℕ → List (List (List ℕ))
smoothed before now = cond (eqb before now) [] ((keyword_of Smoothing ∷ written_whole now ∷ []) ∷ [])

-- the names of an element e after the element p
abbrev pub names_lines : List ℕ → Element → Element → List (List (List ℕ))
names_lines s p e =
    changed Group (words_at s p.group) (words_at s e.group)
    ++ (smoothed p.smoothing e.smoothing
    ++ changed Material (words_at s p.material) (words_at s e.material))

-- "then elements in order": the one after the element of that number, and n of them
abbrev pub element_lines : List ℕ → Used → Tables → ℕ → List (List (List ℕ))
element_lines s used t number =
    names_lines s (asked_element used t.elements.elements number) (asked_element used t.elements.elements (number + 1))
    ++ own_lines t (asked_element used t.elements.elements (number + 1))

abbrev pub elements_from : List ℕ → Used → Tables → ℕ → ℕ → List (List (List ℕ))
elements_from s used t zero number = []
elements_from s used t (suc n) number = element_lines s used t number ++ elements_from s used t n (number + 1)

-- "All v, vt, vn (every coordinate), vp (those given)"
abbrev pub vertices_from : Weights → Used → Tables → List (List (List ℕ))
vertices_from c used t =
    vertex_rows (Vertex Geometric) false c v_width used.v t.vertices.v
    ++ (vertex_rows (Vertex Texture) false Always vt_width used.vt t.vertices.vt
    ++ (vertex_rows (Vertex Normal) false Always vn_width used.vn t.vertices.vn
    ++ vertex_rows (Vertex Parametric) true c vp_width used.vp t.vertices.vp))

unfoldable pub tidy_from : Weights → List ℕ → Used → Tables → List ℕ
tidy_from c s used t = written_lines (vertices_from c used t ++ elements_from s used t used.elements 0)
