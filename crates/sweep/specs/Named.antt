-- Must be believed: a promise reaches every definition of this file.
-- Q-6: which v, vt, vn and vp a corner names, "counted from the references alone", and the new number of each.
use Rattle.std.specs.Prelude.{ℕ, List, [], ◌∷◌, Bool, cond, eqb, ℤ}
use Rattle.tables.specs.Tables.{Tables}
use Rattle.tables.specs.Records.{element_at, corner_at, v_width, vt_width, vn_width, vp_width, curve2_kind}
use Rattle.tables.specs.declared.Used.{Used}
use Rattle.tables.specs.declared.Corner.{Corner}
use Rattle.model.specs.Model.{VertexKind, geometric, texture, normal, parametric}
pub use Rattle.sweep_marks.specs.Counting.{reference, any_below, kept_upto, dropped_upto, new_number, flat_below}
unfoldable pub use Rattle.sweep_marks.specs.Counting.{new_numbers, kept_rows}

-- the records of one kind: how many are used, their table, and the numbers of each
abbrev pub used_of_kind : VertexKind → Used → ℕ
used_of_kind geometric used = used.v
used_of_kind texture used = used.vt
used_of_kind normal used = used.vn
used_of_kind parametric used = used.vp

abbrev pub table_in : VertexKind → Tables → List ℤ
table_in geometric t = t.vertices.v
table_in texture t = t.vertices.vt
table_in normal t = t.vertices.vn
table_in parametric t = t.vertices.vp

abbrev pub width_in : VertexKind → ℕ
width_in geometric = v_width
width_in texture = vt_width
width_in normal = vn_width
width_in parametric = vp_width

-- some corner of some element names record k, which counts from 1
unfoldable pub named : Used → Tables → VertexKind → ℕ → Bool
named used t kind k =
    any_below used.elements (λ i.
    any_below (element_at t i).corners.count (λ j. eqb (reference kind (element_at t i).kind (corner_at t (element_at t i).corners j)) k))

-- a corner of an element of kind e, its references renumbered
abbrev pub corner_after : Used → Tables → (e : ℕ) → Corner → List ℕ
corner_after used t e c =
    cond (eqb e curve2_kind) (new_number (named used t parametric) c.v) (new_number (named used t geometric) c.v)
    ∷ new_number (named used t texture) c.vt ∷ new_number (named used t normal) c.vn ∷ []

-- the corners of every element, in their order
unfoldable pub corners_after : Used → Tables → List ℕ
corners_after used t =
    flat_below used.elements (λ i.
    flat_below (element_at t i).corners.count (λ j. corner_after used t (element_at t i).kind (corner_at t (element_at t i).corners j)))
