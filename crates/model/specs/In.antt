-- The model that tables hold: the inverse of Layout.antt, each record read back from its entry. Total: tables that no reading made give a model too.
use Rattle.std.specs.Prelude.{ℕ, zero, suc, ◌*◌, ◌-◌, List, [], ◌∷◌, Bool, cond, take, drop, eqb, leb, ℤ}
use Rattle.std.proofs.Math.Option.{Option, none, some}
use Rattle.text.specs.Words.{Word}
use Rattle.references.specs.Corner.{Corner}
use Rattle.tables.specs.Tables.{Tables}
use Rattle.tables.specs.Bodies.{basis_of}
use Rattle.tables.specs.Records.{v_width, vt_width, vn_width, vp_width, element_at, corner_at, body_at, parameters_u, parameters_v, part_at, point_kind, line_kind, curve_kind, curve2_kind}
use Rattle.tables.specs.declared.parts.LoopPart.{LoopPart}
use Rattle.tables.specs.declared.Used.{Used}
use Rattle.tables.specs.declared.Element as records-element
use Rattle.tables.specs.declared.Corner as records-corner
use Rattle.tables.specs.declared.Body as records-body
use Rattle.model.specs.Layout.{words_in}
use Rattle.model.specs.Model.{Vertices, Names, Shape, point, line, face, Free, curve, curve2, surface, Part, Loop, Body, Kind, plain, free, Element, Model}

-- n records, from index i on
abbrev pub each : {A : Type 0} → (ℕ → A) → ℕ → ℕ → List A
each f zero i = []
each f (suc n) i = f i ∷ each f n (suc i)

-- ---- vertices: the row of w numbers at index i
abbrev pub row_at : ℕ → List ℤ → ℕ → List ℤ
row_at w l i = take w (drop (w * i) l)

abbrev pub vertices_from : Used → Tables → Vertices
vertices_from u t =
    record {
      v = each (row_at v_width t.vertices.v) u.v 0;
      vt = each (row_at vt_width t.vertices.vt) u.vt 0;
      vn = each (row_at vn_width t.vertices.vn) u.vn 0;
      vp = each (row_at vp_width t.vertices.vp) u.vp 0;
    }

-- ---- names: "the place and length of its group run and material in the text", as words where they stand
abbrev pub first_of : List Word → Option Word
first_of [] = none
first_of (w ∷ ws) = some w

abbrev pub names_from : List ℕ → records-element.Element → Names
names_from s e =
    record {
      group = words_in s e.group;
      smoothing = e.smoothing;
      material = first_of (words_in s e.material);
    }

-- ---- corners, from the element's run of them
abbrev pub corner_from : records-corner.Corner → Corner
corner_from c = record { v = c.v; vt = c.vt; vn = c.vn }

abbrev pub model_corners : Tables → records-element.Element → List Corner
model_corners t e = each (λ k. corner_from (corner_at t e.corners k)) e.corners.count 0

-- ---- loops: what begins with a part is 1 a trim, 2 a hole, 0 nothing; a part before the first that begins a loop belongs to none
abbrev pub part_from : LoopPart → Part
part_from p = record { from = p.from; to = p.to; curve = p.curve }

-- parts in their order: those that go on with a loop begun before them, and the loops that begin after those
pub record Begun : Type 0 where
  pub on : List Part
  pub loops : List Loop

abbrev pub goes_on : Part → Begun → Begun
goes_on p r = record { on = p ∷ r.on; loops = r.loops }

abbrev pub begins : Bool → Part → Begun → Begun
begins hole p r = record { on = []; loops = record { hole = hole; parts = p ∷ r.on } ∷ r.loops }

abbrev pub begun_with : LoopPart → Begun → Begun
begun_with p r = cond (eqb p.begins 0) (goes_on (part_from p) r) (begins (eqb p.begins 2) (part_from p) r)

abbrev pub begun_in : List LoopPart → Begun
begun_in [] = record { on = []; loops = [] }
begun_in (p ∷ ps) = begun_with p (begun_in ps)

-- ---- a body's record with its range, parameters and loop parts
abbrev pub body_from : Tables → Free → records-body.Body → Body
body_from t k b =
    record {
      free = k;
      basis = basis_of b.basis;
      rational = eqb b.rational 1;
      degree-u = b.degree_u;
      degree-v = b.degree_v;
      start-u = b.start_u;
      end-u = b.end_u;
      start-v = b.start_v;
      end-v = b.end_v;
      us = parameters_u t b;
      vs = parameters_v t b;
      loops = (begun_in (each (part_at t) b.loops b.first_loop)).loops;
    }

-- ---- elements: kinds 1 to 3 have no body; a body's number counts from 1
abbrev pub shape_of : ℕ → Shape
shape_of n = cond (eqb n point_kind) point (cond (eqb n line_kind) line face)

abbrev pub free_in : ℕ → Free
free_in n = cond (eqb n curve_kind) curve (cond (eqb n curve2_kind) curve2 surface)

abbrev pub kind_from : Tables → records-element.Element → Kind
kind_from t e = cond (leb curve_kind e.kind) (free (body_from t (free_in e.kind) (body_at t (e.body - 1)))) (plain (shape_of e.kind))

abbrev pub element_from : List ℕ → Tables → records-element.Element → Element
element_from s t e = record { kind = kind_from t e; corners = model_corners t e; names = names_from s e }

-- the model that the used entries of the tables hold, its names as the text s shows them
unfoldable pub model_in : List ℕ → Used → Tables → Model
model_in s u t = record { vertices = vertices_from u t; elements = each (λ i. element_from s t (element_at t i)) u.elements 0 }
