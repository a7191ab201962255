-- Must be believed: a promise reaches every definition of this file.
-- The statements of a file, their references resolved and their defaults filled in, and what each one does. Applying never refuses.
use Rattle.std.specs.Prelude.{ℕ, List, [], ◌∷◌, ◌++◌, Bool, cond, ℤ}
use Rattle.std.proofs.Math.Option.{Option, none, some}
use Rattle.text.specs.Words.{Word}
use Rattle.references.specs.Corner.{Corner}
use Rattle.tables.specs.Bodies.{Basis, low, high}
use Rattle.statements.specs.Rules.{is_planar}
use Rattle.model.specs.Model.{VertexKind, geometric, texture, normal, parametric, Vertices, Names, Shape, Free, ParmDirection, along-u, along-v, Loop, Body, plain, free, Element, Model, Form, Open, State}

pub data Statement : Type 0 where
  vertex : VertexKind → List ℤ → Statement
  element : Shape → List Corner → Statement
  group : List Word → Statement
  smoothing : ℕ → Statement
  material : Word → Statement
  type : Bool → Basis → Statement
  degree : ℕ → ℕ → Statement
  body : Body → List Corner → Statement
  parameters : ParmDirection → List ℤ → Statement
  loop : Loop → Statement
  end : Statement
  passed : Statement

-- ---- one field changed
abbrev pub with_vertex : VertexKind → List ℤ → Vertices → Vertices
with_vertex geometric z x = record { v = x.v ++ z ∷ []; vt = x.vt; vn = x.vn; vp = x.vp }
with_vertex texture z x = record { v = x.v; vt = x.vt ++ z ∷ []; vn = x.vn; vp = x.vp }
with_vertex normal z x = record { v = x.v; vt = x.vt; vn = x.vn ++ z ∷ []; vp = x.vp }
with_vertex parametric z x = record { v = x.v; vt = x.vt; vn = x.vn; vp = x.vp ++ z ∷ [] }

abbrev pub with_element : Element → Model → Model
with_element e m = record { vertices = m.vertices; elements = m.elements ++ e ∷ [] }

abbrev pub on_model : (Model → Model) → State → State
on_model f s = record { model = f s.model; names = s.names; form = s.form; open-body = s.open-body }

abbrev pub on_names : (Names → Names) → State → State
on_names f s = record { model = s.model; names = f s.names; form = s.form; open-body = s.open-body }

abbrev pub on_form : (Form → Form) → State → State
on_form f s = record { model = s.model; names = s.names; form = f s.form; open-body = s.open-body }

abbrev pub on_open : (Open → Open) → State → State
on_open f s = record { model = s.model; names = s.names; form = s.form; open-body = inside s.open-body }
  where
    inside : Option Open → Option Open
    inside none = none
    inside (some o) = some (f o)

abbrev pub with_body : (Body → Body) → Open → Open
with_body f o = record { body = f o.body; controls = o.controls; names = o.names }

-- the body with these parameters and loops
abbrev pub body_with : List ℤ → List ℤ → List Loop → Body → Body
body_with us vs loops b =
    record { free = b.free; basis = b.basis; rational = b.rational; degree-u = b.degree-u; degree-v = b.degree-v; start-u = b.start-u; end-u = b.end-u; start-v = b.start-v; end-v = b.end-v; us = us; vs = vs; loops = loops }

-- "A later parm of the same direction replaces the earlier."
abbrev pub with_parameters : ParmDirection → List ℤ → Body → Body
with_parameters along-u z b = body_with z b.vs b.loops b
with_parameters along-v z b = body_with b.us z b.loops b

abbrev pub with_loop : Loop → Body → Body
with_loop l b = body_with b.us b.vs (b.loops ++ l ∷ []) b

abbrev pub with_range : ℤ → ℤ → Body → Body
with_range s e b =
    record { free = b.free; basis = b.basis; rational = b.rational; degree-u = b.degree-u; degree-v = b.degree-v; start-u = s; end-u = e; start-v = b.start-v; end-v = b.end-v; us = b.us; vs = b.vs; loops = b.loops }

-- "A curv2's range is the widest allowed"
abbrev pub settled : Free → Body → Body
settled k b = cond (is_planar k) (with_range (low b.basis b.degree-u b.us) (high b.basis b.degree-u b.us) b) b

abbrev pub closed : Open → Element
closed o = record { kind = free (settled o.body.free o.body); corners = o.controls; names = o.names }

abbrev pub ended : Option Open → Model → Model
ended none m = m
ended (some o) m = with_element (closed o) m

-- ---- what a statement does
abbrev pub apply : Statement → State → State
apply (vertex k z) s = on_model (λ m. record { vertices = with_vertex k z m.vertices; elements = m.elements }) s
apply (element k cs) s = on_model (with_element (record { kind = plain k; corners = cs; names = s.names })) s
apply (group ws) s = on_names (λ n. record { group = ws; smoothing = n.smoothing; material = n.material }) s
apply (smoothing k) s = on_names (λ n. record { group = n.group; smoothing = k; material = n.material }) s
apply (material w) s = on_names (λ n. record { group = n.group; smoothing = n.smoothing; material = some w }) s
apply (type r t) s = on_form (λ f. record { basis = some t; rational = r; degree-u = f.degree-u; degree-v = f.degree-v }) s
apply (degree m n) s = on_form (λ f. record { basis = f.basis; rational = f.rational; degree-u = m; degree-v = n }) s
apply (body b cs) s = record { model = s.model; names = s.names; form = s.form; open-body = some (record { body = b; controls = cs; names = s.names }) }
apply (parameters d z) s = on_open (with_body (with_parameters d z)) s
apply (loop l) s = on_open (with_body (with_loop l)) s
apply end s = record { model = ended s.open-body s.model; names = s.names; form = s.form; open-body = none }
apply passed s = s
