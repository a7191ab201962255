-- What reading keeps of a model: its records can be printed, and each passes its tests.
use Prim.Native.Nat.{ℕ, suc}
use mathlib.Core.Path.{◌≡◌}
use mathlib.Core.List.{List, [], ◌∷◌}
use mathlib.Core.Bool.{Bool, true, false, cond}
use mathlib.Core.Option.{Option, none, some}
use lib.ListN.{length}
use lib.Dec.{leb}
use lib.IntN.{ℤ}
use Rattle.text.specs.Words.{Word}
use Rattle.references.specs.Corner.{Corner}
use Rattle.model.specs.Model.{VertexKind, geometric, texture, normal, parametric, Vertices, Names, Free, curve, curve2, surface, ParmDirection, along-u, along-v, Loop, Body, Kind, plain, free, Element, Form, Open, State, is_curve2, curves}
use Rattle.model.specs.Statements.{Statement, vertex, element, group, smoothing, material, degree, body, parameters, loop, settled}
use Rattle.tidy_form.specs.Tidied.{unsettled, unfilled, at_line}
use Rattle.tidy_form.proofs.Standing.{Fine, Sound, Opens}

-- a statement that refers to nothing can be printed anywhere
abbrev pub Always : Statement → Type 0
Always t = (x : Vertices) (n : ℕ) → Fine x n t

-- ---- vertices
abbrev pub GoodVertices : VertexKind → List (List ℤ) → Type 0
GoodVertices k [] = Unit {0}
GoodVertices k (z ∷ zs) = Always (vertex k z) × GoodVertices k zs

-- ---- names; one that is set stays set
abbrev pub GoodMaterial : Option Word → Type 0
GoodMaterial none = Unit {0}
GoodMaterial (some w) = Always (material w)

pub record GoodNames (n : Names) : Type 0 where
  pub group : Always (group n.group)
  pub smoothing : Always (smoothing n.smoothing)
  pub material : GoodMaterial n.material

abbrev pub stays : Option Word → Option Word → Bool
stays none b = true
stays (some w) none = false
stays (some w) (some v) = true

-- ---- bodies, after the vertices x and n curv2 elements

-- the type and degrees of a body, in force
abbrev pub form_in : Body → Form
form_in b = record { basis = some b.basis; rational = b.rational; degree-u = b.degree-u; degree-v = b.degree-v }

abbrev pub GoodLoops : Vertices → ℕ → List Loop → Type 0
GoodLoops x n [] = Unit {0}
GoodLoops x n (l ∷ ls) = Fine x n (loop l) × GoodLoops x n ls

-- loops stand in surfaces alone
abbrev pub LoopsIn : Vertices → ℕ → Free → List Loop → Type 0
LoopsIn x n curve ls = ls ≡ []
LoopsIn x n curve2 ls = ls ≡ []
LoopsIn x n surface ls = GoodLoops x n ls

-- so do parameters along v
abbrev pub SecondIn : Free → List ℤ → Type 0
SecondIn curve z = z ≡ []
SecondIn curve2 z = z ≡ []
SecondIn surface z = Always (parameters along-v z)

pub record GoodBody (x : Vertices) (n : ℕ) (b : Body) (cs : List Corner) : Type 0 where
  pub degrees : Always (degree b.degree-u b.degree-v)
  pub line : Fine x n (body (at_line b) cs)
  pub opens : Opens (form_in b) (at_line b)
  pub us : Always (parameters along-u b.us)
  pub vs : SecondIn b.free b.vs
  pub loops : LoopsIn x n b.free b.loops
  pub sound : Sound (unsettled b.free b) (length cs)
  pub settles : settled b.free (unsettled b.free b) ≡ b

-- ---- elements
abbrev pub GoodKind : Vertices → ℕ → Kind → List Corner → Type 0
GoodKind x n (plain k) cs = Fine x n (element k cs)
GoodKind x n (free b) cs = GoodBody x n b cs

-- how many curv2 elements there are after one more
abbrev pub plus : Kind → ℕ → ℕ
plus k n = cond (is_curve2 k) (suc n) n

-- a are the materials before the elements and after them
abbrev pub GoodElements : Vertices → ℕ → Option Word → List Element → Option Word → Type 0
GoodElements x n a [] l = stays a l ≡ true
GoodElements x n a (e ∷ es) l =
    GoodKind x n e.kind e.corners × GoodNames e.names × (stays a e.names.material ≡ true) × GoodElements x (plus e.kind n) e.names.material es l

-- ---- a body that has no end yet
abbrev pub Given : ParmDirection → List ℤ → Type 0
Given d [] = Unit {0}
Given d (a ∷ z) = Always (parameters d (a ∷ z))

abbrev pub GivenIn : Free → List ℤ → Type 0
GivenIn curve z = z ≡ []
GivenIn curve2 z = z ≡ []
GivenIn surface z = Given along-v z

pub record GoodOpen (x : Vertices) (n : ℕ) (names : Names) (o : Open) : Type 0 where
  pub named : o.names ≡ names
  pub degrees : Always (degree o.body.degree-u o.body.degree-v)
  pub line : Fine x n (body (unfilled o.body) o.controls)
  pub opens : Opens (form_in o.body) (unfilled o.body)
  pub us : Given along-u o.body.us
  pub vs : GivenIn o.body.free o.body.vs
  pub loops : LoopsIn x n o.body.free o.body.loops
  pub unset : unsettled o.body.free o.body ≡ o.body

abbrev pub GoodOption : Vertices → ℕ → Names → Option Open → Type 0
GoodOption x n names none = Unit {0}
GoodOption x n names (some o) = GoodOpen x n names o

-- "Degree: .. 1 to 20"; 0 is none
pub record GoodForm (f : Form) : Type 0 where
  pub u : leb f.degree-u 20 ≡ true
  pub v : leb f.degree-v 20 ≡ true

-- ---- a state, held against the vertices x that the file has in the end
pub record Good (x : Vertices) (s : State) : Type 0 where
  pub v : GoodVertices geometric s.model.vertices.v
  pub vt : GoodVertices texture s.model.vertices.vt
  pub vn : GoodVertices normal s.model.vertices.vn
  pub vp : GoodVertices parametric s.model.vertices.vp
  pub elements : GoodElements x 0 none s.model.elements s.names.material
  pub names : GoodNames s.names
  pub form : GoodForm s.form
  pub opened : GoodOption x (curves s.model.elements) s.names s.open-body
