-- Must be believed: a promise reaches every definition of this file.
-- What a file says, as lists of records: 01, "Records" and "Bodies". No word of how the lent tables lay it out.
use Rattle.std.specs.Prelude.{ℕ, suc, List, [], ◌∷◌, Bool, false, cond, length, ℤ}
use Rattle.std.proofs.Math.Option.{Option, none}
use Rattle.text.specs.Words.{Word}
use Rattle.references.specs.Corner.{Corner, Counts}
use Rattle.tables.specs.Bodies.{Basis}
use Rattle.statements.specs.Rules.{is_planar}
-- v, vt, vn, vp; p, l, f; curv, curv2, surf
pub use Rattle.statements.specs.declared.VertexKind.{VertexKind}
pub use Rattle.statements.specs.declared.VertexKind.TheVariants.{Geometric as geometric, Texture as texture, Normal as normal, Parametric as parametric}
pub use Rattle.statements.specs.declared.Shape.{Shape}
pub use Rattle.statements.specs.declared.Shape.TheVariants.{Point as point, Line as line, Face as face}
pub use Rattle.statements.specs.declared.Free.{Free}
pub use Rattle.statements.specs.declared.Free.TheVariants.{Curve as curve, Curve2 as curve2, Surface as surface}

-- ---- records

-- each record is the list of the numbers that its table holds
pub record Vertices : Type 0 where
  pub v : List (List ℤ)
  pub vt : List (List ℤ)
  pub vn : List (List ℤ)
  pub vp : List (List ℤ)

-- what is in force for the next element: the words after the last g, the smoothing, the word after the last usemtl
pub record Names : Type 0 where
  pub group : List Word
  pub smoothing : ℕ
  pub material : Option Word

-- u, v
pub data ParmDirection : Type 0 where
  along-u along-v : ParmDirection

-- one curve of a trimming loop: its two numbers, and the number of the curv2
pub record Part : Type 0 where
  pub from : ℤ
  pub to : ℤ
  pub curve : ℕ

pub record Loop : Type 0 where
  pub hole : Bool
  pub parts : List Part

-- "A body holds type, rational or not, degrees, ranges, parameters (u, then v), loops; a curve's v entries are 0."
pub record Body : Type 0 where
  pub free : Free
  pub basis : Basis
  pub rational : Bool
  pub degree-u : ℕ
  pub degree-v : ℕ
  pub start-u : ℤ
  pub end-u : ℤ
  pub start-v : ℤ
  pub end-v : ℤ
  pub us : List ℤ
  pub vs : List ℤ
  pub loops : List Loop

pub data Kind : Type 0 where
  plain : Shape → Kind
  free : Body → Kind

-- "Each p, l, f, curv, curv2 or surf line is one element"
pub record Element : Type 0 where
  pub kind : Kind
  pub corners : List Corner
  pub names : Names

pub record Model : Type 0 where
  pub vertices : Vertices
  pub elements : List Element

-- ---- what is in force while a file is read

-- cstype and deg; a degree of 0 is none
pub record Form : Type 0 where
  pub basis : Option Basis
  pub rational : Bool
  pub degree-u : ℕ
  pub degree-v : ℕ

-- the element of a body that has no end yet: a direction with no parameters has had no parm
pub record Open : Type 0 where
  pub body : Body
  pub controls : List Corner
  pub names : Names

pub record State : Type 0 where
  pub model : Model
  pub names : Names
  pub form : Form
  pub open-body : Option Open

abbrev pub start : State
start =
    record {
      model = record { vertices = record { v = []; vt = []; vn = []; vp = [] }; elements = [] };
      names = record { group = []; smoothing = 0; material = none };
      form = record { basis = none; rational = false; degree-u = 0; degree-v = 0 };
      open-body = none;
    }

-- ---- counts so far, which references are held against

abbrev pub is_curve2 : Kind → Bool
is_curve2 (plain k) = false
is_curve2 (free b) = is_planar b.free

abbrev pub curves : List Element → ℕ
curves [] = 0
curves (e ∷ es) = cond (is_curve2 e.kind) (suc (curves es)) (curves es)

abbrev pub counts_of : Vertices → Counts
counts_of x = record { v = length x.v; vt = length x.vt; vn = length x.vn }
