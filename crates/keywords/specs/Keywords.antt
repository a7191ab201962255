-- Must be believed: a promise reaches every definition of this file.
-- 01, "What the box carries": the keywords of its three lists. They stand in the order of 000's "File structure", and then as 000 comes to them.
use Rattle.std.specs.Prelude.{ℕ, List, [], ◌∷◌}
use Prim.Native.String.{String}
use Rattle.spellings.specs.Rows.{Row, spells, row_of, kind_at, spelling_of}
use Rattle.statements.specs.declared.VertexKind.TheVariants.{Geometric, Texture, Normal, Parametric}
use Rattle.statements.specs.declared.Shape.TheVariants.{Point, Line, Face}
use Rattle.statements.specs.declared.Free.TheVariants.{Curve, Curve2, Surface}
use Rattle.statements.specs.declared.Carried.TheVariants.{Vertex, Element, Body, Parameters, Trim, Hole, End, BodyType, Degree, Group, Smoothing, Material, PassedOver}
use Rattle.statements.specs.declared.Carried as carried
use Rattle.statements.specs.declared.Statement.{Statement}
use Rattle.statements.specs.declared.Statement.TheVariants.{Carried, Refused, Unknown}

-- the letter that stands for a kind in the code's table: stored statements A to S; a blank is no row's
abbrev pub letter_of : Statement → ℕ
letter_of (Carried (Vertex Geometric)) = 65
letter_of (Carried (Vertex Texture)) = 66
letter_of (Carried (Vertex Normal)) = 67
letter_of (Carried (Vertex Parametric)) = 68
letter_of (Carried BodyType) = 69
letter_of (Carried Degree) = 70
letter_of (Carried (Element Point)) = 71
letter_of (Carried (Element Line)) = 72
letter_of (Carried (Element Face)) = 73
letter_of (Carried (Body Curve)) = 74
letter_of (Carried (Body Curve2)) = 75
letter_of (Carried (Body Surface)) = 76
letter_of (Carried Parameters) = 77
letter_of (Carried Trim) = 78
letter_of (Carried Hole) = 79
letter_of (Carried End) = 80
letter_of (Carried Group) = 81
letter_of (Carried Smoothing) = 82
letter_of (Carried Material) = 83
letter_of (Carried PassedOver) = 45
letter_of Refused = 33
letter_of Unknown = 32

abbrev carries : String → carried.Carried → Row Statement
carries s k = spells s (Carried k)

-- every keyword of 01, with the kind of its statement
unfoldable pub keywords : List (Row Statement)
keywords =
    carries "v" (Vertex Geometric)
    ∷ carries "vt" (Vertex Texture)
    ∷ carries "vn" (Vertex Normal)
    ∷ carries "vp" (Vertex Parametric)
    ∷ carries "cstype" BodyType
    ∷ carries "deg" Degree
    ∷ spells "bmat" Refused
    ∷ spells "step" Refused
    ∷ carries "p" (Element Point)
    ∷ carries "l" (Element Line)
    ∷ carries "f" (Element Face)
    ∷ carries "curv" (Body Curve)
    ∷ carries "curv2" (Body Curve2)
    ∷ carries "surf" (Body Surface)
    ∷ carries "parm" Parameters
    ∷ carries "trim" Trim
    ∷ carries "hole" Hole
    ∷ spells "scrv" Refused
    ∷ spells "sp" Refused
    ∷ carries "end" End
    ∷ spells "con" Refused
    ∷ carries "g" Group
    ∷ carries "s" Smoothing
    ∷ carries "mg" PassedOver
    ∷ carries "o" PassedOver
    ∷ carries "bevel" PassedOver
    ∷ carries "c_interp" PassedOver
    ∷ carries "d_interp" PassedOver
    ∷ carries "lod" PassedOver
    ∷ carries "usemtl" Material
    ∷ carries "mtllib" PassedOver
    ∷ carries "shadow_obj" PassedOver
    ∷ carries "trace_obj" PassedOver
    ∷ carries "ctech" PassedOver
    ∷ carries "stech" PassedOver
    ∷ spells "call" Refused
    ∷ spells "csh" Refused
    ∷ spells "fo" Refused
    ∷ carries "usemap" PassedOver
    ∷ spells "bsp" Refused
    ∷ spells "bzp" Refused
    ∷ spells "cdc" Refused
    ∷ spells "cdp" Refused
    ∷ spells "res" Refused
    ∷ []

-- "keyword unknown" where no row is spelled so
unfoldable pub statement_of : List ℕ → Statement
statement_of w = kind_at Unknown keywords (row_of keywords w)

-- the bytes that a statement's keyword is written with
unfoldable pub keyword_of : carried.Carried → List ℕ
keyword_of k = spelling_of letter_of keywords (letter_of (Carried k))
