-- Must be believed: a promise reaches every definition of this file.
-- 01, "The tidy text": the statements that it holds, in their order.
use Rattle.std.specs.Prelude.{ℕ, List, [], ◌∷◌, ◌++◌, map, Bool, true, false, cond, ◌&&◌, eqb, pos}
use Rattle.std.proofs.Math.Option.{Option}
use Rattle.lists.specs.Lists.{same}
use Rattle.text.specs.Words.{Word}
use Rattle.references.specs.Corner.{Corner}
use Rattle.model.specs.Model.{geometric, texture, normal, parametric, Vertices, Names, Free, curve, curve2, surface, along-u, along-v, Body, Kind, plain, free, Element, Model, start}
use Rattle.model.specs.Statements.{Statement, vertex, element, group, smoothing, material, type, degree, body, parameters, loop, end, body_with, with_range}
use Rattle.model.specs.Layout.{listed}

-- "All v, vt, vn (every coordinate), vp (those given)"
abbrev pub vertex_lines : Vertices → List Statement
vertex_lines x =
    map (vertex geometric) x.v ++ (map (vertex texture) x.vt ++ (map (vertex normal) x.vn ++ map (vertex parametric) x.vp))

-- "the names (as words)": the same bytes, word by word
abbrev pub same_words : List Word → List Word → Bool
same_words [] [] = true
same_words [] (w ∷ ws) = false
same_words (v ∷ vs) [] = false
same_words (v ∷ vs) (w ∷ ws) = same v.bytes w.bytes && same_words vs ws

-- "Before an element: g, s, usemtl lines where the names (as words) or number differ from the element before"; a change to no group is a bare g
abbrev pub group_lines : List Word → List Word → List Statement
group_lines before now = cond (same_words before now) [] (group now ∷ [])

abbrev pub smoothing_lines : ℕ → ℕ → List Statement
smoothing_lines before now = cond (eqb before now) [] (smoothing now ∷ [])

-- no statement takes a material away, so one that is set never changes to none
abbrev pub material_lines : Option Word → Option Word → List Statement
material_lines before now = cond (same_words (listed before) (listed now)) [] (map material (listed now))

-- "A curv2's range is the widest allowed": its line has none, and its end settles it
abbrev pub unsettled : Free → Body → Body
unsettled curve b = b
unsettled curve2 b = with_range (pos 0) (pos 0) b
unsettled surface b = b

-- no parameters and no loops yet
abbrev pub unfilled : Body → Body
unfilled b = body_with [] [] [] b

-- a body as its element's line leaves it
abbrev pub at_line : Body → Body
at_line b = unfilled (unsettled b.free b)

-- "parm u, parm v": the second on a surface
abbrev pub parameter_lines : Free → Body → List Statement
parameter_lines curve b = parameters along-u b.us ∷ []
parameter_lines curve2 b = parameters along-u b.us ∷ []
parameter_lines surface b = parameters along-u b.us ∷ parameters along-v b.vs ∷ []

-- "Before a body: cstype, deg"; "parm u, parm v, loops, end"
abbrev pub element_lines : Kind → List Corner → List Statement
element_lines (plain k) cs = element k cs ∷ []
element_lines (free b) cs =
    type b.rational b.basis ∷ degree b.degree-u b.degree-v ∷ body (at_line b) cs
    ∷ (parameter_lines b.free b ++ (map loop b.loops ++ end ∷ []))

-- "then elements in order"; the names before each are those of the element before it
abbrev pub elements_lines : Names → List Element → List Statement
elements_lines n [] = []
elements_lines n (e ∷ es) =
    group_lines n.group e.names.group
    ++ (smoothing_lines n.smoothing e.names.smoothing
    ++ (material_lines n.material e.names.material
    ++ (element_lines e.kind e.corners
    ++ elements_lines e.names es)))

-- "(at first: none, 0, none)": what is in force where a text begins
unfoldable pub tidied : Model → List Statement
tidied m = vertex_lines m.vertices ++ elements_lines start.names m.elements
