-- Must be believed: a promise reaches every definition of this file.
-- 01, "Words after the keyword", "Corner patterns" and "Bodies": one row of rules for each statement, which parsing, reading and the refusal of a line read.
use Rattle.std.specs.Prelude.{ℕ, ◌+◌, ◌%◌, Bool, true, false, cond, ◌&&◌, ◌||◌, not, leb, ltb, eqb}
use Rattle.std.proofs.Math.Option.{Option, none, some}
use Rattle.statements.specs.declared.VertexKind.{VertexKind}
use Rattle.statements.specs.declared.VertexKind.TheVariants.{Geometric, Texture, Normal, Parametric}
use Rattle.statements.specs.declared.Shape.{Shape}
use Rattle.statements.specs.declared.Shape.TheVariants.{Point, Line, Face}
use Rattle.statements.specs.declared.Free.{Free}
use Rattle.statements.specs.declared.Free.TheVariants as free
use Rattle.statements.specs.declared.Carried.{Carried}
use Rattle.statements.specs.declared.Carried.TheVariants.{Vertex, Element, Body, Parameters, Trim, Hole, End, BodyType, Degree, Group, Smoothing, Material, PassedOver}
use Rattle.statements.specs.declared.rules.Parts.{Parts}
use Rattle.statements.specs.declared.rules.WordForm.{WordForm}
use Rattle.statements.specs.declared.rules.WordForm.TheVariants as form
use Rattle.statements.specs.declared.rules.Standing.{Standing}
use Rattle.statements.specs.declared.rules.Standing.TheVariants as standing
use Rattle.statements.specs.declared.rules.Count.{Count}
use Rattle.statements.specs.declared.rules.Count.TheVariants.{Any, AtLeast, Within, Exactly, Threes}
use Rattle.statements.specs.declared.rules.Forms.{Forms}
use Rattle.statements.specs.declared.rules.Forms.TheVariants as forms
use Rattle.statements.specs.declared.rules.Held.{Held}
use Rattle.statements.specs.declared.rules.Held.TheVariants as held
use Rattle.statements.specs.declared.rules.Rules.{Rules}

-- ---- 10, "Between curv, curv2 or surf and end, only parm, trim, hole, blanks and comments stand. trim, hole and parm v belong to surfaces. Outside a body all four are 10"
abbrev pub is_surface : Free → Bool
is_surface free.Curve = false
is_surface free.Curve2 = false
is_surface free.Surface = true

-- a curv2 lies in the plane of a surface's parameters
abbrev pub is_planar : Free → Bool
is_planar free.Curve = false
is_planar free.Curve2 = true
is_planar free.Surface = false

-- in a body of an element of a kind that f lets in
abbrev pub in_body : Option Free → (Free → Bool) → Bool
in_body none f = false
in_body (some k) f = f k

abbrev pub outside : Option Free → Bool
outside none = true
outside (some k) = false

-- by the kind of the open body's element, and whether the line's first word is the direction v
abbrev pub allowed_by : Standing → Option Free → Bool → Bool
allowed_by standing.Outside o v = outside o
allowed_by standing.Body o v = in_body o (λ k. true)
allowed_by standing.Surface o v = in_body o is_surface
allowed_by standing.Parameters o v = in_body o (λ k. is_surface k || not v)

-- ---- 5, "Words after the keyword"
abbrev pub counted_by : Count → ℕ → Bool
counted_by Any n = true
counted_by (AtLeast m) n = leb m n
counted_by (Within a b) n = leb a n && leb n b
counted_by (Exactly m) n = eqb n m
counted_by Threes n = ltb 0 n && eqb (n % 3) 0

-- the fewest words, and the most; all where there is no most
abbrev pub fewest_by : Count → ℕ
fewest_by Any = 0
fewest_by (AtLeast m) = m
fewest_by (Within a b) = a
fewest_by (Exactly m) = m
fewest_by Threes = 3

abbrev pub most_by : Count → ℕ → ℕ
most_by Any all = all
most_by (AtLeast m) all = all
most_by (Within a b) all = b
most_by (Exactly m) all = m
most_by Threes all = all

-- "v 3 or 4; vt, vp 1 to 3; vn 3"
abbrev pub vertex_count : VertexKind → Count
vertex_count Geometric = Within 3 4
vertex_count Texture = Within 1 3
vertex_count Normal = Exactly 3
vertex_count Parametric = Within 1 3

-- "p 1 or more; l 2 or more; f 3 or more"
abbrev pub fewest : Shape → ℕ
fewest Point = 1
fewest Line = 2
fewest Face = 3

-- "curv 4 or more (range, controls); curv2 2 or more; surf 5 or more": a range is two numbers, a surface's four
abbrev pub range_words : Free → ℕ
range_words free.Curve = 2
range_words free.Curve2 = 0
range_words free.Surface = 4

abbrev pub fewest_controls : Free → ℕ
fewest_controls k = cond (is_surface k) 1 2

-- ---- 4 of a type, 6, 7, 8: the form of word i, from 0, of n words
abbrev pub form_by : Forms → ℕ → ℕ → WordForm
form_by (forms.All f) n i = f
form_by (forms.Range r f) n i = cond (ltb i r) form.Number f
form_by forms.Parameters n i = cond (eqb i 0) form.Direction form.Number
form_by forms.Loop n i = cond (eqb (i % 3) 2) form.Curve form.Number
form_by forms.Type n i = cond (eqb (i + 1) n) form.Type form.Rational

-- "p and curv are v; l is v or v/vt; f and surf are v, v/vt, v//vn or v/vt/vn"
abbrev pub parts : Shape → Parts
parts Point = record { vt = false; vn = false }
parts Line = record { vt = true; vn = false }
parts Face = record { vt = true; vn = true }

-- a curv2's control is a vp number
abbrev pub control_form : Free → WordForm
control_form free.Curve = form.Corner (record { vt = false; vn = false })
control_form free.Curve2 = form.Control
control_form free.Surface = form.Corner (record { vt = true; vn = true })

-- ---- the rows: where a statement may stand, how many words follow its keyword, the form of each word, what is held against its line
abbrev pub rule_row : Standing → Count → Forms → Held → Rules
rule_row a c f h = record { standing = a; count = c; forms = f; held = h }

-- a statement outside bodies whose words have one form
abbrev pub plain : Count → WordForm → Rules
plain c f = rule_row standing.Outside c (forms.All f) held.Nothing

-- "parm u or v, then 2 or more; trim, hole a positive multiple of three (two numbers, a curv2 number); end 0; cstype 1 or 2; deg 1 or 2; g any; s, usemtl 1"
abbrev pub rules_of : Carried → Rules
rules_of (Vertex k) = plain (vertex_count k) form.Number
rules_of (Element k) = rule_row standing.Outside (AtLeast (fewest k)) (forms.All (form.Corner (parts k))) (held.Corners (parts k))
rules_of (Body k) = rule_row standing.Outside (AtLeast (range_words k + fewest_controls k)) (forms.Range (range_words k) (control_form k)) (held.Body k)
rules_of Parameters = rule_row standing.Parameters (AtLeast 3) forms.Parameters held.Nothing
rules_of Trim = rule_row standing.Surface Threes forms.Loop held.Nothing
rules_of Hole = rule_row standing.Surface Threes forms.Loop held.Nothing
rules_of End = rule_row standing.Body (Exactly 0) (forms.All form.Anything) held.End
rules_of BodyType = rule_row standing.Outside (Within 1 2) forms.Type held.Nothing
rules_of Degree = plain (Within 1 2) form.Degree
rules_of Group = plain Any form.Name
rules_of Smoothing = plain (Exactly 1) form.Smoothing
rules_of Material = plain (Exactly 1) form.Name
rules_of PassedOver = plain Any form.Anything
