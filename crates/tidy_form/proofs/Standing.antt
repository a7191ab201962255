-- Which statements can be printed, and where they may stand.
use Prim.Native.Nat.{ℕ}
use mathlib.Core.Path.{◌≡◌}
use mathlib.Core.List.{List, [], ◌∷◌}
use mathlib.Core.Bool.{Bool, true, false, ◌||◌, not}
use mathlib.Core.Option.{Option, none, some}
use lib.ListN.{length}
use lib.Dec.{leb}
use Rattle.lists.specs.Lists.{all}
use Rattle.references.specs.Corner.{Corner, alike}
use Rattle.model.specs.Model.{Vertices, Free, curve, curve2, surface, Body, Form, Open, counts_of}
use Rattle.model.specs.Statements.{Statement, vertex, element, group, smoothing, material, type, degree, body, parameters, loop, end, passed}
use Rattle.model.specs.Parse.{Seen, counted, form_of, vertex_record, opened_body, in_force, given, is_surface, complete, counts_agree, range_within}
use Rattle.model.specs.Standing.{outside_body, inside_body, is_v}
use Rattle.tidy_form.specs.declared.Weights.{Weights}
use Rattle.tidy_form.specs.Printed.{coordinates, range_of}
use Rattle.tidy_form.proofs.Values.{key_of, values_in}
use Rattle.tidy_form.proofs.Words.{Fitting}

-- what a reference is held against, after the vertices x and n curv2 elements
abbrev pub seen_of : Vertices → ℕ → Seen
seen_of x n = record { counts = counts_of x; vp = length x.vp; curves = n }

-- all corners as the first
abbrev pub uniform : List Corner → Bool
uniform [] = true
uniform (c ∷ cs) = all (alike c) cs

-- the controls of a curv2 have two coordinates
abbrev pub wide : Vertices → Corner → Bool
wide x c = leb 2 (given x.vp c.v)

abbrev pub wide_in : Free → Vertices → List Corner → Bool
wide_in curve x cs = true
wide_in curve2 x cs = all (wide x) cs
wide_in surface x cs = true

-- what is told by all values of a line together
abbrev pub Whole : Vertices → Statement → Type 0
Whole x (vertex k z) = (c : Weights) → vertex_record k (coordinates c k z) ≡ z
Whole x (element k cs) = uniform cs ≡ true
Whole x (group ws) = Unit {0}
Whole x (smoothing n) = Unit {0}
Whole x (material w) = Unit {0}
Whole x (type r t) = Unit {0}
Whole x (degree m n) = Unit {0}
Whole x (body b cs) = (uniform cs ≡ true) × (wide_in b.free x cs ≡ true)
Whole x (parameters d z) = Unit {0}
Whole x (loop l) = Unit {0}
Whole x end = Unit {0}
Whole x passed = Unit {0}

-- the values of a statement's line, by each choice of weights, held against what has been seen
pub record Fine (x : Vertices) (n : ℕ) (t : Statement) : Type 0 where
  pub many : (c : Weights) → counted (key_of t) (length (values_in c t)) ≡ true
  pub fits : (c : Weights) → Fitting (seen_of x n) (form_of (key_of t) (length (values_in c t))) 0 (values_in c t)
  pub whole : Whole x t

-- the tests at an end
pub record Sound (b : Body) (k : ℕ) : Type 0 where
  pub complete : complete b.free b ≡ true
  pub counts : counts_agree b.free b k ≡ true
  pub range : range_within b.free b ≡ true

abbrev pub Ends : Option Open → Type 0
Ends none = false ≡ true
Ends (some o) = Sound o.body (length o.controls)

-- the type and degrees in force give the body
pub record Opens (f : Form) (b : Body) : Type 0 where
  pub force : in_force b.free f f.basis ≡ true
  pub gives : opened_body b.free f (range_of b.free b) ≡ b

abbrev pub Here : Form → Option Open → Statement → Type 0
Here f o (vertex k z) = outside_body o ≡ true
Here f o (element k cs) = outside_body o ≡ true
Here f o (group ws) = outside_body o ≡ true
Here f o (smoothing n) = outside_body o ≡ true
Here f o (material w) = outside_body o ≡ true
Here f o (type r t) = outside_body o ≡ true
Here f o (degree m n) = outside_body o ≡ true
Here f o (body b cs) = (outside_body o ≡ true) × Opens f b
Here f o (parameters d z) = inside_body o (λ k. is_surface k || not (is_v (some d))) ≡ true
Here f o (loop l) = inside_body o is_surface ≡ true
Here f o end = Ends o
Here f o passed = outside_body o ≡ true
