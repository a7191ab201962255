-- Asking on closed tables, computed: an element's corners and names, a body, and what no such element and no such body gives.
use Prim.Native.Nat.{ℕ}
use mathlib.Core.Path.{◌≡◌, refl}
use mathlib.Core.List.{List, [], ◌∷◌}
use lib.IntN.{ℤ, pos}
use Rattle.tables.specs.Asking.{held, asked_element, body_held, asked_body, no_body, no_corner, corner_with, asked_corner, part_of, asked_group, asked_material}
use Rattle.tables.specs.declared.Used.{Used}
use Rattle.tables.specs.declared.Body.{Body}

abbrev used : Used
used = record { v = 2; vt = 0; vn = 0; vp = 0; corners = 6; elements = 1; bodies = 2; parameters = 0; loops = 0 }

-- a line of three corners, of which two are used, with the group at 1 of length 2 and a material that passes the text
abbrev elements : List ℕ
elements = 2 ∷ 0 ∷ 3 ∷ 0 ∷ 0 ∷ 1 ∷ 2 ∷ 3 ∷ 2 ∷ 2 ∷ 0 ∷ 1 ∷ 0 ∷ 0 ∷ 0 ∷ 1 ∷ 0 ∷ 0 ∷ []

abbrev corners : List ℕ
corners = 1 ∷ 0 ∷ 0 ∷ 2 ∷ 5 ∷ 0 ∷ 7 ∷ 7 ∷ 7 ∷ []

-- two bodies, of which the second has no whole range
abbrev bodies : List ℕ
bodies = 1 ∷ 0 ∷ 3 ∷ 0 ∷ 0 ∷ 2 ∷ 0 ∷ 0 ∷ 0 ∷ 2 ∷ 0 ∷ 1 ∷ 0 ∷ 2 ∷ 4 ∷ 0 ∷ 0 ∷ 0 ∷ []

abbrev ranges : List ℤ
ranges = pos 5 ∷ pos 6 ∷ pos 0 ∷ pos 0 ∷ pos 1 ∷ pos 2 ∷ pos 0 ∷ []

abbrev text : List ℕ
text = 65 ∷ 66 ∷ 67 ∷ 68 ∷ []

second : asked_corner used elements corners 1 1 ≡ record { v = 2; vt = 5; vn = 0 }
unfolding held asked_element corner_with asked_corner
second = refl

past-used : asked_corner used elements corners 1 2 ≡ no_corner
unfolding held asked_element corner_with asked_corner
past-used = refl

element-zero : asked_corner used elements corners 0 0 ≡ no_corner
unfolding held asked_element corner_with asked_corner
element-zero = refl

element-unused : asked_corner used elements corners 2 0 ≡ no_corner
unfolding held asked_element corner_with asked_corner
element-unused = refl

group : asked_group text used elements 1 ≡ 66 ∷ 67 ∷ []
unfolding held asked_element part_of asked_group
group = refl

group-zero : asked_group text used elements 0 ≡ []
unfolding held asked_element part_of asked_group
group-zero = refl

material-past : asked_material text used elements 1 ≡ []
unfolding held asked_element part_of asked_material
material-past = refl

abbrev curve : Body
curve =
    record {
      basis = 1;
      rational = 0;
      degree_u = 3;
      degree_v = 0;
      first_parameter = 0;
      count_u = 2;
      count_v = 0;
      first_loop = 0;
      loops = 0;
      start_u = pos 5;
      end_u = pos 6;
      start_v = pos 0;
      end_v = pos 0;
    }

first_body : asked_body used bodies ranges 1 ≡ curve
unfolding held body_held asked_body
first_body = refl

body-zero : asked_body used bodies ranges 0 ≡ no_body
unfolding held body_held asked_body
body-zero = refl

body-unranged : asked_body used bodies ranges 2 ≡ no_body
unfolding held body_held asked_body
body-unranged = refl
