-- Closed lines, computed: each ends with LF, and the next starts after it.
use mathlib.Core.Path.{◌≡◌, refl}
use mathlib.Core.List.{[], ◌∷◌}
use mathlib.Core.Option.{none, some}
use lib.IntN.{pos, negsuc}
use Rattle.spellings.specs.Rows.{bytes}
use Rattle.text.specs.Rest.{rest_at}
use Rattle.decimals.specs.Number.{number_of, decimal, numerator, denominator, nearest}
use Rattle.model.specs.Model.{geometric, texture, normal, parametric}
use Rattle.read_vertices.specs.Vertex.{vertex_said}

three : vertex_said geometric (rest_at (bytes " 1 .5 -2 # w is 1\n") 0) ≡ some (pos 1000000 ∷ pos 500000 ∷ negsuc 1999999 ∷ pos 1000000 ∷ [], 18)
unfolding rest_at number_of decimal numerator denominator nearest
three = refl

four : vertex_said geometric (rest_at (bytes " 1 2 3 4\nv") 0) ≡ some (pos 1000000 ∷ pos 2000000 ∷ pos 3000000 ∷ pos 4000000 ∷ [], 9)
unfolding rest_at number_of decimal numerator denominator nearest
four = refl

two : vertex_said geometric (rest_at (bytes " 1 2\n") 0) ≡ none
unfolding rest_at number_of decimal numerator denominator nearest
two = refl

five : vertex_said geometric (rest_at (bytes " 1 2 3 4 5\n") 0) ≡ none
unfolding rest_at number_of decimal numerator denominator nearest
five = refl

refused-after : vertex_said normal (rest_at (bytes " 1 2 3 \\ \n") 0) ≡ none
unfolding rest_at number_of decimal numerator denominator nearest
refused-after = refl

one-texture : vertex_said texture (rest_at (bytes " 1\n") 0) ≡ some (pos 1000000 ∷ pos 0 ∷ pos 0 ∷ [], 3)
unfolding rest_at number_of decimal numerator denominator nearest
one-texture = refl

one-parameter : vertex_said parametric (rest_at (bytes " 7\n") 0) ≡ some (pos 1 ∷ pos 7000000 ∷ pos 0 ∷ pos 1000000 ∷ [], 3)
unfolding rest_at number_of decimal numerator denominator nearest
one-parameter = refl
