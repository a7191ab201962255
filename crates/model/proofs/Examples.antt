-- Closed examples: texts read by the definition.
use Prim.Native.Nat.{ℕ}
use mathlib.Core.Path.{◌≡◌, refl}
use mathlib.Core.List.{List, [], ◌∷◌}
use mathlib.Core.Bool.{true, false}
use lib.IntN.{pos}
use Rattle.spellings.specs.Rows.{bytes}
use Rattle.text.specs.Lines.{lines_of}
use Rattle.decimals.specs.Number.{number_of, decimal, numerator, denominator, nearest}
use Rattle.digits.specs.Digits.{is_whole}
use Rattle.references.specs.Reference.{is_reference, refer, reference_of}
use Rattle.references.specs.Corner.{corner_of}
use Rattle.digits.specs.Degree.{degree_of, smoothing_of, name_of}
use Rattle.keywords.specs.Keywords.{statement_of, keywords}
use Rattle.keywords.specs.Arguments.{argument_of, arguments, argument_bytes}
use Rattle.tables.specs.Bodies.{in_order, curve_count, surface_count}
use Rattle.model.specs.Model.{start}
use Rattle.model.specs.Room.{Rooms, fits}
use Rattle.model.specs.Parse.{parse}
use Rattle.model.specs.Read.{Answer, read, refused, read_of, statement}
use Rattle.model.specs.Layout.{tables_of, used_of}
use Rattle.model.specs.In.{begun_in, model_in}
use Rattle.tables.specs.Tables.{Tables}
use Rattle.tables.specs.declared.parts.LoopPart.{LoopPart}
use Rattle.tables.specs.Asking.{part_of}

many : Rooms
many = record { vertices = record { v = 100; vt = 100; vn = 100; vp = 100 }; elements = record { corners = 100; elements = 100 }; bodies = record { bodies = 100; ranges = 100; parameters = 100; loops = 100; spans = 100 } }

ex1 : read_of many (bytes "v 0 0 0\nf 1 1 2\n") ≡ refused 8 14
unfolding read_of lines_of number_of decimal numerator denominator nearest is_whole is_reference refer reference_of corner_of degree_of smoothing_of name_of statement_of keywords argument_of arguments argument_bytes in_order curve_count surface_count fits parse statement many
ex1 = refl

small : Rooms
small = record { vertices = record { v = 8; vt = 3; vn = 0; vp = 0 }; elements = record { corners = 12; elements = 18 }; bodies = record { bodies = 9; ranges = 4; parameters = 4; loops = 0; spans = 0 } }

tab : Answer → Tables
tab (read m) = tables_of small m
tab (refused n p) = tables_of small start.model

ex2 : (tab (read_of small (bytes "cstype bezier\ndeg 1\nv 0 0 0\nv 1.5 0 0\ng top side\ncurv 0 1 -2 -1\nparm u 0 1\nend\n"))).elements.elements ≡ 4 ∷ 0 ∷ 2 ∷ 1 ∷ 0 ∷ 40 ∷ 8 ∷ 0 ∷ 0 ∷ 0 ∷ 0 ∷ 0 ∷ 0 ∷ 0 ∷ 0 ∷ 0 ∷ 0 ∷ 0 ∷ []
unfolding tab tables_of read_of lines_of number_of decimal numerator denominator nearest is_whole is_reference refer reference_of corner_of degree_of smoothing_of name_of statement_of keywords argument_of arguments argument_bytes in_order curve_count surface_count fits parse statement small
ex2 = refl

ex3 : (tab (read_of small (bytes "cstype bezier\ndeg 1\nv 0 0 0\nv 1.5 0 0\ng top side\ncurv 0 1 -2 -1\nparm u 0 1\nend\n"))).bodies.bodies ≡ 1 ∷ 0 ∷ 1 ∷ 0 ∷ 0 ∷ 2 ∷ 0 ∷ 0 ∷ 0 ∷ []
unfolding tab tables_of read_of lines_of number_of decimal numerator denominator nearest is_whole is_reference refer reference_of corner_of degree_of smoothing_of name_of statement_of keywords argument_of arguments argument_bytes in_order curve_count surface_count fits parse statement small
ex3 = refl

-- "-1 the last so far": a vertex below the line does not count
ex4 : (tab (read_of small (bytes "v 0 0 0\np -1\nv 1 0 0\n"))).elements.corners ≡ 1 ∷ 0 ∷ 0 ∷ 0 ∷ 0 ∷ 0 ∷ 0 ∷ 0 ∷ 0 ∷ 0 ∷ 0 ∷ 0 ∷ []
unfolding tab tables_of read_of lines_of number_of decimal numerator denominator nearest is_whole is_reference refer reference_of corner_of degree_of smoothing_of name_of statement_of keywords argument_of arguments argument_bytes in_order curve_count surface_count fits parse statement small
ex4 = refl

-- a model read back from its tables: a group of two names, a material, a curve with its parameters; no refusal has the number 0
again : List ℕ → Answer → Answer
again s (read m) = read (model_in s (used_of m) (tables_of small m))
again s (refused n p) = refused 0 0

said : List ℕ
said = bytes "cstype rat bspline\ndeg 1\nv 0 0 0\nv 1.5 0 0\ng top side\nusemtl red\ncurv 0 1 -2 -1\nparm u 0 0 1 1\nend\nl 1 2\n"

ex5 : again said (read_of small said) ≡ read_of small said
unfolding again said model_in used_of part_of tables_of read_of lines_of number_of decimal numerator denominator nearest is_whole is_reference refer reference_of corner_of degree_of smoothing_of name_of statement_of keywords argument_of arguments argument_bytes in_order curve_count surface_count fits parse statement small
ex5 = refl

-- of parts that no reading stored, those before the first that begins a loop are in none
part : ℕ → ℕ → LoopPart
part n c = record { begins = n; curve = c; from = pos 0; to = pos 1 }

ex6 : (begun_in (part 0 1 ∷ part 2 2 ∷ part 0 3 ∷ part 1 4 ∷ [])).loops
    ≡ record { hole = true; parts = record { from = pos 0; to = pos 1; curve = 2 } ∷ record { from = pos 0; to = pos 1; curve = 3 } ∷ [] }
    ∷ record { hole = false; parts = record { from = pos 0; to = pos 1; curve = 4 } ∷ [] } ∷ []
unfolding part
ex6 = refl
