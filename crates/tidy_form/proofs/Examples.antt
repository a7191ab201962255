-- The tidy texts of small files: each is computed.
use mathlib.Core.Path.{◌≡◌, refl}
use mathlib.Core.List.{List, [], ◌∷◌}
use Prim.Native.Nat.{ℕ}
use Rattle.spellings.specs.Rows.{bytes}
use Rattle.text.specs.Lines.{lines_of}
use Rattle.decimals.specs.Number.{number_of, decimal, numerator, denominator, nearest}
use Rattle.digits.specs.Digits.{is_whole}
use Rattle.references.specs.Reference.{is_reference, refer, reference_of}
use Rattle.references.specs.Corner.{corner_of}
use Rattle.digits.specs.Degree.{degree_of, smoothing_of, name_of}
use Rattle.references.specs.Written.{written_whole, written_millionths}
use Rattle.keywords.specs.Keywords.{statement_of, keywords, keyword_of}
use Rattle.keywords.specs.Arguments.{argument_of, arguments, argument_bytes}
use Rattle.tables.specs.Bodies.{in_order, curve_count, surface_count}
use Rattle.model.specs.Room.{Rooms, fits}
use Rattle.model.specs.Parse.{parse}
use Rattle.model.specs.Read.{Answer, read, refused, read_of, statement}
use Rattle.tidy_form.specs.declared.Weights.{Weights}
use Rattle.tidy_form.specs.declared.Weights.TheVariants.{WhenNeeded, Always}
use Rattle.tidy_form.specs.Tidied.{tidied}
use Rattle.tidy_form.specs.Printed.{tidy_text}

many : Rooms
many = record { vertices = record { v = 100; vt = 100; vn = 100; vp = 100 }; elements = record { corners = 100; elements = 100 }; bodies = record { bodies = 100; ranges = 100; parameters = 100; loops = 100; spans = 100 } }

-- the tidy text of a text, or the number and place of its refusal
tidy_of : Weights → Answer → List ℕ
tidy_of c (read m) = tidy_text c m
tidy_of c (refused n p) = n ∷ p ∷ []

-- 01's listing; by Q-11 with three numbers a line
abbrev listing : List ℕ
listing = bytes "# plate\nv 0 0 0\nv 1.5 0 0\nv 1.5 .25 0\ng top\nf -3 -2 -1\n"

plate :
    tidy_of WhenNeeded (read_of many listing)
    ≡ bytes "v 0.000000 0.000000 0.000000\nv 1.500000 0.000000 0.000000\nv 1.500000 0.250000 0.000000\ng top\nf 1 2 3\n"
unfolding many tidy_of tidied tidy_text read_of lines_of number_of decimal numerator denominator nearest is_whole is_reference refer reference_of corner_of degree_of smoothing_of name_of written_whole written_millionths statement_of keywords keyword_of argument_of arguments argument_bytes in_order curve_count surface_count fits parse statement
plate = refl

-- the form with every weight
plate-always :
    tidy_of Always (read_of many listing)
    ≡ bytes "v 0.000000 0.000000 0.000000 1.000000\nv 1.500000 0.000000 0.000000 1.000000\nv 1.500000 0.250000 0.000000 1.000000\ng top\nf 1 2 3\n"
unfolding many tidy_of tidied tidy_text read_of lines_of number_of decimal numerator denominator nearest is_whole is_reference refer reference_of corner_of degree_of smoothing_of name_of written_whole written_millionths statement_of keywords keyword_of argument_of arguments argument_bytes in_order curve_count surface_count fits parse statement
plate-always = refl

-- names that change, a bare g, off, a body of each kind, loops
curved :
    tidy_of WhenNeeded (read_of many (bytes "v 0 0 0\nv 1 0 0\r\nvp .5\nvp 0 1\nvp 1 -1 1\nvt 1\nvn 0 0 -1\ns off\ng  a \\\n b#c # d\nusemtl x\nl 1/1 2/1\ng\ns 7\nf 1//1 2//1 -1//-1\ncstype rat cardinal\ncurv2 -2 -1 2 2\nparm u 0 1\nend\ncstype bezier\ndeg 1 1\nsurf 0 1 0 1 1 2 1 2\nhole 0 1 1 .5 1 -1\nparm v 0 1\nparm u 0 2\nparm u -.0000005 1\ntrim 1 0 1\nend\no zz"))
    ≡ bytes "v 0.000000 0.000000 0.000000\nv 1.000000 0.000000 0.000000\nvt 1.000000 0.000000 0.000000\nvn 0.000000 0.000000 -1.000000\nvp 0.500000\nvp 0.000000 1.000000\nvp 1.000000 -1.000000 1.000000\ng a b#c\nusemtl x\nl 1/1 2/1\ng\ns 7\nf 1//1 2//1 2//1\ncstype rat cardinal\ndeg 3\ncurv2 2 3 2 2\nparm u 0.000000 1.000000\nend\ncstype bezier\ndeg 1 1\nsurf 0.000000 1.000000 0.000000 1.000000 1 2 1 2\nparm u -0.000001 1.000000\nparm v 0.000000 1.000000\nhole 0.000000 1.000000 1 0.500000 1.000000 1\ntrim 1.000000 0.000000 1\nend\n"
unfolding many tidy_of tidied tidy_text read_of lines_of number_of decimal numerator denominator nearest is_whole is_reference refer reference_of corner_of degree_of smoothing_of name_of written_whole written_millionths statement_of keywords keyword_of argument_of arguments argument_bytes in_order curve_count surface_count fits parse statement
curved = refl

-- the other types, a curve of each, and corners with all three parts
types :
    tidy_of WhenNeeded (read_of many (bytes "v 0 0 0 2\nv 1 0 0\nvt .5\nvn 1 0 0\ndeg 1 5\ncstype rat bspline\ncurv 0 1 1 2\nparm u 0 0 1 1\nend\ncstype taylor\ncurv .25 .75 -2 -1\nparm u 0 1\nend\nusemtl a\nusemtl b\nf 1/1/1 2/1/1 2/-1/-1\ng a a\np 1 2 1\ng a \\\n a\ns 0\nusemtl b\np 2\n"))
    ≡ bytes "v 0.000000 0.000000 0.000000 2.000000\nv 1.000000 0.000000 0.000000\nvt 0.500000 0.000000 0.000000\nvn 1.000000 0.000000 0.000000\ncstype rat bspline\ndeg 1\ncurv 0.000000 1.000000 1 2\nparm u 0.000000 0.000000 1.000000 1.000000\nend\ncstype taylor\ndeg 1\ncurv 0.250000 0.750000 1 2\nparm u 0.000000 1.000000\nend\nusemtl b\nf 1/1/1 2/1/1 2/1/1\ng a a\np 1 2 1\np 2\n"
unfolding many tidy_of tidied tidy_text read_of lines_of number_of decimal numerator denominator nearest is_whole is_reference refer reference_of corner_of degree_of smoothing_of name_of written_whole written_millionths statement_of keywords keyword_of argument_of arguments argument_bytes in_order curve_count surface_count fits parse statement
types = refl
