-- Must be believed: a promise reaches every definition of this file.
-- 01: "Name: 1 to 255 bytes. Degree: 1 to 3 digits, 1 to 20, else 7. Smoothing: off (0) or 1 to 5 digits, at most 65,535, else 7. A word without its
-- form, a name too long included, is 6."
use Rattle.std.specs.Prelude.{ℕ, List, cond, ◌&&◌, length, leb}
use Rattle.lists.specs.Lists.{same}
use Rattle.keywords.specs.declared.Argument.TheVariants.{Off}
use Rattle.keywords.specs.Arguments.{argument_bytes}
use Rattle.digits.specs.Said.{Said, says, must}
use Rattle.digits.specs.Digits.{nat_of, is_whole}

-- "Degree: 1 to 3 digits, 1 to 20, else 7"
unfoldable pub degree_of : List ℕ → Said ℕ
degree_of w = must (is_whole 3 w) 6 (must (leb 1 (nat_of 0 w) && leb (nat_of 0 w) 20) 7 (says (nat_of 0 w)))

-- "Smoothing: off (0) or 1 to 5 digits, at most 65,535, else 7"
unfoldable pub smoothing_of : List ℕ → Said ℕ
smoothing_of w = cond (same w (argument_bytes Off)) (says 0) (must (is_whole 5 w) 6 (must (leb (nat_of 0 w) 65535) 7 (says (nat_of 0 w))))

-- "Name: 1 to 255 bytes"
unfoldable pub name_of : List ℕ → Said (List ℕ)
name_of w = must (leb 1 (length w) && leb (length w) 255) 6 (says w)
