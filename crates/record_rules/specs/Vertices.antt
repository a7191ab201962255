-- Must be believed: a promise reaches every definition of this file.
-- 01, "Records": the vertices that a corner names. A reference counts from 1, so record k stands at index k - 1.
use Rattle.std.specs.Prelude.{ℕ, ◌*◌, ◌-◌, List, Bool, ◌&&◌, ◌||◌, leb, ℤ, pos}
use Rattle.std.specs.Int.Signed.{le_z}
use Rattle.tables.specs.Records.{vp_width, value_at}
use Rattle.record_rules.specs.Numbers.{run_in_range, eq_z}

-- "Zero or past either end: 8"; "pass the used or lent entries": record k, of w numbers, is used and lent, its numbers in range
unfoldable pub vertex_obeys : ℕ → List ℤ → ℕ → ℕ → Bool
vertex_obeys w l used k = leb 1 k && leb k used && run_in_range l (w * (k - 1)) w

-- "vp the count given and u v w (v 0, w 1.000000 if absent)"; "vp 1 to 3" words
unfoldable pub given_obeys : ℤ → ℤ → ℤ → Bool
given_obeys given v w =
    le_z (pos 1) given && le_z given (pos 3) && (le_z (pos 2) given || eq_z v (pos 0)) && (le_z (pos 3) given || eq_z w (pos 1000000))

unfoldable pub parameter_vertex_obeys : List ℤ → ℕ → ℕ → Bool
parameter_vertex_obeys l used k =
    vertex_obeys vp_width l used k && given_obeys (value_at vp_width l (k - 1) 0) (value_at vp_width l (k - 1) 2) (value_at vp_width l (k - 1) 3)

-- "A curv2 control must have at least two coordinates given"
unfoldable pub control_obeys : List ℤ → ℕ → ℕ → Bool
control_obeys l used k = parameter_vertex_obeys l used k && le_z (pos 2) (value_at vp_width l (k - 1) 0)
