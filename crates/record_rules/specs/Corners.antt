-- Must be believed: a promise reaches every definition of this file.
-- 01, "Records": an element's corners, their patterns and what they name.
use Rattle.std.specs.Prelude.{ℕ, List, Bool, cond, not, ◌&&◌, ◌||◌, length, leb, eqb, ℤ}
use Rattle.tables.specs.Tables.{Tables}
use Rattle.tables.specs.Records.{corner_at, corners_end, v_width, vt_width, point_kind, line_kind, face_kind, curve2_kind, surface_kind}
use Rattle.tables.specs.declared.Corner.{Corner}
use Rattle.tables.specs.declared.CornerRun.{CornerRun}
use Rattle.tables.specs.declared.Used.{Used}
use Rattle.record_rules.specs.Numbers.{all_below}
use Rattle.record_rules.specs.Vertices.{vertex_obeys, control_obeys}

-- "p 1 or more; l 2 or more; f 3 or more; curv 4 or more (range, controls); curv2 2 or more; surf 5 or more"
unfoldable pub least_corners : ℕ → ℕ
least_corners kind = cond (eqb kind point_kind || eqb kind surface_kind) 1 (cond (eqb kind face_kind) 3 2)

-- "p and curv are v; l is v or v/vt; f and surf are v, v/vt, v//vn or v/vt/vn"
unfoldable pub with_normal : ℕ → Bool
with_normal kind = eqb kind face_kind || eqb kind surface_kind

unfoldable pub with_texture : ℕ → Bool
with_texture kind = eqb kind line_kind || with_normal kind

-- a corner's vt or vn number k (both have three numbers), "0 for none"; "All corners of a line share one pattern": none where the first corner has none
unfoldable pub attribute_obeys : Bool → List ℤ → ℕ → ℕ → ℕ → Bool
attribute_obeys allowed l used first k =
    cond (eqb k 0) (eqb first 0) (allowed && not (eqb first 0) && vertex_obeys vt_width l used k)

-- "a curv2 control holds its vp number in the first place", every other corner its v number
unfoldable pub point_obeys : Used → List ℤ → List ℤ → ℕ → ℕ → Bool
point_obeys used v vp kind k =
    cond (eqb kind curve2_kind) (control_obeys vp used.vp k) (vertex_obeys v_width v used.v k)

unfoldable pub corner_obeys : Used → Tables → ℕ → Corner → Corner → Bool
corner_obeys used t kind first c =
    point_obeys used t.vertices.v t.vertices.vp kind c.v
    && attribute_obeys (with_texture kind) t.vertices.vt used.vt first.vt c.vt
    && attribute_obeys (with_normal kind) t.vertices.vn used.vn first.vn c.vn

unfoldable pub each_corner : Used → Tables → ℕ → CornerRun → Bool
each_corner used t kind run = all_below run.count (λ k. corner_obeys used t kind (corner_at t run 0) (corner_at t run k))

unfoldable pub corners_obey : Used → Tables → ℕ → CornerRun → Bool
corners_obey used t kind run =
    leb (corners_end run) used.corners
    && leb (corners_end run) (length t.elements.corners)
    && leb (least_corners kind) run.count
    && each_corner used t kind run
