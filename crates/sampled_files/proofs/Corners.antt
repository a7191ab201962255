-- The corners of an accepted text obey the rules: each is held against the counts, and all have the first one's pattern. By the corners.
use Prim.Native.Nat.{ℕ, zero, suc, ◌≤◌, ◌<◌}
use mathlib.Core.Path.{◌≡◌, refl, ap₂, ◌∙◌}
use mathlib.Core.List.{List, [], ◌∷◌}
use mathlib.Core.Bool.{Bool, true, false, cond, not, ◌&&◌, ◌||◌}
use native.Mathlib.Omega.{arith}
use borrow.Author.Tests.{leb-true, le-leb}
use lib.ListN.{length, get_or}
use lib.Dec.{leb, eqb}
use lib.IntN.{ℤ}
use Rattle.lists.specs.Lists.{flat}
use Rattle.lists.proofs.Tests.{and_left, and_right, and_both, never}
use Rattle.references.specs.Corner.{Corner, agree, alike}
use Rattle.references.specs.Fits.{reference_fits, part_fits}
use Rattle.tables.specs.Tables.{Tables}
use Rattle.tables.specs.Records.{corner_at, vt_width, corners_end}
use Rattle.tables.specs.declared.CornerRun.{CornerRun}
use Rattle.tables.specs.declared.Used.{Used}
use Rattle.model.specs.Layout.{corner_row}
use Rattle.tidy_form.proofs.Standing.{uniform}
use Rattle.model.proofs.Rows.{corners-length}
use Rattle.record_rules.specs.Vertices.{vertex_obeys}
use Rattle.record_rules.specs.Corners.{least_corners, with_texture, with_normal, attribute_obeys, point_obeys, corner_obeys, each_corner, corners_obey}
use Rattle.record_rules.proofs.Below.{below_all}
use Rattle.model.proofs.Stands.{Stands}
use Rattle.model.proofs.ElementRows.{no_corner, laid_run, laid_corner, corner-at}
use Rattle.sampled_files.proofs.Vertices.{all-at}

-- ---- one pattern
agree_same : (a : Bool) → agree a a ≡ true
agree_same true = refl
agree_same false = refl

pub alike-first : (cs : List Corner) (k : ℕ) → uniform cs ≡ true → k < length cs → alike (get_or cs 0 no_corner) (get_or cs k no_corner) ≡ true
alike-first [] k u h = absurd (omega arith)
alike-first (c ∷ cs) zero u h = and_both (agree_same (eqb c.vt 0)) (agree_same (eqb c.vn 0))
alike-first (c ∷ cs) (suc k) u h = all-at (alike c) cs k no_corner u (omega arith)

-- ---- a vt or vn: none where the first has none, else one of those there are
attribute : (allowed : Bool) (l : List ℤ) (used first k : ℕ) → part_fits allowed used k ≡ true → agree (eqb first 0) (eqb k 0) ≡ true
    → (1 ≤ k → k ≤ used → vertex_obeys vt_width l used k ≡ true) → attribute_obeys allowed l used first k ≡ true
unfolding attribute_obeys
attribute allowed l used first k p a v = go (eqb k 0) (eqb first 0) allowed p a
  where
    go : (z f b : Bool) → (z || (b && reference_fits used k)) ≡ true → agree f z ≡ true → cond z f (b && not f && vertex_obeys vt_width l used k) ≡ true
    go true true b p a = refl
    go true false b p a = never a
    go false true b p a = never a
    go false false true p a = v (leb-true 1 k (and_left (leb 1 k) (leb k used) p)) (leb-true k used (and_right (leb 1 k) (leb k used) p))
    go false false false p a = never p

-- ---- a corner that reading keeps, on an element of this kind
pub record CornerKept (u : Used) (t : Tables) (kind : ℕ) (c : Corner) : Type 0 where
  pub point : point_obeys u t.vertices.v t.vertices.vp kind c.v ≡ true
  pub vt : part_fits (with_texture kind) u.vt c.vt ≡ true
  pub vn : part_fits (with_normal kind) u.vn c.vn ≡ true

-- the vertices that a corner may name
pub record Named (u : Used) (t : Tables) : Type 0 where
  pub vt : (k : ℕ) → 1 ≤ k → k ≤ u.vt → vertex_obeys 3 t.vertices.vt u.vt k ≡ true
  pub vn : (k : ℕ) → 1 ≤ k → k ≤ u.vn → vertex_obeys 3 t.vertices.vn u.vn k ≡ true

module _ (u : Used) (t : Tables) (n : Named u t) (kind first : ℕ) (cs : List Corner) (s : Stands t.elements.corners first (flat corner_row cs)) where
  abbrev run : CornerRun
  run = laid_run first cs

  corner-obeys : (f c : Corner) → CornerKept u t kind c → alike f c ≡ true → corner_obeys u t kind (laid_corner f) (laid_corner c) ≡ true
  unfolding corner_obeys
  corner-obeys f c k a =
      and_both
      (and_both k.point (attribute (with_texture kind) t.vertices.vt u.vt f.vt c.vt k.vt (and_left (agree (eqb f.vt 0) (eqb c.vt 0)) _ a) (n.vt c.vt)))
      (attribute (with_normal kind) t.vertices.vn u.vn f.vn c.vn k.vn (and_right (agree (eqb f.vt 0) (eqb c.vt 0)) _ a) (n.vn c.vn))

  pub corners-obey : corners_end run ≤ u.corners → least_corners kind ≤ length cs → uniform cs ≡ true → ((k : ℕ) → k < length cs → CornerKept u t kind (get_or cs k no_corner))
      → corners_obey u t kind run ≡ true
  unfolding corners_obey each_corner
  corners-obey a b e f =
      and_both
      (and_both
      (and_both (le-leb (corners_end run) u.corners a) (le-leb (corners_end run) (length t.elements.corners) (let l = s.lent in let m = corners-length cs in omega arith)))
      (le-leb (least_corners kind) (length cs) b))
      (below_all (λ k. corner_obeys u t kind (corner_at t run 0) (corner_at t run k)) (length cs)
      (λ k h.
      ap₂ (corner_obeys u t kind) (corner-at t run cs s 0 (omega arith)) (corner-at t run cs s k h)
      ∙ corner-obeys (get_or cs 0 no_corner) (get_or cs k no_corner) (f k h) (alike-first cs k e h)))
