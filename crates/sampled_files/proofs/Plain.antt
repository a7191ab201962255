-- p, l and f of an accepted text obey the rules: their corners fit their pattern. By the kind.
use Prim.Native.Nat.{ℕ, zero, suc, ◌+◌, ◌*◌, ◌≤◌, ◌<◌}
use mathlib.Core.Path.{◌≡◌, refl, ap, ap₂, ◌∙◌, subst}
use mathlib.Core.List.{List, [], ◌∷◌, ◌++◌, map}
use mathlib.Core.Bool.{Bool, true, false, cond}
use native.Mathlib.Omega.{arith}
use borrow.Author.Tests.{leb-true}
use lib.ListN.{length, get_or, length-map}
use lib.Dec.{leb, eqb}
use Rattle.lists.proofs.Tests.{and_left, and_right}
use Rattle.references.specs.Corner.{Corner, Parts}
use Rattle.references.specs.Fits.{reference_fits, part_fits, corner_fits}
use Rattle.tables.specs.Tables.{Tables}
use Rattle.tables.specs.Records.{corner_width}
use Rattle.tables.specs.declared.Used.{Used}
use Rattle.model.specs.Model.{geometric, texture, normal, Vertices, Shape, point, line, face, Kind, plain, Element, Model, curves, counts_of}
use Rattle.model.specs.Statements.{element}
use Rattle.model.specs.Parse.{WordForm, a-corner, corner, Seen, parts, fewest}
use Rattle.model.specs.Layout.{shape_number, kind_number, body_number, bodies_of}
use Rattle.model.proofs.Rows.{summed-append}
use Rattle.tidy_form.specs.declared.Weights.TheVariants as weights
use Rattle.tidy_form.proofs.Words.{Fits, Fitting}
use Rattle.tidy_form.proofs.Standing.{seen_of, uniform, Fine}
use Rattle.tidy_form.proofs.Good.{GoodKind}
use Rattle.record_rules.specs.Corners.{least_corners, with_texture, with_normal, point_obeys, corners_obey}
use Rattle.record_rules.specs.Rules.{obeys}
use Rattle.model.proofs.Stands.{Among}
use Rattle.sampled_files.proofs.Vertices.{vertex-obeys}
use Rattle.sampled_files.proofs.Corners.{CornerKept, Named, corners-obey}
use Rattle.model.proofs.Laid.{Laid}
use Rattle.tidy_form.proofs.Placed.{Kept}
use Rattle.model.proofs.ElementRows.{no_corner, corners_in, laid_run, laid_element, row_of, corners-stand}
use Rattle.sampled_files.proofs.Elements.{Good, element-obeys}

-- ---- corners by their words
pub fitting-at : (n : Seen) (f : WordForm) (i : ℕ) (cs : List Corner) (k : ℕ) → Fitting n (λ j. f) i (map corner cs) → k < length cs → Fits n f (corner (get_or cs k no_corner))
fitting-at n f i [] k q h = absurd (omega arith)
fitting-at n f i (c ∷ cs) zero q h = q.0
fitting-at n f i (c ∷ cs) (suc k) q h = fitting-at n f (suc i) cs k q.1 (omega arith)

pub corner-fits : (n : Seen) (p : Parts) (c : Corner) → Fits n (a-corner p) (corner c) → corner_fits n.counts p c ≡ true
corner-fits n p c f = let e = f.1 in ap (corner_fits n.counts p) (let z : c ≡ f.0 = cc in z) ∙ f.2

-- the rules of a kind are those of its statement
pub record Pattern (kind fewest : ℕ) (p : Parts) : Type 0 where
  pub other : eqb kind 5 ≡ false
  pub texture : with_texture kind ≡ p.vt
  pub normal : with_normal kind ≡ p.vn
  pub least : least_corners kind ≡ fewest

pattern-of : (k : Shape) → Pattern (shape_number k) (fewest k) (parts k)
unfolding with_texture with_normal least_corners
pattern-of point = record { other = refl; texture = refl; normal = refl; least = refl }
pattern-of line = record { other = refl; texture = refl; normal = refl; least = refl }
pattern-of face = record { other = refl; texture = refl; normal = refl; least = refl }

module _ (u : Used) (t : Tables) (m : Model) (L : Laid u t m) (K : Kept m) where
  abbrev x : Vertices
  x = m.vertices

  abbrev es : List Element
  es = m.elements

  pub named : Named u t
  named =
      record {
        vt = λ k a b. vertex-obeys texture t.vertices.vt x.vt K.vt L.vt 3 u.vt k refl L.used-vt a (let e = L.used-vt in omega arith);
        vn = λ k a b. vertex-obeys normal t.vertices.vn x.vn K.vn L.vn 3 u.vn k refl L.used-vn a (let e = L.used-vn in omega arith);
      }

  pub corner-kept : (kind least : ℕ) (p : Parts) → Pattern kind least p → (c : Corner) → corner_fits (counts_of x) p c ≡ true → CornerKept u t kind c
  unfolding point_obeys
  corner-kept kind least p q c f =
      let v = and_left (reference_fits (length x.v) c.v) _ f in
      let r = and_right (reference_fits (length x.v) c.v) _ f in
      record {
        point =
            rw q.other
            (vertex-obeys geometric t.vertices.v x.v K.v L.v 4 u.v c.v refl L.used_v (leb-true 1 c.v (and_left (leb 1 c.v) _ v)) (leb-true c.v (length x.v) (and_right (leb 1 c.v) _ v)));
        vt = ap₂ (λ (b : Bool) (n : ℕ). part_fits b n c.vt) q.texture L.used-vt ∙ and_left (part_fits p.vt (length x.vt) c.vt) _ r;
        vn = ap₂ (λ (b : Bool) (n : ℕ). part_fits b n c.vn) q.normal L.used-vn ∙ and_right (part_fits p.vt (length x.vt) c.vt) _ r;
      }

  module _ (i : ℕ) (a : Among es i) where
    abbrev e : Element
    e = a.one

    corners-used : corners_in a.before + corner_width * length e.corners ≤ u.corners
    corners-used =
        let s = summed-append (λ (q : Element). length q.corners) a.before (e ∷ a.after) in
        let w : corners_in es ≡ corners_in (a.before ++ e ∷ a.after) = ap corners_in a.is in
        let v = L.used-corners in
        omega arith

    -- its corners, whatever its kind
    pub its-corners : (kind : ℕ) → least_corners kind ≤ length e.corners → uniform e.corners ≡ true
        → ((k : ℕ) → k < length e.corners → CornerKept u t kind (get_or e.corners k no_corner))
        → corners_obey u t kind (laid_run (corners_in a.before) e.corners) ≡ true
    its-corners kind l w f =
        corners-obey u t named kind (corners_in a.before) e.corners (corners-stand t es i L.corners a) corners-used l w f

    plain-corners : (n : ℕ) (k : Shape) → Fine x n (element k e.corners) → corners_obey u t (shape_number k) (laid_run (corners_in a.before) e.corners) ≡ true
    plain-corners n k f =
        let p = pattern-of k in
        its-corners (shape_number k)
        (let l = p.least in let b = leb-true (fewest k) (length (map corner e.corners)) (f.many weights.Always) in let c = length-map e.corners corner in omega arith)
        f.whole
        (λ j h. corner-kept (shape_number k) (fewest k) (parts k) p (get_or e.corners j no_corner)
        (corner-fits (seen_of x n) (parts k) (get_or e.corners j no_corner) (fitting-at (seen_of x n) (a-corner (parts k)) 0 e.corners j (f.fits weights.Always) h)))

    pub plain-obeys : (n : ℕ) (k : Shape) → e.kind ≡ plain k → Good x es i a → obeys u t n i ≡ true
    plain-obeys n k q g =
        let r = row_of t es i L.elements a in
        let f : Fine x (curves a.before) (element k e.corners) = subst (λ (z : Kind). GoodKind x (curves a.before) z e.corners) q g.kind in
        element-obeys u t n i (shape_number k) 0 (laid_element (corners_in a.before) (length (bodies_of a.before)) e) r.lent r.is
        (ap kind_number q) (ap (λ (z : Kind). body_number z (length (bodies_of a.before))) q)
        (least k) (most k) g.smoothing (plain-corners _ k f) (no_body k _)
      where
        least : (k : Shape) → leb 1 (shape_number k) ≡ true
        least point = refl
        least line = refl
        least face = refl

        most : (k : Shape) → leb (shape_number k) 6 ≡ true
        most point = refl
        most line = refl
        most face = refl

        no_body : (k : Shape) (b : Bool) → cond (leb (shape_number k) 3) (eqb 0 0) b ≡ true
        no_body point b = refl
        no_body line b = refl
        no_body face b = refl
