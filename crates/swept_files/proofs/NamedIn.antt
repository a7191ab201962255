-- What the tables of an accepted text name is what its corners name, and the rows that are left are those of its named vertices. By the rows of its elements.
use Prim.Native.Nat.{ℕ, suc, ◌*◌, ◌<◌}
use mathlib.Core.Path.{◌≡◌, refl, sym, ap, ap₂, ◌∙◌, fun_ext, subst}
use mathlib.Core.Bool.{Bool, cond}
use mathlib.Core.List.{List, [], ◌∷◌, ◌++◌, map}
use lib.ListN.{length, get_or, take, drop}
use lib.Dec.{eqb}
use lib.IntN.{ℤ}
use Rattle.lists.specs.Lists.{flat}
use Rattle.references.specs.Corner.{Corner}
use Rattle.tables.specs.Tables.{Tables}
use Rattle.tables.specs.Records.{element_at, corner_at}
use Rattle.tables.specs.declared.CornerRun.{CornerRun}
use Rattle.tables.specs.declared.Used.{Used}
use Rattle.model.specs.Model.{VertexKind, geometric, texture, normal, parametric, Free, curve, curve2, surface, point, line, face, Kind, plain, free, Element, Model, is_curve2, start}
use Rattle.model.specs.Room.{Rooms}
use Rattle.model.specs.Read.{read, read_of}
use Rattle.model.specs.Layout.{corner_row, corner_rows, kind_number, itself, tables_of, used_of}
use Rattle.tidy_form.proofs.Good.{GoodVertices}
use Rattle.model.proofs.Stands.{Stands, Among, among, among-at}
use Rattle.sampled_files.proofs.Vertices.{width, vertex-at}
use Rattle.model.proofs.Laid.{laid}
use Rattle.model.proofs.ElementRows.{corners_in, laid_run, Row, row_of, corners-stand, no_corner, laid_corner, corner-at}
use Rattle.sweep_marks.specs.Counting.{reference, any_below, flat_below, kept_rows}
use Rattle.sweep.specs.Named.{width_in, named, corner_after, corners_after}
use Rattle.swept_files.specs.Files.{number_in, any_of, named_in, kept_of, swept_corner, swept_element}
use Rattle.sweep_marks.proofs.FlatBelow.{flat_below-same}
use Rattle.swept_files.proofs.ByIndex.{any-by, flat-by, kept-flat}

-- ---- kinds and corners, in the tables and in the model
curve2-is : (k : Kind) → eqb (kind_number k) 5 ≡ is_curve2 k
curve2-is (plain point) = refl
curve2-is (plain line) = refl
curve2-is (plain face) = refl
curve2-is (free b) = go b.free refl
  where
    go : (k : Free) → b.free ≡ k → eqb (kind_number (free b)) 5 ≡ is_curve2 (free b)
    go curve e = rw e
    go curve2 e = rw e
    go surface e = rw e

reference-is : (kind : VertexKind) (k : Kind) (c : Corner) → reference kind (kind_number k) (laid_corner c) ≡ number_in kind (is_curve2 k) c
reference-is geometric k c = ap (λ (q : Bool). cond q 0 c.v) (curve2-is k)
reference-is texture k c = refl
reference-is normal k c = refl
reference-is parametric k c = ap (λ (q : Bool). cond q c.v 0) (curve2-is k)

-- ---- rows of vertices
pub width_is : (kind : VertexKind) → width kind ≡ width_in kind
width_is geometric = refl
width_is texture = refl
width_is normal = refl
width_is parametric = refl

module _ (kind : VertexKind) (l : List ℤ) (zs : List (List ℤ)) (g : GoodVertices kind zs) (s : Stands l 0 (flat itself zs)) where
  row_is : (i : ℕ) → i < length zs → take (width_in kind) (drop (width_in kind * i) l) ≡ get_or zs i []
  row_is i b =
      let v = vertex-at kind l zs i g s b in
      ap₂ (λ (n w : ℕ). take n (drop (w * i) l)) (sym (v.kept.wide ∙ width_is kind)) (sym (width_is kind)) ∙ v.stands.run ∙ sym v.is

  pub rows_left : (f : ℕ → Bool) → kept_rows (width_in kind) f l (length zs) ≡ flat itself (kept_of f zs)
  unfolding kept_rows
  rows_left f =
      flat_below-same (λ i. cond (f (suc i)) (take (width_in kind) (drop (width_in kind * i) l)) []) (λ i. cond (f (suc i)) (get_or zs i []) []) (length zs)
      (λ i b. ap (λ (r : List ℤ). cond (f (suc i)) r []) (row_is i b))
      ∙ kept-flat f zs

-- ---- elements and their corners
abbrev pub no_element : Element
no_element = record { kind = plain point; corners = []; names = start.names }

flat-mapped : {A B C : Type 0} (f : B → List C) (g : A → B) (xs : List A) → flat (λ a. f (g a)) xs ≡ flat f (map g xs)
flat-mapped f g [] = refl
flat-mapped {C = C} f g (a ∷ xs) = ap (λ (l : List C). f (g a) ++ l) (flat-mapped f g xs)

module _ (R : Rooms) (s : List ℕ) (m : Model) (h : read_of R s ≡ read m) where
  abbrev t : Tables
  t = tables_of R m

  abbrev u : Used
  u = used_of m

  abbrev es : List Element
  es = m.elements

  module _ (i : ℕ) (l : i < length es) where
    abbrev e : Element
    e = get_or es i no_element

    abbrev at : Among es i
    at = among es i l

    row : Row t es i at
    row = row_of t es i (laid R m).elements at

    one-is : at.one ≡ e
    one-is = sym (among-at es i at no_element)

    kind-is : (element_at t i).kind ≡ kind_number e.kind
    kind-is = row.kind ∙ ap (λ (x : Element). kind_number x.kind) one-is

    count-is : (element_at t i).corners.count ≡ length e.corners
    count-is = row.count ∙ ap (λ (x : Element). length x.corners) one-is

    corner-is : (j : ℕ) → j < length e.corners → corner_at t (element_at t i).corners j ≡ laid_corner (get_or e.corners j no_corner)
    corner-is =
        subst (λ (x : Element). (j : ℕ) → j < length x.corners → corner_at t (element_at t i).corners j ≡ laid_corner (get_or x.corners j no_corner)) one-is
        (λ j b. ap (λ (run : CornerRun). corner_at t run j) row.run
        ∙ corner-at t (laid_run (corners_in at.before) at.one.corners) at.one.corners (corners-stand t es i (laid R m).corners at) j b)

  -- some corner names record k
  named-at : (kind : VertexKind) (k : ℕ) → named u t kind k ≡ named_in m kind k
  unfolding named named_in used_of
  named-at kind k =
      any-by (λ i. any_below (element_at t i).corners.count (λ j. eqb (reference kind (element_at t i).kind (corner_at t (element_at t i).corners j)) k))
      (λ (x : Element). any_of (λ c. eqb (number_in kind (is_curve2 x.kind) c) k) x.corners) no_element es
      (λ i l. ap (λ (n : ℕ). any_below n (λ j. eqb (reference kind (element_at t i).kind (corner_at t (element_at t i).corners j)) k)) (count-is i l)
      ∙ any-by (λ j. eqb (reference kind (element_at t i).kind (corner_at t (element_at t i).corners j)) k) (λ c. eqb (number_in kind (is_curve2 (e i l).kind) c) k) no_corner (e i l).corners
      (λ j b. ap (λ (n : ℕ). eqb n k) (ap₂ (reference kind) (kind-is i l) (corner-is i l j b) ∙ reference-is kind (e i l).kind (get_or (e i l).corners j no_corner))))

  pub named-same : (kind : VertexKind) → named u t kind ≡ named_in m kind
  named-same kind = fun_ext (named-at kind)

  -- a corner renumbered
  corner-after : (k : Kind) (c : Corner) → corner_after u t (kind_number k) (laid_corner c) ≡ corner_row (swept_corner m (is_curve2 k) c)
  corner-after k c = rw (named-same geometric, named-same texture, named-same normal, named-same parametric, curve2-is k)

  pub corners-after : corners_after u t ≡ flat corner_rows (map (swept_element m) es)
  unfolding corners_after used_of
  corners-after =
      flat-by (λ i. flat_below (element_at t i).corners.count (λ j. corner_after u t (element_at t i).kind (corner_at t (element_at t i).corners j)))
      (λ (x : Element). corner_rows (swept_element m x)) no_element es
      (λ i l. ap (λ (n : ℕ). flat_below n (λ j. corner_after u t (element_at t i).kind (corner_at t (element_at t i).corners j))) (count-is i l)
      ∙ flat-by (λ j. corner_after u t (element_at t i).kind (corner_at t (element_at t i).corners j)) (λ c. corner_row (swept_corner m (is_curve2 (e i l).kind) c)) no_corner (e i l).corners
      (λ j b. ap₂ (corner_after u t) (kind-is i l) (corner-is i l j b) ∙ corner-after (e i l).kind (get_or (e i l).corners j no_corner))
      ∙ flat-mapped corner_row (swept_corner m (is_curve2 (e i l).kind)) (e i l).corners)
      ∙ flat-mapped corner_rows (swept_element m) es
