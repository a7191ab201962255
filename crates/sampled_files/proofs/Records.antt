-- An element of an accepted text with a body, and what the tables hold of it: its kind, its body, its corners, its directions and its controls.
use Prim.Native.Nat.{ℕ, suc, ◌+◌, ◌-◌, ◌≤◌, ◌<◌}
use mathlib.Core.Path.{◌≡◌, ap, ◌∙◌, subst}
use mathlib.Core.Logic.{◌⊎◌}
use mathlib.Core.List.{List, ◌∷◌, ◌++◌}
use native.Mathlib.Omega.{arith}
use lib.ListN.{length, length-append}
use Rattle.references.specs.Corner.{Corner}
use Rattle.tables.specs.Tables.{Tables}
use Rattle.tables.specs.Bodies.{bezier, bspline}
use Rattle.tables.specs.Records.{body_at, corner_at}
use Rattle.tables.specs.declared.CornerRun.{CornerRun}
use Rattle.tables.specs.declared.Corner as records-corner
use Rattle.model.specs.Model.{Body, Kind, Model, curves}
use Rattle.model.specs.Room.{Rooms, summed, part_count}
use Rattle.model.specs.Read.{read, read_of}
use Rattle.model.specs.Layout.{free_number, kind_number, body_number, bodies_of, tables_of, used_of}
use Rattle.tidy_form.proofs.Good.{GoodKind, GoodBody}
use Rattle.sampler.specs.Points.{direction_u, direction_v, control_of}
use Rattle.sampler.specs.Answers.{element_of, body_of}
use Rattle.sampled_files.specs.Files.{along_u, along_v, vertex_of_corner, control_in, axes_in}
use Rattle.sampled_files.specs.Joined.{HasBody}
use Rattle.model.proofs.Stands.{Among}
use Rattle.model.proofs.Laid.{laid}
use Rattle.tidy_form.proofs.Placed.{kept}
use Rattle.model.proofs.ElementRows.{corner-at, corners_in, laid_run, Row, row_of, corners-stand}
use Rattle.sampled_files.proofs.Elements.{good-element}
use Rattle.model.proofs.BodyRows.{body-among, laid_body, parameters_in, BodyRow, body-row, us-are, vs-are}
use Rattle.sampled_files.proofs.Own.{u-is, v-is, control-is}

module _ (R : Rooms) (s : List ℕ) (m : Model) (h : read_of R s ≡ read m) (number : ℕ) (b : Body) (o : HasBody m number b) where
  abbrev t : Tables
  t = tables_of R m

  abbrev i : ℕ
  i = number - 1

  abbrev cs : List Corner
  cs = o.one.corners

  pub some : 1 ≤ number
  some = let e = o.place in omega arith

  pub in-file : number ≤ length m.elements
  in-file =
      let e : length m.elements ≡ length (o.before ++ o.one ∷ o.after) = ap length o.elements in
      let f = length-append o.before (o.one ∷ o.after) in
      let q = o.place in
      omega arith

  abbrev at : Among m.elements i
  at = record { before = o.before; one = o.one; after = o.after; is = o.elements; many = (let e = o.place in omega arith) }

  row : Row t m.elements i at
  row = row_of t m.elements i (laid R m).elements at

  pub its-kind : (element_of t number).kind ≡ free_number b.free
  its-kind = row.kind ∙ ap kind_number o.body

  pub its-good : GoodBody m.vertices (curves o.before) b cs
  its-good =
      let K = kept R s m h in
      subst (λ (k : Kind). GoodKind m.vertices (curves o.before) k cs) o.body (good-element m.vertices m.elements K.last i K.elements at).kind

  -- ---- its body
  abbrev j : ℕ
  j = length (bodies_of o.before)

  abbrev P : ℕ
  P = 0 + parameters_in (bodies_of o.before)

  abbrev N : ℕ
  N = 0 + summed part_count (bodies_of o.before)

  its-row : BodyRow (used_of m) t j P N b
  its-row = body-row (used_of m) t m (laid R m) j (body-among m.elements i at b o.body)

  pub its-body : body_of t number ≡ laid_body P N b
  its-body =
      let r : (element_of t number).body ≡ suc j = row.body ∙ ap (λ (k : Kind). body_number k j) o.body in
      let e : (element_of t number).body - 1 ≡ j = omega arith in
      ap (body_at t) e ∙ its-row.is

  module _ (k : (b.basis ≡ bezier) ⊎ (b.basis ≡ bspline)) where
    pub its-u : direction_u t (body_of t number) ≡ along_u b
    its-u = ap (direction_u t) its-body ∙ u-is t P N b k (us-are (used_of m) t j P N b its-row)

    pub its-v : direction_v t (body_of t number) ≡ along_v b
    its-v = ap (direction_v t) its-body ∙ v-is t P N b k (vs-are (used_of m) t j P N b its-row)

  -- ---- its controls
  its-corner : (n : ℕ) → n < length cs → (corner_at t (element_of t number).corners n).v ≡ vertex_of_corner cs n
  its-corner n l =
      let L = laid R m in
      ap (λ (r : CornerRun). (corner_at t r n).v) row.run
      ∙ ap (λ (c : records-corner.Corner). c.v)
      (corner-at t (laid_run (corners_in o.before) cs) cs (corners-stand t m.elements i L.corners at) n l)

  pub its-control : (axis n : ℕ) → n < length cs → axis < axes_in b.free → control_of t (element_of t number) axis n ≡ control_in m.vertices b.free cs axis n
  its-control axis n l a = control-is R m (kept R s m h) b.free (element_of t number) cs axis n its-kind (its-corner n l) a
