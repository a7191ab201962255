-- The tables of a model give it back: each element by its row, its corners, its body and its names.
use Prim.Native.Nat.{ℕ, suc, ◌+◌, ◌*◌, ◌-◌}
use mathlib.Core.Path.{◌≡◌, refl, sym, ap, ap₂, ◌∙◌}
use mathlib.Core.List.{List}
use mathlib.Core.Bool.{Bool, true, false, cond}
use mathlib.Core.Option.{Option, none, some}
use native.Mathlib.Omega.{arith}
use lib.ListN.{length, take, drop}
use lib.Dec.{leb}
use lib.IntN.{ℤ}
use Rattle.lists.specs.Lists.{flat}
use Rattle.text.specs.Words.{Word}
use Rattle.references.specs.Corner.{Corner}
use Rattle.tables.specs.Tables.{Tables}
use Rattle.tables.specs.Records.{v_width, vt_width, vn_width, vp_width, curve_kind, corner_at, element_at, body_at}
use Rattle.tables.specs.declared.CornerRun.{CornerRun}
use Rattle.tables.specs.declared.Used.{Used}
use Rattle.tables.proofs.Types.{basis-back}
use Rattle.model.specs.Model.{Names, Shape, point, line, face, Free, curve, curve2, surface, Body, Kind, plain, free, Element, Model}
use Rattle.model.specs.Room.{Rooms, summed, part_count}
use Rattle.model.specs.Layout.{listed, corner_row, shape_number, free_number, kind_number, body_number, bodies_of, itself, tables_of, used_of}
use Rattle.model.specs.In.{each, row_at, first_of, names_from, corner_from, body_from, shape_of, free_in, kind_from, element_from, model_in}
use Rattle.model.proofs.Rows.{flag-back}
use Rattle.model.proofs.Stands.{Stands, Among, each_all}
use Rattle.model.proofs.Placed.{each-among, Wide, wide-stands, PartedKind, NamesStand, Placed}
use Rattle.model.proofs.Laid.{Laid, laid}
use Rattle.model.proofs.ElementRows.{corners_in, laid_element, row_of, corners-stand, corner-among}
use Rattle.model.proofs.BodyRows.{body-among, parameters_in, BodyRow, body-row, us-are, vs-are}
use Rattle.model.proofs.Parts.{loops-back}

-- ---- numbers told back
shape-back : (k : Shape) → shape_of (shape_number k) ≡ k
shape-back point = refl
shape-back line = refl
shape-back face = refl

shape-low : (k : Shape) → leb curve_kind (shape_number k) ≡ false
shape-low point = refl
shape-low line = refl
shape-low face = refl

free_back : (k : Free) → free_in (free_number k) ≡ k
free_back curve = refl
free_back curve2 = refl
free_back surface = refl

pub free-high : (k : Free) → leb curve_kind (free_number k) ≡ true
free-high curve = refl
free-high curve2 = refl
free-high surface = refl

-- ---- vertices
rows_back : (w n : ℕ) (l : List ℤ) (zs : List (List ℤ)) → Wide w zs → n ≡ length zs → Stands l 0 (flat itself zs) → each (row_at w l) n 0 ≡ zs
rows_back w n l zs h e s =
    each_all (row_at w l) n zs e
    (λ k a. ap (λ (x : ℕ). take x (drop (w * k) l)) (sym (each-among (λ (z : List ℤ). length z ≡ w) zs k a h).1) ∙ (wide-stands w l zs k a h s).run)

-- ---- an element
pub corners-back : (t : Tables) (run : CornerRun) (cs : List Corner) → Stands t.elements.corners run.first (flat corner_row cs) → each (λ k. corner_from (corner_at t run k)) (length cs) 0 ≡ cs
corners-back t run cs s =
    each_all (λ k. corner_from (corner_at t run k)) (length cs) cs refl (λ k a. ap corner_from (corner-among t run cs s k a))

material-back : (o : Option Word) → first_of (listed o) ≡ o
material-back none = refl
material-back (some w) = refl

names-back : (s : List ℕ) (c b : ℕ) (e : Element) → NamesStand s e.names → names_from s (laid_element c b e) ≡ e.names
names-back s c b e h =
    ap₂ (λ (g m : List Word). record { group = g; smoothing = e.names.smoothing; material = first_of m }) h.group h.material
    ∙ ap (λ (o : Option Word). record { group = e.names.group; smoothing = e.names.smoothing; material = o }) (material-back e.names.material)

body_back : (u : Used) (t : Tables) (j p l : ℕ) (b : Body) → BodyRow u t j p l b → PartedKind (free b) → body_from t (free_in (free_number b.free)) (body_at t j) ≡ b
body_back u t j p l b r g =
    ap₂ (body_from t) (free_back b.free) r.is
    ∙ rw (basis-back b.basis, flag-back b.rational, us-are u t j p l b r, vs-are u t j p l b r, loops-back t l b.loops r.loops r.spans g (part_count b) refl) refl

module _ (s : List ℕ) (u : Used) (t : Tables) (m : Model) (L : Laid u t m) where
  kind-back : (c i : ℕ) (a : Among m.elements i) → PartedKind a.one.kind → kind_from t (laid_element c (length (bodies_of a.before)) a.one) ≡ a.one.kind
  kind-back c i a g = go a.one.kind refl g
    where
      n : ℕ
      n = length (bodies_of a.before)

      go : (k : Kind) → a.one.kind ≡ k → PartedKind k
          → cond (leb curve_kind (kind_number k)) (free (body_from t (free_in (kind_number k)) (body_at t (body_number k n - 1)))) (plain (shape_of (kind_number k))) ≡ k
      go (plain k) e g = ap₂ (λ (x : Bool) (y : Shape). cond x (free (body_from t (free_in (shape_number k)) (body_at t (0 - 1)))) (plain y)) (shape-low k) (shape-back k)
      go (free b) e g =
          let o = body-among m.elements i a b e in
          let p = 0 + parameters_in (bodies_of a.before) in
          let l = 0 + summed part_count (bodies_of a.before) in
          let d : suc n - 1 ≡ n = omega arith in
          ap₂ (λ (x : Bool) (j : ℕ). cond x (free (body_from t (free_in (free_number b.free)) (body_at t j))) (plain (shape_of (free_number b.free)))) (free-high b.free) d
          ∙ ap free (body_back u t n p l b (body-row u t m L n o) g)

  pub element-back : Placed s m → (i : ℕ) (a : Among m.elements i) → element_from s t (element_at t i) ≡ a.one
  element-back p i a =
      let e = a.one in
      let c = corners_in a.before in
      let b = length (bodies_of a.before) in
      let g = (each-among (λ (x : Element). PartedKind x.kind) m.elements i a p.loops).1 in
      let h = (each-among (λ (x : Element). NamesStand s x.names) m.elements i a p.names).1 in
      ap (element_from s t) (row_of t m.elements i L.elements a).is
      ∙ ap₂ (λ (k : Kind) (cs : List Corner). record { kind = k; corners = cs; names = names_from s (laid_element c b e) })
      (kind-back c i a g) (corners-back t (laid_element c b e).corners e.corners (corners-stand t m.elements i L.corners a))
      ∙ ap (λ (n : Names). record { kind = e.kind; corners = e.corners; names = n }) (names-back s c b e h)

  -- of tables that begin with the rows of a model
  pub laid-back : Placed s m → model_in s u t ≡ m
  unfolding model_in
  laid-back p =
      let x = m.vertices in
      let w = p.rows in
      let v₁ = rows_back v_width u.v t.vertices.v x.v w.0 L.used_v L.v in
      let v₂ = rows_back vt_width u.vt t.vertices.vt x.vt w.1 L.used-vt L.vt in
      let v₃ = rows_back vn_width u.vn t.vertices.vn x.vn w.2 L.used-vn L.vn in
      let v₄ = rows_back vp_width u.vp t.vertices.vp x.vp w.3 L.used-vp L.vp in
      let es =
      each_all (λ i. element_from s t (element_at t i)) u.elements m.elements L.used-elements (element-back p) in
      rw (v₁, v₂, v₃, v₄, es) refl

-- of the tables of a model it gives that model back
pub model_in-placed : (s : List ℕ) (R : Rooms) (m : Model) → Placed s m → model_in s (used_of m) (tables_of R m) ≡ m
model_in-placed s R m p = laid-back s (used_of m) (tables_of R m) m (laid R m) p
