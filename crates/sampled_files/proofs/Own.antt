-- The directions and controls that the tables give are the file's own: parameters, corners and vertices read back, and sums of the same terms.
use Prim.Native.Nat.{ℕ, zero, suc, ◌+◌, ◌*◌, ◌-◌, ◌<◌}
use mathlib.Core.Path.{◌≡◌, refl, sym, ap, ap₂, ◌∙◌, subst}
use mathlib.Core.Bool.{true, ◌&&◌}
use mathlib.Core.Logic.{◌⊎◌, inl, inr}
use mathlib.Core.List.{List, [], ◌∷◌, ◌++◌}
use native.Mathlib.Nat.{mul-zero, mul-suc, mul-le-mul_left}
use native.Mathlib.Omega.{arith}
use borrow.Author.Tests.{eqb-true}
use lib.ListN.{length, get_or, get_or-append}
use lib.Seq.{get_or-append-add}
use lib.IntN.{ℤ, pos}
use Rattle.lists.specs.Lists.{flat}
use Rattle.lists.proofs.Tests.{and_right}
use Rattle.references.specs.Corner.{Corner}
use Rattle.rounding.specs.Fractions.{Frac, whole, ◌*ᶠ◌, ◌+ᶠ◌, sum_to}
use Rattle.tables.specs.Tables.{Tables}
use Rattle.tables.specs.Bodies.{Basis, bezier, bspline, basis_number, controls, enough, curve_count, surface_count}
use Rattle.tables.specs.Records.{parameters_u, parameters_v, corner_at, value_at, v_width, vp_width}
use Rattle.tables.specs.declared.Element.{Element}
use Rattle.tables.proofs.Filled.{get_d-filled}
use Rattle.point_exact.specs.Directions.{Direction}
use Rattle.point_exact.specs.Exact.{weight_at, curve_exact, surface_exact}
use Rattle.model.specs.Model.{geometric, parametric, Free, curve, curve2, surface, Body, Model}
use Rattle.model.specs.Room.{Rooms}
use Rattle.model.specs.Layout.{free_number, itself, tables_of}
use Rattle.model.proofs.Placed.{Wide}
use Rattle.tidy_form.proofs.Placed.{vertices-wide}
use Rattle.point_rows.specs.Places.{direction}
use Rattle.sampler.specs.Points.{body_direction, direction_u, direction_v, control_of}
use Rattle.sampled_files.specs.Files.{sampled_direction, along_u, along_v, vertex_of_corner, control_in, axes_in}
use Rattle.tidy_form.proofs.Placed.{Kept}
use Rattle.model.proofs.BodyRows.{laid_body}

-- ---- sums of the same terms
sum_same : (n : ℕ) (f g : ℕ → Frac) → ((i : ℕ) → i < n → f i ≡ g i) → sum_to n f ≡ sum_to n g
unfolding sum_to
sum_same zero f g h = refl
sum_same (suc n) f g h = ap₂ (λ (a b : Frac). a +ᶠ b) (sum_same n f g (λ i l. h i (omega arith))) (h n (omega arith))

pub exact_same : (d : Direction) (p : ℤ) (c e : ℕ → ℤ) → ((i : ℕ) → i < d.controls → c i ≡ e i) → curve_exact d p c ≡ curve_exact d p e
unfolding curve_exact
exact_same d p c e h = sum_same d.controls (λ i. weight_at d p i *ᶠ whole (c i)) (λ i. weight_at d p i *ᶠ whole (e i)) (λ i l. ap (λ (z : ℤ). weight_at d p i *ᶠ whole z) (h i l))

pub grid-same : (u v : Direction) (p q : ℤ) (c e : ℕ → ℕ → ℤ) → ((i j : ℕ) → i < u.controls → j < v.controls → c i j ≡ e i j) → surface_exact u v p q c ≡ surface_exact u v p q e
unfolding surface_exact
grid-same u v p q c e h =
    sum_same v.controls (λ j. sum_to u.controls (λ i. weight_at u p i *ᶠ weight_at v q j *ᶠ whole (c i j))) (λ j. sum_to u.controls (λ i. weight_at u p i *ᶠ weight_at v q j *ᶠ whole (e i j)))
    (λ j l. sum_same u.controls (λ i. weight_at u p i *ᶠ weight_at v q j *ᶠ whole (c i j)) (λ i. weight_at u p i *ᶠ weight_at v q j *ᶠ whole (e i j))
    (λ i k. ap (λ (z : ℤ). weight_at u p i *ᶠ weight_at v q j *ᶠ whole z) (h i j k l)))

-- ---- a direction
direction-is : (t : Basis) → (t ≡ bezier) ⊎ (t ≡ bspline) → (n : ℕ) (x : List ℤ) → direction (body_direction (basis_number t) n (length x)) x ≡ sampled_direction t n x
direction-is t (inl e) n x = subst (λ (y : Basis). direction (body_direction (basis_number y) n (length x)) x ≡ sampled_direction y n x) (sym e) refl
direction-is t (inr e) n x = subst (λ (y : Basis). direction (body_direction (basis_number y) n (length x)) x ≡ sampled_direction y n x) (sym e) refl

pub u-is : (t : Tables) (p l : ℕ) (b : Body) → (b.basis ≡ bezier) ⊎ (b.basis ≡ bspline) → parameters_u t (laid_body p l b) ≡ b.us → direction_u t (laid_body p l b) ≡ along_u b
u-is t p l b k e =
    ap (direction (body_direction (basis_number b.basis) b.degree-u (length b.us))) e ∙ direction-is b.basis k b.degree-u b.us

pub v-is : (t : Tables) (p l : ℕ) (b : Body) → (b.basis ≡ bezier) ⊎ (b.basis ≡ bspline) → parameters_v t (laid_body p l b) ≡ b.vs → direction_v t (laid_body p l b) ≡ along_v b
v-is t p l b k e =
    ap (direction (body_direction (basis_number b.basis) b.degree-v (length b.vs))) e ∙ direction-is b.basis k b.degree-v b.vs

-- ---- a vertex's number, wherever it is asked for: past the records both are 0
wide_at : (w : ℕ) (zs : List (List ℤ)) → Wide w zs → (i k : ℕ) → k < w → get_or (flat itself zs) (w * i + k) (pos 0) ≡ get_or (get_or zs i []) k (pos 0)
wide_at w [] h i k l = refl
wide_at w (z ∷ zs) h zero k l =
    let e : w * 0 + k ≡ k = rw mul-zero (omega arith) in
    let d = h.0 in
    ap (λ (n : ℕ). get_or (z ++ flat itself zs) n (pos 0)) e ∙ get_or-append z (flat itself zs) (pos 0) k (omega arith)
wide_at w (z ∷ zs) h (suc i) k l =
    let d = h.0 in
    let e : w * suc i + k ≡ length z + (w * i + k) = rw mul-suc (omega arith) in
    ap (λ (n : ℕ). get_or (z ++ flat itself zs) n (pos 0)) e ∙ get_or-append-add z (flat itself zs) (w * i + k) (pos 0) ∙ wide_at w zs h.1 i k l

module _ (R : Rooms) (m : Model) (K : Kept m) where
  v-at : (i k : ℕ) → k < v_width → value_at v_width (tables_of R m).vertices.v i k ≡ get_or (get_or m.vertices.v i []) k (pos 0)
  unfolding tables_of
  v-at i k l =
      get_d-filled R.vertices.v (pos 0) (flat itself m.vertices.v) (v_width * i + k)
      ∙ wide_at v_width m.vertices.v (vertices-wide geometric m.vertices.v K.v) i k l

  vp-at : (i k : ℕ) → k < vp_width → value_at vp_width (tables_of R m).vertices.vp i k ≡ get_or (get_or m.vertices.vp i []) k (pos 0)
  unfolding tables_of
  vp-at i k l =
      get_d-filled R.vertices.vp (pos 0) (flat itself m.vertices.vp) (vp_width * i + k)
      ∙ wide_at vp_width m.vertices.vp (vertices-wide parametric m.vertices.vp K.vp) i k l

  -- a control, by its element's kind and its corner
  pub control-is : (k : Free) (e : Element) (cs : List Corner) (axis i : ℕ) → e.kind ≡ free_number k → (corner_at (tables_of R m) e.corners i).v ≡ vertex_of_corner cs i → axis < axes_in k
      → control_of (tables_of R m) e axis i ≡ control_in m.vertices k cs axis i
  unfolding control_of
  control-is curve e cs axis i q c l = rw (q, c) (v-at (vertex_of_corner cs i - 1) axis (omega arith))
  control-is curve2 e cs axis i q c l = rw (q, c) (vp-at (vertex_of_corner cs i - 1) (1 + axis) (omega arith))
  control-is surface e cs axis i q c l = rw (q, c) (v-at (vertex_of_corner cs i - 1) axis (omega arith))

-- ---- how many controls there are
pub count-is : (t : Basis) (n p k : ℕ) → curve_count t n p k ≡ true → k ≡ controls t n p
unfolding curve_count
count-is t n p k h = eqb-true k (controls t n p) (and_right (enough t n p) _ h)

pub counts-are : (t : Basis) (m p n q k : ℕ) → surface_count t m p n q k ≡ true → k ≡ controls t m p * controls t n q
unfolding surface_count
counts-are t m p n q k h = eqb-true k (controls t m p * controls t n q) (and_right (enough t m p && enough t n q) _ h)

-- control j * a + i of a grid of a times c
pub in-grid : (a c i j : ℕ) → i < a → j < c → j * a + i < a * c
in-grid a c i j h l = let e = mul-le-mul_left a l in let d : a * suc j ≡ a * j + a = mul-suc a j in omega arith
