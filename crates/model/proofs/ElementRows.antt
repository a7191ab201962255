-- Element i of the tables is element i of the model, with its corners, after the corners and bodies of those before it. By its row.
use Prim.Native.Nat.{ℕ, ◌+◌, ◌*◌, ◌≤◌, ◌<◌}
use mathlib.Core.Path.{◌≡◌, refl, sym, ap, ap₂, ◌∙◌, subst}
use mathlib.Core.List.{List, ◌∷◌, ◌++◌}
use native.Mathlib.Omega.{arith}
use lib.ListN.{length, get_or}
use Rattle.lists.specs.Lists.{flat}
use Rattle.references.specs.Corner.{Corner}
use Rattle.tables.specs.Tables.{Tables}
use Rattle.tables.specs.Records.{element_width, corner_width, element_at, corner_place, corner_at, number_at}
use Rattle.tables.specs.declared.CornerRun.{CornerRun}
use Rattle.tables.specs.declared.Element as records-element
use Rattle.tables.specs.declared.Corner as records-corner
use Rattle.model.specs.Model.{Element}
use Rattle.model.specs.Room.{summed, of_kind}
use Rattle.model.specs.Layout.{run_of, listed, corner_row, corner_rows, kind_number, body_number, element_row, element_rows, bodies_of}
use Rattle.model.proofs.Rows.{element_rows-length, element_rows-append, corner_rows-length, bodies-length}
use Rattle.model.proofs.Stands.{Stands, stands_at, stands-is, stands-part, stands-flat, stands-record, Among, among, among-at}

-- how many numbers the corners of elements take
abbrev pub corners_in : List Element → ℕ
corners_in es = corner_width * summed (λ (e : Element). length e.corners) es

-- ---- its record: c numbers of corners and b bodies stand before its own
abbrev pub laid_run : ℕ → List Corner → CornerRun
laid_run first cs = record { first = first; count = length cs }

abbrev pub laid_element : ℕ → ℕ → Element → records-element.Element
laid_element c b e =
    record {
      kind = kind_number e.kind;
      corners = laid_run c e.corners;
      body = body_number e.kind b;
      smoothing = e.names.smoothing;
      group = run_of e.names.group;
      material = run_of (listed e.names.material);
    }

pub record Row (t : Tables) (es : List Element) (i : ℕ) (a : Among es i) : Type 0 where
  pub lent : element_width * i + element_width ≤ length t.elements.elements
  pub is : element_at t i ≡ laid_element (corners_in a.before) (length (bodies_of a.before)) a.one
  pub kind : (element_at t i).kind ≡ kind_number a.one.kind
  pub run : (element_at t i).corners ≡ laid_run (corners_in a.before) a.one.corners
  pub first : (element_at t i).corners.first ≡ corners_in a.before
  pub count : (element_at t i).corners.count ≡ length a.one.corners
  pub body : (element_at t i).body ≡ body_number a.one.kind (length (bodies_of a.before))

pub row_of : (t : Tables) (es : List Element) (i : ℕ) → Stands t.elements.elements 0 (element_rows 0 0 es) → (a : Among es i) → Row t es i a
row_of t es i s a =
    let l = t.elements.elements in
    let qs = a.before in
    let e = a.one in
    let c = 0 + corners_in qs in
    let b = 0 + summed (λ (e : Element). of_kind (λ x. 1) e.kind) qs in
    let r = element_rows (c + corner_width * length e.corners) (b + of_kind (λ x. 1) e.kind) a.after in
    let n : 0 + length (element_rows 0 0 qs) ≡ element_width * i = (let k = element_rows-length 0 0 qs in let j = a.many in omega arith) in
    let s' : Stands l 0 (element_rows 0 0 qs ++ (element_row c b e ++ r)) = subst (Stands l 0) (ap (element_rows 0 0) a.is ∙ element_rows-append 0 0 qs (e ∷ a.after)) s in
    let w : Stands l (element_width * i) (element_row c b e) = stands-is l (0 + length (element_rows 0 0 qs)) (element_width * i) (element_row c b e) n (stands-part l 0 (element_rows 0 0 qs) (element_row c b e) r s') in
    let at : (k : ℕ) → k < element_width → number_at element_width l i k ≡ get_or (element_row c b e) k 0 = λ k h. stands_at l (element_width * i) (element_row c b e) k 0 w (omega arith) in
    let is : element_at t i ≡ laid_element c b e =
    rw (
      at 0 (omega arith),
      at 1 (omega arith),
      at 2 (omega arith),
      at 3 (omega arith),
      at 4 (omega arith),
      at 5 (omega arith),
      at 6 (omega arith),
      at 7 (omega arith),
      at 8 (omega arith),
    ) refl in
    let c' : c ≡ corners_in qs = omega arith in
    let b' : b ≡ length (bodies_of qs) = (let k = bodies-length qs in omega arith) in
    let whole : element_at t i ≡ laid_element (corners_in qs) (length (bodies_of qs)) e = is ∙ ap₂ (λ (x y : ℕ). laid_element x y e) c' b' in
    record {
      lent = (let k = w.lent in omega arith);
      is = whole;
      kind = ap (λ (r : records-element.Element). r.kind) whole;
      run = ap (λ (r : records-element.Element). r.corners) whole;
      first = ap (λ (r : records-element.Element). r.corners.first) whole;
      count = ap (λ (r : records-element.Element). r.corners.count) whole;
      body = ap (λ (r : records-element.Element). r.body) whole;
    }

-- ---- its corners stand where the row says
pub corners-stand : (t : Tables) (es : List Element) (i : ℕ) → Stands t.elements.corners 0 (flat corner_rows es) → (a : Among es i)
    → Stands t.elements.corners (corners_in a.before) (flat corner_row a.one.corners)
corners-stand t es i s a =
    let k = corner_rows-length a.before in
    stands-is t.elements.corners (0 + length (flat corner_rows a.before)) (corners_in a.before) (flat corner_row a.one.corners) (omega arith)
    (stands-flat corner_rows t.elements.corners 0 es i a s)

abbrev pub laid_corner : Corner → records-corner.Corner
laid_corner c = record { v = c.v; vt = c.vt; vn = c.vn }

abbrev pub no_corner : Corner
no_corner = record { v = 0; vt = 0; vn = 0 }

pub corner-among : (t : Tables) (run : CornerRun) (cs : List Corner) → Stands t.elements.corners run.first (flat corner_row cs) → (k : ℕ) (a : Among cs k) → corner_at t run k ≡ laid_corner a.one
corner-among t run cs s k a =
    let l = t.elements.corners in
    let at = corner_place run k in
    let c = a.one in
    let w = stands-record corner_row corner_width (λ c. refl) l run.first cs k a s in
    let z : at ≡ at + 0 = omega arith in
    let e₁ : get_or l at 0 ≡ c.v = ap (λ (q : ℕ). get_or l q 0) z ∙ stands_at l at (corner_row c) 0 0 w (omega arith) in
    let e₂ : get_or l (at + 1) 0 ≡ c.vt = stands_at l at (corner_row c) 1 0 w (omega arith) in
    let e₃ : get_or l (at + 2) 0 ≡ c.vn = stands_at l at (corner_row c) 2 0 w (omega arith) in
    rw (e₁, e₂, e₃) refl

pub corner-at : (t : Tables) (run : CornerRun) (cs : List Corner) → Stands t.elements.corners run.first (flat corner_row cs) → (k : ℕ) → k < length cs → corner_at t run k ≡ laid_corner (get_or cs k no_corner)
corner-at t run cs s k h =
    let a = among cs k h in
    corner-among t run cs s k a ∙ ap laid_corner (sym (among-at cs k a no_corner))
