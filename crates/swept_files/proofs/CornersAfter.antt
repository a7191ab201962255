-- The corners after a sweep: element i's begin where those before it end, and each holds the new numbers of what it held.
use Prim.Native.Nat.{ℕ, zero, suc, ◌+◌, ◌*◌, ◌<◌}
use mathlib.Core.Path.{◌≡◌, refl, sym, ap, ap₂, ◌∙◌}
use mathlib.Core.List.{List}
use mathlib.Core.Bool.{Bool, true, false, cond}
use native.Mathlib.Omega.{arith}
use borrow.Author.Tests.{eqb-true, eq-eqb}
use lib.ListN.{length, get_or, length-append}
use lib.Dec.{eqb}
use Rattle.lists.specs.Lists.{filled}
use Rattle.lists.proofs.Tests.{and_left}
use Rattle.tables.specs.Tables.{Tables}
use Rattle.tables.specs.Records.{element_at, corner_at}
use Rattle.tables.specs.declared.Used.{Used}
use Rattle.tables.specs.declared.Corner.{Corner}
use Rattle.tables.specs.declared.Element.{Element}
use Rattle.tables.proofs.Filled.{get_d-filled}
use Rattle.model.specs.Model.{VertexKind, geometric, texture, normal, parametric}
use Rattle.table_rules.specs.Whole.{ends_before, follows_at}
use Rattle.sweep_marks.specs.Counting.{reference, any_below, new_number, flat_below}
use Rattle.sweep.specs.Named.{named, corner_after, corners_after}
use Rattle.sweep.specs.Swept.{swept_tables}
use Rattle.swept_files.specs.Promises.{reference_in, NamedBy}
use Rattle.swept_files.proofs.Counting.{any_at, any_found, new-zero}
use Rattle.sweep_marks.proofs.FlatBelow.{flat_below-length}
use Rattle.swept_files.proofs.FlatBelow.{flat_below-at}
use Rattle.table_rules.proofs.Lent.{Lent}
use Rattle.swept_files.proofs.Others.{elements_same}

-- a corner's numbers, renumbered
abbrev pub renumber : Used → Tables → ℕ → Corner → Corner
renumber used t e c =
    record {
      v = cond (eqb e 5) (new_number (named used t parametric) c.v) (new_number (named used t geometric) c.v);
      vt = new_number (named used t texture) c.vt;
      vn = new_number (named used t normal) c.vn;
    }

module _ (used : Used) (t : Tables) where
  abbrev one : ℕ → ℕ → List ℕ
  one i j = corner_after used t (element_at t i).kind (corner_at t (element_at t i).corners j)

  abbrev run : ℕ → List ℕ
  run i = flat_below (element_at t i).corners.count (one i)

  run_length : (i : ℕ) → length (run i) ≡ 3 * (element_at t i).corners.count
  run_length i = flat_below-length (one i) 3 (element_at t i).corners.count (λ j l. refl)

  pub runs-length : (n : ℕ) → length (flat_below n run) ≡ (ends_before t n).corners
  runs-length zero = refl
  runs-length (suc n) =
      let i = runs-length n in
      let r = run_length n in
      length-append (flat_below n run) (run n) ∙ (let e : length (flat_below n run) + length (run n) ≡ (ends_before t n).corners + 3 * (element_at t n).corners.count = omega arith in e)

  pub corners-length : length (corners_after used t) ≡ (ends_before t used.elements).corners
  unfolding corners_after
  corners-length = runs-length used.elements

  pub corners-table : (swept_tables used t).elements.corners ≡ filled (length t.elements.corners) 0 (corners_after used t)
  unfolding swept_tables
  corners-table = refl

  pub first-is : (i : ℕ) → follows_at t i ≡ true → (element_at t i).corners.first ≡ (ends_before t i).corners
  first-is i h = eqb-true (element_at t i).corners.first (ends_before t i).corners (and_left (eqb (element_at t i).corners.first (ends_before t i).corners) _ h)

  module _ (i j : ℕ) (h : i < used.elements) (l : j < (element_at t i).corners.count) (follows : follows_at t i ≡ true) where
    number-after : (k : ℕ) → k < 3 → get_or (swept_tables used t).elements.corners ((element_at t i).corners.first + 3 * j + k) 0 ≡ get_or (one i j) k 0
    unfolding corners_after
    number-after k b =
        let a = first-is i follows in
        let r = runs-length i in
        let n = run_length i in
        let m = flat_below-length (one i) 3 j (λ q d. refl) in
        let e : (element_at t i).corners.first + 3 * j + k ≡ length (flat_below i run) + (3 * j + k) = omega arith in
        let g : 3 * j + k ≡ length (flat_below j (one i)) + k = omega arith in
        ap₂ (λ (x : List ℕ) (y : ℕ). get_or x y 0) corners-table e
        ∙ get_d-filled (length t.elements.corners) 0 (corners_after used t) (length (flat_below i run) + (3 * j + k))
        ∙ flat_below-at run used.elements i h (3 * j + k) 0 (omega arith)
        ∙ ap (λ (y : ℕ). get_or (run i) y 0) g
        ∙ flat_below-at (one i) (element_at t i).corners.count j l k 0 b

    pub corner-after : corner_at (swept_tables used t) (element_at t i).corners j ≡ renumber used t (element_at t i).kind (corner_at t (element_at t i).corners j)
    corner-after =
        let z : (element_at t i).corners.first + 3 * j ≡ (element_at t i).corners.first + 3 * j + 0 = omega arith in
        let a : get_or (swept_tables used t).elements.corners ((element_at t i).corners.first + 3 * j) 0 ≡ (renumber used t (element_at t i).kind (corner_at t (element_at t i).corners j)).v =
        ap (λ (q : ℕ). get_or (swept_tables used t).elements.corners q 0) z ∙ number-after 0 (omega arith) in
        let b = number-after 1 (omega arith) in
        let c = number-after 2 (omega arith) in
        ap₂ (λ (x y : ℕ). record { v = x; vt = y; vn = get_or (swept_tables used t).elements.corners ((element_at t i).corners.first + 3 * j + 2) 0 }) a b
        ∙ ap (λ (x : ℕ). record { v = (renumber used t (element_at t i).kind (corner_at t (element_at t i).corners j)).v; vt = new_number (named used t texture) (corner_at t (element_at t i).corners j).vt; vn = x }) c

  -- the reference of each kind in a renumbered corner
  reference-after : (kind : VertexKind) (e : ℕ) (c : Corner) → reference kind e (renumber used t e c) ≡ new_number (named used t kind) (reference kind e c)
  reference-after geometric e c = go (eqb e 5)
    where
      go : (b : Bool) → cond b 0 (cond b (new_number (named used t parametric) c.v) (new_number (named used t geometric) c.v))
          ≡ new_number (named used t geometric) (cond b 0 c.v)
      go true = sym (new-zero (named used t geometric))
      go false = refl
  reference-after texture e c = refl
  reference-after normal e c = refl
  reference-after parametric e c = go (eqb e 5)
    where
      go : (b : Bool) → cond b (cond b (new_number (named used t parametric) c.v) (new_number (named used t geometric) c.v)) 0
          ≡ new_number (named used t parametric) (cond b c.v 0)
      go true = refl
      go false = sym (new-zero (named used t parametric))

  module _ (lent : Lent used t) (i j : ℕ) (h : i < used.elements) (l : j < (element_at t i).corners.count) (follows : follows_at t i ≡ true) where
    pub held_after : (kind : VertexKind) → reference_in kind (swept_tables used t) i j ≡ new_number (named used t kind) (reference_in kind t i j)
    held_after kind =
        ap (λ (e : Element). reference kind e.kind (corner_at (swept_tables used t) e.corners j)) (elements_same used t lent i h)
        ∙ ap (reference kind (element_at t i).kind) (corner-after i j h l follows)
        ∙ reference-after kind (element_at t i).kind (corner_at t (element_at t i).corners j)

-- ---- a record is named where a corner holds its number, and nowhere else
module _ (used : Used) (t : Tables) (kind : VertexKind) where
  abbrev holds : ℕ → ℕ → ℕ → Bool
  holds k i j = eqb (reference_in kind t i j) k

  pub named-held : (i j : ℕ) → i < used.elements → j < (element_at t i).corners.count → named used t kind (reference_in kind t i j) ≡ true
  unfolding named
  named-held i j h l =
      let k = reference_in kind t i j in
      any_at (λ i. any_below (element_at t i).corners.count (holds k i)) used.elements i h
      (any_at (holds k i) (element_at t i).corners.count j l (eq-eqb k k refl))

  pub holder : (k : ℕ) → named used t kind k ≡ true → NamedBy used t kind k
  unfolding named
  holder k h =
      let a = any_found (λ i. any_below (element_at t i).corners.count (holds k i)) used.elements h in
      let b = any_found (holds k a.at) (element_at t a.at).corners.count a.holds in
      record {
        element = a.at;
        corner = b.at;
        used-one = a.less;
        one-of-its = b.less;
        holds = eqb-true (reference_in kind t a.at b.at) k b.holds;
      }
