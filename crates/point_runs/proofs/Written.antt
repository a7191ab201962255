-- What a run has written stands before what the slice held from there on.
use mathlib.Core.Path.{◌≡◌, refl, sym, ap, ap₂, ◌∙◌}
use mathlib.Core.List.{List, [], ◌∷◌, ◌++◌, append_assoc, append-nil}
use Prim.Native.Nat.{ℕ, zero, suc, ◌+◌, ◌*◌, ◌-◌, ◌≤◌, ◌<◌}
use native.Mathlib.Numerals.{add-one}
use native.Mathlib.Omega.{arith}
use lib.ListN.{length, get_or, set, take, drop, length-append, length-drop}
use lib.Seq.{drop-cons, set_at, append_snoc, take_at, drop_at, drop-drop, take_all, drop-length}
use borrow.Rule.Slice.PartMut.{put_mid}
use lib.IntN.{ℤ, pos}
use mir.Syntax.{w32}
use mir.Val.{to_z, of_z}
use Rattle.rounding.specs.Range.{InRange}
use Rattle.rounding.proofs.Bits.{read-back-small}
use Rattle.point_exact.specs.Sampled.{curve_sampled}
use Rattle.point_rows.specs.Places.{direction}
use Rattle.point_rows.specs.Controls.{control_at}
use Rattle.point_runs.specs.Runs.{joined, tabulated}
use Rattle.point_runs.specs.Inner.{coordinate_of, curve_point_at}
use Rattle.point_rows.specs.declared.BodyDirection.{BodyDirection}
use Rattle.point_single.specs.Points.{curve_number, CurvePoint}
use Rattle.point_rows.specs.declared.Coordinates.{Coordinates}

pub joined_length : (w n : ℕ) (f : ℕ → List ℤ) → ((i : ℕ) → length (f i) ≡ w) → length (joined n f) ≡ w * n
joined_length w zero f h = omega arith
joined_length w (suc n) f h = length-append (joined n f) (f n) ∙ (let a = joined_length w n f h in let b = h n in omega arith)

pub listed-length : (n : ℕ) (f : ℕ → ℤ) → length (tabulated n f) ≡ n
listed-length n f = joined_length 1 n (λ i. f i ∷ []) (λ i. refl) ∙ omega arith

-- one coordinate more
pub stored : (f : ℕ → ℤ) (l : List ℤ) (k : ℕ) (z : ℤ) → k < length l → z ≡ f k → set (tabulated k f ++ drop k l) k z ≡ tabulated (k + 1) f ++ drop (k + 1) l
stored f l k z h e =
    rw (add-one, drop-cons l k (pos 0) h, e)
    (set_at (tabulated k f) (get_or l k (pos 0)) (drop (suc k) l) (f k) k (listed-length k f) ∙ sym (append_snoc (tabulated k f) (f k) (drop (suc k) l)))

-- two, and three
module _ (l : List ℤ) (x y z : ℤ) where
  pub two-stored : 2 ≤ length l → set (set l 0 x) 1 y ≡ tabulated 2 (coordinate_of x y z) ++ drop 2 l
  two-stored h = ap (λ (q : List ℤ). set q 1 y) (stored (coordinate_of x y z) l 0 x (omega arith) refl) ∙ stored (coordinate_of x y z) l 1 y (omega arith) refl

  pub three-stored : 3 ≤ length l → set (set (set l 0 x) 1 y) 2 z ≡ tabulated 3 (coordinate_of x y z) ++ drop 3 l
  three-stored h = ap (λ (q : List ℤ). set q 2 z) (two-stored (omega arith)) ∙ stored (coordinate_of x y z) l 2 z (omega arith) refl

-- one point more: what was written before, then the point, then the rest
pub pasted : (f : ℕ → List ℤ) (l : List ℤ) (w j : ℕ) {now rest : List ℤ} → ((i : ℕ) → length (f i) ≡ w)
    → now ≡ joined j f ++ drop (w * j) l → rest ≡ f j ++ drop w (drop (w * j) now)
    → take (w * j) now ++ rest ≡ joined (j + 1) f ++ drop (w * (j + 1)) l
pasted f l w j {now} {rest} h a b =
    let m = joined_length w j f h in
    let t : take (w * j) now ≡ joined j f = ap (take (w * j)) a ∙ take_at (joined j f) (drop (w * j) l) (w * j) m in
    let d : drop (w * j) now ≡ drop (w * j) l = ap (drop (w * j)) a ∙ drop_at (joined j f) (drop (w * j) l) (w * j) m in
    let r : rest ≡ f j ++ drop (w * suc j) l =
    b ∙ ap (λ (q : List ℤ). f j ++ drop w q) d ∙ ap (λ (q : List ℤ). f j ++ q) (drop-drop w (w * j) l ∙ ap (λ (q : ℕ). drop q l) (let e : w * j + w ≡ w * suc j = omega arith in e)) in
    rw (add-one, t, r) (sym (append_assoc (joined j f) (f j) (drop (w * suc j) l)))

-- the same where the slice's part from there on was lent
pub lent-pasted : (f : ℕ → List ℤ) (l : List ℤ) (w j : ℕ) {now last point : List ℤ} → ((i : ℕ) → length (f i) ≡ w) → w * j ≤ length now
    → now ≡ joined j f ++ drop (w * j) l → last ≡ point ++ drop w (take (length now - w * j) (drop (w * j) now)) → point ≡ f j
    → put_mid (w * j) (length now - w * j) now last ≡ joined (j + 1) f ++ drop (w * (j + 1)) l
lent-pasted f l w j {now} {last} {point} h r a b p =
    ap (λ (q : List ℤ). take (w * j) now ++ (last ++ q)) none ∙ ap (λ (q : List ℤ). take (w * j) now ++ q) (append-nil last)
    ∙ pasted f l w j h a (b ∙ ap₂ (λ (q r : List ℤ). q ++ drop w r) p every)
  where
    rest : length (drop (w * j) now) ≡ length now - w * j
    rest = length-drop (w * j) now

    every : take (length now - w * j) (drop (w * j) now) ≡ drop (w * j) now
    every = take_all (length now - w * j) (drop (w * j) now) (omega (arith, rest))

    none : drop (length now - w * j) (drop (w * j) now) ≡ []
    none = ap (λ (k : ℕ). drop k (drop (w * j) now)) (sym rest) ∙ drop-length (drop (w * j) now)

pub run_length : (f : ℕ → List ℤ) (l : List ℤ) (w j : ℕ) → ((i : ℕ) → length (f i) ≡ w) → w * j ≤ length l → length (joined j f ++ drop (w * j) l) ≡ length l
run_length f l w j h k =
    length-append (joined j f) (drop (w * j) l) ∙ (let a = joined_length w j f h in let b = length-drop (w * j) l in omega arith)

pub point-length : (values : List ℤ) (corners : List ℕ) (first axis axes : ℕ) (along : BodyDirection) (x : List ℤ) (t : ℤ)
    → length (curve_point_at values corners first axis axes along x t) ≡ axes
unfolding curve_point_at
point-length values corners first axis axes along x t = listed-length axes (λ k. curve_sampled (direction along x) t (control_at values corners first (axis + k)))

-- a point's coordinates, each as it is read back, are the definition's
module _ (values : List ℤ) (corners : List ℕ) (first axis : ℕ) (along : BodyDirection) (x : List ℤ) (t : ℤ) {p : Coordinates} (h : CurvePoint values corners first axis (direction along x) t p) where
  abbrev number : ℕ → ℤ
  number k = curve_sampled (direction along x) t (control_at values corners first (axis + k))

  from-axis : (z : ℤ) (k m : ℕ) → InRange z → z ≡ curve_number values corners first (direction along x) t m → m ≡ axis + k → to_z w32 (of_z w32 z) ≡ number k
  from-axis z k m s e q =
      read-back-small z s ∙ e ∙ ap (λ (i : ℕ). curve_sampled (direction along x) t (control_at values corners first i)) q

  pub point-written : (axes : ℕ) → 2 ≤ axes → axes ≤ 3
      → tabulated axes (coordinate_of (to_z w32 (of_z w32 p.x)) (to_z w32 (of_z w32 p.y)) (to_z w32 (of_z w32 p.z))) ≡ curve_point_at values corners first axis axes along x t
  unfolding curve_point_at
  point-written axes l m = each axes l m
    where
      ex : to_z w32 (of_z w32 p.x) ≡ number 0
      ex = from-axis p.x 0 axis h.x-small h.x-is (omega arith)

      ey : to_z w32 (of_z w32 p.y) ≡ number 1
      ey = from-axis p.y 1 (axis + 1) h.y-small h.y-is refl

      ez : to_z w32 (of_z w32 p.z) ≡ number 2
      ez = from-axis p.z 2 (axis + 2) h.z-small h.z-is refl

      each : (n : ℕ) → 2 ≤ n → n ≤ 3 → tabulated n (coordinate_of (to_z w32 (of_z w32 p.x)) (to_z w32 (of_z w32 p.y)) (to_z w32 (of_z w32 p.z))) ≡ tabulated n number
      each zero l m = absurd (let b : ⊥ = omega arith in b)
      each (suc zero) l m = absurd (let b : ⊥ = omega arith in b)
      each (suc (suc zero)) l m = λ i. ex i ∷ ey i ∷ []
      each (suc (suc (suc zero))) l m = λ i. ex i ∷ ey i ∷ ez i ∷ []
      each (suc (suc (suc (suc n)))) l m = absurd (let b : ⊥ = omega arith in b)
