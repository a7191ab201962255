-- The tests of a body's line on lists: the degrees, and the controls of a curv2 one after the other.
use Prim.Native.Nat.{ℕ, zero, suc, ◌+◌, ◌*◌, ◌-◌, ◌<◌, ◌≤◌}
use mathlib.Core.Path.{◌≡◌, refl, sym, ap, ap₂, ◌∙◌}
use mathlib.Core.Bool.{Bool, true, false, ◌&&◌, not}
use mathlib.Core.List.{List, [], ◌∷◌, ◌++◌, append_assoc}
use lib.ListN.{length, get_or, drop}
use lib.Seq.{sets, sets-eq, get_or-drop, drop-drop, drop_at, length-take-le}
use lib.Dec.{leb, eqb}
use lib.IntN.{ℤ}
use borrow.Author.Tests.{le-leb, ne_eqb}
use native.Mathlib.Nat.{add-zero}
use native.Mathlib.Omega.{arith}
use Rattle.lists.specs.Lists.{all, flat}
use Rattle.lists.proofs.Tests.{and_first}
use Rattle.references.specs.Corner.{Corner}
use Rattle.model.specs.Model as model
use Rattle.model.specs.Layout.{corner_row}
use Rattle.read_state.specs.declared.Form.{Form}
use Rattle.read_elements.specs.Bodies.{degrees_in, wide_at, wides, wides_for, wide_in}
use Rattle.model.proofs.Rows.{corners-length}

-- ---- 11
pub one-degree : (n : ℕ) → (n ≡ 0 → ⊥) → leb 1 n ≡ true
one-degree zero h = absurd (h refl)
one-degree (suc n) h = le-leb 1 (suc n) (omega arith)

pub no-degree : (k : model.Free) (f : Form) → f.degree_u ≡ 0 → degrees_in k f ≡ false
no-degree model.curve f e = ap (leb 1) e
no-degree model.curve2 f e = ap (leb 1) e
no-degree model.surface f e = and_first (leb 1 f.degree_v) (ap (leb 1) e)

pub two-degrees : (m n : ℕ) → (m ≡ 0 → ⊥) → not (eqb n 0) ≡ (leb 1 m && leb 1 n)
two-degrees m zero h = rw (one-degree m h) refl
two-degrees m (suc n) h = rw (one-degree m h) (ap not (ne_eqb (suc n) 0 (λ e. absurd (omega arith))) ∙ sym (le-leb 1 (suc n) (omega arith)))

-- ---- 12: the loop over the controls
pub record WidesLeft (vp : List ℤ) (l : List ℕ) (first count at left : ℕ) : Type 0 where
  pub room : at + 3 * left ≤ length l
  pub same : wides vp count (drop first l) ≡ wides vp left (drop at l)

-- before the first corner
pub wides-begin : (vp : List ℤ) (l : List ℕ) (first count : ℕ) → first + 3 * count ≤ length l → WidesLeft vp l first count (first + 3 * 0) (count - 0)
wides-begin vp l first count h =
    let at : first ≡ first + 3 * 0 = omega arith in
    let left : count ≡ count - 0 = omega arith in
    record { room = omega arith; same = ap₂ (λ (n i : ℕ). wides vp n (drop i l)) left at }

-- one further
pub wides-further : (vp : List ℤ) (l : List ℕ) (first count k : ℕ) → k < count → WidesLeft vp l first count (first + 3 * k + 3) (count - k - 1)
    → WidesLeft vp l first count (first + 3 * (k + 1)) (count - (k + 1))
wides-further vp l first count k h w =
    let a = w.room in
    let at : first + 3 * k + 3 ≡ first + 3 * (k + 1) = omega arith in
    let left : count - k - 1 ≡ count - (k + 1) = omega arith in
    record { room = omega arith; same = w.same ∙ ap₂ (λ (n i : ℕ). wides vp n (drop i l)) left at }

module _ (vp : List ℤ) (l : List ℕ) (first count at left : ℕ) (w : WidesLeft vp l first count at left) where
  pub wides-end : left ≡ 0 → true ≡ wides vp count (drop first l)
  wides-end e = sym (w.same ∙ ap (λ (n : ℕ). wides vp n (drop at l)) e)

  module _ (more : 0 < left) where
    here : wides vp left (drop at l) ≡ (wide_at vp (get_or l at 0) && wides vp (left - 1) (drop (at + 3) l))
    here =
        let e : left ≡ suc (left - 1) = omega arith in
        ap (λ (n : ℕ). wides vp n (drop at l)) e
        ∙ ap₂ (λ (x : ℕ) (t : List ℕ). wide_at vp x && wides vp (left - 1) t) (get_or-drop at l 0 0 ∙ ap (λ (n : ℕ). get_or l n 0) (add-zero at)) (drop-drop 3 at l)

    pub wides-stop : wide_at vp (get_or l at 0) ≡ false → false ≡ wides vp count (drop first l)
    wides-stop f = sym (w.same ∙ here ∙ and_first (wides vp (left - 1) (drop (at + 3) l)) f)

    pub wides-turn : wide_at vp (get_or l at 0) ≡ true → WidesLeft vp l first count (at + 3) (left - 1)
    wides-turn f =
        let a = w.room in
        record { room = omega arith; same = w.same ∙ here ∙ ap (λ (b : Bool). b && wides vp (left - 1) (drop (at + 3) l)) f }

-- what the loop looks at are the corners stored
wides-stored : (vp : List ℤ) (cs : List Corner) (t : List ℕ) → wides vp (length cs) (flat corner_row cs ++ t) ≡ all (λ c. wide_at vp c.v) cs
wides-stored vp [] t = refl
wides-stored vp (c ∷ cs) t = ap (λ (b : Bool). wide_at vp c.v && b) (wides-stored vp cs t)

drop-sets : (l : List ℕ) (first : ℕ) (vs : List ℕ) → first + length vs ≤ length l → drop first (sets l first vs) ≡ vs ++ drop (first + length vs) l
drop-sets l first vs h =
    ap (drop first) (sets-eq vs l first h ∙ append_assoc (lib.ListN.take first l) vs (drop (first + length vs) l))
    ∙ drop_at (lib.ListN.take first l) (vs ++ drop (first + length vs) l) first (length-take-le first l (omega arith))

pub wides-for : (k : model.Free) (vp : List ℤ) (l : List ℕ) (first : ℕ) (cs : List Corner) → first + 3 * length cs ≤ length l
    → wides_for k vp (length cs) (drop first (sets l first (flat corner_row cs))) ≡ wide_in k vp cs
wides-for model.curve vp l first cs h = refl
wides-for model.surface vp l first cs h = refl
wides-for model.curve2 vp l first cs h =
    let n = corners-length cs in
    ap (wides vp (length cs)) (drop-sets l first (flat corner_row cs) (omega arith))
    ∙ wides-stored vp cs (drop (first + length (flat corner_row cs)) l)
