-- The controls of a curv2 are wide in the table exactly where none of them is narrow in the model, and the type and degrees stand in the numbers as in the model.
use Prim.Native.Nat.{ℕ, zero, suc, ◌*◌, ◌-◌}
use mathlib.Core.Path.{◌≡◌, refl, sym, ap, ◌∙◌}
use mathlib.Core.Bool.{Bool, true, false, cond, not}
use mathlib.Core.List.{List, [], ◌∷◌}
use mathlib.Core.Option.{Option, none, some}
use lib.ListN.{length, get_or}
use lib.Dec.{leb, ltb}
use lib.IntN.{ℤ, pos}
use lib.Signed.{lt_z}
use borrow.Author.Tests.{ltb-true, le-leb, ne_eqb}
use native.Mathlib.Omega.{arith}
use Rattle.lists.specs.Lists.{all}
use Rattle.lists.proofs.Tests.{and_left, and_right, and_both, never}
use Rattle.text.specs.Words.{Word}
use Rattle.digits.specs.Said.{says, wrong}
use Rattle.references.specs.Reference.{is_reference, refer, reference_of}
use Rattle.references.specs.Corner.{Corner}
use Rattle.tables.specs.Bodies.{Basis, bezier, bspline, cardinal, taylor}
use Rattle.tables.specs.declared.Used.{Used}
use Rattle.read_state.specs.State.{form_in}
use Rattle.model.specs.Model as model
use Rattle.model.specs.Parse.{on_said, in_force, given, narrow, narrow_in}
use Rattle.read_vertices.proofs.Closed.{nothing}
use Rattle.read_elements.specs.Corners.{control, corner_said}
use Rattle.read_elements.specs.Bodies.{controls_of, form_in_force, wide_at, wide_in}

-- ---- 11
form-in-force : (k : model.Free) (f : model.Form) (b : Option Basis) → f.basis ≡ b → form_in_force k (form_in f) ≡ in_force k f b
form-in-force k f none e = rw e refl
form-in-force model.curve f (some bezier) e = rw e refl
form-in-force model.curve f (some bspline) e = rw e refl
form-in-force model.curve f (some cardinal) e = rw e refl
form-in-force model.curve f (some taylor) e = rw e refl
form-in-force model.curve2 f (some bezier) e = rw e refl
form-in-force model.curve2 f (some bspline) e = rw e refl
form-in-force model.curve2 f (some cardinal) e = rw e refl
form-in-force model.curve2 f (some taylor) e = rw e refl
form-in-force model.surface f (some bezier) e = rw e refl
form-in-force model.surface f (some bspline) e = rw e refl
form-in-force model.surface f (some cardinal) e = rw e refl
form-in-force model.surface f (some taylor) e = rw e refl

pub in-force : (k : model.Free) (f : model.Form) → form_in_force k (form_in f) ≡ in_force k f f.basis
in-force k f = form-in-force k f f.basis refl

-- ---- 12: the table of vp, four numbers a record, begins each with how many were given, and is 0 after the last
pub record Given (vp : List ℤ) (vps : List (List ℤ)) : Type 0 where
  pub first : (j : ℕ) → get_or vp (4 * j) (pos 0) ≡ pos (given vps (suc j))

two : (n : ℕ) → not (lt_z (pos n) (pos 2)) ≡ leb 2 n
two zero = refl
two (suc zero) = refl
two (suc (suc n)) = go (ltb (suc (suc n)) 2) refl
  where
    go : (t : Bool) → ltb (suc (suc n)) 2 ≡ t → not t ≡ leb 2 (suc (suc n))
    go true h = let z = ltb-true (suc (suc n)) 2 h in absurd (omega arith)
    go false h = sym (le-leb 2 (suc (suc n)) (omega arith))

module _ (vp : List ℤ) (vps : List (List ℤ)) (t : Given vp vps) where
  wide-given : (k : ℕ) → leb 1 k ≡ true → wide_at vp k ≡ leb 2 (given vps k)
  wide-given zero h = never h
  wide-given (suc j) h =
      let e : suc j - 1 ≡ j = omega arith in
      ap (λ (b : Bool). cond b false (not (lt_z (get_or vp (4 * (suc j - 1)) (pos 0)) (pos 2)))) (ne_eqb (suc j) 0 (λ z. absurd (omega arith)))
      ∙ ap (λ (i : ℕ). not (lt_z (get_or vp (4 * i) (pos 0)) (pos 2))) e
      ∙ ap (λ (z : ℤ). not (lt_z z (pos 2))) (t.first j) ∙ two (given vps (suc j))

  not-zero : (k : ℕ) → wide_at vp k ≡ true → leb 1 k ≡ true
  not-zero zero h = h
  not-zero (suc j) h = le-leb 1 (suc j) (omega arith)

  none-narrow : (ws : List Word) (cs : List Corner) → all (λ c. wide_at vp c.v) cs ≡ true → narrow vps ws cs ≡ none
  none-narrow [] cs h = refl
  none-narrow (w ∷ ws) [] h = refl
  none-narrow (w ∷ ws) (c ∷ cs) h =
      let a = and_left (wide_at vp c.v) (all (λ d. wide_at vp d.v) cs) h in
      let b = and_right (wide_at vp c.v) (all (λ d. wide_at vp d.v) cs) h in
      ap (λ (z : Bool). cond z (narrow vps ws cs) (some w.place)) (sym (wide-given c.v (not-zero c.v a)) ∙ a) ∙ none-narrow ws cs b

  none_both : (b : Bool) (o : Option ℕ) (p : ℕ) → cond b o (some p) ≡ none → (b ≡ true) × (o ≡ none)
  none_both true o p e = (refl, e)
  none_both false o p e = nothing (sym e)

  all-wide : (ws : List Word) (cs : List Corner) → length cs ≡ length ws → all (λ c. leb 1 c.v) cs ≡ true → narrow vps ws cs ≡ none → all (λ c. wide_at vp c.v) cs ≡ true
  all-wide ws [] n h e = refl
  all-wide [] (c ∷ cs) n h e = absurd (omega arith)
  all-wide (w ∷ ws) (c ∷ cs) n h e =
      let u = none_both (leb 2 (given vps c.v)) (narrow vps ws cs) w.place e in
      let m : length cs ≡ length ws = omega arith in
      and_both (wide-given c.v (and_left (leb 1 c.v) (all (λ d. leb 1 d.v) cs) h) ∙ u.0)
      (all-wide ws cs m (and_right (leb 1 c.v) (all (λ d. leb 1 d.v) cs) h) u.1)

-- a control refers to something: "Zero or past either end: 8"
pub control-there : (n : Used) (w : List ℕ) (c : Corner) → corner_said n (controls_of model.curve2) w ≡ says c → leb 1 c.v ≡ true
unfolding reference_of
control-there n w c e = go (is_reference w) (leb 1 (refer n.vp w)) refl e
  where
    go : (a b : Bool) → leb 1 (refer n.vp w) ≡ b → on_said control (cond a (cond b (says (refer n.vp w)) (wrong 8)) (wrong 6)) ≡ says c → leb 1 c.v ≡ true
    go false b h f = absurd (let z : ◌≡◌ {A = ℕ} 0 1 = cc in omega arith)
    go true false h f = absurd (let z : ◌≡◌ {A = ℕ} 0 1 = cc in omega arith)
    go true true h f = let z : control (refer n.vp w) ≡ c = cc in ap (λ (d : Corner). leb 1 d.v) (sym z) ∙ h

module _ (x : model.Vertices) (vp : List ℤ) (t : Given vp x.vp) (ws : List Word) (cs : List Corner) where
  pub wide-narrow : (k : model.Free) → wide_in k vp cs ≡ true → narrow_in k x ws cs ≡ none
  wide-narrow model.curve h = refl
  wide-narrow model.curve2 h = none-narrow vp x.vp t ws cs h
  wide-narrow model.surface h = refl

  pub narrow_wide : (k : model.Free) (n : Used) → length cs ≡ length ws
      → ((p : Corner → Bool) → ((w : List ℕ) (c : Corner) → corner_said n (controls_of k) w ≡ says c → p c ≡ true) → all p cs ≡ true)
      → narrow_in k x ws cs ≡ none → wide_in k vp cs ≡ true
  narrow_wide model.curve n l h e = refl
  narrow_wide model.curve2 n l h e = all-wide vp x.vp t ws cs l (h (λ c. leb 1 c.v) (λ w c. control-there n w c)) e
  narrow_wide model.surface n l h e = refl
