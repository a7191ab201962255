-- The end of a body: the numbers that the code holds against each other are the body's, so its verdict is that of 01's order, and its rows are the body's.
use Prim.Native.Nat.{ℕ, ◌+◌, ◌*◌, ◌-◌, ◌≤◌, ◌<◌}
use native.Mathlib.Omega.{arith}
use mathlib.Core.Path.{◌≡◌, refl, sym, ap, ap₂, ◌∙◌}
use mathlib.Core.List.{List, [], ◌++◌}
use mathlib.Core.Bool.{Bool, true, false, cond}
use mathlib.Core.Logic.{⊎_elim}
use mathlib.Core.Option.{some}
use borrow.Author.Tests.{eqb-true, eqb-false}
use lib.ListN.{length, get_or}
use lib.Seq.{sets}
use lib.Dec.{eqb}
use lib.IntN.{ℤ, pos}
use Rattle.lists.proofs.Tests.{test}
use Rattle.tables.specs.Bodies.{basis_number, basis_of}
use Rattle.tables.specs.declared.Used.{Used}
use Rattle.model.specs.Model.{Free, curve, curve2, surface, Body}
use Rattle.model.specs.Model as model
use Rattle.model.specs.Statements.{end, settled}
use Rattle.model.specs.Parse.{fine, fault, must, complete, counts_agree, range_within}
use Rattle.model.proofs.Pieces.{finished}
use Rattle.model.specs.Room.{part_count}
use Rattle.model.specs.Layout.{flag, free_number, body_row, range_row, parameter_row}
use Rattle.read_state.specs.declared.Form.{Form}
use Rattle.read_state.specs.declared.Open.{Open}
use Rattle.read_state.specs.State.{ParmAt}
use Rattle.statements.specs.Numbered.{free_of}
use Rattle.tables.specs.Rows.{body_numbers}
use Rattle.read_bodies.specs.Closing.{parm_of, open_body_in, closing_refusal, stored_body_of, Stored, NotStored}
use Rattle.read_bodies.proofs.Closings.{parm-none, parm-some}
use Rattle.read_bodies.proofs.Parms.{kept-is}
use Rattle.tables.proofs.Types.{basis-back}
use Rattle.model.proofs.Rows.{flag-back}

-- the form f, the open body c and the ranges r stand for the body o, whose last parm lines stand in the texts s and t
pub record Stands (s t : List ℕ) (f : Form) (c : Open) (used : Used) (r : List ℤ) (o : model.Open) : Type 0 where
  pub basis : f.basis ≡ basis_number o.body.basis
  pub rational : f.rational ≡ flag o.body.rational
  pub degree-u : f.degree_u ≡ o.body.degree-u
  pub degree-v : f.degree_v ≡ o.body.degree-v
  pub kind : c.kind ≡ free_number o.body.free
  pub controls : c.controls ≡ length o.controls
  pub parts : c.parts ≡ part_count o.body
  pub u : ParmAt s c.u_at o.body.us
  pub v : ParmAt t c.v_at o.body.vs
  pub start-u : get_or r (4 * (used.bodies - 1)) (pos 0) ≡ o.body.start-u
  pub end-u : get_or r (4 * (used.bodies - 1) + 1) (pos 0) ≡ o.body.end-u
  pub start-v : get_or r (4 * (used.bodies - 1) + 2) (pos 0) ≡ o.body.start-v
  pub end-v : get_or r (4 * (used.bodies - 1) + 3) (pos 0) ≡ o.body.end-v

-- ---- numbers read back
kind-back : (k : Free) → free_of (free_number k) ≡ k
kind-back curve = refl
kind-back curve2 = refl
kind-back surface = refl

pub parm-is : (s : List ℕ) (at : ℕ) (zs : List ℤ) → ParmAt s at zs → parm_of s at ≡ zs
parm-is s at zs k =
    ⊎_elim
    (λ (e : eqb at 0 ≡ true). let z = eqb-true at 0 e in parm-none s at z ∙ sym (k.none-there z))
    (λ (e : eqb at 0 ≡ false). let z = eqb-false at 0 e in parm-some s at z ∙ kept-is s at zs k (more at z))
    (test (eqb at 0))
  where
    more : (at : ℕ) → (at ≡ 0 → ⊥) → 0 < at
    more at z = omega arith

-- ---- a body's loops play no part in the verdict
abbrev unlooped : Body → Body
unlooped b =
    record {
      free = b.free;
      basis = b.basis;
      rational = b.rational;
      degree-u = b.degree-u;
      degree-v = b.degree-v;
      start-u = b.start-u;
      end-u = b.end-u;
      start-v = b.start-v;
      end-v = b.end-v;
      us = b.us;
      vs = b.vs;
      loops = [];
    }

abbrev verdict : Free → Body → ℕ → ℕ
verdict x b k = cond (complete x b) (cond (counts_agree x b k) (cond (range_within x b) 0 13) 12) 11

same-refusal : (b : Body) (k : ℕ) → closing_refusal (unlooped b) k ≡ closing_refusal b k
same-refusal b k = go b.free
  where
    go : (x : Free) → verdict x (unlooped b) k ≡ verdict x b k
    go curve = refl
    go curve2 = refl
    go surface = refl

same-range : (b : Body) → range_row (settled b.free (unlooped b)) ≡ range_row (settled b.free b)
same-range b = go b.free
  where
    go : (x : Free) → range_row (settled x (unlooped b)) ≡ range_row (settled x b)
    go curve = refl
    go curve2 = refl
    go surface = refl

-- the verdict, as 01's order gives it
pub finished-is : (o : model.Open) (key : ℕ) → finished (some o) key ≡ cond (eqb (closing_refusal o.body (length o.controls)) 0) (fine end) (fault (closing_refusal o.body (length o.controls)) key)
finished-is o key = go (complete o.body.free o.body) (counts_agree o.body.free o.body (length o.controls)) (range_within o.body.free o.body)
  where
    go : (a b c : Bool) → must a 11 key (must b 12 key (must c 13 key (fine end))) ≡ cond (eqb (cond a (cond b (cond c 0 13) 12) 11) 0) (fine end) (fault (cond a (cond b (cond c 0 13) 12) 11) key)
    go false b c = refl
    go true false c = refl
    go true true false = refl
    go true true true = refl

module _ (s t : List ℕ) (f : Form) (c : Open) (used : Used) (r : List ℤ) (o : model.Open) (w : Stands s t f c used r o) where
  pub body_is : open_body_in f c used s t r ≡ unlooped o.body
  body_is =
      let e₁ : free_of c.kind ≡ o.body.free = ap free_of w.kind ∙ kind-back o.body.free in
      let e₂ : basis_of f.basis ≡ o.body.basis = ap basis_of w.basis ∙ basis-back o.body.basis in
      let e₃ : eqb f.rational 1 ≡ o.body.rational = ap (λ (n : ℕ). eqb n 1) w.rational ∙ flag-back o.body.rational in
      let e₄ : parm_of s c.u_at ≡ o.body.us = parm-is s c.u_at o.body.us w.u in
      let e₅ : parm_of t c.v_at ≡ o.body.vs = parm-is t c.v_at o.body.vs w.v in
      rw (e₁, e₂, e₃, w.degree-u, w.degree-v, e₄, e₅, w.start-u, w.end-u, w.start-v, w.end-v) refl

  pub refusal_is : closing_refusal (open_body_in f c used s t r) c.controls ≡ closing_refusal o.body (length o.controls)
  refusal_is = ap₂ closing_refusal body_is w.controls ∙ same-refusal o.body (length o.controls)

  module _ (l m : List ℕ) (q p x : List ℤ) (key : ℕ) where
    -- a body that was kept has passed, and its rows are in the tables
    module _ {u v : ℕ} (k : Stored f c used (open_body_in f c used s t r) l m r q p x u v) where
      pub kept-says : finished (some o) key ≡ fine end
      kept-says = finished-is o key ∙ ap (λ (n : ℕ). cond (eqb n 0) (fine end) (fault n key)) (sym refusal_is ∙ k.none-wrong)

      pub kept-counts : (u ≡ length o.body.us) × (v ≡ length o.body.vs)
      kept-counts = (k.count-u ∙ ap (λ (b : Body). length b.us) body_is, k.count-v ∙ ap (λ (b : Body). length b.vs) body_is)

      pub kept-room : used.parameters + (length o.body.us + length o.body.vs) ≤ length p
      kept-room = let a = ap (λ (b : Body). length b.us) body_is in let b = ap (λ (b : Body). length b.vs) body_is in let z = k.room in omega arith

      pub kept-parameters : x ≡ sets p used.parameters (parameter_row o.body)
      kept-parameters = k.parameters ∙ ap (λ (b : Body). sets p used.parameters (b.us ++ b.vs)) body_is

      pub kept-body : m ≡ sets l (9 * (used.bodies - 1)) (body_row used.parameters (used.loops - part_count o.body) o.body)
      kept-body = k.body ∙ ap (sets l (9 * (used.bodies - 1))) row
        where
          row : body_numbers (stored_body_of f c used u v o.body) ≡ body_row used.parameters (used.loops - part_count o.body) o.body
          row = let n = kept-counts in rw (w.basis, w.rational, w.degree-u, w.degree-v, n.0, n.1, w.parts) refl

      pub kept-range : q ≡ sets r (4 * (used.bodies - 1)) (range_row (settled o.body.free o.body))
      kept-range = k.range ∙ ap (λ (b : Body). sets r (4 * (used.bodies - 1)) (range_row (settled b.free b))) body_is ∙ ap (sets r (4 * (used.bodies - 1))) (same-range o.body)

    -- one that was not is refused by that number, or lacks room where nothing else is wrong
    module _ {n : ℕ} (k : NotStored c used (open_body_in f c used s t r) l m r q p x n) where
      number_is : n ≡ cond (eqb (closing_refusal o.body (length o.controls)) 0) 14 (closing_refusal o.body (length o.controls))
      number_is = k.number ∙ ap (λ (i : ℕ). cond (eqb i 0) 14 i) refusal_is

      pub left-wrong : (n ≡ 14 → ⊥) → finished (some o) key ≡ fault n key
      left-wrong h = finished-is o key ∙ go (eqb (closing_refusal o.body (length o.controls)) 0) refl
        where
          go : (b : Bool) → eqb (closing_refusal o.body (length o.controls)) 0 ≡ b → cond b (fine end) (fault (closing_refusal o.body (length o.controls)) key) ≡ fault n key
          go true e = absurd (h (number_is ∙ ap (λ (b : Bool). cond b 14 (closing_refusal o.body (length o.controls))) e))
          go false e = ap (λ (i : ℕ). fault i key) (sym (number_is ∙ ap (λ (b : Bool). cond b 14 (closing_refusal o.body (length o.controls))) e))

      few : (b : Body) → b ≡ unlooped o.body → length p < used.parameters + (length b.us + length b.vs) → length p < used.parameters + (length o.body.us + length o.body.vs)
      few b e h = let x = ap (λ (b : Body). length b.us) e in let y = ap (λ (b : Body). length b.vs) e in omega arith

      pub left-room : finished (some o) key ≡ fine end → (n ≡ 14) × (length p < used.parameters + (length o.body.us + length o.body.vs))
      left-room h = go (eqb (closing_refusal o.body (length o.controls)) 0) refl (sym (finished-is o key) ∙ h)
        where
          go :
              (b : Bool) → eqb (closing_refusal o.body (length o.controls)) 0 ≡ b → cond b (fine end) (fault (closing_refusal o.body (length o.controls)) key) ≡ fine end →
              (n ≡ 14) × (length p < used.parameters + (length o.body.us + length o.body.vs))
          go true e i =
              let z = eqb-true (closing_refusal o.body (length o.controls)) 0 e in
              (number_is ∙ ap (λ (b : Bool). cond b 14 (closing_refusal o.body (length o.controls))) e, few (open_body_in f c used s t r) body_is (k.short (refusal_is ∙ z)))
          go false e i = absurd (let y : ◌≡◌ {A = ℕ} 0 1 = cc in omega arith)
