-- What the end of a body finds as its first line left it: the range's record, the form in numbers; and what settling a range leaves. By the kind of body.
use Prim.Native.Nat.{ℕ, suc, ◌+◌, ◌*◌, ◌-◌, ◌≤◌}
use mathlib.Core.Path.{◌≡◌, refl, sym, ap, ap₂, ◌∙◌}
use mathlib.Core.List.{List, [], ◌∷◌, ◌++◌, append_assoc}
use mathlib.Core.Bool.{Bool, true, false, cond}
use mathlib.Core.Option.{Option, none, some}
use native.Mathlib.Omega.{arith}
use lib.ListN.{length, drop, replicate, length-append}
use lib.Seq.{sets, sets-eq, take_at, drop-append-add}
use lib.IntN.{ℤ, pos}
use Rattle.lists.specs.Lists.{flat, filled}
use Rattle.tables.specs.Bodies.{Basis, bezier, bspline, cardinal, taylor, basis_number}
use Rattle.tables.proofs.Flat.{flat_append}
use Rattle.model.specs.Model as model
use Rattle.model.specs.Model.{Free, curve, curve2, surface, Body, Element, Open}
use Rattle.model.specs.Statements.{settled, closed}
use Rattle.model.specs.Parse.{opened_body, degree_in}
use Rattle.model.specs.Parse as says
use Rattle.model.specs.Layout.{free_number, body_row, range_row, parameter_row}
use Rattle.read_state.specs.declared.Form.{Form}
use Rattle.read_state.specs.State.{basis_number_in, form_in}
use Rattle.model.proofs.Rows.{range_rows-length}
use Rattle.read_state.proofs.Ends.{settled-free}
use Rattle.read_body_lines.specs.OpenBody.{type_for, degree_for, form_for, curves_with}

-- ---- a range's record over the one that stands there
module _ (n : ℕ) (bs : List Body) (h : 4 * length bs + 4 ≤ n) where
  abbrev zeros : List ℤ
  zeros = replicate (n - (4 * length bs + 4)) (pos 0)

  one_last : (b : Body) → filled n (pos 0) (flat range_row (bs ++ b ∷ [])) ≡ flat range_row bs ++ (range_row b ++ zeros)
  one_last b =
      let l = range_rows-length bs in
      let e : flat range_row (bs ++ b ∷ []) ≡ flat range_row bs ++ range_row b = flat_append range_row bs (b ∷ []) in
      let k : length (flat range_row bs ++ range_row b) ≡ 4 * length bs + 4 = length-append (flat range_row bs) (range_row b) ∙ (let q : length (flat range_row bs) + 4 ≡ 4 * length bs + 4 = omega arith in q) in
      ap (filled n (pos 0)) e
      ∙ ap (λ (i : ℕ). (flat range_row bs ++ range_row b) ++ replicate (n - i) (pos 0)) k
      ∙ append_assoc (flat range_row bs) (range_row b) zeros

  pub range-anew : (b s : Body) → sets (filled n (pos 0) (flat range_row (bs ++ b ∷ []))) (4 * length bs) (range_row s) ≡ filled n (pos 0) (flat range_row (bs ++ s ∷ []))
  range-anew b s =
      let l : length (flat range_row bs) ≡ 4 * length bs = range_rows-length bs in
      let all : List ℤ = flat range_row bs ++ (range_row b ++ zeros) in
      let long : length all ≡ length (flat range_row bs) + length (range_row b ++ zeros) = length-append (flat range_row bs) (range_row b ++ zeros) in
      ap (λ (x : List ℤ). sets x (4 * length bs) (range_row s)) (one_last b)
      ∙ sets-eq (range_row s) all (4 * length bs) (let g : 4 * length bs + 4 ≤ length all = omega arith in g)
      ∙ ap₂ (λ (x y : List ℤ). (x ++ range_row s) ++ y) (take_at (flat range_row bs) (range_row b ++ zeros) (4 * length bs) l)
      (ap (λ (i : ℕ). drop (i + 4) all) (sym l) ∙ drop-append-add (flat range_row bs) (range_row b ++ zeros) 4)
      ∙ append_assoc (flat range_row bs) (range_row s) zeros
      ∙ sym (one_last s)

-- ---- the form that a body was opened with, in numbers
type-number : (t : Option Basis) → type_for (basis_number_in t) ≡ basis_number (says.basis_in t)
type-number none = refl
type-number (some bezier) = refl
type-number (some bspline) = refl
type-number (some cardinal) = refl
type-number (some taylor) = refl

degree-number : (t : Option Basis) (n : ℕ) → degree_for (basis_number_in t) n ≡ degree_in t n
degree-number none n = refl
degree-number (some bezier) n = refl
degree-number (some bspline) n = refl
degree-number (some cardinal) n = refl
degree-number (some taylor) n = refl

pub record FormIs (f : Form) (b : Body) : Type 0 where
  pub basis : f.basis ≡ basis_number b.basis
  pub degree-u : f.degree_u ≡ b.degree-u
  pub degree-v : f.degree_v ≡ b.degree-v

pub form-is : (k : Free) (f : model.Form) (z : List ℤ) → FormIs (form_for (free_number k) (form_in f)) (opened_body k f z)
form-is curve f z = record { basis = type-number f.basis; degree-u = degree-number f.basis f.degree-u; degree-v = refl }
form-is curve2 f z = record { basis = type-number f.basis; degree-u = degree-number f.basis f.degree-u; degree-v = refl }
form-is surface f z = record { basis = type-number f.basis; degree-u = degree-number f.basis f.degree-u; degree-v = degree-number f.basis f.degree-v }

-- ---- rows that settling a range leaves
pub row_settled : (p l : ℕ) (b : Body) (k : Free) → body_row p l (settled k b) ≡ body_row p l b
row_settled p l b curve = refl
row_settled p l b curve2 = refl
row_settled p l b surface = refl

pub parameters-settled : (b : Body) (k : Free) → parameter_row (settled k b) ≡ parameter_row b
parameters-settled b curve = refl
parameters-settled b curve2 = refl
parameters-settled b surface = refl

-- one curv2 more where it is one
one-curve : (b : Body) (k : Free) (n : ℕ) → b.free ≡ k → ◌≡◌ {A = ℕ} (cond (model.is_curve2 (model.free b)) (n + 1) n) (curves_with (free_number k) n)
one-curve b curve n e = rw e refl
one-curve b curve2 n e = rw e refl
one-curve b surface n e = rw e refl

curves-append : (es : List Element) (e : Element) → model.curves (es ++ e ∷ []) ≡ cond (model.is_curve2 e.kind) (model.curves es + 1) (model.curves es)
curves-append [] e = go (model.is_curve2 e.kind)
  where
    go : (t : Bool) → ◌≡◌ {A = ℕ} (cond t 1 0) (cond t (0 + 1) 0)
    go true = refl
    go false = refl
curves-append (x ∷ es) e = go (model.is_curve2 x.kind) (model.is_curve2 e.kind) (model.curves es) (curves-append es e)
  where
    go : (t u : Bool) {a : ℕ} (b : ℕ) → a ≡ cond u (b + 1) b → cond t (suc a) a ≡ cond u (cond t (suc b) b + 1) (cond t (suc b) b)
    go true true b h = omega arith
    go true false b h = omega arith
    go false true b h = h
    go false false b h = h

pub curves-after : (o : Open) (es : List Element) → model.curves (es ++ closed o ∷ []) ≡ curves_with (free_number o.body.free) (model.curves es)
curves-after o es =
    curves-append es (closed o)
    ∙ one-curve (settled o.body.free o.body) o.body.free (model.curves es) (settled-free o.body o.body.free)
