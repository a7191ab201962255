-- What reading keeps of an element; the curv2 elements before it, counted alike in the tables; and the tests of an element by its record.
use Prim.Native.Nat.{ℕ, zero, suc, ◌+◌, ◌*◌, ◌≤◌, ◌<◌}
use mathlib.Core.Path.{◌≡◌, refl, sym, ap, ap₂, ◌∙◌, subst}
use mathlib.Core.List.{List, [], ◌∷◌, ◌++◌}
use mathlib.Core.Bool.{true, cond}
use mathlib.Core.Option.{Option, none}
use native.Mathlib.Omega.{arith}
use borrow.Author.Tests.{le-leb}
use lib.ListN.{length, get_or, take}
use lib.Seq.{take-suc, take_at}
use lib.Dec.{leb, eqb}
use Rattle.lists.proofs.Tests.{and_both}
use Rattle.text.specs.Words.{Word}
use Rattle.tables.specs.Tables.{Tables}
use Rattle.tables.specs.Records.{element_at, element_width}
use Rattle.tables.specs.declared.Used.{Used}
use Rattle.tables.specs.declared.Element as records
use Rattle.model.specs.Model.{Vertices, Free, curve, curve2, surface, point, line, face, Kind, plain, free, Element, curves}
use Rattle.model.specs.Statements.{smoothing}
use Rattle.model.specs.Layout.{kind_number, element_rows}
use Rattle.tidy_form.specs.declared.Weights.TheVariants as weights
use Rattle.tidy_form.proofs.Good.{Always, GoodNames, GoodKind, plus, GoodElements}
use Rattle.tidy_form.proofs.Keep.{after, after_is, curves-add}
use Rattle.record_rules.specs.Corners.{corners_obey}
use Rattle.record_rules.specs.Bodies.{body_obeys}
use Rattle.record_rules.specs.Rules.{element_obeys, obeys, curves_among}
use Rattle.model.proofs.Stands.{Stands, Among, among, among-at}
use Rattle.model.proofs.ElementRows.{row_of}

-- ---- what reading keeps of an element
pub record Good (x : Vertices) (es : List Element) (i : ℕ) (a : Among es i) : Type 0 where
  pub kind : GoodKind x (curves a.before) a.one.kind a.one.corners
  pub smoothing : leb a.one.names.smoothing 65535 ≡ true

smoothing-most : (x : Vertices) (s : ℕ) → Always (smoothing s) → leb s 65535 ≡ true
smoothing-most x s a = let f = ((a x 0).fits weights.Always).0 in let e = f.1 in ap (λ (k : ℕ). leb k 65535) (let z : s ≡ f.0 = cc in z) ∙ f.2

pub good-element : (x : Vertices) (es : List Element) (l : Option Word) (i : ℕ) → GoodElements x 0 none es l → (a : Among es i) → Good x es i a
good-element x es l i g a =
    let r = go a.before 0 none (subst (λ (q : List Element). GoodElements x 0 none q l) a.is g) in
    let e : after 0 a.before ≡ curves a.before = after_is 0 a.before ∙ omega arith in
    record {
      kind = subst (λ (n : ℕ). GoodKind x n a.one.kind a.one.corners) e r.0;
      smoothing = smoothing-most x a.one.names.smoothing r.1.smoothing;
    }
  where
    go : (xs : List Element) (n : ℕ) (o : Option Word) → GoodElements x n o (xs ++ a.one ∷ a.after) l
        → GoodKind x (after n xs) a.one.kind a.one.corners × GoodNames a.one.names
    go [] n o h = (h.0, h.1)
    go (y ∷ xs) n o h = go xs (plus y.kind n) y.names.material h.3

-- ---- the curv2 elements before it
one-curve : (k : Kind) (n : ℕ) → n + cond (eqb (kind_number k) 5) 1 0 ≡ plus k n
one-curve (plain point) n = omega arith
one-curve (plain line) n = omega arith
one-curve (plain face) n = omega arith
one-curve (free b) n = go b.free refl
  where
    go : (k : Free) → b.free ≡ k → n + cond (eqb (kind_number (free b)) 5) 1 0 ≡ plus (free b) n
    go curve e = rw e (let z : n + 0 ≡ n = omega arith in z)
    go curve2 e = rw e (let z : n + 1 ≡ suc n = omega arith in z)
    go surface e = rw e (let z : n + 0 ≡ n = omega arith in z)

curves-taken : (t : Tables) (es : List Element) → Stands t.elements.elements 0 (element_rows 0 0 es) → (i : ℕ) → i ≤ length es → curves_among t.elements.elements i ≡ curves (take i es)
curves-taken t es s zero h = refl
curves-taken t es s (suc i) h =
    let a = among es i (omega arith) in
    let e = a.one in
    let k = (row_of t es i s a).kind in
    let g : get_or es i e ≡ e = among-at es i a e in
    let n : take (suc i) es ≡ take i es ++ e ∷ [] = take-suc es i e (omega arith) ∙ ap (λ (q : Element). take i es ++ q ∷ []) g in
    ap₂ (λ (x y : ℕ). x + cond (eqb y 5) 1 0) (curves-taken t es s i (omega arith)) k
    ∙ one-curve e.kind (curves (take i es)) ∙ sym (curves-add (take i es) e) ∙ ap curves (sym n)

pub curves-before : (t : Tables) (es : List Element) (i : ℕ) → Stands t.elements.elements 0 (element_rows 0 0 es) → (a : Among es i) → i < length es
    → curves_among t.elements.elements i ≡ curves a.before
curves-before t es i s a h =
    curves-taken t es s i (omega arith) ∙ ap curves (ap (take i) a.is ∙ take_at a.before (a.one ∷ a.after) i a.many)

-- ---- the tests of an element by its record
pub element-obeys : (u : Used) (t : Tables) (n i kind body : ℕ) (e : records.Element) → element_width * i + element_width ≤ length t.elements.elements → element_at t i ≡ e → e.kind ≡ kind → e.body ≡ body
    → leb 1 kind ≡ true → leb kind 6 ≡ true → leb e.smoothing 65535 ≡ true → corners_obey u t kind e.corners ≡ true
    → cond (leb kind 3) (eqb body 0) (body_obeys u t n kind e.corners.count body) ≡ true → obeys u t n i ≡ true
unfolding obeys element_obeys
element-obeys u t n i kind body e l r k o a b c d f =
    let x : element_obeys u t n e ≡ true = rw (k, o) (and_both (and_both (and_both (and_both a b) c) d) f) in
    and_both (le-leb (element_width * i + element_width) (length t.elements.elements) l) (ap (element_obeys u t n) r ∙ x)
