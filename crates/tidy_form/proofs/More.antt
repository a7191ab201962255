-- A statement that can be printed still can after more vertices and curves; one that refers to nothing can anywhere. By cases on the forms of its words.
use Prim.Native.Nat.{ℕ, zero, suc, ◌+◌, ◌-◌, ◌≤◌}
use mathlib.Core.Path.{◌≡◌, refl, sym, ap, ◌∙◌}
use mathlib.Core.List.{List, [], ◌∷◌, ◌++◌, append-nil, append_assoc}
use mathlib.Core.Bool.{Bool, true, false, cond}
use lib.ListN.{length, length-append, get_or}
use lib.Dec.{leb, eqb}
use lib.IntN.{ℤ, pos, nat_abs}
use native.Mathlib.Omega.{arith}
use Rattle.lists.proofs.Tests.{never}
use Rattle.lists.proofs.Laws.{all-imp}
use Rattle.text.specs.Words.{Word}
use Rattle.references.specs.Corner.{Corner}
use Rattle.model.specs.Model.{VertexKind, geometric, texture, normal, parametric, Vertices, Free, curve, curve2, surface, ParmDirection}
use Rattle.model.specs.Statements.{Statement, vertex, element, group, smoothing, material, type, degree, body, parameters, loop, end, passed, with_vertex}
use Rattle.model.specs.Parse.{WordForm, a-number, a-corner, a-control, a-curve, a-direction, a-type, a-rational, a-degree, a-smoothing, a-name, anything, Value, Seen, form_of, parm, given}
use Rattle.tidy_form.proofs.Values.{key_of, values_in}
use Rattle.tidy_form.proofs.Words.{Fits, Fitting, Up, fitting-up, Small}
use Rattle.tidy_form.proofs.Standing.{seen_of, wide, wide_in, Whole, Fine}
use Rattle.tidy_form.proofs.Good.{Always}

-- ---- what refers to nothing
abbrev refers : WordForm → Bool
refers a-number = false
refers (a-corner k) = true
refers a-control = true
refers a-curve = true
refers a-direction = false
refers a-type = false
refers a-rational = false
refers a-degree = false
refers a-smoothing = false
refers a-name = false
refers anything = false

fits-any : (m n : Seen) (f : WordForm) (x : Value) → refers f ≡ false → Fits m f x → Fits n f x
fits-any m n a-number x r q = q
fits-any m n (a-corner k) x r q = never (sym r)
fits-any m n a-control x r q = never (sym r)
fits-any m n a-curve x r q = never (sym r)
fits-any m n a-direction x r q = q
fits-any m n a-type x r q = q
fits-any m n a-rational x r q = q
fits-any m n a-degree x r q = q
fits-any m n a-smoothing x r q = q
fits-any m n a-name x r q = q
fits-any m n anything x r q = q

fitting-any : (m n : Seen) (f : ℕ → WordForm) (i : ℕ) (xs : List Value) → ((j : ℕ) → refers (f j) ≡ false) → Fitting m f i xs → Fitting n f i xs
fitting-any m n f i [] r q = tt
fitting-any m n f i (x ∷ xs) r q = (fits-any m n (f i) x (r i) q.0, fitting-any m n f (suc i) xs r q.1)

module _ (x : Vertices) (n : ℕ) where
  pub always-vertex : (k : VertexKind) (z : List ℤ) → Fine x n (vertex k z) → Always (vertex k z)
  always-vertex k z f y m =
      record {
        many = f.many;
        fits = λ c. fitting-any (seen_of x n) (seen_of y m) (form_of (key_of (vertex k z)) (length (values_in c (vertex k z)))) 0 (values_in c (vertex k z)) (λ j. refl) (f.fits c);
        whole = f.whole;
      }

  pub always-group : (ws : List Word) → Fine x n (group ws) → Always (group ws)
  always-group ws f y m =
      record {
        many = f.many;
        fits = λ c. fitting-any (seen_of x n) (seen_of y m) (form_of (key_of (group ws)) (length (values_in c (group ws)))) 0 (values_in c (group ws)) (λ j. refl) (f.fits c);
        whole = tt;
      }

  pub always-smoothing : (k : ℕ) → Fine x n (smoothing k) → Always (smoothing k)
  always-smoothing k f y m = record { many = f.many; fits = f.fits; whole = tt }

  pub always-material : (w : Word) → Fine x n (material w) → Always (material w)
  always-material w f y m = record { many = f.many; fits = f.fits; whole = tt }

  pub always-parameters : (d : ParmDirection) (z : List ℤ) → Fine x n (parameters d z) → Always (parameters d z)
  always-parameters d z f y m =
      record {
        many = f.many;
        fits = λ c. fitting-any (seen_of x n) (seen_of y m) (form_of parm (length (values_in c (parameters d z)))) 0 (values_in c (parameters d z)) (λ j. either (eqb j 0)) (f.fits c);
        whole = tt;
      }
    where
      either : (b : Bool) → refers (cond b a-direction a-number) ≡ false
      either true = refl
      either false = refl

-- ---- more vertices
abbrev pub Before : List (List ℤ) → List (List ℤ) → Type 0
Before a b = (r : List (List ℤ)) × (b ≡ a ++ r)

pub record More (x y : Vertices) : Type 0 where
  pub v : Before x.v y.v
  pub vt : Before x.vt y.vt
  pub vn : Before x.vn y.vn
  pub vp : Before x.vp y.vp

before_same : (a : List (List ℤ)) → Before a a
before_same a = ([], sym (append-nil a))

before-join : (a b c : List (List ℤ)) → Before a b → Before b c → Before a c
before-join a b c p q = (p.0 ++ q.0, q.1 ∙ ap (λ (l : List (List ℤ)). l ++ q.0) p.1 ∙ append_assoc a p.0 q.0)

pub more_same : (x : Vertices) → More x x
more_same x = record { v = before_same x.v; vt = before_same x.vt; vn = before_same x.vn; vp = before_same x.vp }

pub more-join : (x y z : Vertices) → More x y → More y z → More x z
more-join x y z p q =
    record {
      v = before-join x.v y.v z.v p.v q.v;
      vt = before-join x.vt y.vt z.vt p.vt q.vt;
      vn = before-join x.vn y.vn z.vn p.vn q.vn;
      vp = before-join x.vp y.vp z.vp p.vp q.vp;
    }

pub more-vertex : (k : VertexKind) (z : List ℤ) (x : Vertices) → More x (with_vertex k z x)
more-vertex geometric z x = record { v = (z ∷ [], refl); vt = before_same x.vt; vn = before_same x.vn; vp = before_same x.vp }
more-vertex texture z x = record { v = before_same x.v; vt = (z ∷ [], refl); vn = before_same x.vn; vp = before_same x.vp }
more-vertex normal z x = record { v = before_same x.v; vt = before_same x.vt; vn = (z ∷ [], refl); vp = before_same x.vp }
more-vertex parametric z x = record { v = before_same x.v; vt = before_same x.vt; vn = before_same x.vn; vp = (z ∷ [], refl) }

longer : (a b : List (List ℤ)) → Before a b → length a ≤ length b
longer a b p = let e : length b ≡ length a + length p.0 = ap length p.1 ∙ length-append a p.0 in omega arith

pub more-up : (x y : Vertices) (m n : ℕ) → More x y → m ≤ n → Up (seen_of x m) (seen_of y n)
more-up x y m n u l =
    record { v = longer x.v y.v u.v; vt = longer x.vt y.vt u.vt; vn = longer x.vn y.vn u.vn; vp = longer x.vp y.vp u.vp; curves = l }

pub small-down : (x y : Vertices) (m n : ℕ) → More x y → m ≤ n → Small (seen_of y n) → Small (seen_of x m)
small-down x y m n u l s =
    let a = longer x.v y.v u.v in
    let b = longer x.vt y.vt u.vt in
    let c = longer x.vn y.vn u.vn in
    let d = longer x.vp y.vp u.vp in
    let k = s.counts in
    record { counts = record { v = omega arith; vt = omega arith; vn = omega arith }; vp = (let e = s.vp in omega arith); curves = (let e = s.curves in omega arith) }

given-up : (a r : List (List ℤ)) (i : ℕ) → leb 2 (nat_abs (get_or (get_or a i []) 0 (pos 0))) ≡ true → leb 2 (nat_abs (get_or (get_or (a ++ r) i []) 0 (pos 0))) ≡ true
given-up [] r i h = never h
given-up (z ∷ a) r zero h = h
given-up (z ∷ a) r (suc i) h = given-up a r i h

wide_up : (x y : Vertices) (k : Free) (cs : List Corner) → More x y → wide_in k x cs ≡ true → wide_in k y cs ≡ true
wide_up x y curve cs u h = refl
wide_up x y curve2 cs u h =
    all-imp (wide x) (wide y) (λ c e. ap (λ (l : List (List ℤ)). leb 2 (given l c.v)) u.vp.1 ∙ given-up x.vp u.vp.0 (c.v - 1) e) cs h
wide_up x y surface cs u h = refl

whole-up : (x y : Vertices) (t : Statement) → More x y → Whole x t → Whole y t
whole-up x y (vertex k z) u w = w
whole-up x y (element k cs) u w = w
whole-up x y (group ws) u w = w
whole-up x y (smoothing n) u w = w
whole-up x y (material v) u w = w
whole-up x y (type r t) u w = w
whole-up x y (degree m n) u w = w
whole-up x y (body b cs) u w = (w.0, wide_up x y b.free cs u w.1)
whole-up x y (parameters d z) u w = w
whole-up x y (loop l) u w = w
whole-up x y end u w = w
whole-up x y passed u w = w

pub fine_up : (x y : Vertices) (m n : ℕ) (t : Statement) → More x y → m ≤ n → Fine x m t → Fine y n t
fine_up x y m n t u l f =
    record {
      many = f.many;
      fits = λ c. fitting-up (seen_of x m) (seen_of y n) (form_of (key_of t) (length (values_in c t))) 0 (values_in c t) (more-up x y m n u l) (f.fits c);
      whole = whole-up x y t u f.whole;
    }
