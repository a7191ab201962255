-- Each statement that is ready keeps a state good: by cases on the statement.
use Prim.Native.Nat.{ℕ, zero, suc, ◌+◌}
use mathlib.Core.Path.{◌≡◌, refl, sym, ap, ◌∙◌, subst}
use mathlib.Core.List.{List, [], ◌∷◌, ◌++◌}
use mathlib.Core.Bool.{Bool, true, false, cond, ◌||◌, not}
use mathlib.Core.Option.{Option, none, some}
use lib.Dec.{leb}
use lib.IntN.{ℤ}
use native.Mathlib.Omega.{arith}
use native.Mathlib.Nat.{le_refl}
use Rattle.lists.proofs.Tests.{and_right, never}
use Rattle.text.specs.Words.{Word}
use Rattle.model.specs.Model.{VertexKind, geometric, texture, normal, parametric, Vertices, Names, plain, Element, Model, Open, State, is_curve2, curves}
use Rattle.model.specs.Statements.{Statement, vertex, element, group, smoothing, material, type, degree, body, parameters, loop, end, passed, apply, closed, ended, on_open, with_body, with_parameters, with_loop}
use Rattle.model.specs.Parse.{whole, is_surface}
use Rattle.model.specs.Standing.{outside_body, inside_body, is_v}
use Rattle.statements.specs.declared.rules.Count.TheVariants.{Within}
use Rattle.statements.specs.Rules.{counted_by}
use Rattle.tidy_form.specs.declared.Weights.TheVariants as weights
use Rattle.tidy_form.proofs.Standing.{Fine, Ends, Here}
use Rattle.tidy_form.proofs.Ready.{Ready}
use Rattle.tidy_form.proofs.Good.{Always, GoodVertices, GoodNames, stays, GoodKind, plus, GoodElements, GoodOpen, GoodOption, Good}
use Rattle.tidy_form.proofs.More.{More, fine_up, always-vertex, always-group, always-smoothing, always-material, always-parameters}
use Rattle.tidy_form.proofs.Opening.{opened-good}
use Rattle.tidy_form.proofs.Bodies.{parameters-good, loop-good, closed-good}

-- ---- how many curv2 elements there are
abbrev pub after : ℕ → List Element → ℕ
after n [] = n
after n (e ∷ es) = after (plus e.kind n) es

plus-is : (b : Bool) (n c : ℕ) → cond b (suc n) n + c ≡ n + cond b (suc c) c
plus-is true n c = omega arith
plus-is false n c = refl

pub after_is : (n : ℕ) (es : List Element) → after n es ≡ n + curves es
after_is n [] = omega arith
after_is n (e ∷ es) = after_is (plus e.kind n) es ∙ plus-is (is_curve2 e.kind) n (curves es)

pub after-add : (n : ℕ) (es : List Element) (e : Element) → after n (es ++ e ∷ []) ≡ plus e.kind (after n es)
after-add n [] e = refl
after-add n (x ∷ es) e = after-add (plus x.kind n) es e

pub curves-add : (es : List Element) (e : Element) → curves (es ++ e ∷ []) ≡ plus e.kind (curves es)
curves-add es e =
    let a : after 0 (es ++ e ∷ []) ≡ curves (es ++ e ∷ []) = after_is 0 (es ++ e ∷ []) ∙ omega arith in
    let b : after 0 es ≡ curves es = after_is 0 es ∙ omega arith in
    sym a ∙ after-add 0 es e ∙ ap (plus e.kind) b

-- ---- one more of a list
vertices-add : (k : VertexKind) (zs : List (List ℤ)) (z : List ℤ) → GoodVertices k zs → Always (vertex k z) → GoodVertices k (zs ++ z ∷ [])
vertices-add k [] z g f = (f, tt)
vertices-add k (y ∷ zs) z g f = (g.0, vertices-add k zs z g.1 f)

stays_same : (a : Option Word) → stays a a ≡ true
stays_same none = refl
stays_same (some w) = refl

stays-set : (a l : Option Word) (w : Word) → stays a l ≡ true → stays a (some w) ≡ true
stays-set none l w h = refl
stays-set (some v) l w h = refl

elements-set : (x : Vertices) (n : ℕ) (a : Option Word) (es : List Element) (l : Option Word) (w : Word) → GoodElements x n a es l → GoodElements x n a es (some w)
elements-set x n a [] l w g = stays-set a l w g
elements-set x n a (e ∷ es) l w g = (g.0, g.1, g.2, elements-set x (plus e.kind n) e.names.material es l w g.3)

elements-add : (x : Vertices) (n : ℕ) (a : Option Word) (es : List Element) (e : Element) → GoodElements x n a es e.names.material → GoodKind x (after n es) e.kind e.corners
    → GoodNames e.names → GoodElements x n a (es ++ e ∷ []) e.names.material
elements-add x n a [] e g k m = (k, m, g, stays_same e.names.material)
elements-add x n a (y ∷ es) e g k m = (g.0, g.1, g.2, elements-add x (plus y.kind n) y.names.material es e g.3 k m)

-- ---- outside a body nothing is open
shut : (x : Vertices) (n m : ℕ) (a b : Names) (o : Option Open) → outside_body o ≡ true → GoodOption x n a o → GoodOption x m b o
shut x n m a b none h g = tt
shut x n m a b (some o) h g = never h

at_most : (m : ℕ) → (i : ℕ) × (whole m ≡ whole i) × (counted_by (Within 1 20) i ≡ true) → leb m 20 ≡ true
at_most m q = ap (λ (i : ℕ). leb i 20) (let e = q.1 in let z : m ≡ q.0 = cc in z) ∙ and_right (leb 1 q.0) (leb q.0 20) q.2

pub degrees-form : (x : Vertices) (n m k : ℕ) → Fine x n (degree m k) → (leb m 20 ≡ true) × (leb k 20 ≡ true)
degrees-form x n m zero f = (at_most m (f.fits weights.Always).0, refl)
degrees-form x n m (suc k) f = (at_most m (f.fits weights.Always).0, at_most (suc k) (f.fits weights.Always).1.0)

pub ended-vertices : (o : Option Open) (m : Model) → (ended o m).vertices ≡ m.vertices
ended-vertices none m = refl
ended-vertices (some o) m = refl

-- ---- each statement
module _ (x : Vertices) (s : State) (u : More s.model.vertices x) (g : Good x s) where
  abbrev N : ℕ
  N = curves s.model.elements

  element-kept : (e : Element) → e.names ≡ s.names → GoodKind x N e.kind e.corners
      → GoodElements x 0 none (s.model.elements ++ e ∷ []) s.names.material
  element-kept e q k =
      let m : e.names.material ≡ s.names.material = ap (λ (n : Names). n.material) q in
      let a : after 0 s.model.elements ≡ N = after_is 0 s.model.elements ∙ omega arith in
      subst (GoodElements x 0 none (s.model.elements ++ e ∷ [])) m
      (elements-add x 0 none s.model.elements e (subst (GoodElements x 0 none s.model.elements) (sym m) g.elements)
      (subst (λ (n : ℕ). GoodKind x n e.kind e.corners) (sym a) k) (subst GoodNames (sym q) g.names))

  body_kept : (o : Option Open) → s.open-body ≡ o → Ends o → GoodOption x N s.names o → GoodElements x 0 none (ended o s.model).elements s.names.material
  body_kept none q h k = never h
  body_kept (some o) q h k = element-kept (closed o) k.named (closed-good x N s.names o k h)

  abbrev holding : Option Open → State
  holding o = record { model = s.model; names = s.names; form = s.form; open-body = o }

  inside-kept : (o : Option Open) (f : Open → Open) → ((b : Open) → o ≡ some b → GoodOpen x N s.names b → GoodOpen x N s.names (f b)) → GoodOption x N s.names o
      → GoodOption x N s.names (on_open f (holding o)).open-body
  inside-kept none f h k = tt
  inside-kept (some o) f h k = h o refl k

  go : (t : Statement) → Fine x N t → Here s.form s.open-body t → Good x (apply t s)
  go (vertex geometric z) f h =
      record {
        v = vertices-add geometric s.model.vertices.v z g.v (always-vertex x N geometric z f);
        vt = g.vt;
        vn = g.vn;
        vp = g.vp;
        elements = g.elements;
        names = g.names;
        form = g.form;
        opened = g.opened;
      }
  go (vertex texture z) f h =
      record {
        v = g.v;
        vt = vertices-add texture s.model.vertices.vt z g.vt (always-vertex x N texture z f);
        vn = g.vn;
        vp = g.vp;
        elements = g.elements;
        names = g.names;
        form = g.form;
        opened = g.opened;
      }
  go (vertex normal z) f h =
      record {
        v = g.v;
        vt = g.vt;
        vn = vertices-add normal s.model.vertices.vn z g.vn (always-vertex x N normal z f);
        vp = g.vp;
        elements = g.elements;
        names = g.names;
        form = g.form;
        opened = g.opened;
      }
  go (vertex parametric z) f h =
      record {
        v = g.v;
        vt = g.vt;
        vn = g.vn;
        vp = vertices-add parametric s.model.vertices.vp z g.vp (always-vertex x N parametric z f);
        elements = g.elements;
        names = g.names;
        form = g.form;
        opened = g.opened;
      }
  go (element k cs) f h =
      record {
        v = g.v;
        vt = g.vt;
        vn = g.vn;
        vp = g.vp;
        elements = element-kept (record { kind = plain k; corners = cs; names = s.names }) refl f;
        names = g.names;
        form = g.form;
        opened = shut x N _ s.names s.names s.open-body h g.opened;
      }
  go (group ws) f h =
      record {
        v = g.v;
        vt = g.vt;
        vn = g.vn;
        vp = g.vp;
        elements = g.elements;
        names = record { group = always-group x N ws f; smoothing = g.names.smoothing; material = g.names.material };
        form = g.form;
        opened = shut x N N s.names _ s.open-body h g.opened;
      }
  go (smoothing k) f h =
      record {
        v = g.v;
        vt = g.vt;
        vn = g.vn;
        vp = g.vp;
        elements = g.elements;
        names = record { group = g.names.group; smoothing = always-smoothing x N k f; material = g.names.material };
        form = g.form;
        opened = shut x N N s.names _ s.open-body h g.opened;
      }
  go (material w) f h =
      record {
        v = g.v;
        vt = g.vt;
        vn = g.vn;
        vp = g.vp;
        elements = elements-set x 0 none s.model.elements s.names.material w g.elements;
        names = record { group = g.names.group; smoothing = g.names.smoothing; material = always-material x N w f };
        form = g.form;
        opened = shut x N N s.names _ s.open-body h g.opened;
      }
  go (type r t) f h =
      record {
        v = g.v;
        vt = g.vt;
        vn = g.vn;
        vp = g.vp;
        elements = g.elements;
        names = g.names;
        form = record { u = g.form.u; v = g.form.v };
        opened = g.opened;
      }
  go (degree m k) f h =
      let d = degrees-form x N m k f in
      record {
        v = g.v;
        vt = g.vt;
        vn = g.vn;
        vp = g.vp;
        elements = g.elements;
        names = g.names;
        form = record { u = d.0; v = d.1 };
        opened = g.opened;
      }
  go (body b cs) f h =
      record {
        v = g.v;
        vt = g.vt;
        vn = g.vn;
        vp = g.vp;
        elements = g.elements;
        names = g.names;
        form = g.form;
        opened = opened-good x N s.names s.form b cs h.1 g.form f;
      }
  go (parameters d z) f h =
      record {
        v = g.v;
        vt = g.vt;
        vn = g.vn;
        vp = g.vp;
        elements = g.elements;
        names = g.names;
        form = g.form;
        opened = inside-kept s.open-body (with_body (with_parameters d z))
            (λ b q k. parameters-good x N s.names b d z (ap (λ (o : Option Open). inside_body o (λ k. is_surface k || not (is_v (some d)))) (sym q) ∙ h) (always-parameters x N d z f) k) g.opened;
      }
  go (loop l) f h =
      record {
        v = g.v;
        vt = g.vt;
        vn = g.vn;
        vp = g.vp;
        elements = g.elements;
        names = g.names;
        form = g.form;
        opened = inside-kept s.open-body (with_body (with_loop l)) (λ b q k. loop-good x N s.names b l (ap (λ (o : Option Open). inside_body o is_surface) (sym q) ∙ h) f k) g.opened;
      }
  go end f h =
      let e = ended-vertices s.open-body s.model in
      record {
        v = subst (λ (y : Vertices). GoodVertices geometric y.v) (sym e) g.v;
        vt = subst (λ (y : Vertices). GoodVertices texture y.vt) (sym e) g.vt;
        vn = subst (λ (y : Vertices). GoodVertices normal y.vn) (sym e) g.vn;
        vp = subst (λ (y : Vertices). GoodVertices parametric y.vp) (sym e) g.vp;
        elements = body_kept s.open-body refl h g.opened;
        names = g.names;
        form = g.form;
        opened = tt;
      }
  go passed f h = g

  pub keep : (t : Statement) → Ready s t → Good x (apply t s)
  keep t r = go t (fine_up s.model.vertices x N N t u (le_refl N) r.fine) r.here
