-- The lines of an element come to it, and those of all elements to all of them: by the kind of body, by the loops, by the elements.
use Prim.Native.Nat.{ℕ}
use mathlib.Core.Path.{◌≡◌, refl, sym, ap, ap₂, ◌∙◌, subst}
use mathlib.Core.List.{List, [], ◌∷◌, ◌++◌, map, append_assoc, append-nil}
use mathlib.Core.Bool.{Bool, true, false, ◌||◌}
use mathlib.Core.Option.{Option, none, some}
use lib.ListN.{length}
use lib.IntN.{ℤ}
use native.Mathlib.Omega.{arith}
use Rattle.text.specs.Words.{Word}
use Rattle.references.specs.Corner.{Corner}
use Rattle.tables.specs.Bodies.{Basis}
use Rattle.model.specs.Model.{geometric, texture, normal, parametric, Vertices, Names, Free, curve, curve2, surface, along-u, Loop, Body, Kind, plain, free, Element, Model, Form, State, curves, start}
use Rattle.model.specs.Statements.{Statement, element, type, degree, body, parameters, loop, end, settled}
use Rattle.model.specs.Parse.{is_surface}
use Rattle.tidy_form.specs.Tidied.{vertex_lines, group_lines, smoothing_lines, material_lines, unsettled, at_line, parameter_lines, element_lines, elements_lines, tidied}
use Rattle.tidy_form.specs.Bare.{bare_names, bare_element, bare_elements}
use Rattle.tidy_form.proofs.Standing.{Sound}
use Rattle.tidy_form.proofs.Good.{Always, GoodVertices, form_in, GoodLoops, LoopsIn, SecondIn, GoodBody, GoodKind, GoodElements, Good}
use Rattle.tidy_form.proofs.Keep.{curves-add}
use Rattle.tidy_form.proofs.Goes.{Goes, on, nil, one, holding, vertices, at, groups, smoothings, materials}

always-type : (r : Bool) (t : Basis) → Always (type r t)
always-type true t x n = record { many = λ c. refl; fits = λ c. (refl, ((t, refl), tt)); whole = tt }
always-type false t x n = record { many = λ c. refl; fits = λ c. ((t, refl), tt); whole = tt }

-- ---- what an end settles, the other way
record Kept (k : Free) (b : Body) : Type 0 where
  free : (unsettled k b).free ≡ b.free
  us : (unsettled k b).us ≡ b.us
  vs : (unsettled k b).vs ≡ b.vs
  loops : (unsettled k b).loops ≡ b.loops

kept : (k : Free) (b : Body) → Kept k b
kept curve b = record { free = refl; us = refl; vs = refl; loops = refl }
kept curve2 b = record { free = refl; us = refl; vs = refl; loops = refl }
kept surface b = record { free = refl; us = refl; vs = refl; loops = refl }

-- ---- a body's lines
module _ (x : Vertices) (es : List Element) (n : Names) (b : Body) (cs : List Corner) (g : GoodBody x (curves es) b cs) where
  abbrev u : Body
  u = unsettled b.free b

  abbrev filled : List ℤ → List ℤ → List Loop → Body
  filled us vs ls =
      record {
        free = u.free;
        basis = u.basis;
        rational = u.rational;
        degree-u = u.degree-u;
        degree-v = u.degree-v;
        start-u = u.start-u;
        end-u = u.end-u;
        start-v = u.start-v;
        end-v = u.end-v;
        us = us;
        vs = vs;
        loops = ls;
      }

  abbrev inside : Body → State
  inside c =
      record { model = record { vertices = x; elements = es }; names = n; form = form_in b; open-body = some (record { body = c; controls = cs; names = n }) }

  line-goes : (f : Form) → Goes (at x es n f) (type b.rational b.basis ∷ degree b.degree-u b.degree-v ∷ body (at_line b) cs ∷ []) (inside (filled [] [] []))
  line-goes f =
      record {
        stand = (
          record { fine = always-type b.rational b.basis x (curves es); here = refl },
          (
            record { fine = g.degrees x (curves es); here = refl },
            (record { fine = g.line; here = (refl, g.opens) }, tt),
          ),
        );
        ends = refl;
      }

  -- parm u stands in every body
  u-here : (k : Bool) → (k || true) ≡ true
  u-here true = refl
  u-here false = refl

  u-goes : b.vs ≡ [] → Goes (inside (filled [] [] [])) (parameters along-u b.us ∷ []) (inside (filled b.us b.vs []))
  u-goes h =
      record {
        stand = (record { fine = g.us x (curves es); here = u-here (is_surface u.free) }, tt);
        ends = ap (λ (z : List ℤ). inside (filled b.us z [])) (sym h);
      }

  parameters-go : (k : Free) → u.free ≡ k → SecondIn k b.vs → Goes (inside (filled [] [] [])) (parameter_lines k b) (inside (filled b.us b.vs []))
  parameters-go curve q h = u-goes h
  parameters-go curve2 q h = u-goes h
  parameters-go surface q h =
      record {
        stand = (
          record { fine = g.us x (curves es); here = ap (λ (k : Free). is_surface k || true) q },
          (record { fine = h x (curves es); here = ap (λ (k : Free). is_surface k || false) q }, tt),
        );
        ends = refl;
      }

  loops-go : u.free ≡ surface → (ls ks : List Loop) → GoodLoops x (curves es) ks → Goes (inside (filled b.us b.vs ls)) (map loop ks) (inside (filled b.us b.vs (ls ++ ks)))
  loops-go q ls [] h = record { stand = tt; ends = ap (λ (l : List Loop). inside (filled b.us b.vs l)) (sym (append-nil ls)) }
  loops-go q ls (l ∷ ks) h =
      let i = loops-go q (ls ++ l ∷ []) ks h.1 in
      record {
        stand = (record { fine = h.0; here = ap is_surface q }, i.stand);
        ends = i.ends ∙ ap (λ (l : List Loop). inside (filled b.us b.vs l)) (append_assoc ls (l ∷ []) ks);
      }

  no-loops : (ks : List Loop) → ks ≡ [] → Goes (inside (filled b.us b.vs [])) (map loop ks) (inside (filled b.us b.vs ks))
  no-loops [] e = record { stand = tt; ends = refl }
  no-loops (l ∷ ks) e = absurd (let z : ◌≡◌ {A = ℕ} 0 1 = cc in omega arith)

  all-loops : (k : Free) → u.free ≡ k → LoopsIn x (curves es) k b.loops
      → Goes (inside (filled b.us b.vs [])) (map loop b.loops) (inside (filled b.us b.vs b.loops))
  all-loops curve q h = no-loops b.loops h
  all-loops curve2 q h = no-loops b.loops h
  all-loops surface q h = loops-go q [] b.loops h

  end_goes : Goes (inside (filled b.us b.vs b.loops)) (end ∷ []) (at x (es ++ record { kind = free b; corners = cs; names = n } ∷ []) n (form_in b))
  end_goes =
      let k = kept b.free b in
      let e : filled b.us b.vs b.loops ≡ u =
      ap₂ (λ (y z : List ℤ). filled y z b.loops) (sym k.us) (sym k.vs) ∙ ap (λ (l : List Loop). filled u.us u.vs l) (sym k.loops) in
      let c : settled u.free u ≡ b = ap (λ (j : Free). settled j u) k.free ∙ g.settles in
      record {
        stand = (record { fine = record { many = λ c. refl; fits = λ c. tt; whole = tt }; here = subst (λ (y : Body). Sound y (length cs)) (sym e) g.sound }, tt);
        ends =
            ap (λ (y : Body). at x (es ++ record { kind = free (settled y.free y); corners = cs; names = n } ∷ []) n (form_in b)) e
            ∙ ap (λ (y : Body). at x (es ++ record { kind = free y; corners = cs; names = n } ∷ []) n (form_in b)) c;
      }

  pub body-goes : (f : Form) → Goes (at x es n f) (element_lines (free b) cs) (at x (es ++ record { kind = free b; corners = cs; names = n } ∷ []) n (form_in b))
  body-goes f =
      let q = (kept b.free b).free in
      on (type b.rational b.basis ∷ degree b.degree-u b.degree-v ∷ body (at_line b) cs ∷ []) (parameter_lines b.free b ++ (map loop b.loops ++ end ∷ [])) _ _ _ (line-goes f)
      (on (parameter_lines b.free b) (map loop b.loops ++ end ∷ []) _ _ _ (parameters-go b.free q g.vs)
      (on (map loop b.loops) (end ∷ []) _ _ _ (all-loops b.free q g.loops) end_goes))

-- ---- an element's lines
abbrev pub form_after : Kind → Form → Form
form_after (plain k) f = f
form_after (free b) f = form_in b

kind-goes : (x : Vertices) (es : List Element) (n : Names) (f : Form) (k : Kind) (cs : List Corner) → GoodKind x (curves es) k cs
    → Goes (at x es n f) (element_lines k cs) (at x (es ++ record { kind = k; corners = cs; names = n } ∷ []) n (form_after k f))
kind-goes x es n f (plain k) cs g = one (at x es n f) (element k cs) (record { fine = g; here = refl })
kind-goes x es n f (free b) cs g = body-goes x es n b cs g f

-- what the lines of all elements come to: the elements, and some names and form in force
pub record Comes (x : Vertices) (s : State) (ts : List Statement) (es : List Element) : Type 0 where
  pub names : Names
  pub form : Form
  pub goes : Goes s ts (at x es names form)

pub elements-go : (x : Vertices) (l : Option Word) (xs es : List Element) (n : Names) (f : Form) → GoodElements x (curves es) n.material xs l
    → Comes x (at x es (bare_names n) f) (elements_lines n xs) (es ++ bare_elements xs)
elements-go x l [] es n f g = record { names = bare_names n; form = f; goes = nil _ _ (ap (λ (y : List Element). at x y (bare_names n) f) (sym (append-nil es))) }
elements-go x l (e ∷ xs) es n f g =
    let m = e.names in
    let c = curves-add es (bare_element e) in
    let i = elements-go x l xs (es ++ bare_element e ∷ []) m (form_after e.kind f) (subst (λ (k : ℕ). GoodElements x k m.material xs l) (sym c) g.3) in
    record {
      names = i.names;
      form = i.form;
      goes =
          on (group_lines n.group m.group) _ _ _ _ (groups x es f n.group m.group n.smoothing (bare_names n).material g.1.group)
          (on (smoothing_lines n.smoothing m.smoothing) _ _ _ _ (smoothings x es f (bare_names m).group n.smoothing m.smoothing (bare_names n).material g.1.smoothing)
          (on (material_lines n.material m.material) _ _ _ _ (materials x es f (bare_names m).group m.smoothing n.material m.material g.1.material g.2)
          (on (element_lines e.kind e.corners) (elements_lines m xs) _ _ _ (kind-goes x es (bare_names m) f e.kind e.corners g.0)
          (subst (λ (y : List Element). Goes (at x (es ++ bare_element e ∷ []) (bare_names m) (form_after e.kind f)) (elements_lines m xs) (at x y i.names i.form))
          (append_assoc es (bare_element e ∷ []) (bare_elements xs)) i.goes))));
    }

-- ---- all of it
pub tidied-goes : (m : Model) (s : State) → Good m.vertices s → s.model ≡ m → Comes m.vertices start (tidied m) (bare_elements m.elements)
unfolding tidied
tidied-goes m s g q =
    let X = m.vertices in
    let y : s.model.vertices ≡ X = ap (λ (k : Model). k.vertices) q in
    let e = elements-go X s.names.material m.elements [] start.names start.form (subst (λ (k : Model). GoodElements X 0 none k.elements s.names.material) q g.elements) in
    record {
      names = e.names;
      form = e.form;
      goes =
          on (vertex_lines X) (elements_lines start.names m.elements) start (holding X) _
          (on _ _ _ _ _ (vertices geometric X.v start.model.vertices (subst (λ (k : Vertices). GoodVertices geometric k.v) y g.v))
          (on _ _ _ _ _ (vertices texture X.vt _ (subst (λ (k : Vertices). GoodVertices texture k.vt) y g.vt))
          (on _ _ _ _ _ (vertices normal X.vn _ (subst (λ (k : Vertices). GoodVertices normal k.vn) y g.vn))
          (vertices parametric X.vp _ (subst (λ (k : Vertices). GoodVertices parametric k.vp) y g.vp)))))
          e.goes;
    }
