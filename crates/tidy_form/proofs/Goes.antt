-- The statements of the tidy text each stand where they are, and come to the model with its places forgotten: by the elements.
use Prim.Native.Nat.{ℕ}
use mathlib.Core.Path.{◌≡◌, refl, sym, ap, ◌∙◌, subst}
use mathlib.Core.List.{List, [], ◌∷◌, ◌++◌, map, append_assoc, append-nil}
use mathlib.Core.Bool.{true, false}
use mathlib.Core.Option.{Option, none, some}
use mathlib.Core.Logic.{⊎_elim}
use lib.Dec.{eqb}
use lib.IntN.{ℤ}
use borrow.Author.Tests.{eqb-true}
use Rattle.lists.proofs.Tests.{never, test}
use Rattle.text.specs.Words.{Word}
use Rattle.model.specs.Model.{VertexKind, geometric, texture, normal, parametric, Vertices, Names, Element, Form, State, curves, start}
use Rattle.model.specs.Statements.{Statement, vertex, group, smoothing, material, apply, with_vertex}
use Rattle.tidy_form.specs.Tidied.{same_words, group_lines, smoothing_lines, material_lines}
use Rattle.tidy_form.specs.Bare.{bare_word, bare_words, bare_option}
use Rattle.tidy_form.proofs.Ready.{Ready}
use Rattle.tidy_form.proofs.Good.{Always, GoodVertices, GoodMaterial, stays}
use Rattle.tidy_form.proofs.Bare.{bare_statement, same-words}

-- ---- statements that each stand where they are, and what they come to, places forgotten
abbrev pub Stand : State → List Statement → Type 0
Stand s [] = Unit {0}
Stand s (t ∷ ts) = Ready s t × Stand (apply (bare_statement t) s) ts

abbrev pub runs : List Statement → State → State
runs [] s = s
runs (t ∷ ts) s = runs ts (apply (bare_statement t) s)

pub record Goes (s : State) (ts : List Statement) (u : State) : Type 0 where
  pub stand : Stand s ts
  pub ends : runs ts s ≡ u

stand-append : (a b : List Statement) (s : State) → Stand s a → Stand (runs a s) b → Stand s (a ++ b)
stand-append [] b s h k = k
stand-append (t ∷ a) b s h k = (h.0, stand-append a b (apply (bare_statement t) s) h.1 k)

runs_append : (a b : List Statement) (s : State) → runs (a ++ b) s ≡ runs b (runs a s)
runs_append [] b s = refl
runs_append (t ∷ a) b s = runs_append a b (apply (bare_statement t) s)

pub on : (a b : List Statement) (s u w : State) → Goes s a u → Goes u b w → Goes s (a ++ b) w
on a b s u w g h =
    record {
      stand = stand-append a b s g.stand (subst (λ (x : State). Stand x b) (sym g.ends) h.stand);
      ends = runs_append a b s ∙ ap (runs b) g.ends ∙ h.ends;
    }

pub nil : (s u : State) → s ≡ u → Goes s [] u
nil s u e = record { stand = tt; ends = e }

pub one : (s : State) (t : Statement) → Ready s t → Goes s (t ∷ []) (apply (bare_statement t) s)
one s t r = record { stand = (r, tt); ends = refl }

-- ---- the vertices
abbrev pub holding : Vertices → State
holding x = record { model = record { vertices = x; elements = [] }; names = start.names; form = start.form; open-body = none }

abbrev pub with_vertices : VertexKind → List (List ℤ) → Vertices → Vertices
with_vertices geometric z x = record { v = x.v ++ z; vt = x.vt; vn = x.vn; vp = x.vp }
with_vertices texture z x = record { v = x.v; vt = x.vt ++ z; vn = x.vn; vp = x.vp }
with_vertices normal z x = record { v = x.v; vt = x.vt; vn = x.vn ++ z; vp = x.vp }
with_vertices parametric z x = record { v = x.v; vt = x.vt; vn = x.vn; vp = x.vp ++ z }

add_none : (k : VertexKind) (x : Vertices) → x ≡ with_vertices k [] x
add_none geometric x = ap (λ (z : List (List ℤ)). record { v = z; vt = x.vt; vn = x.vn; vp = x.vp }) (sym (append-nil x.v))
add_none texture x = ap (λ (z : List (List ℤ)). record { v = x.v; vt = z; vn = x.vn; vp = x.vp }) (sym (append-nil x.vt))
add_none normal x = ap (λ (z : List (List ℤ)). record { v = x.v; vt = x.vt; vn = z; vp = x.vp }) (sym (append-nil x.vn))
add_none parametric x = ap (λ (z : List (List ℤ)). record { v = x.v; vt = x.vt; vn = x.vn; vp = z }) (sym (append-nil x.vp))

add-more : (k : VertexKind) (z : List ℤ) (zs : List (List ℤ)) (x : Vertices) → with_vertices k zs (with_vertex k z x) ≡ with_vertices k (z ∷ zs) x
add-more geometric z zs x = ap (λ (y : List (List ℤ)). record { v = y; vt = x.vt; vn = x.vn; vp = x.vp }) (append_assoc x.v (z ∷ []) zs)
add-more texture z zs x = ap (λ (y : List (List ℤ)). record { v = x.v; vt = y; vn = x.vn; vp = x.vp }) (append_assoc x.vt (z ∷ []) zs)
add-more normal z zs x = ap (λ (y : List (List ℤ)). record { v = x.v; vt = x.vt; vn = y; vp = x.vp }) (append_assoc x.vn (z ∷ []) zs)
add-more parametric z zs x = ap (λ (y : List (List ℤ)). record { v = x.v; vt = x.vt; vn = x.vn; vp = y }) (append_assoc x.vp (z ∷ []) zs)

pub vertices : (k : VertexKind) (zs : List (List ℤ)) (x : Vertices) → GoodVertices k zs → Goes (holding x) (map (vertex k) zs) (holding (with_vertices k zs x))
vertices k [] x g = record { stand = tt; ends = ap holding (add_none k x) }
vertices k (z ∷ zs) x g =
    let i = vertices k zs (with_vertex k z x) g.1 in
    record { stand = (record { fine = g.0 x 0; here = refl }, i.stand); ends = i.ends ∙ ap holding (add-more k z zs x) }

-- ---- the names before an element
abbrev pub at : Vertices → List Element → Names → Form → State
at x es n f = record { model = record { vertices = x; elements = es }; names = n; form = f; open-body = none }

module _ (x : Vertices) (es : List Element) (f : Form) where
  abbrev pub named : List Word → ℕ → Option Word → State
  named g n m = at x es (record { group = g; smoothing = n; material = m }) f

  pub groups : (a g : List Word) (n : ℕ) (m : Option Word) → Always (group g) → Goes (named (bare_words a) n m) (group_lines a g) (named (bare_words g) n m)
  groups a g n m h =
      ⊎_elim
      (λ (t : same_words a g ≡ true). rw t (nil _ _ (ap (λ (w : List Word). named w n m) (same-words a g t))))
      (λ (t : same_words a g ≡ false). rw t (one (named (bare_words a) n m) (group g) (record { fine = h x (curves es); here = refl })))
      (test (same_words a g))

  pub smoothings : (g : List Word) (a n : ℕ) (m : Option Word) → Always (smoothing n) → Goes (named g a m) (smoothing_lines a n) (named g n m)
  smoothings g a n m h =
      ⊎_elim
      (λ (t : eqb a n ≡ true). rw t (nil _ _ (ap (λ (k : ℕ). named g k m) (eqb-true a n t))))
      (λ (t : eqb a n ≡ false). rw t (one (named g a m) (smoothing n) (record { fine = h x (curves es); here = refl })))
      (test (eqb a n))

  pub materials : (g : List Word) (n : ℕ) (a m : Option Word) → GoodMaterial m → stays a m ≡ true → Goes (named g n (bare_option a)) (material_lines a m) (named g n (bare_option m))
  materials g n none none h k = nil _ _ refl
  materials g n (some v) none h k = never k
  materials g n none (some w) h k = one (named g n none) (material w) (record { fine = h x (curves es); here = refl })
  materials g n (some v) (some w) h k =
      ⊎_elim
      (λ (t : same_words (v ∷ []) (w ∷ []) ≡ true). rw t (nil _ _ (ap (λ (b : List Word). named g n (first b)) (same-words (v ∷ []) (w ∷ []) t))))
      (λ (t : same_words (v ∷ []) (w ∷ []) ≡ false). rw t (one (named g n (some (bare_word v))) (material w) (record { fine = h x (curves es); here = refl })))
      (test (same_words (v ∷ []) (w ∷ [])))
    where
      first : List Word → Option Word
      first [] = none
      first (b ∷ bs) = some b
